-- Four partners, two of which have the first one's name in other letters: each of these is warned of by the first.
use Rattle.std.proofs.Common.{◌≡◌, ℕ, List, [], ◌∷◌, ◌++◌, Some, codes, refl}
use Rattle.partner_setup.specs.declared.rows.PartnerRow.{PartnerRow}
use Rattle.setup_errors.specs.NamedAlike.{alike_warnings, earlier_said}

abbrev called : (name : List ℕ) → PartnerRow
called name = record {
  name = name;
  qualifier = codes "ZZ";
  id = name;
  code = name;
  element = codes "*";
  component = codes ":";
  repetition = codes "^";
  terminator = codes "~";
  cap = 1;
  guides = [];
}

abbrev partners : List PartnerRow
partners = called (codes "ACME") ∷ called (codes "BOLT") ∷ called (codes "acme") ∷ called (codes "Acme") ∷ []

-- the third and the fourth are warned of by the first
two_warned_of : alike_warnings partners
    ≡ earlier_said partners 3 (called (codes "acme")) (Some 0) ++ earlier_said partners 4 (called (codes "Acme")) (Some 0)
unfolding earlier_said
two_warned_of = refl

abbrev marked : List PartnerRow
marked = called (codes "AZ") ∷ called (codes "az") ∷ called (codes "A[") ∷ called (codes "a{") ∷ []

-- Z and z are a letter, and the marks after them are others
to_the_last_letter : alike_warnings marked ≡ earlier_said marked 2 (called (codes "az")) (Some 0)
unfolding earlier_said
to_the_last_letter = refl
