-- X12.6, transaction set and group control numbers (ST02, GS06), and X12.5, interchange control number (ISA13): what the numbers seen so
-- far are known by. Private.
use Rattle.std.specs.Prelude.{◌≡◌, ℕ, Bool, true, false, List, [], map, Option, Some, None, All}
use Rattle.std.specs.Option.{option_map_or}
use Rattle.std.specs.BTreeSet.{BTreeSet, contains}
use Rattle.std.specs.Ordering.{nat_cmp, is_eq, is_lt}
use Rattle.std.specs.declared.cmp.Ordering.{Ordering}
use Rattle.std.specs.List.{list_any}
use Rattle.hub_kinds.specs.Words.{by_text}
use Rattle.ack_999.specs.Group.{are_same_number}
use Rattle.env_index.specs.Words.{GroupEntry}
use Rattle.set_answers.specs.Answers.{group_number}
use Rattle.set_answers.specs.declared.seen.Seen.{Seen}
use denote.Ref.{Bor}

module _ {K : Type 0} (cmp : K → K → Ordering) where
  -- a number is equal to one of these
  abbrev pub is_known : K → List K → Bool
  is_known number numbers = list_any (λ k. is_eq (cmp number k)) numbers

  -- a number is greater than the greatest, if there is one
  abbrev pub is_greater : K → (greatest : Option K) → Bool
  is_greater number greatest = option_map_or (λ g. is_lt (cmp g number)) greatest true

  -- no number is greater than this one; without one there is none
  abbrev pub AreUpTo : (greatest : Option K) → List K → Type 0
  AreUpTo None numbers = numbers ≡ []
  AreUpTo (Some g) numbers = All (λ n. is_lt (cmp g n) ≡ false) numbers

  -- the set has these numbers and no other
  abbrev pub HasExactly : BTreeSet K → List K → Type 0
  HasExactly ordered numbers = (q : K) → contains cmp ordered q ≡ is_known q numbers

  -- exactly these numbers are known: by the list of them while they rise, then by the set
  abbrev pub KnowsBy : Option (BTreeSet K) → Seen K → List K → Type 0
  KnowsBy None seen numbers = (seen.rising.items ≡ numbers) × AreUpTo seen.greatest numbers
  KnowsBy (Some ordered) seen numbers = HasExactly ordered numbers

  abbrev pub Knows : Seen K → List K → Type 0
  Knows seen numbers = KnowsBy seen.ordered seen numbers

-- the numbers that lent texts are
abbrev pub read : List (Bor (List ℕ)) → List (List ℕ)
read numbers = map (λ n. n.now) numbers

-- exactly these are known, by the texts that were lent
abbrev pub KnowsLent : Seen (Bor (List ℕ)) → List (List ℕ) → Type 0
KnowsLent seen numbers = (lent : List (Bor (List ℕ))) × Knows by_text seen lent × (read lent ≡ numbers)

-- the set has the numbers of these groups and no other
abbrev pub HasNumbersOf : BTreeSet ℕ → List GroupEntry → Type 0
HasNumbersOf ordered groups = (q : ℕ) → contains nat_cmp ordered q ≡ list_any (λ g. are_same_number (Some q) (group_number g)) groups
