-- The shelf in memory: a night more.
use Rattle.std.proofs.Common.{◌≡◌, ◌∙◌, ◌⊎◌, ℕ, ◌<◌, zero, suc, Bool, List, [], ◌∷◌}
use Rattle.std.proofs.Common.{◌++◌, Result, Ok, Err, ap, append_assoc, arith, inl, inr, sym}
use Rattle.std.specs.Prelude.{Contains, MatchResult, slice_index_or}
use Rattle.night_shelf.specs.Shelf.{IsNamed, MayName, Place}
use Rattle.night_shelf.specs.declared.night.KeptNight.{KeptNight}
use Rattle.night_shelf.specs.declared.night.NightFile.{NightFile}

abbrev Nights : Type 0
Nights = List KeptNight

one_of : (a b x : Nights) → Contains (a ∷ b ∷ []) x → (a ≡ x) ⊎ (b ≡ x)
one_of a b x has = at has.0 has.1 has.2
  where
    at : (k : ℕ) → k < 2 → slice_index_or (a ∷ b ∷ []) k x ≡ x → (a ≡ x) ⊎ (b ≡ x)
    at zero low is = inl is
    at (suc zero) low is = inr is
    at (suc (suc k)) low is = absurd (omega (arith, low))

first_of : (a b x : Nights) → a ≡ x → Contains (a ∷ b ∷ []) x
first_of a b x is = (0, omega arith, is)

second_of : (a b x : Nights) → b ≡ x → Contains (a ∷ b ∷ []) x
second_of a b x is = (1, omega arith, is)

abbrev pub place_of : (settled fresh : List KeptNight) → (tonight : List NightFile) → Bool → Place
place_of settled fresh tonight is_on_disk = record {
  named = settled ++ fresh;
  tonight = tonight;
  is_on_disk = is_on_disk;
  left = settled ∷ (settled ++ fresh) ∷ [];
}

pub more_named : (name : List ℕ) (settled fresh more : List KeptNight) (files left : List NightFile) (d e : Bool) → (night : KeptNight)
    → night.name ≡ name → night.files ≡ files → more ≡ fresh ++ night ∷ []
    → IsNamed name (place_of settled fresh files d) (place_of settled more left e)
more_named name settled fresh more files left d e night called has is =
    let one : night ≡ record { name = name; files = files } = both night called has in
    let whole : settled ++ more ≡ (settled ++ fresh) ++ record { name = name; files = files } ∷ [] =
    ap (λ (l : List KeptNight). settled ++ l) (is ∙ ap (λ (n : KeptNight). fresh ++ n ∷ []) one)
    ∙ sym (append_assoc settled fresh (record { name = name; files = files } ∷ [])) in record {
      named = whole;
      left = λ on_disk nights in_left. (elim (one_of settled (settled ++ more) nights in_left) [
        | inl first ↦ inl (first_of settled (settled ++ fresh) nights first)
        | inr second ↦ inr (sym second ∙ whole)
      ]);
    }
  where
    both : (n : KeptNight) → n.name ≡ name → n.files ≡ files → n ≡ record { name = name; files = files }
    both n a b =
        ap (λ (x : List ℕ). let made : KeptNight = record { name = x; files = n.files } in made) a
        ∙ ap (λ (y : List NightFile). let made : KeptNight = record { name = name; files = y } in made) b

pub none_named : (name : List ℕ) (settled fresh more : List KeptNight) (files left : List NightFile) (d e : Bool) → more ≡ fresh
    → MayName name (place_of settled fresh files d) (place_of settled more left e)
none_named name settled fresh more files left d e is on_disk nights in_left = elim (one_of settled (settled ++ more) nights in_left) [
  | inl first ↦ inl (first_of settled (settled ++ fresh) nights first)
  | inr second ↦ inl (second_of settled (settled ++ fresh) nights (ap (λ (l : List KeptNight). settled ++ l) (sym is) ∙ second))
]

pub either_way : {T E : Type 0} (r : Result T E) (A B C D : Type 0) → (A → C) → (B → D) → MatchResult r (λ _. A) (λ _. B)
    → MatchResult r (λ _. C) (λ _. D)
either_way (Ok x) A B C D more less is = more is
either_way (Err e) A B C D more less is = less is
