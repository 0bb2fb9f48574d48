-- Two lists of files that are the same as far as they were compared.
use Rattle.std.proofs.Common.{◌≡◌, ◌∙◌, ℕ, ◌+◌, ◌<◌, ◌≤◌, true, List, [], ◌∷◌, ◌++◌, ap, get_or, length, subst, sym, take}
use Rattle.std.specs.List.Sorted.{IsPermutation}
use Rattle.std.specs.Str.{bytes_eq}
use Rattle.std.proofs.lemmas.Bool.{and_parts}
use Rattle.std.proofs.lemmas.List.{take_all, take_more}
use Rattle.std.proofs.lemmas.List.Sorted.{IsPermutation-refl, IsPermutation-trans}
use Rattle.std.proofs.lemmas.Slice.Eq.{bytes_eq-Decides}
use Rattle.night_marks.specs.declared.mark.NightMark.{NightMark}
use Rattle.night_shelf.specs.declared.night.NightFile.{NightFile}
use Rattle.hub_adopt.specs.Again.{GivesTheSame, old_folder}
use Rattle.hub_adopt.specs.Given.{AreGivenIn, is_same}
use Rattle.hub_adopt.specs.declared.adoption.Adoption.{Adoption}

equal_bytes : (xs ys : List ℕ) → bytes_eq xs ys ≡ true → xs ≡ ys
equal_bytes xs ys is = (bytes_eq-Decides xs ys).0 is

pub same_file : (a b : NightFile) → is_same a b ≡ true → a ≡ b
same_file a b is =
    let parts = and_parts (bytes_eq a.name b.name) (bytes_eq a.bytes b.bytes) is in
    ap (λ (n : List ℕ). record { name = n; bytes = a.bytes }) (equal_bytes a.name b.name parts.0)
    ∙ ap (λ (t : List ℕ). record { name = b.name; bytes = t }) (equal_bytes a.bytes b.bytes parts.1)

pub one_more : (these those : List NightFile) (i : ℕ) (a b : NightFile) → i < length these → i < length those → a ≡ get_or these i a
    → b ≡ get_or those i b → is_same a b ≡ true → take i these ≡ take i those → take (i + 1) these ≡ take (i + 1) those
one_more these those i a b low lower a_is b_is same so_far =
    take_more these i a low ∙ ap (λ (f : NightFile). take i these ++ f ∷ []) (sym a_is ∙ same_file a b same ∙ b_is)
    ∙ ap (λ (l : List NightFile). l ++ get_or those i b ∷ []) so_far ∙ sym (take_more those i b lower)

pub all_same : (these those : List NightFile) (i : ℕ) → length these ≤ i → length those ≤ i → take i these ≡ take i those → these ≡ those
all_same these those i none no_more same = sym (take_all i these none) ∙ same ∙ take_all i those no_more

-- files that were compared with those of the old night
pub gives_same : (adoption : Adoption) (mark : NightMark) (folder : List ℕ) (given old : List NightFile) → folder ≡ old_folder adoption mark
    → AreGivenIn folder old → given ≡ old → GivesTheSame adoption mark given
gives_same adoption mark folder given old is old_are same = record {
  old = old;
  old_are = subst (λ (f : List ℕ). AreGivenIn f old) is old_are;
  same = subst (λ (files : List NightFile). IsPermutation given files) same (IsPermutation-refl given);
}

-- and the same files in another order
pub gives_so : (adoption : Adoption) (mark : NightMark) (files given : List NightFile) → IsPermutation files given
    → GivesTheSame adoption mark given → GivesTheSame adoption mark files
gives_so adoption mark files given order gives = record {
  old = gives.old;
  old_are = gives.old_are;
  same = IsPermutation-trans files given gives.old order gives.same;
}
