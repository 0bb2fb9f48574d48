-- The lines on one guide, and those on the guides after it, are the lines on all of them.
use Rattle.std.proofs.Common.{◌≡◌, ◌≤◌, ◌<◌, ◌+◌, ℕ, suc, zero, List, [], ◌∷◌, ◌++◌, arith, drop, get_or, length, refl, subst, sym}
use Rattle.std.proofs.lemmas.List.{drop_more}
use Rattle.guide_changes.specs.Changes.{AreChangesOf, AreGoneOf, IsChangeAt, IsGoneAt}
use Rattle.night_shelf.specs.declared.night.NightFile.{NightFile}

pub change_before : (before : List ℕ) (files : List NightFile) (i : ℕ) (file : NightFile) (text rest : List ℕ) → i < length files
    → file ≡ get_or files i file → IsChangeAt before file text → AreChangesOf before (drop (i + 1) files) rest
    → AreChangesOf before (drop i files) (text ++ rest)
change_before before files i file text rest low is at more =
    subst (λ (fs : List NightFile). AreChangesOf before fs (text ++ rest)) (sym (drop_more files i file low))
    (text, rest, subst (λ (k : NightFile). IsChangeAt before k text) is at, more, refl)

pub no_change : (before : List ℕ) (files : List NightFile) (i : ℕ) → length files ≤ i → AreChangesOf before (drop i files) []
no_change before [] zero low = refl
no_change before [] (suc i) low = refl
no_change before (f ∷ fs) zero low = absurd (omega (arith, low))
no_change before (f ∷ fs) (suc i) low = no_change before fs i (omega (arith, low))

pub gone_before : (guides : List ℕ) (names : List (List ℕ)) (i : ℕ) (name : List ℕ) (text rest : List ℕ) → i < length names
    → name ≡ get_or names i name → IsGoneAt guides name text → AreGoneOf guides (drop (i + 1) names) rest
    → AreGoneOf guides (drop i names) (text ++ rest)
gone_before guides names i name text rest low is at more =
    subst (λ (ns : List (List ℕ)). AreGoneOf guides ns (text ++ rest)) (sym (drop_more names i name low))
    (text, rest, subst (λ (k : List ℕ). IsGoneAt guides k text) is at, more, refl)

pub none_gone : (guides : List ℕ) (names : List (List ℕ)) (i : ℕ) → length names ≤ i → AreGoneOf guides (drop i names) []
none_gone guides [] zero low = refl
none_gone guides [] (suc i) low = refl
none_gone guides (n ∷ ns) zero low = absurd (omega (arith, low))
none_gone guides (n ∷ ns) (suc i) low = none_gone guides ns i (omega (arith, low))
