-- What was read at the paths, and the page of it.
use Rattle.std.proofs.Common.{◌≡◌, ℕ, List, Option, None, Some, arith, inl, inr, refl, subst, sym}
use Rattle.guide_names.specs.Names.{Words, no_words}
use Rattle.guide_tree.specs.Words.{GuideTree, guide_of}
use Rattle.guide_tree.specs.declared.rows.GuideRows.{GuideRows}
use Rattle.check_command.specs.declared.judged.Judged.{Judged}
use Rattle.check_command.specs.declared.judged.Judged.TheVariants as judged
use Rattle.names_given.specs.Files.{AreJudged}
use Rattle.names_file.specs.declared.judge.JudgedNames.{JudgedNames}
use Rattle.names_file.specs.declared.judge.JudgedNames.TheVariants as told
use Rattle.page_command.specs.Failure.{status_of}
use Rattle.page_command.specs.Outcome.{IsBefore, IsJudged, IsNamedPage, IsPageAt, IsPageOf, IsRefusedFile, IsUnmade, IsUnnamed}
use Rattle.page_command.specs.Outcome.{refused_line}
use Rattle.page_command.specs.declared.failure.Failure.{Failure}
use Rattle.page_command.specs.declared.failure.Failure.TheVariants as failure

pub at : (path : List ℕ) (names : Option (List ℕ)) (text : List ℕ) (j : Judged GuideRows) (guide : GuideRows) → j ≡ judged.Taken guide
    → IsJudged path j → IsNamedPage names (guide_of guide) text → IsPageAt path names text
at path names text j guide is read page = record { guide = guide; read = subst (IsJudged path) is read; page = page }

pub nameless : (guide : GuideTree) (text : List ℕ) → IsPageOf no_words guide text → IsNamedPage None guide text
nameless guide text page = record { words = no_words; are = refl; page = page }

pub named : (path : List ℕ) (guide : GuideTree) (text : List ℕ) (j : JudgedNames) (words : Words) → j ≡ told.Taken words
    → AreJudged path j → IsPageOf words guide text → IsNamedPage (Some path) guide text
named path guide text j words is read page = record { words = words; are = subst (AreJudged path) is read; page = page }

pub unmade : (names : Option (List ℕ)) (f : Failure) → IsUnmade f → IsUnnamed names f
unmade names failure.NoSample is = tt
unmade names (failure.Guide line) is = absurd is
unmade names (failure.Names line) is = absurd is
unmade names (failure.Output line) is = tt
unmade names failure.Memory is = tt

pub unnamed : (path : List ℕ) (names : Option (List ℕ)) (f : Failure) → IsUnnamed names f → IsBefore path names f
unnamed path names failure.NoSample is = tt
unnamed path names (failure.Guide line) is = absurd is
unnamed path names (failure.Names line) is = is
unnamed path names (failure.Output line) is = tt
unnamed path names failure.Memory is = tt

pub refused : (path : List ℕ) (names : Option (List ℕ)) (text : List ℕ) (j : Judged GuideRows) (f : Failure) → j ≡ judged.Refused text
    → IsJudged path j → f ≡ failure.Guide (refused_line path text) → IsBefore path names f
refused path names text j f is read said =
    subst (IsBefore path names) (sym said) (record { text = text; refused = subst (IsJudged path) is read; said = refl })

pub names_refused : (path text : List ℕ) (j : JudgedNames) (f : Failure) → j ≡ told.Refused text → AreJudged path j
    → f ≡ failure.Names (refused_line path text) → IsUnnamed (Some path) f
names_refused path text j f is read said =
    subst (IsUnnamed (Some path)) (sym said) (record { text = text; refused = subst (AreJudged path) is read; said = refl })

-- a failure that ends with 3 is of one of the files
pub of_file : (path : List ℕ) (names : Option (List ℕ)) (f : Failure) → IsBefore path names f → status_of f ≡ 3
    → IsRefusedFile path names
of_file path names failure.NoSample is three = absurd (omega (arith, three))
of_file path names (failure.Guide line) is three = inl (line, is)
of_file path names (failure.Names line) is three = inr (line, is)
of_file path names (failure.Output line) is three = absurd (omega (arith, three))
of_file path names failure.Memory is three = absurd (omega (arith, three))
