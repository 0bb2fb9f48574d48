-- Nights that were read continue (own), and what is printed of nights.
use Rattle.std.specs.Prelude.{ℕ, ◌≡◌, ◌↔◌, ◌==◌, ⊤, List, [], ◌∷◌, ◌++◌, codes, decimal, if◌then◌else◌, length}
use Rattle.hub_ledger.specs.declared.entry.NightEntry.{NightEntry}
use Rattle.night_breaches.specs.Breaches.{breaches_after, last_breach, last_name}
use Rattle.night_breaches.specs.Sound.{AreSound}
use Rattle.night_breaches.specs.declared.breach.Breach.{Breach}
use Rattle.night_marks.specs.Count.{archived_count, unarchived}
use Rattle.night_marks.specs.Links.{broken_links}
use Rattle.night_marks.specs.declared.bad.BadFile.{BadFile}
use Rattle.night_marks.specs.declared.mark.NightMark.{NightMark}
use Rattle.breach_lines.specs.Lines.{report_text}
use Rattle.night_review.specs.Count.{addresses_of, different}

-- each night names the one before it, and the first names none
abbrev pub AreLinked : (before : List ℕ) → List NightMark → Type 0
AreLinked before [] = ⊤
AreLinked before (night ∷ nights) = (night.before ≡ before) × AreLinked night.name nights

-- no moment is after `limit`; `named` is the night that is named last
pub record GoOn (limit named : List ℕ) (order : List NightMark) (entries : List NightEntry) (bad : List BadFile) : Type 0 where
  pub each_is_kept : bad ≡ []
  pub linked : AreLinked [] order
  pub sound : AreSound limit [] entries
  pub last : last_name entries ≡ named

-- what the nights that were read break, and whether another one is named last
abbrev pub all_breaches : (limit named : List ℕ) → List NightEntry → List Breach
all_breaches limit named entries = breaches_after limit [] entries ++ last_breach named entries

-- how many nights are archived
abbrev pub archived_line : (count : ℕ) → List ℕ
archived_line count = if count == 0 then [] else codes "nights 1 to " ++ (decimal count ++ codes " are archived\n")

-- what is printed; the nights that are counted are those that aren't archived
abbrev pub day_text : (limit named : List ℕ) → List NightMark → List NightEntry → List BadFile → List ℕ
day_text limit named order entries bad =
    archived_line (archived_count order)
    ++ report_text (length (unarchived order)) (different [] (addresses_of entries)) bad (broken_links [] order)
    (all_breaches limit named entries)

-- what is printed of nights, and the status: 0 exactly if they continue
pub record IsJudged (limit named : List ℕ) (order : List NightMark) (entries : List NightEntry) (bad : List BadFile)
    (text : List ℕ) (status : ℕ) : Type 0 where
  pub text_is : text ≡ day_text limit named order entries bad
  pub clean : (status ≡ 0) ↔ GoOn limit named order entries bad
