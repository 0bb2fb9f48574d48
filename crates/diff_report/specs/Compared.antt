-- Own: what is printed of two guides, the status, and what follows from it for sets.
use Rattle.std.specs.Prelude.{ℕ, ◌≡◌, ◌↔◌, List, Some, true}
use Rattle.std.specs.List.{list_all}
use Rattle.guide_tree.specs.declared.rows.GuideRows.{GuideRows}
use Rattle.guide_tree.specs.Words.{guide_of}
use Rattle.guide_widening.specs.Changes.{is_widening}
use Rattle.guide_widening.specs.Differences.{differences}
use Rattle.x12_bytes.specs.declared.delims.Delims.{Delims}
use Rattle.night_definition.specs.Envelopes.{Set}
use Rattle.night_definition.specs.Sets.{MeetsAlone}
use Rattle.diff_lines.specs.Lines.{diff_text}

-- each set that meets the old guide, looked at alone, meets the new one
abbrev pub TakesMore : (old new : GuideRows) → Type 0
TakesMore old new = (d : Delims) (set : Set) → MeetsAlone (Some (guide_of old)) d set → MeetsAlone (Some (guide_of new)) d set

-- what is printed of two guides, and the status: 0 exactly if each difference is wider
pub record IsCompared (old new : GuideRows) (text : List ℕ) (status : ℕ) : Type 0 where
  pub lines : text ≡ diff_text (guide_of old) (guide_of new)
  pub widened : (status ≡ 0) ↔ (list_all is_widening (differences (guide_of old) (guide_of new)) ≡ true)
  pub takes_more : status ≡ 0 → TakesMore old new
