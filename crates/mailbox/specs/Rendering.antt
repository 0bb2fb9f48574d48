-- Private. How the written sets grow, a partner at a time.
use Rattle.std.specs.Prelude.{ℕ, ◌≡◌, ◌<◌, ◌≤◌, List, ◌++◌, Some, length, slice_get}
use Rattle.partner_setup.specs.declared.partner.Partner.{Partner}
use Rattle.partner_setup.specs.Setup.{SetupValue}
use Rattle.answered_sets.specs.Judged.{PlacedValue}
use Rattle.mailbox.specs.Rendered.{RenderedValue, rendered_from}

-- for the partners before a place these sets were written after the others; for those after it nothing yet
pub record AreWritten (setup : SetupValue) (lists : List (List PlacedValue)) (before : ℕ) (old new : List (List RenderedValue))
    : Type 0 where
  pub count : length new ≡ length old
  pub written : (place : ℕ) (partner : Partner) (ps : List PlacedValue) (sets : List RenderedValue) → place < before
      → slice_get setup.partners place ≡ Some partner → slice_get lists place ≡ Some ps → slice_get old place ≡ Some sets
      → slice_get new place ≡ Some (sets ++ rendered_from partner (length sets) ps)
  pub left : (place : ℕ) → before ≤ place → slice_get new place ≡ slice_get old place
