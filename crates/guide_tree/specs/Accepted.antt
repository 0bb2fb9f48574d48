-- X12.6, transaction set (own): the guides that are accepted.
use Rattle.std.specs.Prelude.{◌≡◌}
use Rattle.guide_tree.specs.declared.rows.GuideRows.{GuideRows}
use Rattle.guide_tree.specs.Faults.{IsWellFormed}
use Rattle.guide_tree.specs.View.{guide_of, numbered_guide}

-- each slot has its number, and the guide has no fault
pub record IsAccepted (rows : GuideRows) : Type 0 where
  pub numbered : guide_of rows ≡ numbered_guide rows
  pub well_formed : IsWellFormed (guide_of rows)
