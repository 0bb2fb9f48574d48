-- X12.6, transaction set, and the 999 guide, IK3 to IK5 (own): a set that was checked.
use Rattle.std.specs.Prelude.{◌≡◌, ℕ, List, Option, option_map}
use Rattle.hub_kinds.specs.declared.fault.Fault.{Fault}
use Rattle.hub_kinds.specs.declared.set_codes.SetCode.{SetCode}
use Rattle.hub_kinds.specs.Words.{AreRising}
use Rattle.x12_segs.specs.declared.set_span.SetSpan.{SetSpan}
use Rattle.guide_tree.specs.declared.rows.GuideRows.{GuideRows}
use Rattle.guide_tree.specs.Words.{GuideTree, guide_of}
use Rattle.set_check.specs.SetParts.{SetParts, set_parts}
use Rattle.set_check.specs.SetFaults.{AreSetFaults, codes_with}
use Rattle.set_check.specs.MeetsLaw.{IsWellGuided}

-- the text in which a set is, where in it, its guide if it has one, and what was found wrong with it
pub record Checked : Type 0 where
  pub text : List ℕ
  pub span : SetSpan
  pub guide : Option GuideRows
  pub faults : List Fault
  pub codes : List SetCode

-- how a set is checked: the text, where it is there, and the rows of its guide, if it has one
pub record SetAsked : Type 0 where
  pub text : List ℕ
  pub span : SetSpan
  pub guide : Option GuideRows

-- how a set was checked
abbrev pub asked_by : Checked → SetAsked
asked_by c = record { text = c.text; span = c.span; guide = c.guide }

-- what the rows of its guide say, if it has one
abbrev pub guide_tree_of : Option GuideRows → Option GuideTree
guide_tree_of rows = option_map guide_of rows

abbrev pub guide_in : Checked → Option GuideTree
guide_in c = guide_tree_of c.guide

abbrev pub parts_in : Checked → SetParts
parts_in c = set_parts c.text c.span

-- what was found is what is wrong with the set of this span by this guide, each fault once and in its order
pub record IsChecked (c : Checked) : Type 0 where
  pub well_guided : IsWellGuided (guide_in c)
  pub faults : AreSetFaults (guide_in c) (parts_in c) c.faults
  pub rising : AreRising c.faults
  pub codes : c.codes ≡ codes_with (guide_in c) (parts_in c) c.faults
