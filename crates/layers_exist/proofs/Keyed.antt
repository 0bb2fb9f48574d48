-- Two faults of a set by an accepted guide with the same key are one.
use Rattle.std.proofs.Common.{◌≡◌, ℕ, List, Option, refl, ap}
use Rattle.hub_kinds.specs.declared.fault.Fault.{Fault}
use Rattle.hub_kinds.specs.Words.{key_of}
use Rattle.guide_tree.specs.declared.rows.GuideRows.{GuideRows}
use Rattle.guide_tree.specs.Words.{GuideTree, IsAccepted, IsStructureFault, Place, guide_of, placing_of, structure_faults}
use Rattle.guide_law.proofs.ForAbove.{members}
use Rattle.loop_match.proofs.ForAbove.{found_keyed}
use Rattle.hl_check.proofs.ForAbove.{one_hierarchy_fault}
use Rattle.depend_check.proofs.ForAbove.{one_dependency_fault}
use Rattle.set_walk.proofs.ForAbove.{sound_places}
use Rattle.set_check.specs.SetParts.{SetParts, end_position}
use Rattle.set_check.specs.SetFaults.{IsFaultUnder, IsRuleFault}
use Rattle.set_check.proofs.ForAbove.{one_rule_fault, set_keyed}

module _ (rows : GuideRows) (accepted : IsAccepted rows) (parts : SetParts) where
  abbrev g : GuideTree
  g = guide_of rows

  abbrev given : List (Option Place)
  given = placing_of g.nodes parts.body

  abbrev end : ℕ
  end = end_position parts

  one_structure_fault : (f h : Fault) → IsStructureFault g parts.body given end f → IsStructureFault g parts.body given end h
      → key_of f ≡ key_of h → f ≡ h
  one_structure_fault f h a b k =
      found_keyed rows parts.body end (structure_faults g end parts.body given) accepted refl f h
      ((members g accepted.well_formed parts.body end f).1 a) ((members g accepted.well_formed parts.body end h).1 b) k

  one_rule : (f h : Fault) → IsRuleFault g parts.delims parts.body given end f → IsRuleFault g parts.delims parts.body given end h
      → key_of f ≡ key_of h → f ≡ h
  one_rule =
      one_rule_fault g parts.delims parts.body given end (one_hierarchy_fault g parts.delims parts.body given)
      (λ f h a b k. one_dependency_fault g g.nodes parts.delims end parts.body given f h
      (ap (λ (t : GuideTree). t.nodes) accepted.numbered) a b k)

  pub one_fault : (f h : Fault) → IsFaultUnder g parts given f → IsFaultUnder g parts given h → key_of f ≡ key_of h → f ≡ h
  one_fault f h a b k =
      set_keyed g parts given f h (sound_places g accepted.well_formed) one_structure_fault one_rule a b k
