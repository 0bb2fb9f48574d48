-- The guide G1 of worked nights.
use Rattle.std.specs.Prelude.{true, false, [], ◌∷◌, codes, None}
use Rattle.guide_tree.specs.Tree.{loop, GuideTree}
use Rattle.guide_tree.specs.declared.slot.Relation.TheVariants as relation
use Rattle.guide_tree.specs.declared.element.Requirement.TheVariants.{Mandatory, Optional}
use Rattle.guide_tree.specs.declared.element.ElementType.TheVariants as types
use Rattle.guide_tree.specs.declared.element.Element.TheVariants as row
use Rattle.hub_kinds.specs.declared.codes.ElementCode.TheVariants as ik403
use Rattle.night_examples.specs.GuideRows.{simple, slot, trees}

abbrev pub guide_11 : GuideTree
guide_11 = record {
  head = record {
    name = codes "G1";
    group = codes "PO";
    set = codes "850";
    version = codes "005010";
    convention = None;
    dictionary = (codes "REF" ∷ codes "ZZ1" ∷ []);
    tolerate_segment = [];
    tolerate_element = (ik403.InvalidTime ∷ ik403.PatternFailure ∷ ik403.RequiredMissing ∷ ik403.DependentNotUsedPresent
        ∷ ik403.InvalidDate ∷ ik403.CodeNotUsed ∷ []);
  };
  hl = None;
  depends = [];
  nodes = trees (
      loop (record { number = 1; id = codes "L1"; min = 0; max = 3 }) (trees (slot 2 (codes "BB") None 1 1 [] (row.Simple (simple
      (codes "6620") Mandatory (types.Number 2) 2 5 true None) 2
      ∷ row.Simple (simple (codes "8908") Optional types.Text 2 4 true None) 1
      ∷ row.Simple (simple (codes "2184") Mandatory types.Decimal 1 3 false None) 1
      ∷ row.Simple (simple ([]) Optional types.Text 1 5 false None) 1
      ∷ [])
      (record { relation = relation.Required; positions = (3 ∷ 2 ∷ 4 ∷ []) } ∷ [])
      ∷ []))
      ∷ []);
}
