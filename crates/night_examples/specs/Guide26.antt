-- The guide G2 of worked nights.
use Rattle.std.specs.Prelude.{true, false, [], ◌∷◌, codes, Some, None}
use Rattle.guide_tree.specs.Tree.{GuideTree}
use Rattle.guide_tree.specs.declared.slot.Relation.TheVariants as relation
use Rattle.guide_tree.specs.declared.rows.DependencyKind.TheVariants as depends
use Rattle.guide_tree.specs.declared.element.Requirement.TheVariants.{Mandatory}
use Rattle.guide_tree.specs.declared.element.ElementType.TheVariants as types
use Rattle.guide_tree.specs.declared.element.Element.TheVariants as row
use Rattle.hub_kinds.specs.declared.codes.ElementCode.TheVariants as ik403
use Rattle.night_examples.specs.GuideRows.{simple, slot, trees}

abbrev pub guide_26 : GuideTree
guide_26 = record {
  head = record {
    name = codes "G2";
    group = codes "PO";
    set = codes "856";
    version = codes "005010";
    convention = Some (codes "CONV1");
    dictionary = (codes "ZZ1" ∷ codes "PER" ∷ []);
    tolerate_segment = [];
    tolerate_element = (ik403.CodeNotUsed ∷ []);
  };
  hl = None;
  depends = (record {
    kind = depends.Need;
    slot = codes "L1";
    at = 1;
    codes = (codes "01" ∷ codes "A" ∷ codes "B" ∷ []);
    target = codes "L1";
    element = 0;
  } ∷ record {
    kind = depends.Need;
    slot = codes "L1";
    at = 1;
    codes = (codes "B" ∷ codes "01"
        ∷ codes "1" ∷ []);
    target = codes "L1";
    element = 0;
  } ∷ []);
  nodes = trees (
      slot 1 (codes "BB") (Some (codes "L1")) 0 3 (record { position = 2; codes = (codes "CC" ∷ []) } ∷ []) (row.Simple (simple
      (codes "9732") Mandatory types.Text 2 4 true None) 1
      ∷ row.NotUsed (codes "2763")
      ∷ row.Simple (simple (codes "3849") Mandatory types.Text 1 4 false None) 1
      ∷ [])
      (record { relation = relation.Paired; positions = (1 ∷ 3 ∷ 2 ∷ []) } ∷ [])
      ∷ slot 2 (codes "EE") None 1 1 [] ([])
      []
      ∷ []);
}
