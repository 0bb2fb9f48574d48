-- The guide G1 of worked nights.
use Rattle.std.specs.Prelude.{true, false, [], ◌∷◌, codes, Some, None}
use Rattle.guide_tree.specs.Tree.{loop, GuideTree}
use Rattle.guide_tree.specs.declared.slot.Relation.TheVariants as relation
use Rattle.guide_tree.specs.declared.rows.DependencyKind.TheVariants as depends
use Rattle.guide_tree.specs.declared.element.Requirement.TheVariants.{Mandatory, Optional}
use Rattle.guide_tree.specs.declared.element.ElementType.TheVariants as types
use Rattle.guide_tree.specs.declared.element.Element.TheVariants as row
use Rattle.hub_kinds.specs.declared.codes.SegmentCode.TheVariants as ik304
use Rattle.night_examples.specs.GuideRows.{simple, slot, trees}

abbrev pub guide_17 : GuideTree
guide_17 = record {
  head = record {
    name = codes "G1";
    group = codes "SH";
    set = codes "850";
    version = codes "005010";
    convention = None;
    dictionary = [];
    tolerate_segment = (ik304.SegmentTooSeldom ∷ []);
    tolerate_element = [];
  };
  hl = Some (record {
    pairs = (record { parent = Some (codes "B"); child = codes "CC" } ∷ record { parent = None; child = codes "01" }
        ∷ record { parent = None; child = codes "B" } ∷ record { parent = Some (codes "A"); child = codes "B" } ∷ []);
    sequential = true;
  });
  depends = (record {
    kind = depends.Need;
    slot = codes "L3";
    at = 1;
    codes = (codes "01" ∷ codes "A" ∷ codes "CC" ∷ []);
    target = codes "L1";
    element = 4;
  } ∷ record {
    kind = depends.Need;
    slot = codes "L1";
    at = 3;
    codes = (codes "CC" ∷ codes "A"
        ∷ codes "01" ∷ []);
    target = codes "L3";
    element = 1;
  } ∷ []);
  nodes = trees (
      slot 1 (codes "HL") (Some (codes "L1")) 0 3 (record { position = 4; codes = (codes "CC" ∷ []) } ∷ []) (row.Simple (simple
      (codes "407") Optional types.Text 1 3 false None) 1
      ∷ row.Simple (simple (codes "472") Optional types.Text 1 3 false None) 1
      ∷ row.Simple (simple (codes "332") Optional types.Text 1 3 false None) 1
      ∷ row.Simple (simple (codes "558") Optional types.Text 1 3 false None) 1
      ∷ [])
      []
      ∷ loop (record { number = 2; id = codes "L2"; min = 0; max = 3 }) (trees (slot 3 (codes "CC1") (Some (codes "L3")) 1 1 []
      (row.Simple (simple (codes "349") Optional types.Text 1 5 false None) 1
      ∷ row.Simple (simple (codes "34") Mandatory types.Time 1 9 true None) 1
      ∷ [])
      (record { relation = relation.ListConditional; positions = (2 ∷ 1 ∷ []) } ∷ [])
      ∷ []))
      ∷ []);
}
