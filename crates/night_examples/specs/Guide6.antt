-- The guide G1 of worked nights.
use Rattle.std.specs.Prelude.{true, false, [], ◌∷◌, codes, Some, None}
use Rattle.guide_tree.specs.Tree.{loop, GuideTree}
use Rattle.guide_tree.specs.declared.rows.DependencyKind.TheVariants as depends
use Rattle.guide_tree.specs.declared.element.Requirement.TheVariants.{Mandatory, Optional}
use Rattle.guide_tree.specs.declared.element.ElementType.TheVariants as types
use Rattle.guide_tree.specs.declared.element.Element.TheVariants as row
use Rattle.guide_tree.specs.declared.element.Component.TheVariants as part
use Rattle.hub_kinds.specs.declared.codes.SegmentCode.TheVariants as ik304
use Rattle.night_examples.specs.GuideRows.{simple, slot, trees}

abbrev pub guide_6 : GuideTree
guide_6 = record {
  head = record {
    name = codes "G1";
    group = codes "QQ";
    set = codes "850";
    version = codes "005010";
    convention = Some (codes "CONV1");
    dictionary = [];
    tolerate_segment = (ik304.UnrecognizedSegment ∷ ik304.SegmentTooOften ∷ ik304.DependentMissing ∷ ik304.OutOfSequence
        ∷ ik304.SegmentTooSeldom ∷ []);
    tolerate_element = [];
  };
  hl = Some (record {
    pairs = (record { parent = Some (codes "A"); child = codes "A" } ∷ record { parent = None; child = codes "A" }
        ∷ record { parent = None; child = codes "B" } ∷ record { parent = Some (codes "B"); child = codes "A" } ∷ []);
    sequential = false;
  });
  depends = (record {
    kind = depends.Ban;
    slot = codes "L2";
    at = 3;
    codes = (codes "B" ∷ codes "01" ∷ codes "A" ∷ []);
    target = codes "L2";
    element = 1;
  } ∷ []);
  nodes = trees (
      loop (record { number = 1; id = codes "L1"; min = 0; max = 3 }) (trees (slot 2 (codes "HL") (Some (codes "L2")) 1 1
      (record { position = 4; codes = (codes "01" ∷ []) } ∷ []) (row.Composite (record {
        reference = codes "4738";
        requirement = Optional;
        repeat = 1;
        components = (part.Simple (simple (codes "3064") Optional types.Identifier 1 2 true None)
            ∷ part.Simple (simple (codes "999") Mandatory types.Decimal 3 3 false None) ∷ []);
      })
      ∷ row.Simple (simple ([]) Mandatory types.Decimal 2 6 false None) 1
      ∷ row.Composite (record {
        reference = [];
        requirement = Optional;
        repeat = 1;
        components = (part.Simple (simple
            (codes "7499") Mandatory types.Decimal 3 6 false None) ∷ part.Simple (simple (codes "7070") Optional
            (types.Number 0) 1 5 true None) ∷ []);
      })
      ∷ row.Simple (simple ([]) Optional types.Decimal 2 5 false None) 1
      ∷ row.Simple (simple (codes "6029") Optional types.Decimal 3 6 false None) 1
      ∷ [])
      []
      ∷ []))
      ∷ []);
}
