-- The guide G0 of worked nights.
use Rattle.std.specs.Prelude.{true, false, [], ◌∷◌, codes, Some, None}
use Rattle.guide_tree.specs.Tree.{GuideTree}
use Rattle.guide_tree.specs.declared.rows.DependencyKind.TheVariants as depends
use Rattle.guide_tree.specs.declared.element.Requirement.TheVariants.{Mandatory, Optional}
use Rattle.guide_tree.specs.declared.element.ElementType.TheVariants as types
use Rattle.guide_tree.specs.declared.element.Element.TheVariants as row
use Rattle.guide_tree.specs.declared.element.Component.TheVariants as part
use Rattle.hub_kinds.specs.declared.codes.SegmentCode.TheVariants as ik304
use Rattle.night_examples.specs.GuideRows.{simple, slot, trees}

abbrev pub guide_12 : GuideTree
guide_12 = record {
  head = record {
    name = codes "G0";
    group = codes "PO";
    set = codes "990";
    version = codes "005010";
    convention = None;
    dictionary = [];
    tolerate_segment = (ik304.OutOfSequence ∷ ik304.NotInSet ∷ ik304.NotUsedPresent ∷ []);
    tolerate_element = [];
  };
  hl = None;
  depends = (record {
    kind = depends.Need;
    slot = codes "L1";
    at = 4;
    codes = (codes "CC" ∷ codes "01" ∷ codes "A" ∷ []);
    target = codes "L1";
    element = 2;
  } ∷ record {
    kind = depends.Ban;
    slot = codes "L1";
    at = 3;
    codes = (codes "A" ∷ codes "B"
        ∷ codes "01" ∷ []);
    target = codes "L1";
    element = 0;
  } ∷ []);
  nodes = trees (
      slot 1 (codes "HL") (Some (codes "L1")) 0 1 (record { position = 1; codes = (codes "CC" ∷ codes "B" ∷ []) } ∷ []) (row.Simple
      (simple (codes "880") Optional types.Text 1 3 false None) 1
      ∷ row.Simple (simple (codes "115") Optional types.Text 1 3 false None) 1
      ∷ row.Simple (simple (codes "93") Optional types.Text 1 3 false None) 1
      ∷ row.Simple (simple (codes "454") Optional types.Text 1 3 false None) 1
      ∷ [])
      []
      ∷ slot 2 (codes "REF") None 1 1 (record { position = 3; codes = (codes "B" ∷ codes "01" ∷ []) } ∷ []) (row.Simple (simple
      ([]) Mandatory types.Text 2 2 false None) 1
      ∷ row.Simple (simple ([]) Optional (types.Number 0) 2 4 true None) 2
      ∷ row.Composite (record {
        reference = [];
        requirement = Mandatory;
        repeat = 1;
        components = (part.Simple (simple ([]) Optional
            (types.Number 0) 2 4 false None) ∷ part.Simple (simple (codes "8622") Optional (types.Number 0) 1 2 false None) ∷ []);
      })
      ∷ row.Simple (simple ([]) Mandatory types.Identifier 1 4 true (Some (record {
        used = (codes "A" ∷ codes "X" ∷ codes "01"
            ∷ codes "CC" ∷ []);
        unused = Some (codes "Q" ∷ []);
      }))) 1
      ∷ row.Simple (simple (codes "8020") Optional types.Decimal 1 1 false None) 1
      ∷ [])
      []
      ∷ []);
}
