-- The guide G0 of worked nights.
use Rattle.std.specs.Prelude.{true, false, [], ◌∷◌, codes, Some, None}
use Rattle.guide_tree.specs.Tree.{loop, GuideTree}
use Rattle.guide_tree.specs.declared.slot.Relation.TheVariants as relation
use Rattle.guide_tree.specs.declared.rows.DependencyKind.TheVariants as depends
use Rattle.guide_tree.specs.declared.element.Requirement.TheVariants.{Mandatory, Optional}
use Rattle.guide_tree.specs.declared.element.ElementType.TheVariants as types
use Rattle.guide_tree.specs.declared.element.Element.TheVariants as row
use Rattle.guide_tree.specs.declared.element.Component.TheVariants as part
use Rattle.hub_kinds.specs.declared.codes.SegmentCode.TheVariants as ik304
use Rattle.night_examples.specs.GuideRows.{simple, slot, trees}

abbrev pub guide_10 : GuideTree
guide_10 = record {
  head = record {
    name = codes "G0";
    group = codes "SH";
    set = codes "850";
    version = codes "005010";
    convention = None;
    dictionary = [];
    tolerate_segment = (ik304.RequiredSegmentMissing ∷ ik304.LoopTooOften ∷ []);
    tolerate_element = [];
  };
  hl = None;
  depends = (record {
    kind = depends.Need;
    slot = codes "L2";
    at = 4;
    codes = (codes "A" ∷ codes "CC" ∷ codes "01" ∷ []);
    target = codes "L6";
    element = 2;
  } ∷ record {
    kind = depends.Need;
    slot = codes "L2";
    at = 3;
    codes = (codes "B" ∷ codes "1"
        ∷ codes "CC" ∷ []);
    target = codes "L2";
    element = 4;
  } ∷ []);
  nodes = trees (
      loop (record { number = 1; id = codes "L1"; min = 2; max = 3 }) (trees (slot 2 (codes "N1") (Some (codes "L2")) 1 1 [] (row.Simple
      (simple (codes "7655") Mandatory (types.Number 2) 1 4 true None) 1
      ∷ row.Simple (simple (codes "7623") Optional types.Text 1 4 false None) 1
      ∷ row.Simple (simple (codes "8929") Mandatory (types.Number 2) 2 5 false None) 1
      ∷ row.Composite (record {
        reference = [];
        requirement = Mandatory;
        repeat = 2;
        components = (part.Simple (simple
            (codes "8732") Optional (types.Number 2) 3 3 false None) ∷ part.Simple (simple
            (codes "4915") Mandatory types.Decimal 3 6 false None) ∷ part.Simple (simple (codes "4986") Optional
            (types.Number 0) 2 3 false None) ∷ []);
      })
      ∷ row.Simple (simple (codes "7571") Mandatory types.Time 4 4 true None) 1
      ∷ [])
      (record { relation = relation.Required; positions = (5 ∷ 1 ∷ 3 ∷ []) } ∷ [])
      ∷ slot 3 (codes "BB") None 0 3 (record { position = 1; codes = (codes "CC" ∷ []) } ∷ []) (row.Simple (simple ([]) Mandatory
      (types.Number 0) 2 2 false None) 1
      ∷ [])
      []
      ∷ []))
      ∷ loop (record { number = 4; id = codes "L4"; min = 0; max = 3 }) (trees (slot 5 (codes "DD") (Some (codes "L5")) 1 1 [] ([])
      []
      ∷ slot 6 (codes "REF") (Some (codes "L6")) 1 3 [] (row.NotUsed ([])
      ∷ row.Simple (simple (codes "6027") Mandatory types.Date 1 9 false None) 1
      ∷ row.Simple (simple ([]) Optional (types.Number 2) 2 6 true None) 2
      ∷ row.Simple (simple (codes "8849") Mandatory types.Text 1 4 false (Some (record {
        used = (codes "X" ∷ codes "A"
            ∷ codes "02" ∷ []);
        unused = None;
      }))) 2
      ∷ row.Simple (simple (codes "5946") Mandatory types.Identifier 1 4 true (Some (record {
        used = (codes "X" ∷ codes "B"
            ∷ codes "01" ∷ []);
        unused = Some (codes "A" ∷ []);
      }))) 1
      ∷ [])
      (record { relation = relation.ListConditional; positions = (1 ∷ 2 ∷ 4 ∷ []) } ∷ [])
      ∷ []))
      ∷ slot 7 (codes "AAA") None 2 99 [] (row.Simple (simple (codes "2733") Mandatory types.Decimal 1 5 false None) 1
      ∷ row.Simple (simple (codes "4134") Mandatory types.Time 4 8 false None) 1
      ∷ row.Simple (simple ([]) Optional types.Decimal 3 4 false None) 1
      ∷ row.Simple (simple (codes "9093") Optional types.Date 6 8 false None) 2
      ∷ row.Simple (simple (codes "8936") Optional types.Text 2 4 false None) 1
      ∷ [])
      (record { relation = relation.Required; positions = (5 ∷ 1 ∷ 4 ∷ []) } ∷ [])
      ∷ slot 8 (codes "HL") None 0 3 (record { position = 3; codes = (codes "B" ∷ []) } ∷ []) (row.Composite (record {
        reference = [];
        requirement = Optional;
        repeat = 1;
        components = (part.Simple (simple ([]) Optional types.Text 2 4 false (Some (record {
          used =
              (codes "X" ∷ []);
          unused = None;
        }))) ∷ []);
      })
      ∷ row.Simple (simple ([]) Optional types.Time 4 8 false None) 2
      ∷ row.Simple (simple (codes "5009") Optional types.Decimal 1 2 true None) 1
      ∷ row.Simple (simple ([]) Optional types.Text 3 5 false None) 2
      ∷ [])
      (record { relation = relation.Exclusion; positions = (3 ∷ 4 ∷ 2 ∷ []) } ∷ [])
      ∷ []);
}
