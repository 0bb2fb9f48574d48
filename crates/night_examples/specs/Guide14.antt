-- The guide G1 of worked nights.
use Rattle.std.specs.Prelude.{true, false, [], ◌∷◌, codes, Some, None}
use Rattle.guide_tree.specs.Tree.{GuideTree}
use Rattle.guide_tree.specs.declared.slot.Relation.TheVariants as relation
use Rattle.guide_tree.specs.declared.rows.DependencyKind.TheVariants as depends
use Rattle.guide_tree.specs.declared.element.Requirement.TheVariants.{Mandatory, Optional}
use Rattle.guide_tree.specs.declared.element.ElementType.TheVariants as types
use Rattle.guide_tree.specs.declared.element.Element.TheVariants as row
use Rattle.guide_tree.specs.declared.element.Component.TheVariants as part
use Rattle.hub_kinds.specs.declared.codes.ElementCode.TheVariants as ik403
use Rattle.hub_kinds.specs.declared.codes.SegmentCode.TheVariants as ik304
use Rattle.night_examples.specs.GuideRows.{simple, slot, trees}

abbrev pub guide_14 : GuideTree
guide_14 = record {
  head = record {
    name = codes "G1";
    group = codes "PO";
    set = codes "991";
    version = codes "005010";
    convention = None;
    dictionary = [];
    tolerate_segment = (ik304.DependentNotUsedPresent ∷ ik304.SegmentTooOften ∷ ik304.OutOfSequence ∷ []);
    tolerate_element = (ik403.InvalidTime ∷ []);
  };
  hl = Some (record {
    pairs = (record { parent = None; child = codes "B" } ∷ record { parent = Some (codes "A"); child = codes "B" }
        ∷ record { parent = Some (codes "A"); child = codes "A" } ∷ record { parent = None; child = codes "01" } ∷ []);
    sequential = true;
  });
  depends = (record {
    kind = depends.Ban;
    slot = codes "L1";
    at = 2;
    codes = (codes "01" ∷ codes "B" ∷ codes "1" ∷ []);
    target = codes "L1";
    element = 0;
  } ∷ []);
  nodes = trees (
      slot 1 (codes "EE") (Some (codes "L1")) 0 0 [] (row.Composite (record {
        reference = codes "2640";
        requirement = Optional;
        repeat = 1;
        components = (part.Simple (simple (codes "5117") Mandatory (types.Number 2) 1 5 true None) ∷ part.Simple (simple
            ([]) Optional types.Time 1 9 false None) ∷ []);
      })
      ∷ row.Composite (record {
        reference = [];
        requirement = Optional;
        repeat = 1;
        components = (part.Simple (simple
            (codes "3940") Optional types.Identifier 2 4 true (Some (record {
              used = (codes "CC" ∷ []);
              unused = Some (codes "A"
                  ∷ codes "ZZ" ∷ []);
            }))) ∷ []);
      })
      ∷ [])
      (record { relation = relation.Required; positions = (1 ∷ 2 ∷ []) } ∷ [])
      ∷ slot 2 (codes "HL") None 1 3 (record { position = 2; codes = (codes "01" ∷ []) } ∷ []) (row.Simple (simple
      (codes "574") Optional types.Text 1 3 false None) 1
      ∷ row.Simple (simple (codes "55") Optional types.Text 1 3 false None) 1
      ∷ row.Simple (simple (codes "2") Optional types.Text 1 3 false None) 1
      ∷ row.Simple (simple (codes "587") Optional types.Text 1 3 false None) 1
      ∷ [])
      (record { relation = relation.ListConditional; positions = (2 ∷ 3 ∷ []) } ∷ [])
      ∷ slot 3 (codes "N1") None 0 2 [] (row.Composite (record {
        reference = codes "6499";
        requirement = Mandatory;
        repeat = 2;
        components = (part.Simple (simple ([]) Mandatory (types.Number 2) 1 1 false None) ∷ part.Simple (simple
            ([]) Mandatory types.Text 2 6 false None) ∷ part.Simple (simple (codes "4152") Optional types.Time 4 4 false None) ∷ []);
      })
      ∷ row.NotUsed (codes "1579")
      ∷ row.Simple (simple (codes "5508") Optional types.Decimal 3 3 true None) 3
      ∷ row.Simple (simple ([]) Mandatory types.Decimal 2 2 true None) 3
      ∷ [])
      []
      ∷ []);
}
