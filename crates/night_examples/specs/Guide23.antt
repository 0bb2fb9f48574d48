-- The guide G0 of worked nights.
use Rattle.std.specs.Prelude.{false, [], ◌∷◌, codes, Some, None}
use Rattle.guide_tree.specs.Tree.{GuideTree}
use Rattle.guide_tree.specs.declared.slot.Relation.TheVariants as relation
use Rattle.guide_tree.specs.declared.rows.DependencyKind.TheVariants as depends
use Rattle.guide_tree.specs.declared.element.Requirement.TheVariants.{Mandatory, Optional}
use Rattle.guide_tree.specs.declared.element.ElementType.TheVariants as types
use Rattle.guide_tree.specs.declared.element.Element.TheVariants as row
use Rattle.guide_tree.specs.declared.element.Component.TheVariants as part
use Rattle.hub_kinds.specs.declared.codes.ElementCode.TheVariants as ik403
use Rattle.hub_kinds.specs.declared.codes.SegmentCode.TheVariants as ik304
use Rattle.night_examples.specs.GuideRows.{simple, slot, trees}

abbrev pub guide_23 : GuideTree
guide_23 = record {
  head = record {
    name = codes "G0";
    group = codes "QQ";
    set = codes "856";
    version = codes "005010";
    convention = Some (codes "CONV1");
    dictionary = (codes "ZZ1" ∷ codes "PER" ∷ []);
    tolerate_segment = (ik304.NotInSet ∷ ik304.RequiredSegmentMissing ∷ ik304.OutOfSequence ∷ ik304.NotUsedPresent
        ∷ ik304.UnexpectedSegment ∷ []);
    tolerate_element = (ik403.ConditionalMissing ∷ ik403.RequiredMissing ∷ ik403.DependentMissing ∷ ik403.ExclusionViolated
        ∷ ik403.InvalidTime ∷ ik403.TooManyElements ∷ []);
  };
  hl = None;
  depends = (record {
    kind = depends.Need;
    slot = codes "L2";
    at = 3;
    codes = (codes "CC" ∷ codes "01" ∷ codes "A" ∷ []);
    target = codes "L2";
    element = 0;
  } ∷ record {
    kind = depends.Ban;
    slot = codes "L2";
    at = 4;
    codes = (codes "CC" ∷ codes "1"
        ∷ codes "A" ∷ []);
    target = codes "L2";
    element = 2;
  } ∷ []);
  nodes = trees (
      slot 1 (codes "DD") None 0 0 [] (row.Composite (record {
        reference = codes "3084";
        requirement = Mandatory;
        repeat = 2;
        components =
            (part.Simple (simple ([]) Optional types.Identifier 3 4 false None) ∷ part.Simple (simple (codes "4958") Optional
            (types.Number 0) 1 5 false None) ∷ part.Simple (simple ([]) Optional (types.Number 2) 1 4 false None) ∷ []);
      })
      ∷ row.Simple (simple (codes "2984") Optional types.Date 1 9 false None) 1
      ∷ row.Simple (simple ([]) Mandatory types.Date 1 9 false None) 1
      ∷ row.NotUsed ([])
      ∷ [])
      []
      ∷ slot 2 (codes "AAA") (Some (codes "L2")) 0 1 (record { position = 1; codes = (codes "CC" ∷ []) } ∷ []) (row.Simple (simple
      ([]) Mandatory types.Decimal 3 6 false None) 1
      ∷ row.Simple (simple (codes "8510") Mandatory types.Text 3 5 false None) 1
      ∷ row.Simple (simple (codes "786") Mandatory (types.Number 2) 1 1 false None) 1
      ∷ row.Simple (simple (codes "6074") Optional types.Identifier 1 3 false (Some (record {
        used = (codes "X" ∷ []);
        unused = None;
      }))) 1
      ∷ [])
      (record { relation = relation.Paired; positions = (4 ∷ 1 ∷ []) } ∷ [])
      ∷ []);
}
