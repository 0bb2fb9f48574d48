-- The guide G0 of worked nights.
use Rattle.std.specs.Prelude.{true, false, [], ◌∷◌, codes, Some, None}
use Rattle.guide_tree.specs.Tree.{GuideTree}
use Rattle.guide_tree.specs.declared.slot.Relation.TheVariants as relation
use Rattle.guide_tree.specs.declared.element.Requirement.TheVariants.{Mandatory, Optional}
use Rattle.guide_tree.specs.declared.element.ElementType.TheVariants as types
use Rattle.guide_tree.specs.declared.element.Element.TheVariants as row
use Rattle.guide_tree.specs.declared.element.Component.TheVariants as part
use Rattle.hub_kinds.specs.declared.codes.SegmentCode.TheVariants as ik304
use Rattle.night_examples.specs.GuideRows.{simple, slot, trees}

abbrev pub guide_5 : GuideTree
guide_5 = record {
  head = record {
    name = codes "G0";
    group = codes "QQ";
    set = codes "850";
    version = codes "005010";
    convention = None;
    dictionary = (codes "EE" ∷ codes "PER" ∷ []);
    tolerate_segment = (ik304.UnexpectedSegment ∷ ik304.RequiredSegmentMissing ∷ ik304.LoopTooOften ∷ ik304.SegmentTooSeldom ∷ []);
    tolerate_element = [];
  };
  hl = None;
  depends = [];
  nodes = trees (
      slot 1 (codes "CC1") (Some (codes "L1")) 2 2 [] (row.Simple (simple (codes "8108") Mandatory types.Time 4 8 false None) 1
      ∷ row.Simple (simple (codes "3032") Mandatory types.Text 1 4 false None) 2
      ∷ [])
      []
      ∷ slot 2 (codes "AAA") None 2 2 (record { position = 5; codes = (codes "CC" ∷ codes "A" ∷ []) } ∷ []) (row.Composite
      (record {
        reference = codes "1348";
        requirement = Mandatory;
        repeat = 1;
        components = (part.Simple (simple ([]) Mandatory
            (types.Number 0) 3 4 false None) ∷ part.Simple (simple (codes "2218") Mandatory types.Text 3 6 false None) ∷ []);
      })
      ∷ row.Simple (simple ([]) Mandatory types.Decimal 2 6 false None) 1
      ∷ row.Simple (simple ([]) Optional (types.Number 2) 2 4 false None) 1
      ∷ row.Simple (simple (codes "261") Mandatory (types.Number 2) 1 2 true None) 1
      ∷ row.Simple (simple ([]) Mandatory types.Text 2 3 false (Some (record {
        used = (codes "B" ∷ codes "02" ∷ codes "A" ∷ []);
        unused = None;
      }))) 1
      ∷ [])
      (record { relation = relation.Paired; positions = (2 ∷ 3 ∷ 5 ∷ []) } ∷ [])
      ∷ []);
}
