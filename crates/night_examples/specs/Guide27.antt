-- The guide G0 of worked nights.
use Rattle.std.specs.Prelude.{false, [], ◌∷◌, codes, Some, None}
use Rattle.guide_tree.specs.Tree.{GuideTree}
use Rattle.guide_tree.specs.declared.slot.Relation.TheVariants as relation
use Rattle.guide_tree.specs.declared.element.Requirement.TheVariants.{Mandatory, Optional}
use Rattle.guide_tree.specs.declared.element.ElementType.TheVariants as types
use Rattle.guide_tree.specs.declared.element.Element.TheVariants as row
use Rattle.guide_tree.specs.declared.element.Component.TheVariants as part
use Rattle.hub_kinds.specs.declared.codes.ElementCode.TheVariants as ik403
use Rattle.hub_kinds.specs.declared.codes.SegmentCode.TheVariants as ik304
use Rattle.night_examples.specs.GuideRows.{simple, slot, trees}

abbrev pub guide_27 : GuideTree
guide_27 = record {
  head = record {
    name = codes "G0";
    group = codes "QQ";
    set = codes "990";
    version = codes "005010";
    convention = Some (codes "CONV1");
    dictionary = [];
    tolerate_segment = (ik304.SegmentTooOften ∷ []);
    tolerate_element = (ik403.ExclusionViolated ∷ ik403.PatternFailure ∷ ik403.TooManyComponents ∷ []);
  };
  hl = None;
  depends = [];
  nodes = trees (
      slot 1 (codes "BB") None 2 99 [] (row.Simple (simple (codes "4305") Mandatory types.Date 1 9 false None) 1
      ∷ row.Simple (simple (codes "9455") Mandatory types.Identifier 1 4 false (Some (record {
        used = (codes "01" ∷ codes "X"
            ∷ codes "A" ∷ codes "B" ∷ []);
        unused = None;
      }))) 1
      ∷ row.Simple (simple (codes "5931") Optional types.Decimal 3 7 false None) 2
      ∷ [])
      (record { relation = relation.Conditional; positions = (3 ∷ 2 ∷ []) } ∷ [])
      ∷ slot 2 (codes "DD") None 1 1 [] (row.Composite (record {
        reference = [];
        requirement = Optional;
        repeat = 1;
        components =
            (part.Simple (simple ([]) Mandatory types.Identifier 3 6 false None) ∷ part.Simple (simple ([]) Mandatory types.Text 1 3 false
            (Some (record { used = (codes "02" ∷ codes "01" ∷ codes "X" ∷ []); unused = Some (codes "ZZ" ∷ codes "A" ∷ []) }))) ∷ []);
      })
      ∷ row.Simple (simple (codes "6421") Mandatory types.Time 4 4 false None) 1
      ∷ row.Simple (simple ([]) Optional (types.Number 0) 3 4 false None) 1
      ∷ row.Simple (simple ([]) Mandatory types.Text 2 4 false (Some (record {
        used = (codes "X" ∷ codes "B" ∷ codes "01" ∷ []);
        unused = Some (codes "A" ∷ codes "99" ∷ []);
      }))) 1
      ∷ [])
      (record { relation = relation.Conditional; positions = (3 ∷ 4 ∷ []) } ∷ [])
      ∷ []);
}
