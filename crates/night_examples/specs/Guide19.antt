-- The guide G0 of worked nights.
use Rattle.std.specs.Prelude.{false, [], ◌∷◌, codes, Some, None}
use Rattle.guide_tree.specs.Tree.{GuideTree}
use Rattle.guide_tree.specs.declared.element.Requirement.TheVariants.{Mandatory, Optional}
use Rattle.guide_tree.specs.declared.element.ElementType.TheVariants as types
use Rattle.guide_tree.specs.declared.element.Element.TheVariants as row
use Rattle.guide_tree.specs.declared.element.Component.TheVariants as part
use Rattle.hub_kinds.specs.declared.codes.SegmentCode.TheVariants as ik304
use Rattle.night_examples.specs.GuideRows.{simple, slot, trees}

abbrev pub guide_19 : GuideTree
guide_19 = record {
  head = record {
    name = codes "G0";
    group = codes "SH";
    set = codes "856";
    version = codes "005010";
    convention = None;
    dictionary = (codes "EE" ∷ codes "QQ" ∷ []);
    tolerate_segment = (ik304.LoopTooOften ∷ ik304.LoopTooSeldom ∷ ik304.UnexpectedSegment ∷ []);
    tolerate_element = [];
  };
  hl = None;
  depends = [];
  nodes = trees (
      slot 1 (codes "DD") (Some (codes "L1")) 1 1 [] (row.Composite (record {
        reference = [];
        requirement = Optional;
        repeat = 3;
        components = (part.Simple (simple (codes "3225") Mandatory types.Text 1 4 false (Some (record {
          used = (codes "B" ∷ codes "02"
              ∷ codes "01" ∷ []);
          unused = Some (codes "99" ∷ codes "ZZ" ∷ []);
        }))) ∷ []);
      })
      ∷ [])
      []
      ∷ slot 2 (codes "AAA") (Some (codes "L2")) 1 1 [] ([])
      []
      ∷ []);
}
