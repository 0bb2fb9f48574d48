-- The guide G0 of worked nights.
use Rattle.std.specs.Prelude.{true, [], ◌∷◌, codes, None}
use Rattle.guide_tree.specs.Tree.{loop, GuideTree}
use Rattle.guide_tree.specs.declared.element.Requirement.TheVariants.{Mandatory}
use Rattle.guide_tree.specs.declared.element.ElementType.TheVariants as types
use Rattle.guide_tree.specs.declared.element.Element.TheVariants as row
use Rattle.hub_kinds.specs.declared.codes.ElementCode.TheVariants as ik403
use Rattle.hub_kinds.specs.declared.codes.SegmentCode.TheVariants as ik304
use Rattle.night_examples.specs.GuideRows.{simple, slot, trees}

abbrev pub guide_9 : GuideTree
guide_9 = record {
  head = record {
    name = codes "G0";
    group = codes "PO";
    set = codes "856";
    version = codes "005010";
    convention = None;
    dictionary = (codes "QQ" ∷ codes "PER" ∷ []);
    tolerate_segment = (ik304.DependentNotUsedPresent ∷ ik304.LoopTooSeldom ∷ ik304.OutOfSequence ∷ ik304.UnrecognizedSegment
        ∷ ik304.NotUsedPresent ∷ []);
    tolerate_element = (ik403.InvalidCharacter ∷ []);
  };
  hl = None;
  depends = [];
  nodes = trees (
      loop (record { number = 1; id = codes "L1"; min = 0; max = 0 }) (trees (slot 2 (codes "DD") None 1 1 (record {
        position = 1;
        codes =
            (codes "CC" ∷ []);
      } ∷ []) (row.Simple (simple ([]) Mandatory types.Text 1 4 true None) 3
      ∷ [])
      []
      ∷ []))
      ∷ []);
}
