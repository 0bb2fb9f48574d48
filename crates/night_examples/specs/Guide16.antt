-- The guide G0 of worked nights.
use Rattle.std.specs.Prelude.{[], ◌∷◌, codes, Some, None}
use Rattle.guide_tree.specs.Tree.{GuideTree}
use Rattle.hub_kinds.specs.declared.codes.ElementCode.TheVariants as ik403
use Rattle.hub_kinds.specs.declared.codes.SegmentCode.TheVariants as ik304
use Rattle.night_examples.specs.GuideRows.{slot, trees}

abbrev pub guide_16 : GuideTree
guide_16 = record {
  head = record {
    name = codes "G0";
    group = codes "SH";
    set = codes "850";
    version = codes "005010";
    convention = None;
    dictionary = [];
    tolerate_segment = (ik304.LoopTooOften ∷ []);
    tolerate_element = (ik403.TooManyRepetitions ∷ ik403.InvalidTime ∷ ik403.ExclusionViolated ∷ ik403.NotUsedPresent
        ∷ ik403.InvalidCode ∷ ik403.ConditionalMissing ∷ []);
  };
  hl = None;
  depends = [];
  nodes = trees (
      slot 1 (codes "BB") (Some (codes "L1")) 2 2 [] ([])
      []
      ∷ []);
}
