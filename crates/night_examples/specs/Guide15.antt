-- The guide G2 of worked nights.
use Rattle.std.specs.Prelude.{[], ◌∷◌, codes, Some, None}
use Rattle.guide_tree.specs.Tree.{loop, GuideTree}
use Rattle.hub_kinds.specs.declared.codes.ElementCode.TheVariants as ik403
use Rattle.hub_kinds.specs.declared.codes.SegmentCode.TheVariants as ik304
use Rattle.night_examples.specs.GuideRows.{slot, trees}

abbrev pub guide_15 : GuideTree
guide_15 = record {
  head = record {
    name = codes "G2";
    group = codes "SH";
    set = codes "856";
    version = codes "005010";
    convention = None;
    dictionary = [];
    tolerate_segment = (ik304.RequiredSegmentMissing ∷ ik304.OutOfSequence ∷ ik304.SegmentTooOften ∷ []);
    tolerate_element = (ik403.ExclusionViolated ∷ ik403.TooManyComponents ∷ ik403.DependentNotUsedPresent ∷ ik403.TooShort
        ∷ ik403.RequiredMissing ∷ ik403.ConditionalMissing ∷ []);
  };
  hl = None;
  depends = [];
  nodes = trees (
      slot 1 (codes "BB") (Some (codes "L1")) 0 1 [] ([])
      []
      ∷ loop (record { number = 2; id = codes "L2"; min = 2; max = 50 }) (trees (slot 3 (codes "N1") None 1 1 [] ([])
      []
      ∷ slot 4 (codes "BB") (Some (codes "L4")) 1 1 [] ([])
      []
      ∷ []))
      ∷ []);
}
