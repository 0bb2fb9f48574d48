-- The guide G1 of worked nights.
use Rattle.std.specs.Prelude.{false, [], ◌∷◌, codes, Some, None}
use Rattle.guide_tree.specs.Tree.{GuideTree}
use Rattle.guide_tree.specs.declared.rows.DependencyKind.TheVariants as depends
use Rattle.guide_tree.specs.declared.element.Requirement.TheVariants.{Mandatory}
use Rattle.guide_tree.specs.declared.element.ElementType.TheVariants as types
use Rattle.guide_tree.specs.declared.element.Element.TheVariants as row
use Rattle.hub_kinds.specs.declared.codes.ElementCode.TheVariants as ik403
use Rattle.hub_kinds.specs.declared.codes.SegmentCode.TheVariants as ik304
use Rattle.night_examples.specs.GuideRows.{simple, slot, trees}

abbrev pub guide_25 : GuideTree
guide_25 = record {
  head = record {
    name = codes "G1";
    group = codes "SH";
    set = codes "856";
    version = codes "005010";
    convention = Some (codes "CONV1");
    dictionary = (codes "REF" ∷ codes "EE" ∷ []);
    tolerate_segment = (ik304.NotInSet ∷ ik304.NotUsedPresent ∷ ik304.OutOfSequence ∷ ik304.SegmentTooSeldom ∷ []);
    tolerate_element = (ik403.NotUsedPresent ∷ ik403.RequiredMissing ∷ ik403.CodeNotUsed ∷ ik403.ExclusionViolated ∷ []);
  };
  hl = None;
  depends = (record {
    kind = depends.Ban;
    slot = codes "L1";
    at = 1;
    codes = (codes "A" ∷ codes "1" ∷ codes "01" ∷ []);
    target = codes "L1";
    element = 0;
  } ∷ record {
    kind = depends.Need;
    slot = codes "L1";
    at = 1;
    codes = (codes "CC" ∷ codes "01"
        ∷ codes "B" ∷ []);
    target = codes "L1";
    element = 0;
  } ∷ []);
  nodes = trees (
      slot 1 (codes "AAA") (Some (codes "L1")) 1 3 (record { position = 1; codes = (codes "A" ∷ codes "CC" ∷ []) } ∷ []) (row.Simple
      (simple ([]) Mandatory (types.Number 0) 1 4 false None) 1
      ∷ [])
      []
      ∷ []);
}
