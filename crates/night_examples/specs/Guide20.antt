-- The guide G0 of worked nights.
use Rattle.std.specs.Prelude.{true, false, [], ◌∷◌, codes, Some, None}
use Rattle.guide_tree.specs.Tree.{GuideTree}
use Rattle.guide_tree.specs.declared.slot.Relation.TheVariants as relation
use Rattle.guide_tree.specs.declared.element.Requirement.TheVariants.{Mandatory, Optional}
use Rattle.guide_tree.specs.declared.element.ElementType.TheVariants as types
use Rattle.guide_tree.specs.declared.element.Element.TheVariants as row
use Rattle.guide_tree.specs.declared.element.Component.TheVariants as part
use Rattle.hub_kinds.specs.declared.codes.ElementCode.TheVariants as ik403
use Rattle.night_examples.specs.GuideRows.{simple, slot, trees}

abbrev pub guide_20 : GuideTree
guide_20 = record {
  head = record {
    name = codes "G0";
    group = codes "QQ";
    set = codes "856";
    version = codes "005010";
    convention = Some (codes "CONV1");
    dictionary = (codes "REF" ∷ codes "EE" ∷ []);
    tolerate_segment = [];
    tolerate_element = (ik403.PatternFailure ∷ ik403.NotUsedPresent ∷ ik403.ExclusionViolated ∷ ik403.DependentMissing
        ∷ ik403.CodeNotUsed ∷ []);
  };
  hl = None;
  depends = [];
  nodes = trees (
      slot 1 (codes "BB") None 0 3 [] (row.Simple (simple ([]) Optional (types.Number 0) 1 5 false None) 2
      ∷ row.NotUsed (codes "5322")
      ∷ row.Composite (record {
        reference = [];
        requirement = Optional;
        repeat = 1;
        components = (part.Simple (simple
            ([]) Mandatory types.Time 4 4 true None) ∷ part.Simple (simple ([]) Mandatory types.Date 8 8 false None) ∷ []);
      })
      ∷ row.Simple (simple (codes "3702") Optional types.Decimal 1 5 true None) 1
      ∷ [])
      (record { relation = relation.Required; positions = (2 ∷ 4 ∷ 1 ∷ []) } ∷ [])
      ∷ []);
}
