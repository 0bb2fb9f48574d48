-- The guide G0 of worked nights.
use Rattle.std.specs.Prelude.{false, [], ◌∷◌, codes, Some, None}
use Rattle.guide_tree.specs.Tree.{loop, GuideTree}
use Rattle.guide_tree.specs.declared.slot.Relation.TheVariants as relation
use Rattle.guide_tree.specs.declared.rows.DependencyKind.TheVariants as depends
use Rattle.guide_tree.specs.declared.element.Requirement.TheVariants.{Mandatory, Optional}
use Rattle.guide_tree.specs.declared.element.ElementType.TheVariants as types
use Rattle.guide_tree.specs.declared.element.Element.TheVariants as row
use Rattle.guide_tree.specs.declared.element.Component.TheVariants as part
use Rattle.hub_kinds.specs.declared.codes.ElementCode.TheVariants as ik403
use Rattle.night_examples.specs.GuideRows.{simple, slot, trees}

abbrev pub guide_13 : GuideTree
guide_13 = record {
  head = record {
    name = codes "G0";
    group = codes "PO";
    set = codes "856";
    version = codes "005010";
    convention = None;
    dictionary = (codes "ZZ1" ∷ codes "QQ" ∷ []);
    tolerate_segment = [];
    tolerate_element = (ik403.TooManyRepetitions ∷ ik403.InvalidDate ∷ ik403.InvalidTime ∷ ik403.ExclusionViolated ∷ ik403.InvalidCode
        ∷ ik403.CodeNotUsed ∷ ik403.DependentMissing ∷ ik403.TooLong ∷ []);
  };
  hl = None;
  depends = (record {
    kind = depends.Ban;
    slot = codes "L3";
    at = 3;
    codes = (codes "1" ∷ codes "A" ∷ codes "B" ∷ []);
    target = codes "L2";
    element = 0;
  } ∷ []);
  nodes = trees (
      loop (record { number = 1; id = codes "L1"; min = 0; max = 0 }) (trees (slot 2 (codes "REF") (Some (codes "L2")) 1 1 [] ([])
      []
      ∷ slot 3 (codes "CC1") (Some (codes "L3")) 1 99 [] (row.Simple (simple ([]) Mandatory types.Identifier 3 6 false (Some
      (record { used = (codes "CC" ∷ codes "A" ∷ codes "X" ∷ codes "02" ∷ []); unused = None }))) 1
      ∷ row.Simple (simple (codes "9774") Mandatory types.Identifier 1 1 false (Some (record {
        used = (codes "X" ∷ codes "B"
            ∷ codes "02" ∷ codes "CC" ∷ []);
        unused = None;
      }))) 1
      ∷ row.Composite (record {
        reference = [];
        requirement = Optional;
        repeat = 1;
        components = (part.Simple (simple
            ([]) Mandatory types.Decimal 1 4 false None) ∷ part.Simple (simple (codes "9720") Mandatory types.Time 4 8 false None)
            ∷ part.Simple (simple (codes "8934") Mandatory types.Text 3 7 false None) ∷ []);
      })
      ∷ [])
      (record { relation = relation.Required; positions = (2 ∷ 3 ∷ []) } ∷ [])
      ∷ []))
      ∷ []);
}
