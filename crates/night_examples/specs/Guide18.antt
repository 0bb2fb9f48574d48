-- The guide G0 of worked nights.
use Rattle.std.specs.Prelude.{true, false, [], ◌∷◌, codes, Some, None}
use Rattle.guide_tree.specs.Tree.{loop, GuideTree}
use Rattle.guide_tree.specs.declared.rows.DependencyKind.TheVariants as depends
use Rattle.guide_tree.specs.declared.element.Requirement.TheVariants.{Mandatory, Optional}
use Rattle.guide_tree.specs.declared.element.ElementType.TheVariants as types
use Rattle.guide_tree.specs.declared.element.Element.TheVariants as row
use Rattle.guide_tree.specs.declared.element.Component.TheVariants as part
use Rattle.hub_kinds.specs.declared.codes.SegmentCode.TheVariants as ik304
use Rattle.night_examples.specs.GuideRows.{simple, slot, trees}

abbrev pub guide_18 : GuideTree
guide_18 = record {
  head = record {
    name = codes "G0";
    group = codes "QQ";
    set = codes "850";
    version = codes "005010";
    convention = None;
    dictionary = (codes "ZZ1" ∷ codes "REF" ∷ []);
    tolerate_segment = (ik304.SegmentTooSeldom ∷ []);
    tolerate_element = [];
  };
  hl = None;
  depends = (record {
    kind = depends.Need;
    slot = codes "L1";
    at = 1;
    codes = (codes "A" ∷ codes "1" ∷ codes "01" ∷ []);
    target = codes "L1";
    element = 1;
  } ∷ record {
    kind = depends.Ban;
    slot = codes "L1";
    at = 2;
    codes = (codes "1" ∷ codes "CC"
        ∷ codes "B" ∷ []);
    target = codes "L1";
    element = 2;
  } ∷ []);
  nodes = trees (
      slot 1 (codes "AAA") (Some (codes "L1")) 0 1 (record { position = 3; codes = (codes "B" ∷ codes "A" ∷ []) } ∷ []) (row.Simple
      (simple (codes "7924") Mandatory types.Identifier 3 3 false None) 1
      ∷ row.Composite (record {
        reference = codes "5557";
        requirement = Optional;
        repeat = 1;
        components = (part.Simple (simple
            ([]) Optional types.Identifier 2 6 true None) ∷ []);
      })
      ∷ row.Simple (simple (codes "2687") Optional types.Decimal 1 2 true None) 1
      ∷ row.Simple (simple (codes "413") Optional (types.Number 0) 3 7 false None) 3
      ∷ [])
      []
      ∷ loop (record { number = 2; id = codes "L2"; min = 0; max = 50 }) (trees (slot 3 (codes "DD") None 1 1 [] (row.Simple (simple
      ([]) Mandatory types.Text 3 7 false (Some (record { used = (codes "CC" ∷ []); unused = None }))) 1
      ∷ [])
      []
      ∷ slot 4 (codes "EE") None 1 1 (record { position = 1; codes = (codes "A" ∷ []) } ∷ []) (row.Simple (simple
      (codes "3629") Mandatory types.Text 1 2 false None) 1
      ∷ row.Composite (record {
        reference = codes "1135";
        requirement = Optional;
        repeat = 1;
        components = (part.Simple (simple
            (codes "246") Mandatory types.Text 3 5 false (Some (record {
              used = (codes "A" ∷ codes "X" ∷ codes "B" ∷ codes "02"
                  ∷ []);
              unused = None;
            }))) ∷ []);
      })
      ∷ row.Simple (simple (codes "6316") Mandatory types.Decimal 1 1 false None) 1
      ∷ [])
      []
      ∷ []))
      ∷ slot 5 (codes "CC1") None 1 1 [] ([])
      []
      ∷ []);
}
