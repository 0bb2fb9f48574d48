-- The guide G1 of worked nights.
use Rattle.std.specs.Prelude.{true, false, [], ◌∷◌, codes, Some, None}
use Rattle.guide_tree.specs.Tree.{GuideTree}
use Rattle.guide_tree.specs.declared.slot.Relation.TheVariants as relation
use Rattle.guide_tree.specs.declared.rows.DependencyKind.TheVariants as depends
use Rattle.guide_tree.specs.declared.element.Requirement.TheVariants.{Mandatory, Optional}
use Rattle.guide_tree.specs.declared.element.ElementType.TheVariants as types
use Rattle.guide_tree.specs.declared.element.Element.TheVariants as row
use Rattle.guide_tree.specs.declared.element.Component.TheVariants as part
use Rattle.night_examples.specs.GuideRows.{simple, slot, trees}

abbrev pub guide_21 : GuideTree
guide_21 = record {
  head = record {
    name = codes "G1";
    group = codes "QQ";
    set = codes "856";
    version = codes "005010";
    convention = None;
    dictionary = [];
    tolerate_segment = [];
    tolerate_element = [];
  };
  hl = None;
  depends = (record {
    kind = depends.Ban;
    slot = codes "L2";
    at = 3;
    codes = (codes "A" ∷ codes "1" ∷ codes "B" ∷ []);
    target = codes "L2";
    element = 5;
  } ∷ record {
    kind = depends.Ban;
    slot = codes "L2";
    at = 3;
    codes = (codes "01" ∷ codes "CC"
        ∷ codes "1" ∷ []);
    target = codes "L2";
    element = 1;
  } ∷ []);
  nodes = trees (
      slot 1 (codes "AAA") None 0 0 [] (row.Simple (simple ([]) Mandatory (types.Number 0) 3 7 false None) 1
      ∷ row.Simple (simple (codes "3036") Mandatory (types.Number 0) 1 3 false None) 3
      ∷ row.Composite (record {
        reference = [];
        requirement = Optional;
        repeat = 2;
        components = (part.Simple (simple
            (codes "7922") Optional types.Decimal 3 3 false None) ∷ part.Simple (simple (codes "7566") Optional
            (types.Number 0) 2 2 false None) ∷ part.Simple (simple ([]) Optional types.Decimal 3 3 true None) ∷ []);
      })
      ∷ row.Simple (simple ([]) Mandatory types.Date 1 9 false None) 3
      ∷ [])
      (record { relation = relation.Paired; positions = (3 ∷ 4 ∷ 1 ∷ []) } ∷ [])
      ∷ slot 2 (codes "DD") (Some (codes "L2")) 1 1 [] (row.Composite (record {
        reference = [];
        requirement = Mandatory;
        repeat = 1;
        components = (part.Simple (simple ([]) Mandatory types.Text 3 4 false None) ∷ []);
      })
      ∷ row.Simple (simple (codes "9702") Optional types.Text 2 5 false (Some (record {
        used = (codes "02" ∷ codes "CC" ∷ codes "X"
            ∷ codes "A" ∷ []);
        unused = Some (codes "ZZ" ∷ []);
      }))) 2
      ∷ row.Simple (simple (codes "9644") Optional types.Text 1 3 true None) 1
      ∷ row.Simple (simple ([]) Mandatory types.Identifier 1 4 false (Some (record {
        used = (codes "B" ∷ codes "A" ∷ codes "01" ∷ []);
        unused = Some (codes "ZZ" ∷ codes "A" ∷ []);
      }))) 1
      ∷ row.Simple (simple ([]) Mandatory types.Decimal 3 7 false None) 2
      ∷ [])
      []
      ∷ []);
}
