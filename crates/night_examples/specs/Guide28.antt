-- The guide G1 of worked nights.
use Rattle.std.specs.Prelude.{true, false, [], ◌∷◌, codes, Some, None}
use Rattle.guide_tree.specs.Tree.{loop, GuideTree}
use Rattle.guide_tree.specs.declared.slot.Relation.TheVariants as relation
use Rattle.guide_tree.specs.declared.element.Requirement.TheVariants.{Mandatory, Optional}
use Rattle.guide_tree.specs.declared.element.ElementType.TheVariants as types
use Rattle.guide_tree.specs.declared.element.Element.TheVariants as row
use Rattle.guide_tree.specs.declared.element.Component.TheVariants as part
use Rattle.hub_kinds.specs.declared.codes.ElementCode.TheVariants as ik403
use Rattle.night_examples.specs.GuideRows.{simple, slot, trees}

abbrev pub guide_28 : GuideTree
guide_28 = record {
  head = record {
    name = codes "G1";
    group = codes "QQ";
    set = codes "991";
    version = codes "005010";
    convention = Some (codes "CONV1");
    dictionary = [];
    tolerate_segment = [];
    tolerate_element = (ik403.InvalidCharacter ∷ ik403.TooShort ∷ ik403.TooManyComponents ∷ ik403.TooManyRepetitions
        ∷ ik403.RequiredMissing ∷ []);
  };
  hl = Some (record {
    pairs = (record { parent = Some (codes "A"); child = codes "CC" } ∷ record {
      parent = Some (codes "B");
      child = codes "A";
    } ∷ record { parent = None; child = codes "01" } ∷ record { parent = None; child = codes "A" } ∷ []);
    sequential = false;
  });
  depends = [];
  nodes = trees (
      slot 1 (codes "HL") None 0 2 [] (row.Simple (simple (codes "8874") Optional types.Decimal 1 3 false None) 1
      ∷ row.Simple (simple (codes "38") Optional types.Text 1 3 false None) 1
      ∷ row.Simple (simple (codes "858") Optional types.Text 1 3 false None) 1
      ∷ row.Simple (simple (codes "518") Optional types.Text 1 3 false None) 1
      ∷ [])
      (record { relation = relation.Required; positions = (1 ∷ 3 ∷ []) } ∷ [])
      ∷ loop (record { number = 2; id = codes "L2"; min = 2; max = 50 }) (trees (slot 3 (codes "AAA") (Some (codes "L3")) 1 1
      (record { position = 4; codes = (codes "01" ∷ []) } ∷ []) (row.Simple (simple ([]) Optional types.Time 4 8 false None) 3
      ∷ row.Simple (simple (codes "1176") Optional (types.Number 0) 1 3 false None) 1
      ∷ row.Simple (simple ([]) Optional types.Time 1 9 false None) 1
      ∷ row.Simple (simple (codes "9227") Optional (types.Number 0) 2 4 false None) 1
      ∷ row.Composite (record {
        reference = [];
        requirement = Optional;
        repeat = 1;
        components = (part.Simple (simple
            ([]) Optional types.Date 6 8 false None) ∷ part.Simple (simple (codes "3401") Mandatory types.Text 2 3 false (Some
            (record { used = (codes "B" ∷ codes "CC" ∷ codes "01" ∷ codes "X" ∷ []); unused = Some (codes "A" ∷ []) }))) ∷ []);
      })
      ∷ [])
      []
      ∷ loop (record { number = 4; id = codes "L4"; min = 2; max = 50 }) (trees (slot 5 (codes "CC1") None 1 1 (record {
        position = 1;
        codes = (codes "A" ∷ []);
      } ∷ []) (row.Composite (record {
        reference = codes "9034";
        requirement = Optional;
        repeat = 3;
        components = (part.Simple (simple (codes "9353") Mandatory types.Date 6 6 true None) ∷ []);
      })
      ∷ [])
      []
      ∷ []))
      ∷ slot 6 (codes "EE") None 0 2 [] (row.Simple (simple ([]) Mandatory types.Time 1 9 false None) 1
      ∷ row.Composite (record {
        reference = codes "6127";
        requirement = Mandatory;
        repeat = 1;
        components = (part.Simple (simple
            ([]) Optional types.Decimal 1 1 false None) ∷ part.Simple (simple (codes "3875") Mandatory
            (types.Number 2) 2 5 false None) ∷ part.Simple (simple ([]) Optional (types.Number 2) 3 7 false None) ∷ []);
      })
      ∷ row.Composite (record {
        reference = [];
        requirement = Optional;
        repeat = 1;
        components = (part.Simple (simple
            (codes "3008") Mandatory types.Decimal 1 2 false None) ∷ []);
      })
      ∷ row.Simple (simple ([]) Optional types.Time 4 4 false None) 2
      ∷ [])
      []
      ∷ []))
      ∷ []);
}
