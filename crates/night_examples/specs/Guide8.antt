-- The guide H856 of worked nights.
use Rattle.std.specs.Prelude.{true, false, [], ◌∷◌, codes, Some, None}
use Rattle.guide_tree.specs.Tree.{loop, GuideTree}
use Rattle.guide_tree.specs.declared.slot.Relation.TheVariants as relation
use Rattle.guide_tree.specs.declared.rows.DependencyKind.TheVariants as depends
use Rattle.guide_tree.specs.declared.element.Requirement.TheVariants.{Mandatory, Optional}
use Rattle.guide_tree.specs.declared.element.ElementType.TheVariants as types
use Rattle.guide_tree.specs.declared.element.Element.TheVariants as row
use Rattle.night_examples.specs.GuideRows.{simple, slot, trees}

abbrev pub guide_8 : GuideTree
guide_8 = record {
  head = record {
    name = codes "H856";
    group = codes "SH";
    set = codes "856";
    version = codes "005010";
    convention = None;
    dictionary = (codes "FOB" ∷ codes "PER" ∷ codes "PKG" ∷ codes "SAC" ∷ []);
    tolerate_segment = [];
    tolerate_element = [];
  };
  hl = Some (record {
    pairs = (record { parent = None; child = codes "S" } ∷ record { parent = Some (codes "S"); child = codes "O" }
        ∷ record { parent = Some (codes "O"); child = codes "P" } ∷ record { parent = Some (codes "O"); child = codes "I" }
        ∷ record { parent = Some (codes "P"); child = codes "I" } ∷ []);
    sequential = true;
  });
  depends = (record { kind = depends.Need; slot = codes "HL"; at = 3; codes = (codes "P" ∷ []); target = codes "MAN"; element = 0 } ∷ []);
  nodes = trees (
      slot 1 (codes "BSN") None 1 1 [] (row.Simple (simple (codes "353") Mandatory types.Identifier 2 2 false (Some (record {
        used =
            (codes "00" ∷ []);
        unused = Some (codes "01" ∷ []);
      }))) 1
      ∷ row.Simple (simple (codes "396") Mandatory types.Text 2 30 false None) 1
      ∷ row.Simple (simple (codes "373") Mandatory types.Date 8 8 false None) 1
      ∷ row.Simple (simple (codes "337") Mandatory types.Time 4 8 false None) 1
      ∷ row.Simple (simple (codes "1005") Optional types.Identifier 4 4 false None) 1
      ∷ [])
      []
      ∷ loop (record { number = 2; id = codes "HL"; min = 1; max = 99999 }) (trees (slot 3 (codes "HL") (Some (codes "HL")) 1 1 []
      (row.Simple (simple (codes "628") Mandatory types.Text 1 12 false None) 1
      ∷ row.Simple (simple (codes "734") Optional types.Text 1 12 false None) 1
      ∷ row.Simple (simple (codes "735") Mandatory types.Identifier 1 2 false (Some (record {
        used = (codes "I" ∷ codes "O"
            ∷ codes "P" ∷ codes "S" ∷ []);
        unused = Some (codes "T" ∷ []);
      }))) 1
      ∷ row.Simple (simple (codes "736") Optional types.Identifier 1 1 false (Some (record {
        used = (codes "0" ∷ codes "1" ∷ []);
        unused = None;
      }))) 1
      ∷ [])
      []
      ∷ slot 4 (codes "LIN") None 0 1 [] (row.Simple (simple (codes "350") Optional types.Text 1 20 false None) 1
      ∷ row.Simple (simple (codes "235") Mandatory types.Identifier 2 2 false None) 1
      ∷ row.Simple (simple (codes "234") Mandatory types.Text 1 48 false None) 1
      ∷ [])
      []
      ∷ slot 5 (codes "SN1") None 0 1 [] (row.Simple (simple (codes "350") Optional types.Text 1 20 false None) 1
      ∷ row.Simple (simple (codes "382") Mandatory types.Decimal 1 9 false None) 1
      ∷ row.Simple (simple (codes "355") Mandatory types.Identifier 2 2 false None) 1
      ∷ [])
      []
      ∷ slot 6 (codes "PRF") None 0 1 [] (row.Simple (simple (codes "324") Mandatory types.Text 1 22 false None) 1
      ∷ [])
      []
      ∷ slot 7 (codes "TD5") None 0 3 [] (row.Simple (simple (codes "133") Optional types.Identifier 1 2 false None) 1
      ∷ row.Simple (simple (codes "66") Optional types.Identifier 1 2 false None) 1
      ∷ row.Simple (simple (codes "67") Optional types.Text 2 80 false None) 1
      ∷ row.Simple (simple (codes "91") Optional types.Identifier 1 2 false None) 1
      ∷ [])
      (record { relation = relation.Conditional; positions = (2 ∷ 3 ∷ []) } ∷ [])
      ∷ slot 8 (codes "REF") None 0 20 [] (row.Simple (simple (codes "128") Mandatory types.Identifier 2 3 false None) 1
      ∷ row.Simple (simple (codes "127") Optional types.Text 1 50 false None) 1
      ∷ row.Simple (simple (codes "352") Optional types.Text 1 80 false None) 1
      ∷ [])
      (record { relation = relation.Required; positions = (2 ∷ 3 ∷ []) } ∷ [])
      ∷ slot 9 (codes "MAN") (Some (codes "MAN")) 0 10 [] (row.Simple (simple (codes "88") Mandatory types.Identifier 1 2 false None) 1
      ∷ row.Simple (simple (codes "87") Mandatory types.Text 1 48 false None) 1
      ∷ [])
      []
      ∷ slot 10 (codes "DTM") None 0 10 [] (row.Simple (simple (codes "374") Mandatory types.Identifier 3 3 false None) 1
      ∷ row.Simple (simple (codes "373") Optional types.Date 8 8 false None) 1
      ∷ row.Simple (simple (codes "337") Optional types.Time 4 8 false None) 1
      ∷ [])
      (record { relation = relation.Required; positions = (2 ∷ 3 ∷ []) } ∷ [])
      ∷ loop (record { number = 11; id = codes "N1"; min = 0; max = 5 }) (trees (slot 12 (codes "N1") None 1 1 [] (row.Simple (simple
      (codes "98") Mandatory types.Identifier 2 3 false None) 1
      ∷ row.Simple (simple (codes "93") Optional types.Text 1 60 true None) 1
      ∷ row.Simple (simple (codes "66") Optional types.Identifier 1 2 false None) 1
      ∷ row.Simple (simple (codes "67") Optional types.Text 2 80 false None) 1
      ∷ [])
      (record { relation = relation.Required; positions = (2 ∷ 3 ∷ []) } ∷ record {
        relation = relation.Paired;
        positions =
            (3 ∷ 4 ∷ []);
      } ∷ [])
      ∷ []))
      ∷ []))
      ∷ []);
}
