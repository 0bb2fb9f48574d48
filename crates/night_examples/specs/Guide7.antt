-- The guide H850 of worked nights.
use Rattle.std.specs.Prelude.{true, false, [], ◌∷◌, codes, Some, None}
use Rattle.guide_tree.specs.Tree.{loop, GuideTree}
use Rattle.guide_tree.specs.declared.slot.Relation.TheVariants as relation
use Rattle.guide_tree.specs.declared.element.Requirement.TheVariants.{Mandatory, Optional}
use Rattle.guide_tree.specs.declared.element.ElementType.TheVariants as types
use Rattle.guide_tree.specs.declared.element.Element.TheVariants as row
use Rattle.hub_kinds.specs.declared.codes.ElementCode.TheVariants as ik403
use Rattle.night_examples.specs.GuideRows.{simple, slot, trees}

abbrev pub guide_7 : GuideTree
guide_7 = record {
  head = record {
    name = codes "H850";
    group = codes "PO";
    set = codes "850";
    version = codes "005010";
    convention = None;
    dictionary = (codes "AMT" ∷ codes "CUR" ∷ codes "FOB" ∷ codes "PER" ∷ codes "SAC" ∷ []);
    tolerate_segment = [];
    tolerate_element = (ik403.TooLong ∷ []);
  };
  hl = None;
  depends = [];
  nodes = trees (
      slot 1 (codes "BEG") None 1 1 [] (row.Simple (simple (codes "353") Mandatory types.Identifier 2 2 false (Some (record {
        used =
            (codes "00" ∷ codes "05" ∷ []);
        unused = Some (codes "01" ∷ codes "04" ∷ []);
      }))) 1
      ∷ row.Simple (simple (codes "92") Mandatory types.Identifier 2 2 false (Some (record {
        used = (codes "NE" ∷ codes "SA" ∷ []);
        unused = None;
      }))) 1
      ∷ row.Simple (simple (codes "324") Mandatory types.Text 1 22 false None) 1
      ∷ row.Simple (simple (codes "328") Optional types.Text 1 30 false None) 1
      ∷ row.Simple (simple (codes "373") Mandatory types.Date 8 8 false None) 1
      ∷ [])
      []
      ∷ slot 2 (codes "REF") None 0 12 [] (row.Simple (simple (codes "128") Mandatory types.Identifier 2 3 false None) 1
      ∷ row.Simple (simple (codes "127") Optional types.Text 1 50 false None) 1
      ∷ row.Simple (simple (codes "352") Optional types.Text 1 80 false None) 1
      ∷ [])
      (record { relation = relation.Required; positions = (2 ∷ 3 ∷ []) } ∷ [])
      ∷ slot 3 (codes "DTM") None 0 10 [] (row.Simple (simple (codes "374") Mandatory types.Identifier 3 3 false None) 1
      ∷ row.Simple (simple (codes "373") Optional types.Date 8 8 false None) 1
      ∷ row.Simple (simple (codes "337") Optional types.Time 4 8 false None) 1
      ∷ [])
      (record { relation = relation.Required; positions = (2 ∷ 3 ∷ []) } ∷ [])
      ∷ loop (record { number = 4; id = codes "N9"; min = 0; max = 2 }) (trees (slot 5 (codes "N9") None 1 1 [] (row.Simple (simple
      (codes "128") Mandatory types.Identifier 2 3 false None) 1
      ∷ row.Simple (simple (codes "127") Optional types.Text 1 50 false None) 1
      ∷ [])
      []
      ∷ slot 6 (codes "MSG") None 0 10 [] (row.Simple (simple (codes "933") Mandatory types.Text 1 264 true None) 1
      ∷ [])
      []
      ∷ []))
      ∷ loop (record { number = 7; id = codes "N1"; min = 0; max = 2 }) (trees (slot 8 (codes "N1") None 1 1 [] (row.Simple (simple
      (codes "98") Mandatory types.Identifier 2 3 false (Some (record {
        used = (codes "BT" ∷ codes "ST" ∷ codes "VN" ∷ []);
        unused = None;
      }))) 1
      ∷ row.Simple (simple (codes "93") Optional types.Text 1 60 true None) 1
      ∷ row.Simple (simple (codes "66") Optional types.Identifier 1 2 false None) 1
      ∷ row.Simple (simple (codes "67") Optional types.Text 2 80 false None) 1
      ∷ [])
      (record { relation = relation.Required; positions = (2 ∷ 3 ∷ []) } ∷ record {
        relation = relation.Paired;
        positions = (3
            ∷ 4 ∷ []);
      } ∷ [])
      ∷ slot 9 (codes "N3") None 0 2 [] (row.Simple (simple (codes "166") Mandatory types.Text 1 55 true None) 1
      ∷ row.Simple (simple (codes "166") Optional types.Text 1 55 true None) 1
      ∷ [])
      []
      ∷ slot 10 (codes "N4") None 0 1 [] (row.Simple (simple (codes "19") Optional types.Text 2 30 true None) 1
      ∷ row.Simple (simple (codes "156") Optional types.Identifier 2 2 false None) 1
      ∷ row.Simple (simple (codes "116") Optional types.Identifier 3 15 false None) 1
      ∷ row.Simple (simple (codes "26") Optional types.Identifier 2 3 false None) 1
      ∷ [])
      []
      ∷ []))
      ∷ loop (record { number = 11; id = codes "PO1"; min = 1; max = 99999 }) (trees (slot 12 (codes "PO1") None 1 1 [] (row.Simple
      (simple (codes "350") Optional types.Text 1 20 false None) 1
      ∷ row.Simple (simple (codes "330") Mandatory types.Decimal 1 5 false None) 1
      ∷ row.Simple (simple (codes "355") Mandatory types.Identifier 2 2 false (Some (record {
        used = (codes "CA" ∷ codes "EA"
            ∷ []);
        unused = Some (codes "DZ" ∷ []);
      }))) 1
      ∷ row.Simple (simple (codes "212") Optional types.Decimal 1 9 false None) 1
      ∷ row.Simple (simple (codes "639") Optional types.Identifier 2 2 false None) 1
      ∷ row.Simple (simple (codes "235") Optional types.Identifier 2 2 false None) 1
      ∷ row.Simple (simple (codes "234") Optional types.Text 1 48 false None) 1
      ∷ [])
      (record { relation = relation.Conditional; positions = (5 ∷ 4 ∷ []) } ∷ record {
        relation = relation.Paired;
        positions = (6
            ∷ 7 ∷ []);
      } ∷ [])
      ∷ slot 13 (codes "PID") None 0 5 [] (row.Simple (simple (codes "349") Mandatory types.Identifier 1 1 false (Some
      (record { used = (codes "F" ∷ []); unused = None }))) 1
      ∷ row.Simple (simple (codes "750") Optional types.Identifier 2 3 false None) 1
      ∷ row.NotUsed (codes "559")
      ∷ row.NotUsed (codes "751")
      ∷ row.Simple (simple (codes "352") Optional types.Text 1 80 true None) 1
      ∷ [])
      []
      ∷ []))
      ∷ slot 14 (codes "CTT") None 0 1 [] (row.Simple (simple (codes "354") Mandatory (types.Number 0) 1 6 false None) 1
      ∷ [])
      []
      ∷ []);
}
