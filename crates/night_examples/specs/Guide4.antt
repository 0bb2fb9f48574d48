-- The guide OLD of worked nights.
use Rattle.std.specs.Prelude.{false, [], ◌∷◌, codes, Some, None}
use Rattle.guide_tree.specs.Tree.{GuideTree}
use Rattle.guide_tree.specs.declared.element.Requirement.TheVariants.{Mandatory, Optional}
use Rattle.guide_tree.specs.declared.element.ElementType.TheVariants as types
use Rattle.guide_tree.specs.declared.element.Element.TheVariants as row
use Rattle.night_examples.specs.GuideRows.{simple, slot, trees}

abbrev pub guide_4 : GuideTree
guide_4 = record {
  head = record {
    name = codes "OLD";
    group = codes "PO";
    set = codes "850";
    version = codes "004010";
    convention = None;
    dictionary = [];
    tolerate_segment = [];
    tolerate_element = [];
  };
  hl = None;
  depends = [];
  nodes = trees (
      slot 1 (codes "BEG") None 1 1 [] (row.Simple (simple (codes "353") Mandatory types.Identifier 2 2 false (Some (record {
        used =
            (codes "00" ∷ []);
        unused = None;
      }))) 1
      ∷ row.Simple (simple (codes "92") Mandatory types.Identifier 2 2 false None) 1
      ∷ row.Simple (simple (codes "324") Mandatory types.Text 1 22 false None) 2
      ∷ [])
      []
      ∷ slot 2 (codes "DTM") None 0 2 [] (row.Simple (simple (codes "374") Mandatory types.Identifier 3 3 false None) 1
      ∷ row.Simple (simple (codes "373") Optional types.Date 8 8 false None) 1
      ∷ row.Simple (simple (codes "337") Optional types.Time 4 8 false None) 1
      ∷ [])
      []
      ∷ []);
}
