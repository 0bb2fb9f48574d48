-- The guide G2 of worked nights.
use Rattle.std.specs.Prelude.{[], ◌∷◌, codes, Some, None}
use Rattle.guide_tree.specs.Tree.{GuideTree}
use Rattle.guide_tree.specs.declared.rows.DependencyKind.TheVariants as depends
use Rattle.guide_tree.specs.declared.element.Element.TheVariants as row
use Rattle.hub_kinds.specs.declared.codes.ElementCode.TheVariants as ik403
use Rattle.night_examples.specs.GuideRows.{slot, trees}

abbrev pub guide_22 : GuideTree
guide_22 = record {
  head = record {
    name = codes "G2";
    group = codes "PO";
    set = codes "856";
    version = codes "005010";
    convention = None;
    dictionary = [];
    tolerate_segment = [];
    tolerate_element = (ik403.TooManyComponents ∷ ik403.InvalidTime ∷ ik403.DependentNotUsedPresent ∷ ik403.CodeNotUsed
        ∷ ik403.TooManyElements ∷ ik403.TooManyRepetitions ∷ ik403.TooShort ∷ []);
  };
  hl = None;
  depends = (record {
    kind = depends.Need;
    slot = codes "L1";
    at = 2;
    codes = (codes "CC" ∷ codes "A" ∷ codes "1" ∷ []);
    target = codes "L1";
    element = 0;
  } ∷ []);
  nodes = trees (
      slot 1 (codes "REF") (Some (codes "L1")) 2 2 [] (row.NotUsed ([])
      ∷ row.NotUsed (codes "4373")
      ∷ [])
      []
      ∷ []);
}
