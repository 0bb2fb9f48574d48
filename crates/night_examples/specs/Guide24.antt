-- The guide G0 of worked nights.
use Rattle.std.specs.Prelude.{true, false, [], ◌∷◌, codes, Some, None}
use Rattle.guide_tree.specs.Tree.{GuideTree}
use Rattle.guide_tree.specs.declared.element.Requirement.TheVariants.{Mandatory, Optional}
use Rattle.guide_tree.specs.declared.element.ElementType.TheVariants as types
use Rattle.guide_tree.specs.declared.element.Element.TheVariants as row
use Rattle.guide_tree.specs.declared.element.Component.TheVariants as part
use Rattle.hub_kinds.specs.declared.codes.ElementCode.TheVariants as ik403
use Rattle.hub_kinds.specs.declared.codes.SegmentCode.TheVariants as ik304
use Rattle.night_examples.specs.GuideRows.{simple, slot, trees}

abbrev pub guide_24 : GuideTree
guide_24 = record {
  head = record {
    name = codes "G0";
    group = codes "SH";
    set = codes "850";
    version = codes "005010";
    convention = None;
    dictionary = (codes "ZZ1" ∷ codes "REF" ∷ []);
    tolerate_segment = (ik304.NotInSet ∷ ik304.DependentNotUsedPresent ∷ []);
    tolerate_element = (ik403.ExclusionViolated ∷ ik403.TooShort ∷ ik403.InvalidDate ∷ ik403.TooManyComponents ∷ []);
  };
  hl = Some (record {
    pairs = (record { parent = Some (codes "B"); child = codes "A" } ∷ record { parent = None; child = codes "A" }
        ∷ record { parent = None; child = codes "B" } ∷ record { parent = Some (codes "B"); child = codes "CC" } ∷ []);
    sequential = false;
  });
  depends = [];
  nodes = trees (
      slot 1 (codes "BB") None 0 99 (record { position = 1; codes = (codes "A" ∷ []) } ∷ []) (row.Simple (simple
      ([]) Optional types.Identifier 2 5 false (Some (record { used = (codes "02" ∷ []); unused = Some (codes "Q" ∷ []) }))) 2
      ∷ [])
      []
      ∷ slot 2 (codes "HL") None 0 2 [] (row.Simple (simple (codes "8116") Mandatory types.Identifier 1 1 true None) 1
      ∷ row.Simple (simple (codes "15") Mandatory types.Decimal 3 4 false None) 1
      ∷ row.Simple (simple (codes "31") Optional types.Text 1 3 false None) 1
      ∷ row.Simple (simple (codes "225") Optional types.Text 1 3 false None) 1
      ∷ [])
      []
      ∷ slot 3 (codes "N1") None 0 99 [] (row.Simple (simple (codes "8008") Optional types.Time 4 8 true None) 1
      ∷ row.Composite (record {
        reference = [];
        requirement = Optional;
        repeat = 1;
        components = (part.Simple (simple
            (codes "5554") Optional types.Time 4 4 false None) ∷ part.Simple (simple
            (codes "668") Mandatory types.Decimal 1 3 false None) ∷ []);
      })
      ∷ [])
      []
      ∷ []);
}
