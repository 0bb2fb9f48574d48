-- own: what it means that a guide takes a sample file: each set in it is one for the guide and meets it.
use Rattle.std.specs.Prelude.{◌≡◌, ℕ, Bool, true, IsTrue, List, Option, Some, None, bytes_eq}
use Rattle.std.specs.Option.{option_map_or}
use Rattle.std.specs.List.{All, Any}
use Rattle.x12_bytes.specs.declared.delims.Delims.{Delims}
use Rattle.guide_tree.specs.Tree.{GuideTree}
use Rattle.hub_kinds.specs.declared.interchange.InterchangeFault.{InterchangeFault}
use Rattle.hub_kinds.specs.declared.interchange.InterchangeFault.TheVariants.{TrailerMissing}
use Rattle.night_definition.specs.Segments.{Segment, element}
use Rattle.night_definition.specs.Envelopes.{Group, Set}
use Rattle.night_definition.specs.Interchanges.{Interchange, text_of}
use Rattle.night_definition.specs.Setup.{fault_by}
use Rattle.night_definition.specs.Sets.{MeetsAlone}

-- the least of the faults 1 to 7 of an interchange, which need no setup; by its IEA
abbrev pub envelope_fault : Interchange → Option InterchangeFault
envelope_fault x = by x.content.iea where
  by : Option Segment → Option InterchangeFault
  by None = Some TrailerMissing
  by (Some iea) = fault_by x iea.elements

-- a set is asked for: all are, or those with one ST01
abbrev pub is_asked : (st01 : Option (List ℕ)) → Set → Bool
is_asked st01 set = option_map_or (λ id. bytes_eq (element 1 set.header.elements) id) st01 true

-- a set of a group is one for the guide, by GS01, GS08 and ST01, and meets it
pub record IsTaken (guide : GuideTree) (d : Delims) (group : Group) (set : Set) : Type 0 where
  pub group_id : element 1 group.header.elements ≡ guide.head.group
  pub version : element 8 group.header.elements ≡ guide.head.version
  pub set_id : element 1 set.header.elements ≡ guide.head.set
  pub meets : MeetsAlone (Some guide) d set

-- a guide takes each set of a group that is asked for
abbrev pub TakesGroup : GuideTree → (st01 : Option (List ℕ)) → Delims → Group → Type 0
TakesGroup guide st01 d group = All (λ set. IsTrue (is_asked st01 set) → IsTaken guide d group set) group.sets

-- a guide takes each set of an interchange that is asked for, unless the interchange has one of the faults 1 to 7
abbrev pub TakesInterchange : GuideTree → (st01 : Option (List ℕ)) → Interchange → Type 0
TakesInterchange guide st01 x = envelope_fault x ≡ None → All (TakesGroup guide st01 x.delims) x.content.groups

-- a guide takes a text: each set of it that is asked for, but for those of interchanges with one of the faults 1 to 7
abbrev pub TakesText : GuideTree → (st01 : Option (List ℕ)) → (text : List ℕ) → Type 0
TakesText guide st01 text = All (TakesInterchange guide st01) (text_of text).interchanges

-- a group has a set that is asked for
abbrev pub GroupHasSet : (st01 : Option (List ℕ)) → Group → Type 0
GroupHasSet st01 group = Any (λ set. IsTrue (is_asked st01 set)) group.sets

-- an interchange has none of the faults 1 to 7, and a set that is asked for
abbrev pub InterchangeHasSet : (st01 : Option (List ℕ)) → Interchange → Type 0
InterchangeHasSet st01 x = (envelope_fault x ≡ None) × Any (GroupHasSet st01) x.content.groups

-- a text has a set that is asked for, in an interchange without one of the faults 1 to 7
abbrev pub HasSet : (st01 : Option (List ℕ)) → (text : List ℕ) → Type 0
HasSet st01 text = Any (InterchangeHasSet st01) (text_of text).interchanges
