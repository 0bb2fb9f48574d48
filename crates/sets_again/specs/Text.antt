-- The sets that go in again, as an interchange (X12.5, interchange; X12.6, functional group): each as it stands in the input, in its group,
-- and under the header of its interchange. GE01 and IEA01 are counted anew.
use Rattle.std.specs.Prelude.{ℕ, ◌+◌, Bool, true, false, List, [], ◌∷◌, ◌++◌, codes, cond}
use Rattle.std.specs.Prelude.{decimal, drop, if◌then◌else◌, length, slice_range, take}
use Rattle.std.specs.List.{count_by, flat_map, list_any}
use Rattle.x12_bytes.specs.Header.{field_of, header_at, header_delims}
use Rattle.x12_bytes.specs.declared.delims.Delims.{Delims}
use Rattle.x12_segs.specs.Words.{SegValue, element_of}
use Rattle.env_index.specs.Interchange.{InterchangeEntry}
use Rattle.env_index.specs.Summary.{GroupEntry}
use Rattle.env_index.specs.declared.entry.SetEnvelope.{SetEnvelope}

-- the set's bytes in the input, from its ST to just after its last segment
abbrev pub set_bytes : (text : List ℕ) → SetEnvelope → List ℕ
set_bytes text set = slice_range text set.header.start set.end

-- the bytes of the sets that are chosen
abbrev pub chosen_sets : (text : List ℕ) → List SetEnvelope → (chosen : List Bool) → List ℕ
chosen_sets text [] chosen = []
chosen_sets text (set ∷ sets) [] = []
chosen_sets text (set ∷ sets) (is ∷ chosen) = (if is then set_bytes text set else []) ++ chosen_sets text sets chosen

abbrev pub has_any : (chosen : List Bool) → Bool
has_any chosen = list_any (λ is. is) chosen

abbrev pub count_of : (chosen : List Bool) → ℕ
count_of chosen = count_by (λ is. is) chosen

-- ID * COUNT * NUMBER, and the terminator
abbrev pub trailer_text : Delims → (id : List ℕ) → (count : ℕ) → (number : List ℕ) → List ℕ
trailer_text d id count number =
    (id ++ (d.element ∷ [])) ++ ((decimal count ++ (d.element ∷ [])) ++ (number ++ (d.terminator ∷ [])))

abbrev pub group_header : Delims → GroupEntry → List ℕ
group_header d g = g.header.bytes ++ (d.terminator ∷ [])

-- a group with its chosen sets
abbrev pub group_text : (text : List ℕ) → Delims → GroupEntry → (chosen : List Bool) → List ℕ
group_text text d g chosen =
    group_header d g
    ++ (chosen_sets text g.sets chosen ++ trailer_text d (codes "GE") (count_of chosen) (element_of g.header 6))

-- of a group without a chosen set there is nothing
abbrev pub group_part : (text : List ℕ) → Delims → GroupEntry → (chosen : List Bool) → List ℕ
group_part text d g chosen = if has_any chosen then group_text text d g chosen else []

abbrev pub groups_text : (text : List ℕ) → Delims → List GroupEntry → (chosen : List Bool) → List ℕ
groups_text text d [] chosen = []
groups_text text d (g ∷ groups) chosen =
    group_part text d g (take (length g.sets) chosen) ++ groups_text text d groups (drop (length g.sets) chosen)

-- how many groups have a chosen set
abbrev pub groups_count : List GroupEntry → (chosen : List Bool) → ℕ
groups_count [] chosen = 0
groups_count (g ∷ groups) chosen =
    cond (has_any (take (length g.sets) chosen)) 1 0 + groups_count groups (drop (length g.sets) chosen)

-- an interchange with its chosen sets
abbrev pub interchange_text : (text : List ℕ) → InterchangeEntry → (chosen : List Bool) → List ℕ
interchange_text text x chosen =
    let d = header_delims x.header in
    header_at text x.start
    ++ (groups_text text d x.content.groups chosen
    ++ trailer_text d (codes "IEA") (groups_count x.content.groups chosen) (field_of x.header 13))

-- of an interchange without a chosen set there is nothing
abbrev pub interchange_part : (text : List ℕ) → InterchangeEntry → (chosen : List Bool) → List ℕ
interchange_part text x chosen = if has_any chosen then interchange_text text x chosen else []
