-- X12.6, functional group header (GS) and trailer (GE) of a group that is sent.
use Rattle.std.specs.Prelude.{ℕ, List, [], ◌∷◌, ◌++◌, length, codes, decimal}
use Rattle.std.specs.List.{flat_map}
use Rattle.x12_bytes.specs.declared.delims.Delims.{Delims}
use Rattle.moment.specs.Moment.{date_of, time_of}
use Rattle.x12_write.specs.declared.group.GroupHeader.{GroupHeader}
use Rattle.x12_write.specs.Segment.{segment_text}

-- GS: GS07 is X, a standard of X12 (own)
abbrev pub group_header_text : Delims → List ℕ → GroupHeader → List ℕ
group_header_text d at g =
    segment_text d (codes "GS")
    (g.functional_id ∷ g.sender ∷ g.receiver ∷ date_of at ∷ time_of at ∷ decimal g.control ∷ codes "X" ∷ g.version ∷ [])

-- GE: the number of transaction sets, and the group's number
abbrev pub group_trailer_text : Delims → ℕ → ℕ → List ℕ
group_trailer_text d sets control = segment_text d (codes "GE") (decimal sets ∷ decimal control ∷ [])

-- texts, one after the other
abbrev pub texts_in_row : List (List ℕ) → List ℕ
texts_in_row texts = flat_map (λ text. text) texts

-- a group of transaction sets, each given by its text; GS06 and GE02 are one number
abbrev pub group_text : Delims → List ℕ → GroupHeader → List (List ℕ) → List ℕ
group_text d at g sets =
    group_header_text d at g ++ texts_in_row sets ++ group_trailer_text d (length sets) g.control
