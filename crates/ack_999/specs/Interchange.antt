-- X12.5, interchange control, and X12.6, functional group: the interchange that acknowledgments are sent in.
-- That it has at most one group, which holds all its 999s, is own.
use Rattle.std.specs.Prelude.{ℕ, List, [], ◌∷◌, ◌++◌, true, Option, Some, None, is_some, codes, IsTrue}
use Rattle.x12_write.specs.declared.envelope.Envelope.{Envelope}
use Rattle.x12_write.specs.declared.group.GroupHeader.{GroupHeader}
use Rattle.x12_write.specs.Header.{header_text}
use Rattle.x12_write.specs.Group.{group_text}
use Rattle.x12_write.specs.Trailer.{trailer_text}

-- the group that 999s are in: FA, from the hub's code to the partner's
abbrev pub acknowledging_group : Envelope → (control : ℕ) → GroupHeader
acknowledging_group e control = record {
  functional_id = codes "FA";
  sender = e.hub_code;
  receiver = e.partner_code;
  control = control;
  version = codes "005010X231";
}

-- a TA1, where there is one
abbrev pub ta1_part : Option (List ℕ) → List ℕ
ta1_part None = []
ta1_part (Some ta1) = ta1

-- the group of these 999s, where there are any
abbrev pub group_part : Envelope → (at : List ℕ) → (control : ℕ) → List (List ℕ) → List ℕ
group_part e at control [] = []
group_part e at control (report ∷ reports) = group_text e.delims at (acknowledging_group e control) (report ∷ reports)

-- how many groups that are
abbrev pub group_count : List (List ℕ) → ℕ
group_count [] = 0
group_count (report ∷ reports) = 1

-- an interchange with a TA1, or 999s, or both
abbrev pub interchange_text : Envelope → (at : List ℕ) → (number control : ℕ) → (ta1 : Option (List ℕ)) → List (List ℕ) → List ℕ
interchange_text e at number control ta1 reports =
    header_text e at number ++ ta1_part ta1 ++ group_part e at control reports ++ trailer_text e.delims (group_count reports) number

-- not both are absent
abbrev pub HasContent : (ta1 : Option (List ℕ)) → List (List ℕ) → Type 0
HasContent ta1 [] = IsTrue (is_some ta1)
HasContent ta1 (report ∷ reports) = IsTrue true
