-- 999 guide (005010X231) and X12.5, interchange acknowledgment (TA1) and interchange control: what an interchange is acknowledged with.
use Rattle.std.specs.Prelude.{ℕ, ◌+◌, Bool, true, false, ◌||◌, List, [], ◌∷◌, Option, Some, None, is_some, option_map}
use Rattle.std.specs.Prelude.{if◌then◌else◌}
use Rattle.x12_bytes.specs.declared.delims.Delims.{Delims}
use Rattle.x12_write.specs.declared.envelope.Envelope.{Envelope}
use Rattle.ack_999.specs.Interchange.{interchange_text}
use Rattle.ack_999.specs.Report.{text_999}
use Rattle.ack_999.specs.Ta1.{ta1_text}
use Rattle.set_answers.specs.declared.answered.AnsweredGroup.{AnsweredGroup}

-- two parts: the note of a TA1 (X12.5, TA105), where the interchange is answered with one, beside the header that the TA1 repeats; and
-- the answers to its groups, each of which is reported by a 999
pub record Acknowledgment : Type 0 where
  pub header : List ℕ
  pub note : Option (List ℕ)
  pub groups : List (Option AnsweredGroup)

-- the groups that something is answered to
abbrev pub present : List (Option AnsweredGroup) → List AnsweredGroup
present [] = []
present (None ∷ xs) = present xs
present (Some x ∷ xs) = x ∷ present xs

abbrev pub has_any : List AnsweredGroup → Bool
has_any [] = false
has_any (x ∷ xs) = true

-- there is a 999
abbrev pub has_reports : Acknowledgment → Bool
has_reports a = has_any (present a.groups)

-- how many groups it has: that of its 999s, if there are any
abbrev pub acknowledgment_group_count : Acknowledgment → ℕ
acknowledgment_group_count a = if has_reports a then 1 else 0

-- there is a TA1, or a 999
abbrev pub is_there : Acknowledgment → Bool
is_there a = is_some a.note || has_reports a

-- a 999 for each, the first of them as number n
abbrev pub reports_from : Delims → (n : ℕ) → List AnsweredGroup → List (List ℕ)
reports_from d n [] = []
reports_from d n (x ∷ xs) = text_999 d x.answer x.sets n ∷ reports_from d (n + 1) xs

-- the TA1
abbrev pub ta1_of : Delims → Acknowledgment → Option (List ℕ)
ta1_of d a = option_map (ta1_text d a.header) a.note

-- an interchange with the TA1, if there is one, and the 999s in one group, if there are any
abbrev pub acknowledgment_text : Envelope → (at : List ℕ) → (number control : ℕ) → Acknowledgment → List ℕ
acknowledgment_text e at number control a =
    interchange_text e at number control (ta1_of e.delims a) (reports_from e.delims 1 (present a.groups))
