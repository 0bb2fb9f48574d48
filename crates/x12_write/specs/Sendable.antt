-- X12.5, interchange control header (ISA): which envelopes give a header that is read again, and as what.
use Rattle.std.specs.Prelude.{ℕ, ◌≡◌, ◌≢◌, ◌-◌, ◌≤◌, ◌==◌, not, ◌&&◌, ◌||◌, if◌then◌else◌, IsTrue, Option, Some, None}
use Rattle.std.specs.Prelude.{List, [], ◌∷◌, ◌++◌, length, slice_index_or}
use Rattle.x12_bytes.specs.Bytes.{may_separate, may_terminate}
use Rattle.x12_bytes.specs.Header.{Head, header_at, field_of, header_delims}
use Rattle.x12_write.specs.declared.envelope.Envelope.{Envelope}
use Rattle.x12_write.specs.Header.{header_elements}
use Rattle.x12_write.specs.Undivided.{IsUndivided}

-- ISA11 separates repetitions where it may separate and is none of the other three
abbrev pub repetition_shown : Envelope → Option ℕ
repetition_shown e =
    if may_separate e.repetition && not
    (e.repetition == e.delims.element || e.repetition == e.delims.component || e.repetition == e.delims.terminator)
    then Some e.repetition else None

-- three delimiters that may delimit and differ; qualifiers of two bytes, ids of at most fifteen; none of them, nor ISA11 or ISA15,
-- holds the element separator or the terminator; ISA11 says how repetitions are separated
pub record IsSendable (e : Envelope) : Type 0 where
  pub element_allowed : IsTrue (may_separate e.delims.element)
  pub component_allowed : IsTrue (may_separate e.delims.component)
  pub terminator_allowed : IsTrue (may_terminate e.delims.terminator)
  pub element_not_component : e.delims.element ≢ e.delims.component
  pub element_not_terminator : e.delims.element ≢ e.delims.terminator
  pub component_not_terminator : e.delims.component ≢ e.delims.terminator
  pub hub_qualifier_len : length e.hub_qualifier ≡ 2
  pub hub_qualifier : IsUndivided e.delims e.hub_qualifier
  pub hub_id_len : length e.hub_id ≤ 15
  pub hub_id : IsUndivided e.delims e.hub_id
  pub partner_qualifier_len : length e.partner_qualifier ≡ 2
  pub partner_qualifier : IsUndivided e.delims e.partner_qualifier
  pub partner_id_len : length e.partner_id ≤ 15
  pub partner_id : IsUndivided e.delims e.partner_id
  pub usage : IsUndivided e.delims (e.usage ∷ [])
  pub repetition : IsUndivided e.delims (e.repetition ∷ [])
  pub repetition_separates : e.delims.repetition ≡ repetition_shown e

-- at this place of a text a header begins that names these delimiters, and whose fields are the elements that were written
pub record IsReadAs (e : Envelope) (at : List ℕ) (number : ℕ) (text : List ℕ) (place : ℕ) : Type 0 where
  pub head : Head text place
  pub delims : header_delims (header_at text place) ≡ e.delims
  pub fields : (k : ℕ) → 1 ≤ k → k ≤ 16 → field_of (header_at text place) k ≡ slice_index_or (header_elements e at number) (k - 1) []

-- so does what begins with the header of a sendable envelope, whatever is after it, where its number has up to nine digits
abbrev pub BeginsWithHeader : Envelope → List ℕ → ℕ → List ℕ → ℕ → Type 0
BeginsWithHeader e at number text place =
    IsSendable e → number ≤ 999999999 → (behind : List ℕ) → IsReadAs e at number (text ++ behind) place
