-- Where each set of a night is (own; X12.5, interchange; X12.6, transaction set): a row for each interchange that is refused, and of each
-- set of the others a row for each receiver of its route, or one where nobody gets it.
use Rattle.std.specs.Prelude.{ℕ, ◌+◌, List, [], ◌∷◌, ◌++◌, Option, Some, None, map, filter, slice_get, slice_index_or, codes}
use Rattle.std.specs.Prelude.{if◌then◌else◌}
use Rattle.env_index.specs.Words.{GroupEntry}
use Rattle.partner_setup.specs.declared.partner.Partner.{Partner}
use Rattle.partner_setup.specs.Setup.{SetupValue}
use Rattle.answered_sets.specs.Judged.{JudgedValue, PlacedValue, is_fa, is_refused, sets_from, sets_of, standing_at}
use Rattle.mailbox.specs.declared.outcome.Outcome.{Outcome}
use Rattle.mailbox.specs.declared.outcome.Outcome.TheVariants.{DeliveredTo, HeldForDelimiter, HeldForRoute}
use Rattle.mailbox.specs.Deliveries.{is_deliverable, is_delivered_to, outcomes}
use Rattle.track_table.specs.Notes.{no_notes}
use Rattle.track_table.specs.declared.notes.Notes.{Notes}
use Rattle.track_table.specs.declared.notes.GroupNotes.{GroupNotes}
use Rattle.track_table.specs.Cells.{column_names, delivered_end, head_cells, held_end, interchange_cells, no_set_cells, plain_end}
use Rattle.csv_fields.specs.Csv.{table_text}
use Rattle.set_documents.specs.Documents.{DocumentValue}
use Rattle.track_table.specs.Hindrance.{hindrance_to}
use Rattle.track_table.specs.Mailed.{acknowledgments_to, groups_to, mailed_behind}

-- what rows are made by: the setup, what is kept of the answers to the interchanges of the complete night, and which elements are shown
pub record TrackedBy : Type 0 where
  pub setup : SetupValue
  pub night : List Notes
  pub documents : List DocumentValue

-- what was delivered to a partner of these sets
abbrev pub delivered_of : SetupValue → (place : ℕ) → List PlacedValue → List PlacedValue
delivered_of setup place sets = filter (is_delivered_to setup place) sets

-- a set that is delivered to the partner at a place, after these sets
abbrev pub delivered_cells : TrackedBy → (before : List PlacedValue) → PlacedValue → (to : ℕ) → Option Partner → List (List ℕ)
delivered_cells by before p to None = plain_end []
delivered_cells by before p to (Some partner) =
    delivered_end partner.name
    (mailed_behind partner (acknowledgments_to to by.night) (groups_to to by.night) (delivered_of by.setup to before) p)

abbrev pub held_cells : SetupValue → PlacedValue → (to : ℕ) → Option Partner → List (List ℕ)
held_cells setup p to None = plain_end []
held_cells setup p to (Some partner) = held_end partner.name (hindrance_to partner.delims p)

-- what became of a set after these, for a receiver
abbrev pub outcome_cells : TrackedBy → (before : List PlacedValue) → PlacedValue → Outcome → List (List ℕ)
outcome_cells by before p (DeliveredTo to) = delivered_cells by before p to (slice_get by.setup.partners to)
outcome_cells by before p (HeldForDelimiter to) = held_cells by.setup p to (slice_get by.setup.partners to)
outcome_cells by before p HeldForRoute = plain_end (codes "held route")

-- a set that nobody may get: one of a group of acknowledgments is listed, any other is rejected
abbrev pub other_end : PlacedValue → List (List ℕ)
other_end p = if is_fa p.group then plain_end (codes "listed") else plain_end (codes "rejected")

abbrev pub ends_of : TrackedBy → (before : List PlacedValue) → PlacedValue → List (List (List ℕ))
ends_of by before p = if is_deliverable p then map (outcome_cells by before p) (outcomes by.setup p) else other_end p ∷ []

-- the rows of a set of interchange n after these sets
abbrev pub set_rows : TrackedBy → (n : ℕ) → (before : List PlacedValue) → PlacedValue → GroupNotes → List (List (List ℕ))
set_rows by n before p notes = map (λ end. head_cells by.setup by.documents n p notes ++ end) (ends_of by before p)

-- those of sets with these notes of their group, one after the other
abbrev pub sets_rows : TrackedBy → (n : ℕ) → (before : List PlacedValue) → GroupNotes → List PlacedValue → List (List (List ℕ))
sets_rows by n before notes [] = []
sets_rows by n before notes (p ∷ ps) = set_rows by n before p notes ++ sets_rows by n (before ++ p ∷ []) notes ps

abbrev pub notes_at : List GroupNotes → ℕ → GroupNotes
notes_at notes k = slice_index_or notes k no_notes

abbrev pub sets_at : JudgedValue → (k : ℕ) → GroupEntry → List PlacedValue
sets_at x k group = sets_from x group (standing_at x.standings k) 0 group.sets

-- those of groups with these notes, the first of them having number k, counted from 0
abbrev pub groups_rows : TrackedBy → (n : ℕ) → (before : List PlacedValue) → JudgedValue → List GroupNotes → (k : ℕ) → List GroupEntry
    → List (List (List ℕ))
groups_rows by n before x notes k [] = []
groups_rows by n before x notes k (group ∷ groups) =
    sets_rows by n before (notes_at notes k) (sets_at x k group)
    ++ groups_rows by n (before ++ sets_at x k group) x notes (k + 1) groups

-- one row of an interchange that is refused
abbrev pub refused_row : TrackedBy → (n : ℕ) → JudgedValue → List (List ℕ)
refused_row by n x = interchange_cells by.setup n x ++ (no_set_cells ++ plain_end (codes "refused"))

abbrev pub interchange_rows : TrackedBy → (n : ℕ) → (before : List PlacedValue) → JudgedValue → Notes → List (List (List ℕ))
interchange_rows by n before x notes =
    if is_refused x then refused_row by n x ∷ [] else groups_rows by n before x notes.groups 0 x.interchange.content.groups

-- interchanges with these notes, the first of them being interchange n
abbrev pub rows_from : TrackedBy → (n : ℕ) → (before : List PlacedValue) → List JudgedValue → List Notes → List (List (List ℕ))
rows_from by n before [] notes = []
rows_from by n before (x ∷ xs) [] = []
rows_from by n before (x ∷ xs) (m ∷ ms) = interchange_rows by n before x m ++ rows_from by (n + 1) (before ++ sets_of x) xs ms

-- the whole table, with the names of the fields
abbrev pub track_text : TrackedBy → List JudgedValue → List ℕ
track_text by xs = table_text (column_names ∷ rows_from by 1 [] xs by.night)
