-- own: the table that says where each set of a night is (RFC 4180): a row for each refused interchange, and for each set of the others a
-- row for each receiver of its route, or one if nobody gets it.
use Rattle.std.specs.Prelude.{ℕ, ◌+◌, List, [], ◌∷◌, ◌++◌, if◌then◌else◌, codes, filter, flat_map, is_some, map, slice_get}
use Rattle.std.specs.Option.{option_map_or}
use Rattle.std.specs.List.{list_any}
use Rattle.partner_setup.specs.declared.partner.Partner.{Partner}
use Rattle.csv_fields.specs.Csv.{table_text}
use Rattle.csv_fields.specs.Columns.{column_names}
use Rattle.set_documents.specs.Documents.{DocumentValue}
use Rattle.night_definition.specs.Setup.{Setup}
use Rattle.night_definition.specs.Answers.{Answer, AnsweredGroup, Answered}
use Rattle.night_definition.specs.Deliveries.{Sent, Outcome, delivered, held_for_delimiter, held_for_route, is_deliverable, is_delivered_to}
use Rattle.night_definition.specs.Deliveries.{outcomes, sent}
use Rattle.night_definition.specs.Night.{answered_text}
use Rattle.track_definition.specs.Columns.{no_set_cells, plain_end}
use Rattle.track_definition.specs.Hindrance.{hindrance_to}
use Rattle.track_definition.specs.Cells.{delivered_cells, group_cells, held_cells, interchange_cells, set_cells}

-- a set with its group
abbrev pub Placed : Type 0
Placed = AnsweredGroup × Sent

abbrev pub sets_in : Answered → AnsweredGroup → List Placed
sets_in x g = map (λ (a : Answer). (g, sent x g a)) g.answers

abbrev pub all_sets_in : Answered → List Placed
all_sets_in x = flat_map (sets_in x) x.groups

-- those of sets that a partner gets
abbrev pub delivered_of : Setup → (place : ℕ) → List Placed → List Sent
delivered_of setup place sets =
    map (λ (x : Placed). x.1) (filter (λ (x : Placed). list_any (is_delivered_to place) (outcomes setup x.0 x.1)) sets)

-- of a setup, the elements that are shown as numbers of documents, and the night
module _ (setup : Setup) (documents : List DocumentValue) (night : List Answered) where
  -- the outcome of a set after these, for a receiver
  abbrev pub outcome_cells : (before : List Placed) → Sent → Outcome → List (List ℕ)
  outcome_cells before s (delivered to) =
      option_map_or (λ (p : Partner). delivered_cells night to p (delivered_of setup to before) s) (slice_get setup.partners to)
      (plain_end [])
  outcome_cells before s (held_for_delimiter to) =
      option_map_or (λ (p : Partner). held_cells p.name (hindrance_to p.delims s)) (slice_get setup.partners to) (plain_end [])
  outcome_cells before s held_for_route = plain_end (codes "held route")

  -- a set that nobody may get is listed if its group is of acknowledgments, and else rejected
  abbrev pub ends_of : (before : List Placed) → AnsweredGroup → Sent → List (List (List ℕ))
  ends_of before g s =
      if is_deliverable g s.answer then map (outcome_cells before s) (outcomes setup g s)
      else plain_end (if g.is_fa then codes "listed" else codes "rejected") ∷ []

  -- the rows of a set of interchange n after these sets
  abbrev pub set_rows : (n : ℕ) → (before : List Placed) → Answered → AnsweredGroup → Answer → List (List (List ℕ))
  set_rows n before x g a =
      map (λ end. ((interchange_cells setup n x.judged ++ group_cells g) ++ set_cells documents g a) ++ end)
      (ends_of before g (sent x g a))

  abbrev pub sets_rows : (n : ℕ) → (before : List Placed) → Answered → AnsweredGroup → List Answer → List (List (List ℕ))
  sets_rows n before x g [] = []
  sets_rows n before x g (a ∷ answers) = set_rows n before x g a ++ sets_rows n (before ++ (g, sent x g a) ∷ []) x g answers

  abbrev pub groups_rows : (n : ℕ) → (before : List Placed) → Answered → List AnsweredGroup → List (List (List ℕ))
  groups_rows n before x [] = []
  groups_rows n before x (g ∷ groups) = sets_rows n before x g g.answers ++ groups_rows n (before ++ sets_in x g) x groups

  abbrev pub refused_row : (n : ℕ) → Answered → List (List ℕ)
  refused_row n x = interchange_cells setup n x.judged ++ (no_set_cells ++ plain_end (codes "refused"))

  abbrev pub interchange_rows : (n : ℕ) → (before : List Placed) → Answered → List (List (List ℕ))
  interchange_rows n before x =
      if is_some x.judged.fault then refused_row n x ∷ [] else groups_rows n before x x.groups

  -- the rows of interchanges, of which the first is interchange n
  abbrev pub rows_from : (n : ℕ) → (before : List Placed) → List Answered → List (List (List ℕ))
  rows_from n before [] = []
  rows_from n before (x ∷ xs) = interchange_rows n before x ++ rows_from (n + 1) (before ++ all_sets_in x) xs

-- the table of the night of a text, with the names of the fields
abbrev pub table_of : (text : List ℕ) → Setup → List DocumentValue → List ℕ
table_of text setup documents =
    let night = answered_text text setup in
    table_text (column_names ∷ rows_from setup documents night 1 [] night)
