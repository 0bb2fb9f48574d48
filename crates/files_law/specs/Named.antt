-- Which sets the rows of a table say are delivered to a partner, and by which numbers (own; X12.5, ISA13; X12.6, GS06 and ST02).
use Rattle.std.specs.Prelude.{◌≡◌, ℕ, ◌==◌, Bool, false, ◌&&◌, List, [], ◌∷◌, ◌++◌, map, drop, Option, Some, None, codes}
use Rattle.std.specs.Prelude.{if◌then◌else◌}
use Rattle.std.specs.Str.{bytes_eq}
use Rattle.partner_setup.specs.declared.partner.Partner.{Partner}
use Rattle.partner_setup.specs.Setup.{SetupValue}
use Rattle.answered_sets.specs.Judged.{PlacedValue}
use Rattle.set_answers.specs.CheckedText.{CheckedInterchange}
use Rattle.set_answers.specs.Pairs.{AreAllPairs}
use Rattle.night_batches.specs.Night.{IsKnown, judgements, sets_to}
use Rattle.csv_fields.specs.Csv.{table_text}
use Rattle.csv_fields.specs.declared.columns.TheConstants.{RECEIVER_ISA13}
use Rattle.track_table.specs.Cells.{column_names}
use Rattle.track_table.specs.declared.track.Track.{Track}
use Rattle.files_law.specs.Entries.{AreRowsOf, Entry, Row, entries_from, outcome_in}
use Rattle.files_law.specs.Entries.{OfRefused, OfSet}
use Rattle.files_law.specs.Found.{found_in, numbers_of}

-- a set, and the last three fields of its row
pub record Delivery : Type 0 where
  pub set : PlacedValue
  pub numbers : List (List ℕ)

abbrev pub is_place : (place : ℕ) → Option ℕ → Bool
is_place place None = false
is_place place (Some to) = to == place

-- what a row says that is delivered to the partner at a place
abbrev pub delivery_of : (place : ℕ) → Row → Entry → List Delivery
delivery_of place row (OfRefused n x) = []
delivery_of place row (OfSet n p receiver) =
    if is_place place receiver && bytes_eq (outcome_in row) (codes "delivered") then
    record { set = p; numbers = drop RECEIVER_ISA13 row } ∷ []
    else []

abbrev pub deliveries_to : (place : ℕ) → List Row → List Entry → List Delivery
deliveries_to place [] es = []
deliveries_to place (row ∷ rows) [] = []
deliveries_to place (row ∷ rows) (e ∷ es) = delivery_of place row e ++ deliveries_to place rows es

-- the sets of a mailbox are, in their order, those that rows say are delivered to the partner, one row for each; and their numbers are
-- those under which the partner finds the sets there
pub record IsNamedBy (rows : List Row) (entries : List Entry) (place : ℕ) (partner : Partner) (delivered : List PlacedValue)
    (box : List ℕ) : Type 0 where
  pub sets : map (λ delivery. delivery.set) (deliveries_to place rows entries) ≡ delivered
  pub numbers : map (λ delivery. delivery.numbers) (deliveries_to place rows entries) ≡ map numbers_of (found_in partner.delims box)

-- that is so of each mailbox of a night
pub record NamesWhatIsFound (text : List ℕ) (setup : SetupValue) (track : Track) (boxes : List (List ℕ)) : Type 0 where
  pub known : List CheckedInterchange
  pub outside : ℕ
  pub is_known : IsKnown text setup known outside
  pub rows : List Row
  pub table : track.table ≡ table_text (column_names ∷ rows)
  pub are : AreRowsOf setup rows (entries_from setup 1 (judgements text known))
  pub each : AreAllPairs (λ place partner box. IsNamedBy rows (entries_from setup 1 (judgements text known)) place partner
      (sets_to text setup known place) box) setup.partners boxes
