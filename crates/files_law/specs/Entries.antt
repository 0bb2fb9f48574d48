-- Whose the rows of a table are (own; X12.5, interchange; X12.6, transaction set), and what a row says of that.
use Rattle.std.specs.Prelude.{◌≡◌, ◌⊎◌, ℕ, ◌+◌, List, [], ◌∷◌, ◌++◌, map, length, Option, Some, None, codes, decimal, slice_get}
use Rattle.std.specs.Prelude.{slice_index_or, if◌then◌else◌}
use Rattle.std.specs.List.{flat_map}
use Rattle.csv_fields.specs.declared.columns.TheConstants as column
use Rattle.x12_bytes.specs.Header.{field_of}
use Rattle.x12_segs.specs.Words.{element_of}
use Rattle.partner_setup.specs.declared.partner.Partner.{Partner}
use Rattle.partner_setup.specs.Setup.{SetupValue}
use Rattle.answered_sets.specs.Judged.{JudgedValue, PlacedValue, is_refused, sets_of}
use Rattle.mailbox.specs.Accounted.{receivers_of}
use Rattle.mailbox.specs.Deliveries.{is_deliverable}
use Rattle.set_answers.specs.CheckedText.{CheckedInterchange}
use Rattle.night_batches.specs.Night.{IsKnown, judgements}
use Rattle.csv_fields.specs.Csv.{table_text}
use Rattle.track_table.specs.Cells.{column_names}
use Rattle.track_table.specs.declared.track.Track.{Track}

-- the fields of a row
abbrev pub Row : Type 0
Row = List (List ℕ)

-- interchange n, which is refused; or a set of interchange n, and a receiver by its place in the setup, or nobody
pub data Entry : Type 0 where
  OfRefused : (n : ℕ) → JudgedValue → Entry
  OfSet : (n : ℕ) → PlacedValue → (receiver : Option ℕ) → Entry

-- each receiver of a route, or nobody where there is none
abbrev pub each_or_nobody : (route : List ℕ) → List (Option ℕ)
each_or_nobody [] = None ∷ []
each_or_nobody (to ∷ more) = map Some (to ∷ more)

-- for whom a set has rows: where it may be delivered each receiver of its route, by GS03; else nobody
abbrev pub told_for : SetupValue → PlacedValue → List (Option ℕ)
told_for setup p = if is_deliverable p then each_or_nobody (receivers_of setup p) else None ∷ []

abbrev pub set_entries : SetupValue → (n : ℕ) → PlacedValue → List Entry
set_entries setup n p = map (OfSet n p) (told_for setup p)

abbrev pub interchange_entries : SetupValue → (n : ℕ) → JudgedValue → List Entry
interchange_entries setup n x = if is_refused x then OfRefused n x ∷ [] else flat_map (set_entries setup n) (sets_of x)

-- those of interchanges, the first of them being interchange n
abbrev pub entries_from : SetupValue → (n : ℕ) → List JudgedValue → List Entry
entries_from setup n [] = []
entries_from setup n (x ∷ xs) = interchange_entries setup n x ++ entries_from setup (n + 1) xs

-- a field of a row, counted from 0
abbrev pub field : Row → ℕ → List ℕ
field row k = slice_index_or row k []

abbrev pub outcome_in : Row → List ℕ
outcome_in row = field row column.OUTCOME

abbrev pub receiver_in : Row → List ℕ
receiver_in row = field row column.RECEIVER

-- a row names interchange n: its number, where it begins, ISA13
pub record NamesInterchange (row : Row) (n : ℕ) (x : JudgedValue) : Type 0 where
  pub columns : length row ≡ column.COLUMNS
  pub number : field row column.INTERCHANGE ≡ decimal n
  pub offset : field row column.OFFSET ≡ decimal x.interchange.start
  pub isa13 : field row column.ISA13 ≡ field_of x.interchange.header 13

-- and a set of it: GS01 and GS06 of its group, ST01, ST02
pub record NamesSet (row : Row) (n : ℕ) (p : PlacedValue) : Type 0 where
  pub interchange : NamesInterchange row n p.interchange
  pub gs01 : field row column.GS01 ≡ element_of p.group.header 1
  pub gs06 : field row column.GS06 ≡ element_of p.group.header 6
  pub st01 : field row column.ST01 ≡ element_of p.set.header 1
  pub st02 : field row column.ST02 ≡ element_of p.set.header 2

-- it is for a receiver: it has its name, and says that the set is delivered to it, or held for one of its delimiters
pub record IsForReceiver (setup : SetupValue) (row : Row) (to : ℕ) : Type 0 where
  pub partner : Partner
  pub there : slice_get setup.partners to ≡ Some partner
  pub named : receiver_in row ≡ partner.name
  pub outcome : (outcome_in row ≡ codes "delivered") ⊎ (outcome_in row ≡ codes "held delimiter")

-- or for nobody: it has no name, and says why
pub record IsForNobody (row : Row) : Type 0 where
  pub named : receiver_in row ≡ []
  pub outcome : (outcome_in row ≡ codes "held route") ⊎ ((outcome_in row ≡ codes "rejected") ⊎ (outcome_in row ≡ codes "listed"))

abbrev pub IsFor : SetupValue → Row → Option ℕ → Type 0
IsFor setup row None = IsForNobody row
IsFor setup row (Some to) = IsForReceiver setup row to

-- the row of a refused interchange
pub record IsRefusedRow (row : Row) (n : ℕ) (x : JudgedValue) : Type 0 where
  pub interchange : NamesInterchange row n x
  pub outcome : outcome_in row ≡ codes "refused"
  pub named : receiver_in row ≡ []

abbrev pub IsRowOf : SetupValue → Row → Entry → Type 0
IsRowOf setup row (OfRefused n x) = IsRefusedRow row n x
IsRowOf setup row (OfSet n p receiver) = NamesSet row n p × IsFor setup row receiver

-- rows are those of entries, one by one, and there isn't another
abbrev pub AreRowsOf : SetupValue → List Row → List Entry → Type 0
AreRowsOf setup [] [] = Unit {0}
AreRowsOf setup [] (e ∷ es) = ⊥
AreRowsOf setup (row ∷ rows) [] = ⊥
AreRowsOf setup (row ∷ rows) (e ∷ es) = IsRowOf setup row e × AreRowsOf setup rows es

-- a table is written of the names of its columns and of the rows of the sets and refused interchanges of its night
pub record HasRowsOfSets (text : List ℕ) (setup : SetupValue) (track : Track) : Type 0 where
  pub known : List CheckedInterchange
  pub outside : ℕ
  pub is_known : IsKnown text setup known outside
  pub rows : List Row
  pub table : track.table ≡ table_text (column_names ∷ rows)
  pub are : AreRowsOf setup rows (entries_from setup 1 (judgements text known))
