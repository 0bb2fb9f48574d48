-- Private. How far the numbers of the partners' mailboxes have come, set by set.
use Rattle.std.specs.Prelude.{◌≡◌, ℕ, ◌+◌, ◌-◌, ◌/◌, ◌%◌, ◌≤◌, ◌==◌, Bool, false, not, ◌||◌, List, [], ◌∷◌, ◌++◌}
use Rattle.std.specs.Prelude.{Option, Some, None, length, slice_get, slice_index_or, if◌then◌else◌}
use Rattle.std.specs.List.{flat_map}
use Rattle.count_numbers.specs.Num.{num}
use Rattle.count_numbers.specs.Runs.{same_key}
use Rattle.count_numbers.specs.declared.run.RunKey.{RunKey}
use Rattle.partner_setup.specs.declared.partner.Partner.{Partner}
use Rattle.answered_sets.specs.Judged.{PlacedValue}
use Rattle.mailbox.specs.Delivering.{is_sent_by, one_where}
use Rattle.mailbox.specs.Mailbox.{group_total}
use Rattle.mailbox.specs.Numbered.{group_key_of}
use Rattle.mailbox.specs.Numbers.{HasCap, HasCounters}
use Rattle.track_table.specs.declared.notes.Notes.{Notes}
use Rattle.track_table.specs.Mailed.{acknowledgments_to, groups_to}
use Rattle.mailbox.specs.Deliveries.{outcome_at}
use Rattle.track_table.specs.declared.notes.GroupNotes.{GroupNotes}
use Rattle.track_table.specs.Cells.{no_set_notes, set_cells}
use Rattle.csv_fields.specs.Csv.{fields_text}
use Rattle.track_table.specs.Rows.{TrackedBy, delivered_of, ends_of, outcome_cells}
use Rattle.track_table.specs.declared.mailed.Mailed.{Mailed}
use Rattle.track_table.specs.declared.sent.Sent.{Sent}

-- control numbers
abbrev pub AreNumbers : (interchange group set : ℕ) → Type 0
AreNumbers interchange group set =
    (1 ≤ interchange) × (interchange ≤ 999999999) × (1 ≤ group) × (group ≤ 999999999) × (1 ≤ set) × (set ≤ 999999999)

-- the first numbers of a mailbox, how many sets an interchange holds, how many sets and groups there are so far, and the last set's key
pub record CursorValue : Type 0 where
  pub interchange : ℕ
  pub group : ℕ
  pub set : ℕ
  pub cap : ℕ
  pub sets : ℕ
  pub groups : ℕ
  pub last : Option RunKey

abbrev pub first_cursor : (interchange group set cap : ℕ) → CursorValue
first_cursor interchange group set cap = record {
  interchange = interchange;
  group = group;
  set = set;
  cap = cap;
  sets = 0;
  groups = 0;
  last = None;
}

abbrev pub goes_with : Option RunKey → RunKey → Bool
goes_with None key = false
goes_with (Some last) key = same_key last key

abbrev pub begins_group : CursorValue → RunKey → Bool
begins_group c key = c.sets % c.cap == 0 || not (goes_with c.last key)

abbrev pub groups_with : CursorValue → RunKey → ℕ
groups_with c key = if begins_group c key then c.groups + 1 else c.groups

abbrev pub mailed_at : CursorValue → (groups : ℕ) → Mailed
mailed_at c groups = record {
  interchange = num c.interchange (c.sets / c.cap);
  group = num c.group (groups - 1);
  set = num c.set c.sets;
}

abbrev pub mailed_next : CursorValue → RunKey → Mailed
mailed_next c key = mailed_at c (groups_with c key)

abbrev pub advanced : CursorValue → RunKey → CursorValue
advanced c key = record c { sets = c.sets + 1; groups = groups_with c key; last = Some key }

abbrev pub last_key : List PlacedValue → Option RunKey
last_key [] = None
last_key (p ∷ []) = Some (group_key_of p)
last_key (p ∷ q ∷ ps) = last_key (q ∷ ps)

-- the numbers have come after these sets of a partner, before whose mailbox this many acknowledgments with this many groups are
pub record IsBehind (partner : Partner) (acknowledgments groups : ℕ) (sets : List PlacedValue) (c : CursorValue) : Type 0 where
  pub interchange : c.interchange ≡ num partner.counters.interchange acknowledgments
  pub group : c.group ≡ num partner.counters.group groups
  pub set : c.set ≡ partner.counters.set
  pub cap : c.cap ≡ partner.cap
  pub set_count : c.sets ≡ length sets
  pub counted : c.groups ≡ group_total partner.cap sets
  pub least : 1 ≤ partner.cap
  pub last : c.last ≡ last_key sets

-- of each partner after these sets, and one set more where it was sent to it by these targets
pub record AreAmid (by : TrackedBy) (before : List PlacedValue) (p : PlacedValue) (targets : List ℕ) (cs : List CursorValue) : Type 0 where
  pub count : length cs ≡ length by.setup.partners
  pub each : (q : ℕ) (partner : Partner) (c : CursorValue) → slice_get by.setup.partners q ≡ Some partner → slice_get cs q ≡ Some c
      → IsBehind partner (acknowledgments_to q by.night) (groups_to q by.night)
      (delivered_of by.setup q before ++ one_where (is_sent_by by.setup p q targets) p) c

-- of each partner after these sets
pub record AreBehind (by : TrackedBy) (before : List PlacedValue) (cs : List CursorValue) : Type 0 where
  pub count : length cs ≡ length by.setup.partners
  pub each : (q : ℕ) (partner : Partner) (c : CursorValue) → slice_get by.setup.partners q ≡ Some partner → slice_get cs q ≡ Some c
      → IsBehind partner (acknowledgments_to q by.night) (groups_to q by.night) (delivered_of by.setup q before) c

-- one acknowledgment more
abbrev pub with_one : Sent → (has_reports : Bool) → Sent
with_one s has_reports = record {
  acknowledgments = s.acknowledgments + 1;
  groups = if has_reports then s.groups + 1 else s.groups;
}

-- a row by its first fields as they are written, and the last ones
abbrev pub row_text : (line : List ℕ) → (end : List (List ℕ)) → List ℕ
row_text line end = line ++ fields_text end ++ 13 ∷ 10 ∷ []

-- the rows of a set for these targets
abbrev pub outcome_texts : TrackedBy → (before : List PlacedValue) → (line : List ℕ) → PlacedValue → (targets : List ℕ) → List ℕ
outcome_texts by before line p targets =
    flat_map (λ to. row_text line (outcome_cells by before p (outcome_at by.setup p to))) targets

-- the rows of a set
abbrev pub ends_text : TrackedBy → (before : List PlacedValue) → (line : List ℕ) → PlacedValue → List ℕ
ends_text by before line p = flat_map (row_text line) (ends_of by before p)

-- those of a set of a group whose rows begin so
abbrev pub line_of : TrackedBy → (head : List ℕ) → GroupNotes → PlacedValue → List ℕ
line_of by head notes p = head ++ fields_text (set_cells by.documents p (slice_index_or notes.sets p.index no_set_notes))

abbrev pub set_text : TrackedBy → (head : List ℕ) → GroupNotes → (before : List PlacedValue) → PlacedValue → List ℕ
set_text by head notes before p = ends_text by before (line_of by head notes p) p

abbrev pub sets_text : TrackedBy → (head : List ℕ) → GroupNotes → (before : List PlacedValue) → List PlacedValue → List ℕ
sets_text by head notes before [] = []
sets_text by head notes before (p ∷ ps) = set_text by head notes before p ++ sets_text by head notes (before ++ p ∷ []) ps

-- after any sets, this text has the rows of these, and the numbers have come after them
abbrev pub HasRows : TrackedBy → (text : List PlacedValue → List ℕ) → (sets : List PlacedValue) → (old new : List ℕ)
    → (cs ds : List CursorValue) → Type 0
HasRows by text sets old new cs ds =
    (before : List PlacedValue) → AreBehind by before cs → (new ≡ old ++ text before) × AreBehind by (before ++ sets) ds

-- how much of these was sent to each of this many partners
pub record AreSent (n : ℕ) (xs : List Notes) (sent : List Sent) : Type 0 where
  pub count : length sent ≡ n
  pub each : (q : ℕ) (s : Sent) → slice_get sent q ≡ Some s → (s.acknowledgments ≡ acknowledgments_to q xs) × (s.groups ≡ groups_to q xs)

-- its counters and its cap are what they must be
abbrev pub IsReady : Partner → Type 0
IsReady p = HasCounters p × HasCap p

-- of each partner before any set, after what else is sent to it
pub record AreFirst (partners : List Partner) (sent : List Sent) (cs : List CursorValue) : Type 0 where
  pub count : length cs ≡ length partners
  pub each : (q : ℕ) (partner : Partner) (s : Sent) (c : CursorValue) → slice_get partners q ≡ Some partner → slice_get sent q ≡ Some s
      → slice_get cs q ≡ Some c
      → c ≡ first_cursor (num partner.counters.interchange s.acknowledgments) (num partner.counters.group s.groups)
      partner.counters.set partner.cap
