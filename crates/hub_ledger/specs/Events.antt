-- A hub night by night (own): what is written down, what a stop leaves, and when the files of a night may be sent.
use Rattle.std.specs.Prelude.{◌≡◌, List, [], ◌∷◌, Option, Some, None, map}
use Rattle.hub_ledger.specs.declared.entry.NightEntry.{NightEntry}
use Rattle.hub_ledger.specs.Entries.{GoesOn}
use Rattle.hub_ledger.specs.Nights.{IsCounted, Night}

pub data Event : Type 0 where
  -- a night is run, and its files lie in a folder of which nobody sends
  Runs : Night → Event
  -- it is written down, in one step
  Commits : Event
  -- the folder of the newest night gets the name by which it is sent
  Shows : Event
  -- the program or the machine stops, at any place
  Stops : Event

pub record Hub : Type 0 where
  -- the nights that are written down, and those that may be sent, the newest first
  pub committed : List Night
  pub shown : List Night
  -- the night whose files lie ready to be written down
  pub run : Option Night

abbrev pub new_hub : Hub
new_hub = record { committed = []; shown = []; run = None }

abbrev pub entries_of : List Night → List NightEntry
entries_of nights = map (λ (night : Night). night.entry) nights

-- a night that may be run: it continues from those that are written down, and numbers what it sends without a gap
pub record MayRun (committed : List Night) (night : Night) : Type 0 where
  pub goes_on : GoesOn (entries_of committed) night.entry
  pub counted : IsCounted night

abbrev pub Follows : Hub → Event → Hub → Type 0
Follows old (Runs night) new = MayRun old.committed night × (new ≡ record old { run = Some night })
Follows old Commits new = (night : Night) × (old.run ≡ Some night) × (new ≡ record old { committed = night ∷ old.committed; run = None })
Follows old Shows new =
    (night : Night) × (older : List Night) × (old.committed ≡ night ∷ older) × (new ≡ record old { shown = night ∷ old.shown })
Follows old Stops new = new ≡ record old { run = None }

abbrev pub Happens : Hub → List Event → Hub → Type 0
Happens old [] new = new ≡ old
Happens old (event ∷ events) new = (mid : Hub) × Follows old event mid × Happens mid events new
