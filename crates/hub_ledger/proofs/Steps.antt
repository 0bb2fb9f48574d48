-- What each event keeps.
use Rattle.std.proofs.Common.{◌≡◌, zero, suc, List, [], ◌∷◌, Some, Contains, refl, sym, subst, arith}
use Rattle.std.specs.List.{AllByRecursion}
use Rattle.hub_ledger.specs.Entries.{AreApart, GoOn}
use Rattle.hub_ledger.specs.Events.{Commits, Event, Follows, Happens, Hub, MayRun, Runs, Shows, Stops, entries_of, new_hub}
use Rattle.hub_ledger.specs.Nights.{AreConsecutive, IsCounted, Night}
use Rattle.hub_ledger.proofs.Consecutive.{consecutive}
use Rattle.hub_ledger.proofs.Rows.{apart}

-- the nights that are written down go on, and so does the one that is run
record Stands (hub : Hub) : Type 0 where
  pub go_on : GoOn (entries_of hub.committed)
  pub counted : AllByRecursion IsCounted hub.committed
  pub free : (night : Night) → hub.run ≡ Some night → MayRun hub.committed night

step : (old : Hub) (event : Event) (new : Hub) → Follows old event new → Stands old → Stands new
step old (Runs night) new h s = subst Stands (sym h.1)
    (record { go_on = s.go_on; counted = s.counted; free = λ n is. subst (MayRun old.committed) (cc) h.0 })
step old Commits new h s = subst Stands (sym h.2) (record {
  go_on = ((s.free h.0 h.1).goes_on, s.go_on);
  counted = ((s.free h.0 h.1).counted, s.counted);
  free = λ n is. absurd (cc);
})
step old Shows new h s = subst Stands (sym h.3) (record { go_on = s.go_on; counted = s.counted; free = s.free })
step old Stops new h s = subst Stands (sym h) (record { go_on = s.go_on; counted = s.counted; free = λ n is. absurd (cc) })

stands : (hub : Hub) (events : List Event) (new : Hub) → Happens hub events new → Stands hub → Stands new
stands hub [] new h s = subst Stands (sym h) s
stands hub (event ∷ events) new h s = stands h.0 events new h.2 (step hub event h.0 h.1 s)

from_new : (events : List Event) (hub : Hub) → Happens new_hub events hub → Stands hub
from_new events hub h = stands new_hub events hub h (record { go_on = tt; counted = tt; free = λ n is. absurd (cc) })

pub delivers_once : (events : List Event) (hub : Hub) → Happens new_hub events hub → AreApart (entries_of hub.committed)
delivers_once events hub h = apart (entries_of hub.committed) (from_new events hub h).go_on

pub numbers_go_on : (events : List Event) (hub : Hub) → Happens new_hub events hub → AreConsecutive hub.committed
numbers_go_on events hub h = consecutive hub.committed (from_new events hub h).go_on (from_new events hub h).counted

-- what may be sent is written down
record Shown (hub : Hub) : Type 0 where
  pub all : (night : Night) → Contains hub.shown night → Contains hub.committed night

contains_more : (x : Night) (xs : List Night) (night : Night) → Contains xs night → Contains (x ∷ xs) night
contains_more x xs night h = (suc h.0, omega (arith, h.1), h.2)

contains_first : (x : Night) (xs : List Night) → Contains (x ∷ xs) x
contains_first x xs = (0, omega (arith), refl)

step_shown : (old : Hub) (event : Event) (new : Hub) → Follows old event new → Shown old → Shown new
step_shown old (Runs night) new h s = subst Shown (sym h.1) (record { all = s.all })
step_shown old Commits new h s = subst Shown (sym h.2)
    (record { all = λ night is. contains_more h.0 old.committed night (s.all night is) })
step_shown old Shows new h s = subst Shown (sym h.3) (record { all = newest })
  where
    newest : (night : Night) → Contains (h.0 ∷ old.shown) night → Contains old.committed night
    newest night (zero, low, is) =
        subst (λ ns. Contains ns night) (sym h.2) (subst (λ n. Contains (h.0 ∷ h.1) n) is (contains_first h.0 h.1))
    newest night (suc k, low, is) = s.all night (k, omega (arith, low), is)
step_shown old Stops new h s = subst Shown (sym h) (record { all = s.all })

shown_after : (hub : Hub) (events : List Event) (new : Hub) → Happens hub events new → Shown hub → Shown new
shown_after hub [] new h s = subst Shown (sym h) s
shown_after hub (event ∷ events) new h s = shown_after h.0 events new h.2 (step_shown hub event h.0 h.1 s)

pub shows_committed : (events : List Event) (hub : Hub) → Happens new_hub events hub → (night : Night) → Contains hub.shown night
    → Contains hub.committed night
shows_committed events hub h =
    (shown_after new_hub events hub h (record { all = λ night is. absurd (omega (arith, is.1)) })).all
