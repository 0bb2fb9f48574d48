use Rattle.std.proofs.Common.{◌≡◌, true, take}
use Rattle.std.specs.Prelude.{Contains}
use Rattle.hub_kinds.specs.declared.place.Place.{Place}
use Rattle.work_core.specs.Core.{was_recorded}
use Rattle.number_register.proofs.whole.record_all.Given as goal

abbrev pub invariant-loop-place : goal.invariant-loop-place
invariant-loop-place l = (l.records.index ≡ l.initial.records.index)
    × ((p : Place) → Contains (take l.place-index l.places) p → was_recorded l.records.recorded p ≡ true)
