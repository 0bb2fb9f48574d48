-- What the fields of the records mean. Private.
use Rattle.std.specs.Prelude.{◌≡◌, true, Contains}
use Rattle.hub_kinds.specs.declared.place.Place.{Place}
use Rattle.env_index.specs.Words.{places_of}
use Rattle.work_core.specs.Complete.{AreOnce}
use Rattle.work_core.specs.Core.{was_recorded}
use Rattle.number_register.specs.Recording.{Recording}
use Rattle.number_register.specs.Slots.{AreHeld}
use Rattle.number_register.specs.declared.records.Records.TheInside.{Inside}

abbrev pub recording_of : Inside → Recording
recording_of r = record { index = r.index.now; recorded = r.recorded.items }

pub record IsRecords (r : Inside) : Type 0 where
  pub places : r.places ≡ places_of r.index.now
  pub listed : (p : Place) → was_recorded r.recorded.items p ≡ true → Contains (places_of r.index.now) p
  pub once : AreOnce r.recorded.items r.recorded.items
  pub held : AreHeld r.index.now.entries r.recorded.items r.interchanges r.groups r.sets.items
