use Rattle.std.proofs.Common.{◌≡◌, drop}
use Rattle.std.specs.List.{list_all}
use Rattle.env_index.specs.Words.{places_of}
use Rattle.work_core.specs.Core.{was_recorded}
use Rattle.number_register.proofs.records.Records.is_full.Given as goal

abbrev pub invariant-loop-place : goal.invariant-loop-place
invariant-loop-place l =
    list_all (was_recorded l.self.recorded) (drop l.place-index (places_of l.self.index))
    ≡ list_all (was_recorded l.self.recorded) (places_of l.self.index)
