use Rattle.std.proofs.Common.{◌≡◌}
use Rattle.diff_samples.specs.Samples.{AddsFirst}
use Rattle.diff_samples.proofs.samples.put_all.Given as goal

abbrev pub invariant-loop-number : goal.invariant-loop-number
invariant-loop-number g l =
    AddsFirst l.compared l.number (g.B.Outbox.contents l.initial.folder) (g.B.Outbox.contents l.folder) l.initial.list.items l.list.items
    × (g.B.Outbox.faults l.folder ≡ g.B.Outbox.faults l.initial.folder)
