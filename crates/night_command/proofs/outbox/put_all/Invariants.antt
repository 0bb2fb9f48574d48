use Rattle.std.proofs.Common.{◌≡◌, ◌++◌, map}
use Rattle.night_command.specs.Outbox.{AddsFiles, file_of}
use Rattle.night_command.proofs.outbox.put_all.Given as goal

abbrev pub invariant-loop-file : goal.invariant-loop-file
invariant-loop-file g l = record {
  put : AddsFiles (g.B.Outbox.contents l.initial.outbox) (g.B.Outbox.contents l.outbox) (map file_of l.yielded);
  whole : l.initial.file-iterator.rest.items ≡ l.yielded ++ l.file-iterator.rest.items;
  faults : g.B.Outbox.faults l.outbox ≡ g.B.Outbox.faults l.initial.outbox;
}
