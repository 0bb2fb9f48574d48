use Rattle.std.proofs.Common.{◌≡◌, ◌++◌}
use Rattle.std.specs.List.{filter_map}
use Rattle.night_folder.specs.Nights.{bad_in, entry_in}
use Rattle.night_folder.proofs.night.entries_in.Given as goal

abbrev pub invariant-loop-read : goal.invariant-loop-read
invariant-loop-read l = record {
  entries : l.entries.items ++ filter_map entry_in l.read-iterator.rest.items ≡ filter_map entry_in l.fn.reads.items;
  bad : l.bad.items ++ filter_map bad_in l.read-iterator.rest.items ≡ filter_map bad_in l.fn.reads.items;
}
