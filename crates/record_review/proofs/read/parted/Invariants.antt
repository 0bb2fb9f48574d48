use Rattle.std.proofs.Common.{◌≡◌, ◌++◌}
use Rattle.std.specs.List.{filter_map}
use Rattle.record_review.specs.Records.{bad_in, night_in}
use Rattle.record_review.proofs.read.parted.Given as goal

abbrev pub invariant-loop-read : goal.invariant-loop-read
invariant-loop-read l = record {
  nights : l.nights.items ++ filter_map night_in l.read-iterator.rest.items ≡ filter_map night_in l.fn.reads.items;
  bad : l.bad.items ++ filter_map bad_in l.read-iterator.rest.items ≡ filter_map bad_in l.fn.reads.items;
}
