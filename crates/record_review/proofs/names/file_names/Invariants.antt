use Rattle.std.proofs.Common.{◌≡◌, take}
use Rattle.record_review.specs.Found.{file_names}
use Rattle.record_review.proofs.names.file_names.Given as goal

abbrev pub invariant-loop-i : goal.invariant-loop-i
invariant-loop-i l = l.files.items ≡ file_names l.folder (take l.i l.names)
