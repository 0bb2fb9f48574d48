use Rattle.std.proofs.Common.{◌≡◌}
use Rattle.set_documents.specs.Documents.{number_in}
use Rattle.set_documents.proofs.document.Document.number_in.Given as goal

abbrev pub invariant-loop-segment : goal.invariant-loop-segment
invariant-loop-segment l = number_in l.self l.segment-iterator ≡ number_in l.self l.fn.segments
