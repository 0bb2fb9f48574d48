use Rattle.std.proofs.Common.{◌≡◌, ◌++◌, drop}
use Rattle.names_file.specs.GuideSubjects.{codes_of}
use Rattle.names_file.proofs.slot_subjects.push_codes.Given as goal

abbrev pub invariant-loop-code : goal.invariant-loop-code
invariant-loop-code l =
    l.found.items ++ codes_of l.reference (drop l.code-index l.codes) ≡ l.initial.found.items ++ codes_of l.reference l.codes
