use Rattle.std.proofs.Common.{take}
use Rattle.check_command.specs.Further.{AreSaidOfGuides}
use Rattle.check_command.proofs.further.of_guides.Given as goal

abbrev pub invariant-loop-file : goal.invariant-loop-file
invariant-loop-file l = AreSaidOfGuides (take l.file-index l.given) l.said.items
