use Rattle.std.proofs.Common.{take}
use Rattle.night_command.specs.SetupFiles.{AreGuidesOf}
use Rattle.night_command.proofs.setup.guides_of.Given as goal

abbrev pub invariant-loop-file : goal.invariant-loop-file
invariant-loop-file l = AreGuidesOf (take l.file-index l.files) l.guides.items
