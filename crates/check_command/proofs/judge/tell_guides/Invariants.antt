use Rattle.std.proofs.Common.{option_map, take}
use Rattle.check_command.specs.Judgements.{AreGuidesFound}
use Rattle.check_command.specs.Tellings.{AreGuidesTold}
use Rattle.check_command.proofs.judge.tell_guides.Given as goal

abbrev pub invariant-loop-file : goal.invariant-loop-file
invariant-loop-file l = record {
  lines : AreGuidesTold (take l.file-index l.given) l.lines.items;
  guides : AreGuidesFound (take l.file-index l.given) (option_map (λ v. v.items) l.guides);
}
