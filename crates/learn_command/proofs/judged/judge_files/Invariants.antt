use Rattle.std.proofs.Common.{take}
use Rattle.std.specs.Prelude.{option_map}
use Rattle.std.specs.List.{All}
use Rattle.guide_tree.specs.Words.{guide_of}
use Rattle.learn_command.specs.Outcome.{IsTakenFile}
use Rattle.learn_command.proofs.judged.judge_files.Given as goal

abbrev pub invariant-loop-file : goal.invariant-loop-file
invariant-loop-file l =
    All (IsTakenFile (guide_of l.guide) (option_map (λ t. t.now) l.st01)) (take l.file-index l.files)
