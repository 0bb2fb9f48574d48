use Rattle.std.proofs.Common.{take}
use Rattle.std.specs.List.{All}
use Rattle.std.specs.Prelude.{option_map}
use Rattle.guide_tree.specs.Words.{guide_of}
use Rattle.learn_judge.specs.Indexed.{IsTakenIn}
use Rattle.learn_judge.proofs.judge.unmet_in_group.Given as goal

abbrev pub invariant-loop-k : goal.invariant-loop-k
invariant-loop-k l =
    All (IsTakenIn (guide_of l.guide) (option_map (λ t. t.now) l.st01) l.text l.delims l.group.header) (take l.k l.group.sets)
