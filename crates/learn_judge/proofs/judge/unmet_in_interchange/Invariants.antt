use Rattle.std.proofs.Common.{take}
use Rattle.std.specs.List.{All}
use Rattle.std.specs.Prelude.{option_map}
use Rattle.x12_bytes.specs.Header.{header_delims}
use Rattle.guide_tree.specs.Words.{guide_of}
use Rattle.learn_judge.specs.Indexed.{TakesGroupIn}
use Rattle.learn_judge.proofs.judge.unmet_in_interchange.Given as goal

abbrev pub invariant-loop-k : goal.invariant-loop-k
invariant-loop-k l =
    All (TakesGroupIn (guide_of l.guide) (option_map (λ t. t.now) l.st01) l.text (header_delims l.interchange.header))
    (take l.k l.interchange.content.groups)
