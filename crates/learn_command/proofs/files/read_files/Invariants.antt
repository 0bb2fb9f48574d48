use Rattle.std.proofs.Common.{◌≡◌, ◌++◌, drop, map}
use Rattle.check_command.specs.Files.{path_of}
use Rattle.learn_command.proofs.files.read_files.Given as goal

abbrev pub invariant-loop-path : goal.invariant-loop-path
invariant-loop-path g l = map path_of l.files.items ++ map (λ p. p.now) (drop l.path-index l.paths) ≡ map (λ p. p.now) l.paths
