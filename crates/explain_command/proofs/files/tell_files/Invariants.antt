use Rattle.std.proofs.Common.{◌≡◌, ◌++◌, drop, map}
use Rattle.explain_command.specs.Reports.{AreTold, paths_of}
use Rattle.explain_command.proofs.files.tell_files.Given as goal

abbrev pub invariant-loop-path : goal.invariant-loop-path
invariant-loop-path g l = record {
  told : AreTold l.names l.files.items;
  paths : paths_of l.files.items ++ map (λ p. p.now) (drop l.path-index l.paths) ≡ map (λ p. p.now) l.paths;
}
