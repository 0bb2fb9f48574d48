use Rattle.std.proofs.Common.{◌≤◌, ℕ, List, length, refl, sym, subst, arith, inl}
use Rattle.gather_files.specs.Gathered.{HoldsInterchanges}
use Rattle.gather_files.specs.Closing.{PutsBehind}
use Rattle.gather_files.specs.EndsByLayers.{EndsByLayers}
use Rattle.gather_files.proofs.Behind.{nothing_behind}
use Rattle.gather_files.proofs.closing.as_it_is.Goals as goal

pub returns-clause-closed : goal.returns-clause-closed
returns-clause-closed c = λ kept. record {
  holds = subst (λ (l : List ℕ). HoldsInterchanges l c.args.interchanges) (sym c.in_ok-bytes.ensures.items) c.requires.holds;
  some = subst (λ (l : List ℕ). c.args.interchanges ≤ length l) (sym c.in_ok-bytes.ensures.items) c.requires.few;
  ends = subst (λ (l : List ℕ). EndsByLayers c.args.held.now l 0 c.args.end) (sym c.in_ok-bytes.ensures.items) c.requires.ends;
  whole = λ w. refl;
  few = omega arith;
  puts = inl (subst (λ (l : List ℕ). PutsBehind c.args.held.now l 0) (sym c.in_ok-bytes.ensures.items) (nothing_behind c.args.held.now));
}
