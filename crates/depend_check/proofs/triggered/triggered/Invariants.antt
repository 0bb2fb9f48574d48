use Rattle.std.proofs.Common.{◌≡◌, take}
use Rattle.std.specs.Prelude.{IfSome}
use Rattle.std.specs.List.{filter}
use Rattle.loop_match.specs.Viewed.{placed_views}
use Rattle.depend_check.specs.Dependencies.{is_dependency_triggered}
use Rattle.depend_check.specs.Uses.{KnowsTexts, lent}
use Rattle.depend_check.proofs.triggered.triggered.Given as goal

-- the texts that are known, and those so far that are triggered
abbrev pub invariant-loop-i : goal.invariant-loop-i
invariant-loop-i l =
    record {
      known : IfSome l.known (λ t. KnowsTexts t.texts t.slot.now t.at (placed_views l.placed));
      found : lent l.found.items ≡ filter (λ d. is_dependency_triggered d (placed_views l.placed)) (take l.i (lent l.all.items));
    }
