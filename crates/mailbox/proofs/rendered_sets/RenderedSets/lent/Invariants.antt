use Rattle.std.proofs.Common.{◌≡◌, List, take}
use Rattle.std.specs.List.{flat_map}
use Rattle.mailbox.specs.Rendered.{RenderedValue}
use Rattle.mailbox.proofs.rendered_sets.RenderedSets.lent.Given as goal

abbrev pub invariant-loop-i : goal.invariant-loop-i
invariant-loop-i l = l.lent.items ≡ flat_map (λ (sets : List RenderedValue). sets) (take l.i l.self-inside.rows.items)
