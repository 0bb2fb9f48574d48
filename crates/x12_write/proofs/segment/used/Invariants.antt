use Rattle.std.proofs.Common.{◌≡◌, ◌≤◌, length, map, take}
use Rattle.x12_write.specs.Segment.{trimmed}
use Rattle.x12_write.proofs.segment.used.Given as goal

abbrev pub invariant-loop-end : goal.invariant-loop-end
invariant-loop-end l = record {
  within : l.end ≤ length l.elements;
  same : trimmed (map (λ element. element.now) l.elements) ≡ trimmed (take l.end (map (λ element. element.now) l.elements));
}

abbrev pub decreases-loop-end : goal.decreases-loop-end
decreases-loop-end l = l.end
