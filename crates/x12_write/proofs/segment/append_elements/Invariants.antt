use Rattle.std.proofs.Common.{◌≡◌, ◌++◌, map, take}
use Rattle.x12_write.specs.Segment.{elements_text}
use Rattle.x12_write.proofs.segment.append_elements.Given as goal

abbrev pub invariant-loop-element : goal.invariant-loop-element
invariant-loop-element l = l.out.items
    ≡ l.initial.out.items ++ elements_text l.separator (map (λ element. element.now) (take l.element-index l.elements))
