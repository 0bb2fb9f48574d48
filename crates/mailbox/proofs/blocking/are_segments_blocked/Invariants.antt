use Rattle.std.proofs.Common.{◌≡◌, take}
use Rattle.std.specs.List.{list_any}
use Rattle.mailbox.specs.Deliveries.{has_collision}
use Rattle.mailbox.proofs.blocking.are_segments_blocked.Given as goal

-- what the segments that are left say is what all say
abbrev pub invariant-loop-count : goal.invariant-loop-count
invariant-loop-count l =
    list_any (λ seg. has_collision l.from l.to seg.bytes) (take l.count l.left)
    ≡ list_any (λ seg. has_collision l.from l.to seg.bytes) (take l.most l.initial.left)
