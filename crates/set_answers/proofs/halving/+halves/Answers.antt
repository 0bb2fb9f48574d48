use Rattle.std.proofs.lemmas.Result.{IfOk-at_ok}
use Rattle.std.proofs.Crossing.{crosses}
use denote.Param.Send.{sendable}
use Rattle.set_answers.specs.Halves.{IsPartAnswered}
use Rattle.set_answers.proofs.Crossing.{part_send}
use Rattle.set_answers.proofs.Halved.{parts_answered}
use Rattle.set_answers.proofs.halving.+halves.Goals as goal

pub join-first-requires-send-F : goal.join-first-requires-send-F
join-first-requires-send-F g t c κs within = search (part_send, crosses, sendable) depth 60 fits 20000

pub returns : goal.returns
returns g t c =
    let low = c.in_ok-low.low in
    let high = c.in_ok-low.high in
    let one = c.in_ok-first.field-0 in
    let two = c.in_ok-second.field-0 in
    let all = c.in_ok-all.all in
    let first = IfOk-at_ok (λ v. IsPartAnswered low v.interchanges.items v.acknowledgments.items) c.in_ok-first.was
    c.join-first.ensures.first in
    let second = IfOk-at_ok (λ v. IsPartAnswered high v.interchanges.items v.acknowledgments.items) c.in_ok-second.was
    c.join-first.ensures.second in
    parts_answered c.args.part low high one.interchanges.items two.interchanges.items all.interchanges.items one.acknowledgments.items
    two.acknowledgments.items all.acknowledgments.items c.in_ok-low.ensures first second c.in_ok-all.ensures.interchanges
    c.in_ok-all.ensures.files
