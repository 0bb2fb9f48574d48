use Rattle.std.proofs.Common.{◌≡◌, ◌+◌, ◌/◌, ◌++◌, ℕ, List, length, ap, sym, subst, ◌∙◌, arith, rules}
use Rattle.std.proofs.lemmas.List.{length-take-le, take-append-drop}
use Rattle.std.proofs.lemmas.Result.{IfOk-at_ok}
use Rattle.std.proofs.Crossing.{crosses}
use denote.Param.Send.{sendable}
use Rattle.hub_kinds.specs.declared.counters.Counters.{Counters}
use Rattle.mailbox.proofs.ForAbove.{setup_sync}
use Rattle.mailbox.specs.Rendered.{RenderedValue}
use Rattle.night_batches.specs.ByPlace.{AreClosedFrom}
use Rattle.night_batches.proofs.Crossing.{at_sync, sent_sync, sets_send}
use Rattle.night_batches.proofs.Sides.{closed_both}
use Rattle.night_batches.proofs.closing.+halves.Goals as goal

pub join-first-requires-send-F : goal.join-first-requires-send-F
join-first-requires-send-F g t c κs within = search (setup_sync, sets_send, at_sync, sent_sync, crosses, sendable) depth 60 fits 20000

pub returns : goal.returns
returns g t c =
    let setup = c.args.setup.now in
    let at = c.args.at.now in
    let files = c.args.files.now in
    let from : ℕ = c.args.from in
    let half : ℕ = c.len-half.result / 2 in
    let boxes : List (List RenderedValue) = c.args.boxes.items in
    let cut = c.in_ok-high.ensures in
    let low : List (List RenderedValue) = c.split_off.new.self.items in
    let high : List (List RenderedValue) = c.in_ok-high.high.items in
    let first = IfOk-at_ok (λ closed. AreClosedFrom setup at files from low closed.boxes.items closed.next.items) c.in_ok-first.was
    c.join-first.ensures.first in
    let second = IfOk-at_ok (λ closed. AreClosedFrom setup at files (from + half) high closed.boxes.items closed.next.items)
    c.in_ok-second.was c.join-first.ensures.second in
    let len : c.len-half.result ≡ length boxes = search rules in
    let short : length low ≡ half =
    ap (λ (l : List (List RenderedValue)). length l) cut.items ∙ length-take-le half boxes (omega (arith, len)) in
    let place : from + half ≡ from + length low = omega (arith, short) in
    let texts : List (List ℕ) = c.in_ok-first.field-0.boxes.items ++ c.in_ok-second.field-0.boxes.items in
    let made = closed_both setup at files from low high c.in_ok-first.field-0.boxes.items c.in_ok-second.field-0.boxes.items
    c.in_ok-first.field-0.next.items c.in_ok-second.field-0.next.items first
    (subst (λ (n : ℕ). AreClosedFrom setup at files n high c.in_ok-second.field-0.boxes.items c.in_ok-second.field-0.next.items) place
    second) in
    let all : low ++ high ≡ boxes = (λ i. cut.items i ++ cut.tail i) ∙ take-append-drop half boxes in
    subst (λ (bs : List (List RenderedValue)). AreClosedFrom setup at files from bs c.in_ok-all.all.boxes.items
    c.in_ok-all.all.next.items) all
    (subst (λ (ts : List (List ℕ)). AreClosedFrom setup at files from (low ++ high) ts c.in_ok-all.all.next.items)
    (sym c.in_ok-all.ensures.boxes)
    (subst (λ (xs : List Counters). AreClosedFrom setup at files from (low ++ high) texts xs) (sym c.in_ok-all.ensures.next) made))
