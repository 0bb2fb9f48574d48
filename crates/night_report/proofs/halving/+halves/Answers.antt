use Rattle.std.proofs.Common.{◌≡◌, ◌+◌, ◌++◌, ℕ, List, length, refl, sym, ap, subst, ◌∙◌, arith}
use Rattle.std.proofs.lemmas.List.{length-append, take-append-drop}
use Rattle.std.proofs.lemmas.Result.{IfOk-at_ok}
use Rattle.std.proofs.Crossing.{crosses}
use denote.Param.Send.{param_send, sendable}
use Rattle.mailbox.proofs.ForAbove.{judged_sync, setup_sync}
use Rattle.answered_sets.specs.Judged.{JudgedValue}
use Rattle.mailbox.specs.Deliveries.{AreDelivered}
use Rattle.night_report.specs.Told.{ToldValue, joined, told_alone}
use Rattle.night_report.proofs.Joined.{halves_joined}
use Rattle.night_report.proofs.halving.+halves.Lts-report_by as lts
use Rattle.night_report.proofs.halving.+halves.Goals as goal

pub join-first-requires-send-F : goal.join-first-requires-send-F
join-first-requires-send-F g t c κs within =
    param_send 1 (lts.arg-2-1 g.row.R g.R.laws g.R.Threads-dict κs)
    (search (setup_sync, judged_sync, crosses, sendable) depth 60 fits 20000)

pub followed_by-requires-clause-few : goal.followed_by-requires-clause-few
followed_by-requires-clause-few g t c =
    let low : List JudgedValue = c.split_at.result.0.now in
    let high : List JudgedValue = c.split_at.result.1.now in
    let first = IfOk-at_ok (λ all. all.lines ≡ told_alone c.args.setup.now c.args.base c.args.before low) c.in_ok-first.was
    c.join-first.ensures.first.0 in
    let second = IfOk-at_ok (λ all. all.lines ≡ told_alone c.args.setup.now c.args.base (c.args.before + length low) high)
    c.in_ok-second.was c.join-first.ensures.second.0 in
    let all : length low + length high ≡ length c.args.interchanges.now =
    sym (length-append low high)
    ∙ ap (λ (xs : List JudgedValue). length xs)
    ((λ i. c.split_at.ensures.front i ++ c.split_at.ensures.back i) ∙ take-append-drop _ c.args.interchanges.now) in
    omega (arith, all, ap (λ (t : ToldValue). t.count) first, ap (λ (t : ToldValue). t.count) second, c.requires)

pub followed_by-requires-clause-count : goal.followed_by-requires-clause-count
followed_by-requires-clause-count g t c =
    let setup = c.args.setup.now in
    let first = IfOk-at_ok (λ all. AreDelivered setup c.split_at.result.0.now all.deliveries.items) c.in_ok-first.was
    c.join-first.ensures.first.1 in
    let second = IfOk-at_ok (λ all. AreDelivered setup c.split_at.result.1.now all.deliveries.items) c.in_ok-second.was
    c.join-first.ensures.second.1 in
    omega (arith, first.count, second.count)

pub returns-clause-lines : goal.returns-clause-lines
returns-clause-lines g t c =
    let setup = c.args.setup.now in
    let base : ℕ = c.args.base in
    let before : ℕ = c.args.before in
    let low : List JudgedValue = c.split_at.result.0.now in
    let high : List JudgedValue = c.split_at.result.1.now in
    let behind : ℕ = before + length low in
    let first = IfOk-at_ok (λ all. all.lines ≡ told_alone setup base before low) c.in_ok-first.was c.join-first.ensures.first.0 in
    let second = IfOk-at_ok (λ all. all.lines ≡ told_alone setup base behind high) c.in_ok-second.was c.join-first.ensures.second.0 in
    let all : low ++ high ≡ c.args.interchanges.now =
    (λ i. c.split_at.ensures.front i ++ c.split_at.ensures.back i) ∙ take-append-drop _ c.args.interchanges.now in
    c.in_ok-all.ensures.lines ∙ (λ i. joined (first i) (second i))
    ∙ halves_joined setup base before behind low high c.args.interchanges.now refl all

pub returns-clause-deliveries : goal.returns-clause-deliveries
returns-clause-deliveries g t c =
    let setup = c.args.setup.now in
    let low : List JudgedValue = c.split_at.result.0.now in
    let high : List JudgedValue = c.split_at.result.1.now in
    let first = IfOk-at_ok (λ all. AreDelivered setup low all.deliveries.items) c.in_ok-first.was
    c.join-first.ensures.first.1 in
    let second = IfOk-at_ok (λ all. AreDelivered setup high all.deliveries.items) c.in_ok-second.was
    c.join-first.ensures.second.1 in
    let all : low ++ high ≡ c.args.interchanges.now =
    (λ i. c.split_at.ensures.front i ++ c.split_at.ensures.back i) ∙ take-append-drop _ c.args.interchanges.now in
    subst (λ (xs : List JudgedValue). AreDelivered setup xs c.in_ok-all.all.deliveries.items) all
    (c.in_ok-all.ensures.deliveries setup low high first second)
