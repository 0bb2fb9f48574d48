use Rattle.std.proofs.Common.{◌≡◌, ◌+◌, ◌∷◌, ℕ, List, drop, sym, ◌∙◌, arith}
use Rattle.set_check.specs.declared.finding.Finding.{Finding}
use Rattle.set_answers.proofs.Putting.{there_is}
use Rattle.set_answers.proofs.Taking.{drop_one_more}
use Rattle.set_answers.proofs.finding.Findings.pass.Goals as goal

pub take-requires : goal.take-requires
take-requires c =
    let all : List Finding = c.args.self.now in
    let i : ℕ = c.loop.counter in
    let next = there_is all i (omega (arith, c.loop-test.true, c.requires)) in
    (next.0, drop (i + 1) all, c.loop.invariant ∙ drop_one_more all i next.0 next.1)

pub loop-preserved : goal.loop-preserved
loop-preserved c =
    let all : List Finding = c.args.self.now in
    let i : ℕ = c.loop.counter in
    let next = there_is all i (omega (arith, c.loop-test.true, c.requires)) in
    let split : c.take.result ∷ c.take.new.self ≡ next.0 ∷ drop (i + 1) all =
    sym c.take.ensures.first ∙ c.loop.invariant ∙ drop_one_more all i next.0 next.1 in
    let rest : c.take.new.self ≡ drop (i + 1) all = cc in
    rest
