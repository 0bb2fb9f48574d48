use Rattle.std.proofs.Common.{◌≡◌, ℕ, List, Some, length, take, ◌+◌, sym, ap, subst, ◌∙◌, arith}
use Rattle.std.specs.Prelude.{slice_get}
use Rattle.hub_kinds.specs.declared.answers.SetAnswer.{SetAnswer}
use Rattle.env_index.specs.declared.entry.SetEnvelope.{SetEnvelope}
use Rattle.set_answers.specs.Answers.{IsSetAnswer}
use Rattle.set_answers.specs.Pairs.{ArePairs}
use Rattle.set_answers.proofs.Putting.{there_is}
use Rattle.set_answers.proofs.Growing.{length_snoc}
use Rattle.set_answers.proofs.Pairing.{pairs_more}
use Rattle.set_answers.proofs.Taking.{next_set, no_set}
use Rattle.set_answers.proofs.found.found_sets.Goals as goal

pub found_set-requires : goal.found_set-requires
found_set-requires c =
    let sets = c.args.group.now.sets in
    let set = there_is sets c.loop.counter (omega (arith, c.loop-test.true, c.set_count-end.ensures)) in (
      c.args.sent.now,
      c.args.group.now.header,
      take c.loop.counter sets,
      set.0,
      _,
      next_set c.args.sent.now c.args.group.now.header sets c.loop.counter set.0 c.requires.0 c.loop.findings set.1
          (c.loop.invariant.rest c.requires.0 c.requires.1),
    )

pub loop-preserved : goal.loop-preserved
loop-preserved c =
    let sets : List SetEnvelope = c.args.group.now.sets in
    let header = c.args.group.now.header in
    let set = there_is sets c.loop.counter (omega (arith, c.loop-test.true, c.set_count-end.ensures)) in
    let done : List SetAnswer = c.loop.answers.items in
    let R = λ (n : ℕ) (s : SetEnvelope) (a : SetAnswer). IsSetAnswer c.args.sent.now header (take n sets) s a in
    let counted : c.loop.counter ≡ length done = sym c.loop.invariant.count in
    let left = next_set c.args.sent.now header sets c.loop.counter set.0 c.requires.0 c.loop.findings set.1
    (c.loop.invariant.rest c.requires.0 c.requires.1) in
    let answer : R (length done) set.0 c.in_ok-answer.answer =
    subst (λ (n : ℕ). R n set.0 c.in_ok-answer.answer) counted
    (c.in_ok-answer.ensures.answer c.args.sent.now header (take c.loop.counter sets) set.0 _ left) in
    record {
      answered = subst (λ (ys : List SetAnswer). ArePairs R sets ys) (sym c.in_ok-push.ensures.items)
          (pairs_more R sets done set.0 c.in_ok-answer.answer c.loop.invariant.answered
          (subst (λ (n : ℕ). slice_get sets n ≡ Some set.0) counted set.1) answer);
      count = ap (λ (ys : List SetAnswer). length ys) c.in_ok-push.ensures.items ∙ length_snoc done c.in_ok-answer.answer
          ∙ ap (λ (n : ℕ). n + 1) c.loop.invariant.count;
      rest = λ more h. c.in_ok-answer.ensures.rest _ _
          (next_set c.args.sent.now header sets c.loop.counter set.0 more c.loop.findings set.1 (c.loop.invariant.rest more h));
    }

pub returns-clause-rest : goal.returns-clause-rest
returns-clause-rest c more h =
    no_set c.args.sent.now c.args.group.now.header c.args.group.now.sets c.loop.counter more c.loop.findings
    (omega (arith, c.loop-test.false, c.set_count-end.ensures)) (c.loop.invariant.rest more h)
