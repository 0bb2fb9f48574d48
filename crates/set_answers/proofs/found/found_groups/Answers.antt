use Rattle.std.proofs.Common.{◌≡◌, ℕ, List, Option, Some, length, drop, take, ◌+◌, sym, ap, subst, ◌∙◌, arith}
use Rattle.std.specs.Prelude.{slice_get}
use Rattle.env_index.specs.Words.{GroupEntry}
use Rattle.set_answers.specs.declared.answered.AnsweredGroup.{AnsweredGroup}
use Rattle.set_answers.specs.Answers.{IsGroupAnswered}
use Rattle.set_answers.specs.Pairs.{ArePairs}
use Rattle.set_answers.proofs.Growing.{length_snoc}
use Rattle.set_answers.proofs.Pairing.{pairs_more}
use Rattle.set_answers.proofs.Taking.{behind_group, next_group, no_group}
use Rattle.set_answers.proofs.found.found_groups.Goals as goal

pub found_group-requires : goal.found_group-requires
found_group-requires c =
    let groups = c.args.interchange.now.content.groups in (
      take c.loop-index.index groups,
      drop (c.loop-index.index + 1) groups,
      c.requires.0,
      next_group c.args.sent.now groups c.loop-index.index c.group-group.result c.requires.0 c.loop-index.findings c.group-group.ensures
          (c.loop-index.invariant.rest c.requires.0 c.requires.1),
    )

pub loop-index-preserved : goal.loop-index-preserved
loop-index-preserved c =
    let groups : List GroupEntry = c.args.interchange.now.content.groups in
    let i : ℕ = c.loop-index.index in
    let group : GroupEntry = c.group-group.result in
    let done : List (Option AnsweredGroup) = c.loop-index.answers.items in
    let R = λ (n : ℕ) (g : GroupEntry) (a : Option AnsweredGroup). IsGroupAnswered c.args.sent.now (take n groups) g a in
    let counted : i ≡ length done = sym c.loop-index.invariant.count in
    let left = next_group c.args.sent.now groups i group c.requires.0 c.loop-index.findings c.group-group.ensures
    (c.loop-index.invariant.rest c.requires.0 c.requires.1) in
    let answer : R (length done) group c.in_ok-answer.answer =
    subst (λ (n : ℕ). R n group c.in_ok-answer.answer) counted
    (c.in_ok-answer.ensures.answer (take i groups) (drop (i + 1) groups) c.requires.0 left) in
    record {
      answered = subst (λ (ys : List (Option AnsweredGroup)). ArePairs R groups ys) (sym c.in_ok-push.ensures.items)
          (pairs_more R groups done group c.in_ok-answer.answer c.loop-index.invariant.answered
          (subst (λ (n : ℕ). slice_get groups n ≡ Some group) counted c.group-group.ensures) answer);
      count = ap (λ (ys : List (Option AnsweredGroup)). length ys) c.in_ok-push.ensures.items ∙ length_snoc done c.in_ok-answer.answer
          ∙ ap (λ (n : ℕ). n + 1) c.loop-index.invariant.count;
      rest = λ more h. behind_group c.args.sent.now groups i group more c.found_group.new.findings c.group-group.ensures
          (c.in_ok-answer.ensures.rest (take i groups) (drop (i + 1) groups) more
          (next_group c.args.sent.now groups i group more c.loop-index.findings c.group-group.ensures
          (c.loop-index.invariant.rest more h)));
    }

pub returns-clause-rest : goal.returns-clause-rest
returns-clause-rest c more h =
    no_group c.args.sent.now c.args.interchange.now.content.groups c.loop-index.index more c.loop-index.findings
    (omega (arith, c.loop-index-test.false, c.group_count-index-end.ensures)) (c.loop-index.invariant.rest more h)
