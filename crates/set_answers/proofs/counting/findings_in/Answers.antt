use Rattle.std.proofs.Common.{◌≡◌, ℕ, drop, ◌+◌, List, Some, length, ap, arith}
use Rattle.std.specs.Prelude.{slice_get}
use Rattle.std.proofs.lemmas.List.{drop_all}
use Rattle.env_index.specs.Words.{GroupEntry}
use Rattle.set_answers.specs.Counted.{asked_in_groups}
use Rattle.set_answers.proofs.Taking.{drop_one_more}
use Rattle.set_answers.proofs.counting.findings_in.Goals as goal

with_next : (gs : List GroupEntry) (i : ℕ) (g : GroupEntry) → slice_get gs i ≡ Some g
    → asked_in_groups (drop i gs) ≡ 1 + length g.sets + asked_in_groups (drop (i + 1) gs)
with_next gs i g there = ap asked_in_groups (drop_one_more gs i g there)

pub overflow_add-findings-in-loop-index : goal.overflow_add-findings-in-loop-index
overflow_add-findings-in-loop-index c =
    omega (
      arith,
      with_next c.args.interchange.now.content.groups c.loop-index.index c.group.result c.group.ensures,
      c.set_count.ensures,
      c.loop-index.invariant,
      c.requires,
    )

pub loop-index-preserved : goal.loop-index-preserved
loop-index-preserved c =
    omega (
      arith,
      with_next c.args.interchange.now.content.groups c.loop-index.index c.group.result c.group.ensures,
      c.set_count.ensures,
      c.loop-index.invariant,
    )

pub returns : goal.returns
returns c =
    let gs : List GroupEntry = c.args.interchange.now.content.groups in
    let none : asked_in_groups (drop c.loop-index.index gs) ≡ 0 =
    ap asked_in_groups (drop_all c.loop-index.index gs (omega (arith, c.loop-index-test.false, c.group_count-index-end.ensures))) in
    omega (arith, none, c.loop-index.invariant)
