use Rattle.std.proofs.Common.{◌≡◌, suc, ◌-◌, length, ◌∙◌, sym, ap, arith, List}
use Rattle.count_numbers.specs.declared.run.Run.{Run}
use Rattle.count_numbers.specs.Runs.{together}
use Rattle.std.specs.Prelude.{slice_set}
use Rattle.count_numbers.proofs.Pushing.{into_last, behind_last, behind_none, read_twice, same_run}
use Rattle.count_numbers.proofs.run.push_run.Goals as goal
use Rattle.count_numbers.proofs.run.push_run.Goals.{else-count-gt0-via-then-count-gt0+else-same_key, else-count-gt0-via-else-count-gt0}

pub returns-then-same_key-clause-pushed : goal.returns-then-same_key-clause-pushed
returns-then-same_key-clause-pushed c =
    let all = ap (λ (rs : List Run). length rs) c.as_slice-count.ensures.value in
    let some = c.if-count-gt0.true in
    let last : suc (length c.as_slice-count.result.now - 1) ≡ length c.args.runs.now.items = omega arith in
    let items = c.args.runs.now.items in
    let written = read_twice items _ c.index_mut.result.now c.index.result.now (omega arith) c.index_mut.ensures.value c.index.ensures in
    let added = read_twice items _ c.index-then-same_key.result.now c.index.result.now (omega arith) c.index-then-same_key.ensures
    c.index.ensures in
    ap (slice_set items _) (same_run c.index_mut.result.now c.index.result.now _ c.args.run written
    (c.together-sets.ensures ∙ ap (λ (x : Run). together x.sets c.args.run.sets) added))
    ∙ into_last items _ c.index.result.now c.args.run last c.index.ensures (sym c.same_key.ensures ∙ c.if-same_key.true)

pub returns-clause-pushed : goal.returns-clause-pushed
returns-clause-pushed c = c.in_ok-push.ensures.items ∙ elim c.else-count-gt0.branch [
  | else-count-gt0-via-then-count-gt0+else-same_key w ↦
      let all = ap (λ (rs : List Run). length rs) c.as_slice-count.ensures.value in
      let some = w.if-count-gt0.true in
      let last : suc (length c.as_slice-count.result.now - 1) ≡ length c.args.runs.now.items = omega arith in
      behind_last c.args.runs.now.items _ w.index.result.now c.args.run last w.index.ensures
      (sym w.same_key.ensures ∙ w.if-same_key.false)
  | else-count-gt0-via-else-count-gt0 w ↦
      let all = ap (λ (rs : List Run). length rs) c.as_slice-count.ensures.value in
      let few = w.if-count-gt0.false in
      let none : length c.args.runs.now.items ≡ 0 = omega arith in behind_none c.args.runs.now.items c.args.run none
]
