use Rattle.std.proofs.Common.{◌≡◌, ◌<◌, ◌∙◌, Some, length, ap, sym, arith}
use Rattle.std.specs.Prelude.{slice_get}
use Rattle.std.proofs.lemmas.Option.{get_or_from_slice_get}
use Rattle.env_index.specs.Words.{InterchangeEntry}
use Rattle.answered_sets.specs.Placed.{groups_in, no_group}
use Rattle.night_report.proofs.Outcomes.{groups_count}
use Rattle.night_report.proofs.report.set_count.Goals as goal

pub overflow_sub-rest : goal.overflow_sub-rest
overflow_sub-rest c =
    let x = c.args.interchange.now in
    let groups = ap (λ (i : InterchangeEntry). length i.content.groups) c.interchange-interchange.ensures.value in
    let within : c.loop-n.n < length (groups_in x) = omega (arith, c.loop-n-test.true, c.group_count-n-end.ensures, groups) in
    let there : slice_get (groups_in x) c.loop-n.n ≡ Some c.group.result =
    ap (λ (i : InterchangeEntry). slice_get i.content.groups c.loop-n.n) (sym c.interchange-interchange.ensures.value) ∙ c.group.ensures in
    let counted = groups_count x c.loop-n.n no_group c.group.result within
    (sym (get_or_from_slice_get (groups_in x) c.loop-n.n c.group.result no_group there)) in
    omega (arith, counted, c.loop-n.invariant, c.set_count-rest.ensures, c.requires)

pub loop-n-preserved : goal.loop-n-preserved
loop-n-preserved c =
    let x = c.args.interchange.now in
    let groups = ap (λ (i : InterchangeEntry). length i.content.groups) c.interchange-interchange.ensures.value in
    let within : c.loop-n.n < length (groups_in x) = omega (arith, c.loop-n-test.true, c.group_count-n-end.ensures, groups) in
    let there : slice_get (groups_in x) c.loop-n.n ≡ Some c.group.result =
    ap (λ (i : InterchangeEntry). slice_get i.content.groups c.loop-n.n) (sym c.interchange-interchange.ensures.value) ∙ c.group.ensures in
    let counted = groups_count x c.loop-n.n no_group c.group.result within
    (sym (get_or_from_slice_get (groups_in x) c.loop-n.n c.group.result no_group there)) in
    omega (arith, counted, c.loop-n.invariant, c.set_count-rest.ensures)
