use Rattle.std.proofs.Common.{◌≡◌, ◌∙◌, length, ap, sym, arith}
use Rattle.std.specs.Prelude.{slice_get, Some}
use Rattle.std.proofs.lemmas.Option.{get_or_from_slice_get}
use Rattle.env_index.specs.Words.{GroupEntry, InterchangeEntry}
use Rattle.answered_sets.specs.Placed.{group_at, groups_in, no_group}
use Rattle.answered_sets.proofs.Lending.{group_on}
use Rattle.answered_sets.proofs.sets.first_from.Goals as goal

pub loop-place-preserved : goal.loop-place-preserved
loop-place-preserved c =
    let x = c.args.judged.now in
    let there : slice_get (groups_in x) c.loop-place.place.group ≡ Some c.group.result =
    ap (λ (i : InterchangeEntry). slice_get i.content.groups c.loop-place.place.group) (sym c.interchange-interchange.ensures.value)
    ∙ c.group.ensures in
    let same : group_at (groups_in x) c.loop-place.place.group ≡ c.group.result =
    get_or_from_slice_get (groups_in x) c.loop-place.place.group c.group.result no_group there in
    let count : length (group_at (groups_in x) c.loop-place.place.group).sets ≡ length c.group.result.sets =
    ap (λ (g : GroupEntry). length g.sets) same in
    c.loop-place.invariant ∙ group_on x c.loop-place.place.group c.loop-place.place.set
    (omega (arith, count, c.set_count.ensures, c.if-place-set_count.false))
