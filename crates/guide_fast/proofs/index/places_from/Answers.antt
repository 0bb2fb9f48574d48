use Rattle.std.proofs.Common.{subst, sym, ◌∙◌, rules}
use Rattle.std.specs.List.Sorted.{IsPartitionedBy}
use Rattle.std.proofs.lemmas.List.Sorted.{IsPartitionPoint-from_clause}
use Rattle.guide_fast.proofs.Parting.{below, parted_at, behind, all_behind}
use Rattle.guide_fast.proofs.index.places_from.Goals as goal

pub returns : goal.returns
returns c text texts h e =
    let all = c.args.all.now in
    let at = c.partition_point-at.result in
    let from = c.args.from in
    let is : IsPartitionedBy (below from) all = subst (IsPartitionedBy (below from)) (sym e) (parted_at text texts from h) in
    let point = IsPartitionPoint-from_clause (below from) all at c.partition_point-at.ensures.partitioned is (λ a r f k. search rules) in
    all_behind all at
    ∙ behind all text texts from at h e c.partition_point-at.ensures.bound point
