use Rattle.std.proofs.Common.{◌≡◌, ◌-◌, List, length, take, drop, sym, subst, true, false, rules}
use Rattle.std.specs.List.Sorted.{IsPartitionedBy, IsPartitionPoint}
use Rattle.std.proofs.lemmas.List.Sorted.{IsPartitionPoint-from_clause}
use Rattle.loop_match.specs.declared.placed.PlacedSeg.{PlacedSeg}
use Rattle.loop_match.specs.Viewed.{placed_views}
use Rattle.depend_check.specs.Uses.{HaveSameUses}
use Rattle.depend_check.proofs.Grouping.{before, not_behind, parted_before, parted_behind, rest_of, between}
use Rattle.depend_check.proofs.groups.uses_of.Goals as goal

pub returns : goal.returns
returns c =
    let label = c.args.label.now in
    let ps = c.args.placed.now in
    let from = c.partition_point-from.result in
    let to = c.partition_point-to.result in
    let rest = take (length ps - from) (drop from ps) in
    let e : rest ≡ drop from ps = rest_of ps from in
    let first = IsPartitionPoint-from_clause (before label) ps from c.partition_point-from.ensures.partitioned
    (parted_before label ps c.requires) (λ a r f k. search rules) in
    let second = IsPartitionPoint-from_clause (not_behind label) rest to c.partition_point-to.ensures.partitioned
    (subst (IsPartitionedBy (not_behind label)) (sym e) (parted_behind label ps from c.requires)) (λ a r f k. search rules) in
    subst (λ (l : List PlacedSeg). HaveSameUses label (placed_views (take to l)) (placed_views ps)) (sym e)
    (between label ps from to (
      c.partition_point-from.ensures.bound,
      first,
      subst (λ (l : List PlacedSeg). IsPartitionPoint (λ y. not_behind label y ≡ true) (λ y. not_behind label y ≡ false) l to) e second,
    ))
