use Rattle.std.proofs.Common.{◌<◌, sym, subst, List, ℕ, None}
use Rattle.guide_tree.specs.declared.node.Node.{Node}
use Rattle.guide_tree.specs.Words.{nodes_view, node_count}
use Rattle.guide_tree.proofs.ForAbove.{view_loop}
use Rattle.guide_fast.specs.Ahead.{AreStations}
use Rattle.guide_fast.proofs.StationTurns.{fewer, more_stations}
use Rattle.guide_fast.proofs.station.+add_stations.Goals as goal

pub add_stations-requires : goal.add_stations-requires
add_stations-requires t c = (
  subst (λ (m : ℕ). node_count (nodes_view c.as_slice-in-Loop.result.now) < m) c.decreases
      (subst (λ (ns : List Node). node_count (nodes_view ns) < node_count (nodes_view c.args.nodes.now))
      (sym c.as_slice-in-Loop.ensures.value)
      (fewer c.args.nodes.now c.loop-k.k c.index-nodes-k.result c.in-Loop.field-0 (nodes_view c.in-Loop.inner.items) c.loop-k-test.true
      c.index-nodes-k.is (view_loop c.index-nodes-k.result c.in-Loop.field-0 c.in-Loop.inner c.in-Loop.is))),
  subst (AreStations (nodes_view c.args.top.now)) (sym c.in_ok-push-in-Loop.ensures.items)
      (more_stations (nodes_view c.args.top.now) c.loop-k.stations.items None c.loop-k.invariant tt),
)
