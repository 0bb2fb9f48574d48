use Rattle.guide_tree.specs.Words.{nodes_view, node_count}
use Rattle.guide_fast.specs.Ahead.{AreStations}
use Rattle.guide_fast.proofs.station.+add_stations.Given as goal

abbrev pub decreases-add_stations : goal.decreases-add_stations
decreases-add_stations l = node_count (nodes_view l.nodes.now)

abbrev pub invariant-loop-k : goal.invariant-loop-k
invariant-loop-k l = AreStations (nodes_view l.top) l.stations.items
