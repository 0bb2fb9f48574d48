use Rattle.guide_tree.specs.Words.{nodes_view, step_faults}
use Rattle.loop_match.specs.Steps.{last_of, place_view}
use Rattle.guide_fast.proofs.Silencing.{none_told}
use Rattle.guide_fast.proofs.by_table.FastGuideNextPlace.is_silent.Goals as goal

pub returns : goal.returns
returns c =
    none_told c.is_silent.result
    (λ at. step_faults at (nodes_view c.args.self.now.nodes.items) (last_of (place_view c.args.last.now)) (place_view c.args.next.now))
    c.is_silent.ensures
