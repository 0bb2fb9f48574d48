use Rattle.loop_match.proofs.WithPlaces.{members, order}
use Rattle.loop_match.proofs.law.placed_segments_have_places.Goals as goal

pub returns-clause-members : goal.returns-clause-members
returns-clause-members c ts body given = members ts body given

pub returns-clause-order : goal.returns-clause-order
returns-clause-order c ts body given = order ts body given
