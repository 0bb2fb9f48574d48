use Rattle.ack_999.proofs.Positions.{tells-each-position}
use Rattle.ack_999.proofs.law.each_position_is_told.Goals as goal

pub returns : goal.returns
returns c = tells-each-position
