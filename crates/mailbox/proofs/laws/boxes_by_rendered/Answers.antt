use Rattle.mailbox.proofs.Rendering.{boxes_rendered}
use Rattle.mailbox.proofs.laws.boxes_by_rendered.Goals as goal

pub returns : goal.returns
returns c = boxes_rendered
