use Rattle.std.proofs.Common.{sym}
use Rattle.gather_files.proofs.Padding.{first_terminator}
use Rattle.gather_files.proofs.gather.first_terminator.Goals as goal

pub returns : goal.returns
returns c = sym (first_terminator c.args.bytes.now)
