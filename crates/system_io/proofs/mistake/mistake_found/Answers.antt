use Rattle.system_io.proofs.Signs.{line_of_signs}
use Rattle.system_io.proofs.mistake.mistake_found.Goals as goal

pub returns : goal.returns
returns c = line_of_signs c.as_bytes.result.now c.in_one_line.result c.in_one_line.ensures
