use Rattle.std.proofs.Common.{◌+◌}
use Rattle.x12_bytes.specs.Header.{header_delims, header_at}
use Rattle.env_index.proofs.LeastEnd.{least_end}
use Rattle.env_index.proofs.Surround.{head_within}
use Rattle.env_index.proofs.laws.end_is_least.Goals as goal

pub returns : goal.returns
returns c = λ text start head. least_end text (header_delims (header_at text start)) (start + 106) (head_within text start head)
