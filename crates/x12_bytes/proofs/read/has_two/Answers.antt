use Rattle.std.proofs.Common.{◌+◌, arith}
use Rattle.x12_bytes.proofs.Rows.{two_in_a_row}
use Rattle.x12_bytes.proofs.read.has_two.Goals as goal

pub returns-then-is_field_at : goal.returns-then-is_field_at
returns-then-is_field_at c = (
  λ yes. two_in_a_row c.args.bytes.now c.args.k (c.is_field_at.ensures.0 c.if-is_field_at.true)
      (c.is_field_at-then-is_field_at.ensures.0 yes),
  λ row. c.is_field_at-then-is_field_at.ensures.1 (row (c.args.k + 1) (omega arith) (omega arith)),
)
