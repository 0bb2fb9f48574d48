use Rattle.std.proofs.Common.{◌∙◌, arith, append-nil}
use Rattle.std.proofs.lemmas.Fmt.{length-decimal-le}
use Rattle.std.specs.Prelude.{decimal}
use Rattle.x12_write.proofs.Padding.{padded_number-from_zeros}
use Rattle.x12_write.proofs.number.PaddedNumber.new.Goals as goal

pub write_digits-start-requires : goal.write_digits-start-requires
write_digits-start-requires c = (length-decimal-le 10 c.from.result (omega arith) (omega arith) (omega arith), omega arith)

pub returns : goal.returns
returns c =
    rw (c.first_shown.ensures, ← c.from.ensures)
    (padded_number-from_zeros c.args.least c.from.result c.write_digits-start.result c.write_digits-start.new.buf
    c.requires c.write_digits-start.ensures.start (c.write_digits-start.ensures.written
    ∙ append-nil (decimal c.from.result)) c.write_digits-start.ensures.before)
