use Rattle.std.proofs.Common.{List, ℕ, arith}
use Rattle.std.specs.Borrow.{Bor}
use Rattle.csv.specs.Records.{fields_of}
use Rattle.track_read.proofs.Growing.{lent_more}
use Rattle.track_read.proofs.written.lent_fields.Goals as goal

pub loop-i-preserved : goal.loop-i-preserved
loop-i-preserved c =
    let see : Bor (List ℕ) → List ℕ = λ field. field.now in
    lent_more see (fields_of c.args.row.now) c.loop-i.fields.items c.push.new.self.items c.field.result c.loop-i.i (omega (arith))
    c.loop-i.invariant c.in_ok-push.ensures.items c.field.ensures
