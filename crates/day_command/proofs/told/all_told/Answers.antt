use Rattle.std.proofs.Common.{List, ℕ, arith, subst}
use Rattle.day_command.specs.Page.{IsOneMore, partner_of}
use Rattle.day_command.proofs.Telling.{told_more}
use Rattle.day_command.proofs.told.all_told.Goals as goal

pub loop-i-preserved : goal.loop-i-preserved
loop-i-preserved g c =
    let names : List (List ℕ) = c.args.names.now in
    told_more c.args.night.now names c.loop-i.i c.index-names-i.result c.loop-i.told.items c.push_told.new.told.items (omega (arith))
    c.index-names-i.is c.loop-i.invariant
    (subst (λ (name : List ℕ). IsOneMore c.args.night.now (partner_of name) c.loop-i.told.items c.push_told.new.told.items)
    c.as_slice.ensures c.in_ok-push_told.ensures)
