use Rattle.std.proofs.Common.{◌≡◌, Option, arith, option_map}
use Rattle.std.specs.Borrow.{Bor}
use Rattle.std.proofs.lemmas.Grind.{common_steps}
use Rattle.record_chain.specs.Breaks.{breaks_after}
use Rattle.record_chain.specs.declared.night.ReadNight.{ReadNight}
use Rattle.record_chain.proofs.Unbroken.{unbroken}
use Rattle.record_chain.proofs.chain.chain_breaks.Goals as goal

pub returns-clause-chained : goal.returns-clause-chained
returns-clause-chained c =
    let before : Option ReadNight = option_map (λ (night : Bor ReadNight). night.now) c.args.before in
    let is : c.loop-i.found.items ≡ breaks_after before c.args.nights.now = grind (arith, common_steps) in
    unbroken before c.args.nights.now c.loop-i.found.items is
