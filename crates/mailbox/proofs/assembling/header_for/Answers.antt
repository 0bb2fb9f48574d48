use Rattle.std.proofs.Common.{◌≡◌, Some, sym, subst, ap, ◌∙◌}
use Rattle.std.specs.Prelude.{option_map, IfOk}
use Rattle.partner_setup.specs.Envelopes.{envelope_to}
use Rattle.x12_write.specs.Outbound.{AreHeaderEnds}
use Rattle.x12_write.specs.declared.envelope.Envelope.{Envelope}
use Rattle.mailbox.proofs.assembling.header_for.Goals as goal

pub returns : goal.returns
returns c =
    let some : Some c.envelope_to.result ≡ Some (envelope_to c.args.setup.now c.args.partner.now) =
    sym c.envelope_to.ensures.envelope ∙ ap (option_map (envelope_to c.args.setup.now)) c.requires in
    let envelope : c.envelope_to.result ≡ envelope_to c.args.setup.now c.args.partner.now = cc in
    subst (λ (e : Envelope). IfOk c.new.result (AreHeaderEnds e c.args.at.now)) envelope c.new.ensures
