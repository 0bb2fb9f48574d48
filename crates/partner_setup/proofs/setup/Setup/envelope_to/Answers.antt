use Rattle.std.proofs.Common.{List, ℕ, length, get_or, sym, ap, subst, ◌∙◌}
use Rattle.partner_setup.specs.Sound.{IsSoundPartner}
use Rattle.partner_setup.specs.declared.partner.Partner.{Partner}
use Rattle.partner_setup.proofs.Sending.{sendable}
use Rattle.partner_setup.proofs.setup.Setup.envelope_to.Goals as goal

pub returns-clause-sendable : goal.returns-clause-sendable
returns-clause-sendable c =
    let setup = c.args.self.now in
    let count : ℕ = length setup.guides in
    let place : ℕ = c.args.partner in
    let p : Partner = c.index-partners-partner.result in
    let at = c.index-partners-partner.is ∙ ap (λ (ps : List Partner). get_or ps place p) c.partners.ensures.partners in
    let sound = subst (λ (x : Partner). IsSoundPartner count x) (sym at) (c.partners.ensures.sound place p c.requires) in
    rw (c.envelope_between.ensures, c.hub.ensures.hub) (sendable count setup.hub p c.hub.ensures.ids sound)
