use Rattle.std.proofs.Common.{◌<◌, List, length, refl, sym, subst, ◌∙◌}
use Rattle.std.proofs.lemmas.Option.{slice_get_read}
use Rattle.std.proofs.lemmas.Result.{IfOk-weaker}
use Rattle.partner_setup.specs.declared.partner.Partner.{Partner}
use Rattle.mailbox.proofs.WrittenSets.{box_made, same_partner, total_made}
use Rattle.mailbox.proofs.assembling.assemble.Goals as goal

pub returns-clause-text : goal.returns-clause-text
returns-clause-text c p there =
    let within : c.args.partner < length c.partners.result.now = subst (λ (ps : List Partner). c.args.partner < length ps)
    (sym c.partners.ensures.partners) c.requires in
    let partner = same_partner _ _ c.args.partner p c.index-partners-partner.result c.partners.ensures.partners
    (slice_get_read c.partners.result.now _ c.args.partner c.index-partners-partner.result refl within c.index-partners-partner.is) there in
    IfOk-weaker c.close.result _ _ (λ mailbox is. is
    ∙ box_made c.args.setup.now p c.index-partners-partner.result c.args.at.now c.args.acknowledgments c.args.groups c.args.sets.now
    c.none-written.result c.add_all.new.self c.none-written.ensures c.in_ok-add_all.ensures partner)
    (c.close.ensures.text p there)

pub returns-clause-groups : goal.returns-clause-groups
returns-clause-groups c p there =
    let within : c.args.partner < length c.partners.result.now = subst (λ (ps : List Partner). c.args.partner < length ps)
    (sym c.partners.ensures.partners) c.requires in
    let partner = same_partner _ _ c.args.partner p c.index-partners-partner.result c.partners.ensures.partners
    (slice_get_read c.partners.result.now _ c.args.partner c.index-partners-partner.result refl within c.index-partners-partner.is) there in
    IfOk-weaker c.close.result _ _ (λ mailbox is. is
    ∙ total_made c.args.setup.now p c.index-partners-partner.result c.args.at.now c.args.sets.now
    c.none-written.result c.add_all.new.self c.none-written.ensures c.in_ok-add_all.ensures partner)
    (c.close.ensures.groups p there)
