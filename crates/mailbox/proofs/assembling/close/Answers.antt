use Rattle.std.proofs.Common.{◌≡◌, ◌<◌, ◌∙◌, List, ap, length, refl, subst, sym}
use Rattle.std.proofs.lemmas.Option.{slice_get_read}
use Rattle.partner_setup.specs.declared.partner.Partner.{Partner}
use Rattle.mailbox.specs.Rendered.{RenderedValue, box_of_rendered, groups_of_rendered}
use Rattle.mailbox.proofs.Weaving.{woven_all}
use Rattle.mailbox.proofs.WrittenSets.{same_partner}
use Rattle.mailbox.proofs.assembling.close.Goals as goal

pub new-requires : goal.new-requires
new-requires c =
    (woven_all c.new-out.result.items c.append_interchanges.new.out.items _ c.new-cuts.result.items c.append_interchanges.new.cuts.items
    c.as_slice.result.now c.args.sets c.new-out.ensures.items c.new-cuts.ensures.items
    (c.as_slice.ensures.value ∙ c.in_ok-lent.ensures) c.in_ok-count.ensures.text).0

pub returns-clause-text : goal.returns-clause-text
returns-clause-text c p there =
    let within : c.args.partner < length c.partners.result.now = subst (λ (ps : List Partner). c.args.partner < length ps)
    (sym c.partners.ensures.partners) c.requires in
    let partner : c.index-partners-partner.result ≡ p = same_partner _ _ c.args.partner p c.index-partners-partner.result
    c.partners.ensures.partners
    (slice_get_read c.partners.result.now _ c.args.partner c.index-partners-partner.result refl within c.index-partners-partner.is) there in
    let lent : c.as_slice.result.now ≡ c.args.sets = c.as_slice.ensures.value ∙ c.in_ok-lent.ensures in
    c.new.ensures
    ∙ (woven_all c.new-out.result.items c.append_interchanges.new.out.items _ c.new-cuts.result.items c.append_interchanges.new.cuts.items
    c.as_slice.result.now c.args.sets c.new-out.ensures.items c.new-cuts.ensures.items lent c.in_ok-count.ensures.text).1
    ∙ ap (λ (vs : List RenderedValue). box_of_rendered c.args.setup.now c.index-partners-partner.result c.args.at.now
    c.args.acknowledgments c.args.groups vs) lent
    ∙ ap (λ (q : Partner). box_of_rendered c.args.setup.now q c.args.at.now c.args.acknowledgments c.args.groups c.args.sets) partner

pub returns-clause-groups : goal.returns-clause-groups
returns-clause-groups c p there =
    let within : c.args.partner < length c.partners.result.now = subst (λ (ps : List Partner). c.args.partner < length ps)
    (sym c.partners.ensures.partners) c.requires in
    let partner : c.index-partners-partner.result ≡ p = same_partner _ _ c.args.partner p c.index-partners-partner.result
    c.partners.ensures.partners
    (slice_get_read c.partners.result.now _ c.args.partner c.index-partners-partner.result refl within c.index-partners-partner.is) there in
    let lent : c.as_slice.result.now ≡ c.args.sets = c.as_slice.ensures.value ∙ c.in_ok-lent.ensures in
    c.in_ok-count.ensures.count
    ∙ ap (λ (vs : List RenderedValue). groups_of_rendered c.index-partners-partner.result.cap vs) lent
    ∙ ap (λ (q : Partner). groups_of_rendered q.cap c.args.sets) partner
