use Rattle.std.proofs.Common.{ℕ, List, length, sym, ap, subst, ◌∙◌}
use Rattle.std.proofs.lemmas.Result.{IfOk-weaker}
use Rattle.std.specs.List.{All}
use Rattle.partner_setup.specs.declared.partner.Partner.{Partner}
use Rattle.partner_setup.specs.Sound.{IsSoundPartner}
use Rattle.track_table.specs.declared.notes.Notes.{Notes}
use Rattle.track_table.specs.Rows.{TrackedBy}
use Rattle.track_table.specs.Walking.{AreFirst, AreSent}
use Rattle.track_table.specs.declared.sent.Sent.{Sent}
use Rattle.track_table.proofs.First.{behind_first}
use Rattle.track_table.proofs.starting.first_cursors.Goals as goal

pub returns : goal.returns
returns c =
    let by = c.args.by.now in
    let partners : List Partner = c.partners-partners.result.now in
    let guides : ℕ = length c.by.inside.setup.now.guides in
    let sound = subst (All (IsSoundPartner guides)) (sym c.partners-partners.ensures.partners) c.partners-partners.ensures.sound in
    let sent : AreSent (length partners) by.night c.in_ok-sent.sent.items =
    subst (λ (ms : List Notes). AreSent (length partners) ms c.in_ok-sent.sent.items) (ap (λ (b : TrackedBy). b.night) c.by.view_is)
    c.in_ok-sent.ensures in
    IfOk-weaker c.cursors_behind.result _ _
    (λ v first. behind_first by guides partners c.in_ok-sent.sent.items v.items
    (c.partners-partners.ensures.partners ∙ ap (λ (b : TrackedBy). b.setup.partners) c.by.view_is) sound sent
    (subst (λ (ss : List Sent). AreFirst partners ss v.items) c.as_slice.ensures.value first))
    c.cursors_behind.ensures
