use Rattle.std.proofs.Common.{◌≡◌, ℕ, length, map, sym, ◌∙◌, ap, ◌++◌, List, refl, rules, subst}
use Rattle.std.proofs.lemmas.List.{length-map}
use Rattle.std.proofs.lemmas.Result.{on_ok_weaker}
use Rattle.x12_write.specs.Group.{group_trailer_text}
use Rattle.mailbox.specs.Rendered.{text_in}
use Rattle.mailbox.specs.Woven.{HasWoven}
use Rattle.mailbox.specs.declared.woven.Cut.{Cut}
use Rattle.mailbox.proofs.GroupTexts.{group_parts}
use Rattle.mailbox.proofs.Weaving.{group_woven}
use Rattle.mailbox.proofs.group_text.append_group.Goals as goal

pub returns : goal.returns
returns c =
    let a : List ℕ = c.args.out.now.items in
    let b : List ℕ = c.append_header_of.new.out.items in
    let d : List ℕ = c.append_group_trailer.new.out.items in
    let ka : List Cut = c.args.cuts.now.items in
    let kb : List Cut = c.push.new.self.items in
    let cut : Cut = record { at = c.len.result; sets = length c.args.sets.now } in
    let at : c.len.result ≡ length b = search rules in
    let many : length c.args.sets.now ≡ length (map text_in c.args.sets.now) = sym (length-map c.args.sets.now text_in) in
    on_ok_weaker c.append_group_trailer.result (λ is.
    subst (λ (t : List ℕ). HasWoven a ka d kb c.args.sets.now t) (sym (group_parts c.args.setup.now c.args.partner.now c.args.at.now
    c.args.control c.args.sets.now c.index-sets-0.result c.requires c.index-sets-0.is))
    (group_woven a b d _ (group_trailer_text c.args.partner.now.delims (length (map text_in c.args.sets.now)) c.args.control) ka kb cut
    c.args.sets.now c.in_ok-append_header_of.ensures c.in_ok-push.ensures.items at refl
    (is ∙ ap (λ (n : ℕ). b ++ group_trailer_text c.args.partner.now.delims n c.args.control) many))) c.append_group_trailer.ensures.text
