use Rattle.std.proofs.Common.{ap, inr, sym, ◌∙◌, ◌+◌, ◌≡◌, arith}
use Rattle.std.proofs.lemmas.Bool.{OnTrue_from}
use Rattle.elem_rules.specs.Divided.{is_filled}
use Rattle.hl_check.specs.Hierarchy.{parent_id_of}
use Rattle.hl_check.specs.Names.{Names}
use Rattle.hl_check.proofs.Levelled.{same_text}
use Rattle.hl_check.proofs.Naming.{named_there}
use Rattle.hl_check.proofs.levels.has_children.Goals as goal

pub returns-then-eq : goal.returns-then-eq
returns-then-eq c =
    let few = c.if-names-count-lt2.false in
    let next = c.index-names-count.result in
    OnTrue_from c.is_filled.result _ (λ h hls are.
    let n = named_there c.args.names.now hls are (c.args.count + 1) next c.index-names-count.is (omega (arith, few)) in
    let parent : parent_id_of n.hl ≡ c.parent-parent.result.now = ap (λ (x : Names). x.parent) n.names ∙ sym c.parent-parent.ensures in
    inr (record {
      next = n.hl;
      there = n.there;
      named = parent ∙ same_text c.parent-parent.result.now c.args.number.now (sym c.eq.ensures ∙ c.if-eq.true);
      filled = ap (is_filled c.args.delims) parent ∙ sym c.is_filled.ensures ∙ h;
    }))
