use Rattle.std.proofs.Common.{◌≡◌, ◌∙◌, ℕ, List, ap, arith, length, rules}
use Rattle.mailbox.specs.Kept.{kept_in}
use Rattle.mailbox.proofs.Rows.{lent_more}
use Rattle.mailbox.proofs.rendered_sets.Row.append_lent.Goals as goal

pub loop-i-preserved : goal.loop-i-preserved
loop-i-preserved c =
    let end : c.len-i-end.result ≡ length c.self.inside.sets.items = search rules in
    lent_more (kept_in c.self.inside.text.items) c.self.inside.sets.items c.args.lent.now.items c.args.self.now c.loop-i.lent.items
    c.push.new.self.items
    c.loop-i.i c.index.result.now c.lent_of.result c.self.view_is (omega (arith, c.loop-i-test.true, end)) c.index.ensures
    c.loop-i.invariant (c.lent_of.ensures ∙ ap (λ (b : List ℕ). kept_in b c.index.result.now) c.as_slice-text.ensures.value)
    c.in_ok-push.ensures.items
