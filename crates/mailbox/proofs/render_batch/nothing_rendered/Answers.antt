use Rattle.std.proofs.Common.{◌≡◌, ℕ, List, [], length, replicate, ap, ◌∙◌, arith}
use Rattle.partner_setup.specs.declared.partner.Partner.{Partner}
use Rattle.mailbox.specs.Rendered.{RenderedValue}
use Rattle.mailbox.proofs.render_batch.nothing_rendered.Goals as goal

pub returns : goal.returns
returns c =
    let setup = c.args.setup.now in
    let partners : length c.partners-end.result.now ≡ length setup.partners =
    ap (λ (ps : List Partner). length ps) c.partners-end.ensures.partners in
    let count : c.loop.counter ≡ length setup.partners = omega (arith, c.loop-test.false, c.loop.auto.counter-end, partners) in
    c.loop.invariant ∙ ap (λ (n : ℕ). let ls : List (List RenderedValue) = replicate n [] in ls) count
