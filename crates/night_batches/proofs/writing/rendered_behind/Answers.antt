use Rattle.std.proofs.Common.{◌≡◌, ◌++◌, ℕ, List, drop, length, take, sym, ap, subst, ◌∙◌, arith}
use Rattle.std.proofs.Math.Seq.{take-append_seam}
use Rattle.mailbox.specs.Rendered.{HaveRendered, RenderedValue}
use Rattle.night_batches.proofs.writing.rendered_behind.Goals as goal

pub returns : goal.returns
returns g c xs delivered =
    let setup = c.args.setup.now in
    let old : List (List RenderedValue) = c.args.boxes.items in
    let new : List (List RenderedValue) = c.render_deliveries.new.boxes in
    let made : HaveRendered setup xs old new =
    subst (λ (bs : List (List RenderedValue)). HaveRendered setup xs bs new) c.as_mut_slice.ensures.value
    (c.in_ok-render_deliveries.ensures xs delivered) in
    let count : c.args.boxes.len ≡ length new = omega (arith, c.as_mut_slice.ensures.len, c.render_deliveries.auto.boxes) in
    subst (λ (bs : List (List RenderedValue)). HaveRendered setup xs old bs)
    (sym (ap (λ (n : ℕ). take n (new ++ drop (length new) old)) count ∙ take-append_seam new (drop (length new) old)))
    made
