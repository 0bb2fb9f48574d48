use Rattle.std.proofs.Common.{length, ap, subst, ◌∙◌}
use Rattle.night_batches.proofs.Sides.{closed_night}
use Rattle.night_batches.specs.Writing.{IsClosedBy, WritingValue}
use Rattle.night_batches.proofs.writing.Writing.close.Goals as goal

pub returns : goal.returns
returns c =
    let setup = c.args.setup.now in
    let at = c.args.at.now in
    let night = c.in_ok-night.night in
    let w : WritingValue = record {
      outside = c.self.inside.outside;
      files = c.self.inside.files.items;
      told = c.self.inside.lines;
      boxes = c.self.inside.boxes.items;
    } in
    subst (λ (v : WritingValue). IsClosedBy setup at v night) c.self.view_is
    (closed_night setup at w c.as_slice.result.now night c.in_ok-closed.closed.boxes.items c.in_ok-closed.closed.next.items
    c.as_slice.ensures.value (ap (λ (v : WritingValue). length v.boxes) c.self.view_is ∙ c.requires.boxes) c.in_ok-closed.ensures
    c.in_ok-night.ensures.acks c.in_ok-night.ensures.boxes c.in_ok-night.ensures.report c.in_ok-night.ensures.next)
