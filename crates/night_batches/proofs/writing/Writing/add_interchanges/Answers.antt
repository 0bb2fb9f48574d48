use Rattle.std.proofs.Common.{◌≡◌, ℕ, ◌+◌, List, ap, sym, subst, ◌∙◌}
use Rattle.env_index.specs.Words.{IndexEntry}
use Rattle.partner_setup.specs.Setup.{SetupValue}
use Rattle.answered_sets.specs.Judged.{JudgedValue, PlacedValue}
use Rattle.mailbox.specs.Deliveries.{AreDelivered}
use Rattle.mailbox.specs.Rendered.{HaveRendered, RenderedValue}
use Rattle.night_report.specs.Told.{told_behind}
use Rattle.night_batches.specs.Night.{judgements}
use Rattle.night_batches.specs.Writing.{IsBatchWritten, WritingValue}
use Rattle.night_batches.proofs.writing.Writing.add_interchanges.Goals as goal

pub returns : goal.returns
returns g c =
    let text : List ℕ = c.args.index.now.text in
    let setup : SetupValue = c.args.setup.now in
    let at : List ℕ = c.args.at.now in
    let entries : List IndexEntry = c.args.index.now.entries in
    let checked = c.in_ok-interchanges.ensures in
    let js : List JudgedValue = c.as_slice.result.now in
    let same : js ≡ judgements text checked.answered = c.as_slice.ensures.value ∙ checked.judged in
    let old_boxes : List (List RenderedValue) = c.self.inside.boxes.items in
    let new_boxes : List (List RenderedValue) = c.in_ok-boxes.boxes.items in
    let new : WritingValue = record {
      outside = c.self.inside.outside + c.outside.result;
      files = c.in_ok-interchanges.field-0.acknowledgments.items;
      told = c.in_ok-lines.field-0.lines;
      boxes = new_boxes;
    } in
    subst (λ (w : WritingValue). IsBatchWritten text setup at c.args.base entries c.args.index.now.outside w new) c.self.view_is
    (record {
      known = checked.answered;
      answered = checked.are;
      outside = ap (λ (n : ℕ). c.self.inside.outside + n) c.outside.ensures;
      files = checked.acknowledged;
      told = c.in_ok-lines.ensures.lines ∙ ap (told_behind setup c.args.base c.self.inside.lines) same;
      boxes = subst (λ (xs : List JudgedValue). HaveRendered setup xs old_boxes new_boxes) same
          (c.in_ok-boxes.ensures js (subst (λ (ls : List (List PlacedValue)). AreDelivered setup js ls)
          (sym c.as_slice-2.ensures.value) c.in_ok-lines.ensures.deliveries));
    })
