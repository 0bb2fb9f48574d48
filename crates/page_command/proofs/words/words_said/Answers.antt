use Rattle.std.proofs.Common.{◌≡◌, ◌∙◌, false, true, Bool, [], ap, cond, rules, sym}
use Rattle.std.proofs.lemmas.Result.{IfOk-weaker}
use Rattle.x12_bytes.specs.HeaderTest as layer
use Rattle.night_equal.proofs.ForAbove.{heads}
use Rattle.ack_read.specs.Reading.{first_delims}
use Rattle.ack_read.specs.Told.{told_in}
use Rattle.ack_lines.specs.Lines.{fault_lines}
use Rattle.page_command.proofs.words.words_said.Goals as goal

pub returns-in_default : goal.returns-in_default
returns-in_default c =
    let sample = c.args.sample.now in
    let none : layer.is_head sample 0 ≡ false = search rules in
    let said = fault_lines c.args.names.now (told_in (first_delims sample) c.args.lines.now) in
    c.new.ensures.items ∙ sym (ap (λ (b : Bool). cond b said []) (heads sample 0 ∙ none))

pub returns : goal.returns
returns c =
    let sample = c.args.sample.now in
    let headed : layer.is_head sample 0 ≡ true = search rules in
    let said = fault_lines c.args.names.now (told_in (first_delims sample) c.args.lines.now) in
    let told : c.as_slice.result.now ≡ told_in (first_delims sample) c.args.lines.now = search rules in
    IfOk-weaker c.fault_lines.result _ _ (λ text is. is ∙ ap (fault_lines c.args.names.now) told
    ∙ sym (ap (λ (b : Bool). cond b said []) (heads sample 0 ∙ headed)))
    c.fault_lines.ensures
