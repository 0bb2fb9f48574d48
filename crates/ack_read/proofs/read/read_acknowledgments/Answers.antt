use Rattle.std.proofs.Common.{◌≡◌, false, true, rules, ap, sym, ◌∙◌}
use Rattle.std.proofs.lemmas.List.{nil_from_length}
use Rattle.x12_bytes.specs.HeaderTest as layer
use Rattle.ack_read.specs.Reading.{first_delims, responses_told, ta1s_told}
use Rattle.ack_read.specs.Told.{told_in}
use Rattle.night_equal.proofs.ForAbove.{heads}
use Rattle.ack_read.proofs.Telling.{sets_are_read, ta1s_are_read}
use Rattle.ack_read.proofs.read.read_acknowledgments.Goals as goal

pub returns-in_default-clause-refused : goal.returns-in_default-clause-refused
returns-in_default-clause-refused c =
    let text = c.args.text.now in
    let none : layer.is_head text 0 ≡ false = search rules in
    heads text 0 ∙ none

pub returns-then-is_empty-clause-refused : goal.returns-then-is_empty-clause-refused
returns-then-is_empty-clause-refused c =
    let text = c.args.text.now in
    let headed : layer.is_head text 0 ≡ true = search rules in
    let told : c.in_ok-found.found.items ≡ told_in (first_delims text) text = search rules in
    (heads text 0 ∙ headed, sym told ∙ nil_from_length c.in_ok-found.found.items (search rules))

pub returns-clause-told : goal.returns-clause-told
returns-clause-told c =
    let text = c.args.text.now in
    let headed : layer.is_head text 0 ≡ true = search rules in
    record { headed = heads text 0 ∙ headed; told = search rules; some = search rules }

pub returns-clause-sets : goal.returns-clause-sets
returns-clause-sets c =
    let text = c.args.text.now in
    let told : c.in_ok-found.found.items ≡ told_in (first_delims text) text = search rules in
    ap responses_told told ∙ sets_are_read (first_delims text) text

pub returns-clause-ta1s : goal.returns-clause-ta1s
returns-clause-ta1s c =
    let text = c.args.text.now in
    let told : c.in_ok-found.found.items ≡ told_in (first_delims text) text = search rules in
    ap ta1s_told told ∙ ta1s_are_read (first_delims text) text
