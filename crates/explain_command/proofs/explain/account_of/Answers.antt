use Rattle.std.proofs.Common.{◌≡◌, List, ℕ, [], false, true, rules, ap, sym, ◌∙◌}
use Rattle.std.specs.Prelude.{◌≢◌}
use Rattle.std.specs.List.{list_any}
use Rattle.x12_bytes.specs.HeaderTest as layer
use Rattle.x12_bytes.specs.declared.delims.Delims.{Delims}
use Rattle.night_definition.specs.ReadBack.{segments_in}
use Rattle.night_equal.proofs.ForAbove.{heads}
use Rattle.ack_read.specs.Words.{first_delims}
use Rattle.explain_command.specs.Ends.{is_response}
use Rattle.explain_command.proofs.explain.account_of.Goals as goal

pub returns-in_default-clause-refused : goal.returns-in_default-clause-refused
returns-in_default-clause-refused c =
    let text : List ℕ = c.args.text.now in
    let some : text ≢ [] = search rules in
    let none : layer.is_head text 0 ≡ false = search rules in
    (some, heads text 0 ∙ none)

pub returns-then-has_response-clause-refused : goal.returns-then-has_response-clause-refused
returns-then-has_response-clause-refused c =
    let text : List ℕ = c.args.text.now in
    let headed : layer.is_head text 0 ≡ true = search rules in
    let delims : c.delims-delims.result ≡ first_delims text = search rules in (
      heads text 0 ∙ headed,
      ap (λ (d : Delims). list_any is_response (segments_in d text)) (sym delims) ∙ sym c.has_response.ensures
          ∙ c.if-has_response.true,
    )

pub account_by-requires-clause-headed : goal.account_by-requires-clause-headed
account_by-requires-clause-headed c =
    let headed : layer.is_head c.args.text.now 0 ≡ true = search rules in
    heads c.args.text.now 0 ∙ headed
