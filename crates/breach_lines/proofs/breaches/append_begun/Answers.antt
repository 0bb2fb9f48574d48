use Rattle.std.proofs.Common.{ℕ, List, ◌++◌, ◌∙◌, ap}
use Rattle.std.specs.Prelude.{codes}
use Rattle.std.proofs.lemmas.Result.{on_ok_weaker}
use Rattle.breach_lines.specs.Lines.{number_words}
use Rattle.breach_lines.proofs.Chain.{three}
use Rattle.breach_lines.proofs.breaches.append_begun.Goals as goal

pub returns : goal.returns
returns c =
    let b = c.args.breach.now in
    let old : List ℕ = c.args.out.now.items in
    on_ok_weaker c.append_numbers.result
    (three old c.append.new.out.items c.append_name.new.out.items c.append_numbers.new.out.items b.partner (codes " (" ++ b.address)
    (codes ") begins at " ++ number_words b.begun)
    (c.in_ok-append.ensures ∙ ap (λ (l : List ℕ). old ++ l) c.bytes.ensures) c.in_ok-append_name.ensures)
    c.append_numbers.ensures
