use Rattle.std.proofs.Common.{◌++◌, List, ℕ, ap, ◌∙◌}
use Rattle.std.specs.Prelude.{codes}
use Rattle.partner_setup.proofs.Lines.{three_behind}
use Rattle.partner_setup.proofs.counters_text.append_name.Goals as goal

pub returns : goal.returns
returns c =
    let old : List ℕ = c.args.out.now.items in
    three_behind old (codes "\n[[counter]]\npartner = \"") c.args.name.now (codes "\"\n") _
    (c.in_ok-extend_from_slice-3.ensures.items
    ∙ ap (λ (l : List ℕ). l ++ codes "\"\n") (c.in_ok-extend_from_slice-2.ensures.items
    ∙ ap (λ (l : List ℕ). l ++ c.args.name.now) c.in_ok-extend_from_slice.ensures.items))
