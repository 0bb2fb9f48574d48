use Rattle.std.proofs.Common.{◌∙◌, ◌++◌, ℕ, List, ap, ap₂}
use Rattle.breach_lines.specs.Lines.{delivery_words}
use Rattle.day_files.proofs.lines.delivery_of.Goals as goal

pub returns : goal.returns
returns c =
    c.in_ok-append_delivery.ensures
    ∙ ap (λ (l : List ℕ). l ++ delivery_words c.as_slice.result.now c.as_slice-2.result.now) c.new-words.ensures.items
    ∙ ap₂ delivery_words c.as_slice.ensures c.as_slice-2.ensures
