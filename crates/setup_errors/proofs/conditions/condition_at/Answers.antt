use Rattle.std.proofs.Common.{◌≡◌, ◌∙◌, ℕ, Option, None, Some, ap, refl, sym}
use Rattle.std.specs.Prelude.{option_and_then}
use Rattle.guide_tree.specs.Words.{Tree, loop, segment}
use Rattle.setup_errors.specs.Conditions.{node_condition}
use Rattle.setup_errors.specs.Search.{viewed, with_number}
use Rattle.setup_errors.proofs.conditions.condition_at.Goals as goal

-- the number of a node is no part of its cause
same : (k : ℕ) (o : Option Tree) → option_and_then node_condition (with_number k o) ≡ option_and_then node_condition o
same k None = refl
same k (Some (segment s)) = refl
same k (Some (loop l ts)) = refl

pub returns : goal.returns
returns c =
    c.condition_of.ensures
    ∙ (sym (same c.args.number (viewed c.node_at.result)) ∙ ap (λ (o : Option Tree). option_and_then node_condition o) c.node_at.ensures)
