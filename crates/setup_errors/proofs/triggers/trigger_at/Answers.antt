use Rattle.std.proofs.Common.{◌≡◌, ◌∙◌, ℕ, Option, None, Some, ap, refl, sym}
use Rattle.std.specs.Prelude.{option_and_then}
use Rattle.guide_tree.specs.Words.{Tree, loop, no_trees, segment, tree}
use Rattle.setup_errors.specs.Triggers.{trigger_cause}
use Rattle.setup_errors.specs.Search.{viewed, with_number}
use Rattle.setup_errors.proofs.triggers.trigger_at.Goals as goal

-- the number of a node is no part of its cause
same : (k : ℕ) (o : Option Tree) → option_and_then trigger_cause (with_number k o) ≡ option_and_then trigger_cause o
same k None = refl
same k (Some (segment s)) = refl
same k (Some (loop l no_trees)) = refl
same k (Some (loop l (tree (segment s) ts))) = refl
same k (Some (loop l (tree (loop m us) ts))) = refl

pub returns : goal.returns
returns c =
    c.trigger_of.ensures
    ∙ (sym (same c.args.number (viewed c.node_at.result)) ∙ ap (λ (o : Option Tree). option_and_then trigger_cause o) c.node_at.ensures)
