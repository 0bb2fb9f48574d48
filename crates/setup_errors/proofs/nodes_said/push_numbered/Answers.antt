use Rattle.std.proofs.Common.{◌≡◌, ◌∙◌, ◌++◌, ℕ, List, Option, None, Some, ap, refl, sym}
use Rattle.std.proofs.lemmas.Result.{on_ok_weaker}
use Rattle.guide_tree.specs.Words.{Tree, loop, no_trees, segment, tree}
use Rattle.setup_errors.specs.NodesSaid.{found_faults}
use Rattle.setup_errors.specs.Search.{viewed, with_number}
use Rattle.setup_errors.specs.declared.nodes_said.NodeFault.{NodeFault}
use Rattle.setup_errors.proofs.nodes_said.push_numbered.Goals as goal

-- what is wrong with a node doesn't hang on the number that it has
same : (number k : ℕ) (o : Option Tree) → found_faults number (with_number k o) ≡ found_faults number o
same number k None = refl
same number k (Some (segment s)) = refl
same number k (Some (loop l no_trees)) = refl
same number k (Some (loop l (tree (segment s) ts))) = refl
same number k (Some (loop l (tree (loop m us) ts))) = refl

pub returns : goal.returns
returns c =
    let faults = λ (o : Option Tree). found_faults c.args.number o in
    on_ok_weaker c.push_found.result
    (λ added. added ∙ ap (λ (w : List NodeFault). c.args.found.now.items ++ w)
    (sym (same c.args.number c.args.number (viewed c.node_at.result)) ∙ ap faults c.node_at.ensures))
    c.push_found.ensures
