use Rattle.std.proofs.Common.{◌≡◌, ◌+◌, ap, sym, subst, ◌∙◌, List, [], ℕ, drop, true, IsTrue}
use Rattle.std.proofs.lemmas.Result.{IfOk-weaker}
use Rattle.std.specs.Bool.{OnTrue}
use Rattle.guide_tree.specs.declared.node.Node.{Node}
use Rattle.guide_tree.specs.Words.{view, nodes_view, loop, fit_in, fit_next, fit_starts, unused, Place}
use Rattle.guide_tree.proofs.ForAbove.{view_loop}
use Rattle.loop_match.specs.Leaving.{ended_among}
use Rattle.guide_fast.specs.Ahead.{Adds, Any, IsKnown, IsStart, StandsAt, InSilent, AmongSilent, children_of}
use Rattle.guide_fast.proofs.KnownTurns.{IsEnded, loop_adds, loop_ends, adds_none, next_past, ended_outside, among_adds, ended_after}
use Rattle.guide_fast.proofs.known.+known.Goals as goal

pub add_inside-returns-in-Loop-clause-turns : goal.add_inside-returns-in-Loop-clause-turns
add_inside-returns-in-Loop-clause-turns t c =
    let l = c.in-Loop.field-0 in
    let ns = c.deref.result.now in
    let n = c.args.depth in
    let path = c.args.path.now in
    let node = view c.args.node.now in
    let is : node ≡ loop l (nodes_view ns) =
    view_loop c.args.node.now l c.in-Loop.nodes c.in-Loop.is
    ∙ ap (λ (ms : List Node). loop l (nodes_view ms)) (sym c.deref.ensures.value) in
    IfOk-weaker c.add_among.result
    (λ more. Adds n (IsKnown n path (AmongSilent (nodes_view ns))) (StandsAt path) (λ s p. fit_next s true (nodes_view ns) p)
    c.args.turns.now.items c.add_among.new.turns.items)
    (λ more. Adds n (IsKnown n path (InSilent node)) (StandsAt path) (λ s p. fit_in s node p) c.args.turns.now.items
    c.add_among.new.turns.items)
    (λ more a. loop_adds n path node l (nodes_view ns) c.args.turns.now.items c.add_among.new.turns.items is a) c.add_among.ensures.turns

pub add_inside-returns-in-Loop-clause-silent : goal.add_inside-returns-in-Loop-clause-silent
add_inside-returns-in-Loop-clause-silent t c =
    let l = c.in-Loop.field-0 in
    let ns = c.deref.result.now in
    let path = c.args.path.now in
    let node = view c.args.node.now in
    let is : node ≡ loop l (nodes_view ns) =
    view_loop c.args.node.now l c.in-Loop.nodes c.in-Loop.is
    ∙ ap (λ (ms : List Node). loop l (nodes_view ms)) (sym c.deref.ensures.value) in
    IfOk-weaker c.add_among.result
    (λ more. OnTrue more ((p : Place) → children_of p ≡ path → (at : ℕ) (o : List ℕ) → ended_among at o (nodes_view ns) p ≡ []))
    (λ more. OnTrue more (IsEnded node path)) (λ more e. loop_ends more path node l (nodes_view ns) is e) c.add_among.ensures.silent

pub add_among-returns-then-child-nodes-clause-turns : goal.add_among-returns-then-child-nodes-clause-turns
add_among-returns-then-child-nodes-clause-turns t c =
    let ns = c.args.nodes.now in
    adds_none c.args.depth (IsKnown c.args.depth c.args.path.now (AmongSilent (nodes_view ns))) (StandsAt c.args.path.now)
    (λ s p. fit_next s c.args.in_loop (nodes_view ns) p) c.args.turns.now.items
    (λ s p q. next_past c.args.in_loop ns c.in-Some.child.now c.in-Some.rest.now c.if-child-nodes.true s p
    (q ∙ c.in-Some.ensures.cases.0))

pub add_among-returns-then-child-nodes-clause-silent : goal.add_among-returns-then-child-nodes-clause-silent
add_among-returns-then-child-nodes-clause-silent t c p q at o =
    ended_outside c.in-Some.child.now c.in-Some.rest.now c.args.nodes.now c.if-child-nodes.true p (q ∙ c.in-Some.ensures.cases.0) at o

pub add_among-returns-clause-turns : goal.add_among-returns-clause-turns
add_among-returns-clause-turns t c =
    let n = c.args.depth in
    let ns = c.args.nodes.now in
    let k = c.in-Some.child.now in
    let rest = c.in-Some.rest.now in
    let enough = c.is_enough-enough.result in
    let old = c.args.turns.now.items in
    let new = c.add_starts.new.turns.items in
    IfOk-weaker c.add_starts.result
    (λ more. Adds n (IsStart n (k + 1) enough ns) Any (λ s p. fit_starts s (k + 1) (nodes_view (drop (k + 1) ns)))
    c.add_again.new.turns.items new)
    (λ more. Adds n (IsKnown n c.args.path.now (AmongSilent (nodes_view ns))) (StandsAt c.args.path.now)
    (λ s p. fit_next s c.args.in_loop (nodes_view ns) p) old new)
    (λ more a. subst (λ (l : List ℕ). Adds n (IsKnown n l (AmongSilent (nodes_view ns))) (StandsAt l)
    (λ s p. fit_next s c.args.in_loop (nodes_view ns) p) old new) (sym c.in-Some.ensures.cases.0)
    (among_adds n k rest c.args.in_loop ns c.index-nodes-child.result c.in_ok-silent.silent enough old c.add_inside.new.turns.items
    c.add_again.new.turns.items new c.if-child-nodes.false c.index-nodes-child.is c.in_ok-silent.ensures.silent
    c.is_enough-enough.ensures c.in_ok-silent.ensures.turns c.in_ok-add_again.ensures a))
    c.add_starts.ensures.turns

pub add_among-returns-clause-silent : goal.add_among-returns-clause-silent
add_among-returns-clause-silent t c =
    let ns = c.args.nodes.now in
    let k = c.in-Some.child.now in
    let rest = c.in-Some.rest.now in
    let enough = c.is_enough-enough.result in
    IfOk-weaker c.add_starts.result
    (λ more. OnTrue more (IsTrue enough × ((at : ℕ) (o : List ℕ) → unused at o (nodes_view (drop (k + 1) ns)) ≡ [])))
    (λ more. OnTrue more ((p : Place) → children_of p ≡ c.args.path.now → (at : ℕ) (o : List ℕ)
    → ended_among at o (nodes_view ns) p ≡ []))
    (λ more left. subst (λ (l : List ℕ). OnTrue more ((p : Place) → children_of p ≡ l → (at : ℕ) (o : List ℕ)
    → ended_among at o (nodes_view ns) p ≡ [])) (sym c.in-Some.ensures.cases.0)
    (ended_after k rest ns c.index-nodes-child.result c.in_ok-silent.silent enough more c.if-child-nodes.false c.index-nodes-child.is
    c.in_ok-silent.ensures.silent c.is_enough-enough.ensures left))
    c.add_starts.ensures.silent
