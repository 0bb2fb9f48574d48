-- Where nothing is reported from a place to the next.
use Rattle.std.proofs.Common.{◌≡◌, ◌≢◌, ℕ, suc, ◌+◌, ◌-◌, ◌==◌, ◌<◌, ◌≤◌, List, [], ◌∷◌, ◌++◌, Bool, true, false, ◌&&◌}
use Rattle.std.proofs.Common.{length, get_or, drop, refl, sym, ap, ◌∙◌, arith, true≢false}
use Rattle.std.proofs.lemmas.Bool.{cond-true, cond-false, eq-eqb, ne_eqb}
use Rattle.hub_kinds.specs.declared.fault.Fault.{Fault}
use Rattle.guide_tree.specs.declared.node.Node.{Node}
use Rattle.guide_tree.specs.declared.node.Loop.{Loop}
use Rattle.guide_tree.specs.declared.slot.Slot.{Slot}
use Rattle.guide_tree.specs.Words.{Tree, Trees, segment, loop, view, nodes_view, Place, past, too_few, entered, ended_in}
use Rattle.guide_tree.specs.Words.{stepped, stepped_in, step_faults}
use Rattle.loop_match.specs.declared.next.Step.{Step}
use Rattle.loop_match.specs.Leaving.{stepped_among}
use Rattle.loop_match.specs.Steps.{place_view, last_of}
use Rattle.loop_match.proofs.ForAbove.{stepped_past, stepped_back, stepped_same, stepped_on}
use Rattle.guide_fast.specs.Silent.{are_none}
use Rattle.guide_fast.proofs.Silencing.{both}

-- the two places, by their first steps
among : (at : ℕ) (o : List ℕ) (ns : List Node) (last next : List Step) (a : Step) (rest : List Step) (b : Step) (more : List Step)
    (all : List Fault) → last ≡ a ∷ rest → next ≡ b ∷ more
    → stepped at o (nodes_view ns) a.child b.child a.use_no b.use_no (place_view rest) (place_view more) ≡ all
    → are_none (stepped_among at o (nodes_view ns) (place_view last) (place_view next)) ≡ are_none all
among at o ns last next a rest b more all d e h =
    ap (λ (l : List Step). are_none (stepped_among at o (nodes_view ns) (place_view l) (place_view next))) d
    ∙ ap (λ (l : List Step). are_none (stepped_among at o (nodes_view ns) (place_view (a ∷ rest)) (place_view l))) e
    ∙ ap are_none h

pub step_outside : (at : ℕ) (o : List ℕ) (ns : List Node) (last next : List Step) (a : Step) (rest : List Step) (b : Step)
    (more : List Step) → last ≡ a ∷ rest → next ≡ b ∷ more → length ns ≤ a.child
    → true ≡ are_none (stepped_among at o (nodes_view ns) (place_view last) (place_view next))
step_outside at o ns last next a rest b more d e h =
    sym (among at o ns last next a rest b more [] d e
    (stepped_past at o ns a.child b.child a.use_no b.use_no (place_view rest) (place_view more) h))

pub step_back : (at : ℕ) (o : List ℕ) (ns : List Node) (last next : List Step) (a : Step) (rest : List Step) (b : Step)
    (more : List Step) → last ≡ a ∷ rest → next ≡ b ∷ more → b.child < a.child
    → true ≡ are_none (stepped_among at o (nodes_view ns) (place_view last) (place_view next))
step_back at o ns last next a rest b more d e h =
    sym (among at o ns last next a rest b more [] d e
    (stepped_back at o ns a.child b.child a.use_no b.use_no (place_view rest) (place_view more) h))

pub step_later : (at : ℕ) (o : List ℕ) (ns : List Node) (last next : List Step) (a : Step) (rest : List Step) (b : Step)
    (more : List Step) (node : Node) (r : Bool) → last ≡ a ∷ rest → next ≡ b ∷ more → a.child < length ns
    → node ≡ get_or ns a.child node → a.child < b.child
    → r ≡ (are_none (ended_in at (view node) (place_view rest)) && (are_none (too_few at o (a.use_no + 1) (view node))
    && are_none (entered at o (nodes_view (drop (a.child + 1) ns)) (b.child - (a.child + 1)) b.use_no)))
    → r ≡ are_none (stepped_among at o (nodes_view ns) (place_view last) (place_view next))
step_later at o ns last next a rest b more node r d e l n h x =
    let k : a.child + 1 ≡ suc a.child = omega arith in
    let m : b.child ≡ suc a.child + (b.child - (a.child + 1)) = omega (arith, h) in
    let first : List Fault = ended_in at (view node) (place_view rest) in
    let few : List Fault = too_few at o (a.use_no + 1) (view node) in
    let last_part : List Fault = entered at o (nodes_view (drop (suc a.child) ns)) (b.child - (a.child + 1)) b.use_no in
    x ∙ ap (λ (i : ℕ). are_none first && (are_none few
    && are_none (entered at o (nodes_view (drop i ns)) (b.child - (a.child + 1)) b.use_no))) k
    ∙ ap (λ (c : Bool). are_none first && c) (sym (both few last_part))
    ∙ sym (both first (few ++ last_part))
    ∙ ap (λ (y : Node). are_none (ended_in at (view y) (place_view rest) ++ (too_few at o (a.use_no + 1) (view y) ++ last_part))) n
    ∙ sym (among at o ns last next a rest b more
    (ended_in at (view (get_or ns a.child node)) (place_view rest)
    ++ (too_few at o (a.use_no + 1) (view (get_or ns a.child node)) ++ last_part)) d e
    (stepped_on at o ns a.child b.child (b.child - (a.child + 1)) a.use_no b.use_no (place_view rest) (place_view more) node l m))

pub step_again : (at : ℕ) (o : List ℕ) (ns : List Node) (last next : List Step) (a : Step) (rest : List Step) (b : Step)
    (more : List Step) (node : Node) (r : Bool) → last ≡ a ∷ rest → next ≡ b ∷ more → a.child < length ns
    → node ≡ get_or ns a.child node → b.child ≡ a.child → b.use_no ≢ a.use_no
    → r ≡ (are_none (ended_in at (view node) (place_view rest)) && are_none (past at o b.use_no (view node)))
    → r ≡ are_none (stepped_among at o (nodes_view ns) (place_view last) (place_view next))
step_again at o ns last next a rest b more node r d e l n c u x =
    let first : List Fault = ended_in at (view node) (place_view rest) in
    let there : Node = get_or ns a.child node in
    x ∙ sym (both first (past at o b.use_no (view node)))
    ∙ ap (λ (y : Node). are_none (ended_in at (view y) (place_view rest) ++ past at o b.use_no (view y))) n
    ∙ sym (among at o ns last next a rest b more (ended_in at (view there) (place_view rest) ++ past at o b.use_no (view there)) d e
    (stepped_same at o ns a.child b.child a.use_no b.use_no (place_view rest) (place_view more) node l c
    ∙ cond-false (a.use_no == b.use_no) (stepped_in at (view there) (place_view rest) (place_view more))
    (ended_in at (view there) (place_view rest) ++ past at o b.use_no (view there)) (ne_eqb _ _ (λ k. u (sym k)))))

pub step_inside : (at : ℕ) (o : List ℕ) (ns : List Node) (last next : List Step) (a : Step) (rest : List Step) (b : Step)
    (more : List Step) (node : Node) (r : Bool) → last ≡ a ∷ rest → next ≡ b ∷ more → a.child < length ns
    → node ≡ get_or ns a.child node → b.child ≡ a.child → b.use_no ≡ a.use_no
    → r ≡ are_none (stepped_in at (view node) (place_view rest) (place_view more))
    → r ≡ are_none (stepped_among at o (nodes_view ns) (place_view last) (place_view next))
step_inside at o ns last next a rest b more node r d e l n c u x =
    let there : Node = get_or ns a.child node in
    x ∙ ap (λ (y : Node). are_none (stepped_in at (view y) (place_view rest) (place_view more))) n
    ∙ sym (among at o ns last next a rest b more (stepped_in at (view there) (place_view rest) (place_view more)) d e
    (stepped_same at o ns a.child b.child a.use_no b.use_no (place_view rest) (place_view more) node l c
    ∙ cond-true (a.use_no == b.use_no) (stepped_in at (view there) (place_view rest) (place_view more))
    (ended_in at (view there) (place_view rest) ++ past at o b.use_no (view there)) (eq-eqb _ _ (sym u))))

pub no_step_inside : (at : ℕ) (t : Tree) (p q : Place) → (x : Slot) × (t ≡ segment x) → true ≡ are_none (stepped_in at t p q)
no_step_inside at t p q is = sym (ap (λ (u : Tree). are_none (stepped_in at u p q)) is.1)

pub step_in_loop : (at : ℕ) (t : Tree) (c : List Node) (p q : List Step) (b : Bool) → (l : Loop) × (t ≡ loop l (nodes_view c))
    → ((o : List ℕ) → b ≡ are_none (stepped_among at o (nodes_view c) (place_view p) (place_view q)))
    → b ≡ are_none (stepped_in at t (place_view p) (place_view q))
step_in_loop at t c p q b is h =
    h is.0.id ∙ ap are_none (same is.0 (nodes_view c) (place_view p) (place_view q))
    ∙ sym (ap (λ (u : Tree). are_none (stepped_in at u (place_view p) (place_view q))) is.1) where
      same : (l : Loop) (ts : Trees) (p q : Place) → stepped_among at l.id ts p q ≡ stepped_in at (loop l ts) p q
      same l ts [] q = refl
      same l ts (a ∷ p) [] = refl
      same l ts (a ∷ p) (b ∷ q) = refl

pub by_steps : (at : ℕ) (ts : Trees) (last next : List Step) (a : Step) (rest : List Step) → (length last == 0) ≡ false
    → next ≡ a ∷ rest → stepped_among at [] ts (place_view last) (place_view next)
    ≡ step_faults at ts (last_of (place_view last)) (place_view next)
by_steps at ts [] next a rest h e = absurd (true≢false h)
by_steps at ts (b ∷ last) [] a rest h e = refl
by_steps at ts (b ∷ last) (c ∷ next) a rest h e = refl
