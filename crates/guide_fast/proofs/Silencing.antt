-- Where nothing is reported: by counts of needed nodes and uses.
use Rattle.std.proofs.Common.{◌≡◌, ℕ, zero, suc, ◌+◌, ◌-◌, ◌==◌, ◌<◌, ◌≤◌, List, [], ◌∷◌, ◌++◌, Bool, true, false, ◌&&◌, not}
use Rattle.std.proofs.Common.{length, get_or, take, drop, refl, sym, ap, ◌∙◌, arith, if◌then◌else◌, true≢false}
use Rattle.std.specs.Bool.{OnTrue}
use Rattle.std.proofs.lemmas.Bool.{ne_eqb}
use Rattle.std.proofs.lemmas.List.{get_or-drop, length-drop, take_all}
use Rattle.hub_kinds.specs.declared.fault.Fault.{Fault}
use Rattle.guide_tree.specs.declared.node.Node.{Node}
use Rattle.guide_tree.specs.declared.node.Loop.{Loop}
use Rattle.guide_tree.specs.declared.slot.Slot.{Slot}
use Rattle.guide_tree.specs.Words.{Tree, Trees, segment, loop, view, nodes_view, Place, past, too_few, unused, missing, entered}
use Rattle.guide_tree.specs.Words.{ended_in, end_faults}
use Rattle.loop_match.specs.declared.next.Step.{Step}
use Rattle.loop_match.specs.Leaving.{ended_among}
use Rattle.loop_match.specs.Steps.{place_view, last_of}
use Rattle.loop_match.proofs.ForAbove.{ended_past, ended_at}
use Rattle.guide_fast.specs.Silent.{are_none}

and_assoc : (a b c : Bool) → ((a && b) && c) ≡ (a && (b && c))
and_assoc true b c = refl
and_assoc false b c = refl

and_comm : (a b : Bool) → (a && b) ≡ (b && a)
and_comm true true = refl
and_comm true false = refl
and_comm false true = refl
and_comm false false = refl

pub both : (xs ys : List Fault) → are_none (xs ++ ys) ≡ (are_none xs && are_none ys)
both [] ys = refl
both (x ∷ xs) ys = refl

pub by_length : (n : ℕ) (xs : List Fault) → n ≡ length xs → (n == 0) ≡ are_none xs
by_length n xs e = ap (λ (k : ℕ). k == 0) e ∙ counted xs where
  counted : (xs : List Fault) → (length xs == 0) ≡ are_none xs
  counted [] = refl
  counted (x ∷ xs) = ne_eqb _ _ (λ e. absurd (omega (arith, e)))

pub unless : (b : Bool) (f : Fault) → not b ≡ are_none (if b then f ∷ [] else [])
unless true f = refl
unless false f = refl

pub rest_unused : (at : ℕ) (o : List ℕ) (ns : List Node) (from n : ℕ) → from ≤ length ns
    → n ≡ length (unused at o (nodes_view (take (length ns - from) (drop from ns))))
    → (n == 0) ≡ are_none (unused at o (nodes_view (drop from ns)))
rest_unused at o ns from n h e =
    let l : length (drop from ns) ≡ length ns - from = length-drop from ns in
    by_length n (unused at o (nodes_view (drop from ns)))
    (e ∙ ap (λ (ms : List Node). length (unused at o (nodes_view ms))) (take_all (length ns - from) (drop from ns) (omega (arith, l))))

append_assoc3 : (xs ys zs : List Fault) → (xs ++ ys) ++ zs ≡ xs ++ (ys ++ zs)
append_assoc3 [] ys zs = refl
append_assoc3 (x ∷ xs) ys zs = ap (λ (l : List Fault). x ∷ l) (append_assoc3 xs ys zs)

entered_at : (at : ℕ) (o : List ℕ) (ms : List Node) (m u : ℕ) (d : Node) → m < length ms
    → entered at o (nodes_view ms) m u ≡ unused at o (nodes_view (take m ms)) ++ past at o u (view (get_or ms m d))
entered_at at o [] m u d h = absurd (omega (arith, h))
entered_at at o (x ∷ ms) zero u d h = refl
entered_at at o (x ∷ ms) (suc m) u d h =
    ap (λ (l : List Fault). missing at o (view x) ++ l) (entered_at at o ms m u d (omega (arith, h)))
    ∙ sym (append_assoc3 (missing at o (view x)) (unused at o (nodes_view (take m ms))) (past at o u (view (get_or ms m d))))

entered_past : (at : ℕ) (o : List ℕ) (ms : List Node) (m u : ℕ) → length ms ≤ m
    → entered at o (nodes_view ms) m u ≡ unused at o (nodes_view ms)
entered_past at o [] m u h = refl
entered_past at o (x ∷ ms) zero u h = absurd (omega (arith, h))
entered_past at o (x ∷ ms) (suc m) u h = ap (λ (l : List Fault). missing at o (view x) ++ l) (entered_past at o ms m u (omega (arith, h)))

pub entered_outside : (at : ℕ) (o : List ℕ) (ns : List Node) (from to u : ℕ) (b : Bool) → from ≤ length ns → length ns ≤ to
    → b ≡ are_none (unused at o (nodes_view (drop from ns))) → b ≡ are_none (entered at o (nodes_view (drop from ns)) (to - from) u)
entered_outside at o ns from to u b h l e =
    let k : length (drop from ns) ≡ length ns - from = length-drop from ns in
    e ∙ ap are_none (sym (entered_past at o (drop from ns) (to - from) u (omega (arith, k, h, l))))

pub entered_inside : (at : ℕ) (o : List ℕ) (ns : List Node) (from to u n : ℕ) (node : Node) (b : Bool) → from ≤ to → to < length ns
    → node ≡ get_or ns to node → n ≡ length (unused at o (nodes_view (take (to - from) (drop from ns))))
    → b ≡ are_none (past at o u (view node)) → ((n == 0) && b) ≡ are_none (entered at o (nodes_view (drop from ns)) (to - from) u)
entered_inside at o ns from to u n node b h l at_node e f =
    let k : length (drop from ns) ≡ length ns - from = length-drop from ns in
    let t : from + (to - from) ≡ to = omega (arith, h) in
    let here : get_or (drop from ns) (to - from) node ≡ node =
    get_or-drop from ns (to - from) node ∙ ap (λ (i : ℕ). get_or ns i node) t ∙ sym at_node in
    let first : List Fault = unused at o (nodes_view (take (to - from) (drop from ns))) in
    ap (λ (c : Bool). c && b) (by_length n first e)
    ∙ ap (λ (c : Bool). are_none first && c) (f ∙ ap (λ (x : Node). are_none (past at o u (view x))) (sym here))
    ∙ sym (both first (past at o u (view (get_or (drop from ns) (to - from) node))))
    ∙ ap are_none (sym (entered_at at o (drop from ns) (to - from) u node (omega (arith, k, h, l))))

-- the end of a place
pub ended_outside : (at : ℕ) (o : List ℕ) (ns : List Node) (place : List Step) (a : Step) (rest : List Step) → place ≡ a ∷ rest
    → length ns ≤ a.child → true ≡ are_none (ended_among at o (nodes_view ns) (place_view place))
ended_outside at o ns place a rest e h =
    sym (ap (λ (l : List Step). are_none (ended_among at o (nodes_view ns) (place_view l))) e
    ∙ ap are_none (ended_past at o ns a.child a.use_no (place_view rest) h))

pub ended_here : (at : ℕ) (o : List ℕ) (ns : List Node) (place : List Step) (a : Step) (rest : List Step) (node : Node) (left inner : Bool)
    → place ≡ a ∷ rest → a.child < length ns → node ≡ get_or ns a.child node
    → left ≡ (are_none (too_few at o (a.use_no + 1) (view node)) && are_none (unused at o (nodes_view (drop (a.child + 1) ns))))
    → inner ≡ are_none (ended_in at (view node) (place_view rest))
    → (left && inner) ≡ are_none (ended_among at o (nodes_view ns) (place_view place))
ended_here at o ns place a rest node left inner e h at_node l i =
    let k : a.child + 1 ≡ suc a.child = omega arith in
    let first : List Fault = ended_in at (view node) (place_view rest) in
    let few : List Fault = too_few at o (a.use_no + 1) (view node) in
    let last : List Fault = unused at o (nodes_view (drop (suc a.child) ns)) in
    and_comm left inner
    ∙ ap (λ (c : Bool). c && left) i
    ∙ ap (λ (c : Bool). are_none first && c) (l ∙ ap (λ (n : ℕ). are_none few && are_none (unused at o (nodes_view (drop n ns)))) k
    ∙ sym (both few last))
    ∙ sym (both first (few ++ last))
    ∙ ap (λ (x : Node). are_none (ended_in at (view x) (place_view rest) ++ (too_few at o (a.use_no + 1) (view x) ++ last))) at_node
    ∙ ap are_none (sym (ended_at at o ns a.child a.use_no (place_view rest) node h))
    ∙ sym (ap (λ (q : List Step). are_none (ended_among at o (nodes_view ns) (place_view q))) e)

pub no_end_inside : (at : ℕ) (t : Tree) (p : Place) → (x : Slot) × (t ≡ segment x) → true ≡ are_none (ended_in at t p)
no_end_inside at t p is = sym (ap (λ (u : Tree). are_none (ended_in at u p)) is.1)

pub end_inside : (at : ℕ) (t : Tree) (c : List Node) (p : List Step) (b : Bool) → (l : Loop) × (t ≡ loop l (nodes_view c))
    → ((o : List ℕ) → b ≡ are_none (ended_among at o (nodes_view c) (place_view p))) → b ≡ are_none (ended_in at t (place_view p))
end_inside at t c p b is h =
    h is.0.id ∙ ap are_none (same is.0 (nodes_view c) (place_view p))
    ∙ sym (ap (λ (u : Tree). are_none (ended_in at u (place_view p))) is.1) where
      same : (l : Loop) (ts : Trees) (q : Place) → ended_among at l.id ts q ≡ ended_in at (loop l ts) q
      same l ts [] = refl
      same l ts (a ∷ q) = refl

pub alone : (b c : Bool) → true ≡ c → (b && c) ≡ b
alone b c e = and_comm b c ∙ ap (λ (d : Bool). d && b) (sym e)

empty : (xs : List Fault) → true ≡ are_none xs → xs ≡ []
empty [] e = refl
empty (x ∷ xs) e = absurd (true≢false e)

pub none_told : (b : Bool) (told : ℕ → List Fault) → ((at : ℕ) → b ≡ are_none (told at)) → OnTrue b ((at : ℕ) → told at ≡ [])
none_told true told e = λ at. empty (told at) (e at)
none_told false told e = tt

pub by_ends : (at : ℕ) (ts : Trees) (last : List Step) → (length last == 0) ≡ false
    → ended_among at [] ts (place_view last) ≡ end_faults at ts (last_of (place_view last))
by_ends at ts [] h = absurd (true≢false h)
by_ends at ts (a ∷ last) h = refl
