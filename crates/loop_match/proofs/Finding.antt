-- Faults of nodes by the index of the child.
use Rattle.std.proofs.Common.{◌≡◌, ℕ, zero, suc, ◌+◌, ◌-◌, ◌==◌, ◌<◌, ◌≤◌, if◌then◌else◌, List, [], ◌∷◌, ◌++◌, length, get_or, drop}
use Rattle.std.proofs.Common.{refl, sym, ap, ◌∙◌, arith, ⊎_elim}
use Rattle.std.proofs.lemmas.Bool.{cond-true, cond-false, eq-eqb, ne_eqb, cases_order}
use Rattle.std.proofs.lemmas.List.{append-nil, append_assoc}
use Rattle.hub_kinds.specs.declared.fault.Fault.{Fault}
use Rattle.guide_tree.specs.declared.node.Node.{Node}
use Rattle.guide_tree.specs.Words.{view, nodes_view, Place, past, too_few, unused, entered, ended_in, ended, stepped_in, stepped}
use Rattle.loop_match.specs.declared.next.Step.{Step}
use Rattle.loop_match.specs.Steps.{place_view}
use Rattle.loop_match.specs.Leaving.{ended_among, stepped_among}

pub ended_past : (at : ℕ) (o : List ℕ) (ns : List Node) (n u : ℕ) (p : Place) → length ns ≤ n → ended at o (nodes_view ns) n u p ≡ []
ended_past at o [] n u p h = refl
ended_past at o (x ∷ ns) zero u p h = absurd (omega arith)
ended_past at o (x ∷ ns) (suc n) u p h = ended_past at o ns n u p (omega arith)

pub ended_at : (at : ℕ) (o : List ℕ) (ns : List Node) (n u : ℕ) (p : Place) (d : Node) → n < length ns
    → ended at o (nodes_view ns) n u p
    ≡ ended_in at (view (get_or ns n d)) p ++ (too_few at o (u + 1) (view (get_or ns n d)) ++ unused at o (nodes_view (drop (suc n) ns)))
ended_at at o [] n u p d h = absurd (omega arith)
ended_at at o (x ∷ ns) zero u p d h = refl
ended_at at o (x ∷ ns) (suc n) u p d h = ended_at at o ns n u p d (omega arith)

pub ended_outside : (at : ℕ) (o : List ℕ) (ns : List Node) (place : List Step) (a : Step) (rest : List Step) (f : List Fault)
    → place ≡ a ∷ rest → length ns ≤ a.child → f ≡ f ++ ended_among at o (nodes_view ns) (place_view place)
ended_outside at o ns place a rest f e h =
    sym (ap (λ (l : List Step). f ++ ended_among at o (nodes_view ns) (place_view l)) e
    ∙ ap (λ (l : List Fault). f ++ l) (ended_past at o ns a.child a.use_no (place_view rest) h) ∙ append-nil f)

-- three lists put after a list, one after another
behind_three : (f g h i x y z : List Fault) → g ≡ f ++ x → h ≡ g ++ y → i ≡ h ++ z → i ≡ f ++ (x ++ (y ++ z))
behind_three f g h i x y z a b c =
    c ∙ ap (λ (l : List Fault). l ++ z) (b ∙ ap (λ (l : List Fault). l ++ y) a)
    ∙ append_assoc (f ++ x) y z ∙ append_assoc f x (y ++ z)

pub ended_next : (at : ℕ) (o : List ℕ) (ns : List Node) (place : List Step) (a : Step) (rest : List Step) (node : Node)
    (f g h i : List Fault) → place ≡ a ∷ rest → a.child < length ns → node ≡ get_or ns a.child node
    → g ≡ f ++ ended_in at (view node) (place_view rest) → h ≡ g ++ too_few at o (a.use_no + 1) (view node)
    → i ≡ h ++ unused at o (nodes_view (drop (a.child + 1) ns)) → i ≡ f ++ ended_among at o (nodes_view ns) (place_view place)
ended_next at o ns place a rest node f g h i e l n x y z =
    let k : a.child + 1 ≡ suc a.child = omega arith in
    behind_three f g h i (ended_in at (view node) (place_view rest)) (too_few at o (a.use_no + 1) (view node))
    (unused at o (nodes_view (drop (a.child + 1) ns))) x y z
    ∙ ap (λ (m : ℕ). f ++ (ended_in at (view node) (place_view rest) ++ (too_few at o (a.use_no + 1) (view node)
    ++ unused at o (nodes_view (drop m ns))))) k
    ∙ ap (λ (t : Node). f ++ (ended_in at (view t) (place_view rest) ++ (too_few at o (a.use_no + 1) (view t)
    ++ unused at o (nodes_view (drop (suc a.child) ns))))) n
    ∙ sym (ap (λ (q : List Step). f ++ ended_among at o (nodes_view ns) (place_view q)) e
    ∙ ap (λ (q : List Fault). f ++ q) (ended_at at o ns a.child a.use_no (place_view rest) node l))

-- from a place to the next
pub stepped_past : (at : ℕ) (o : List ℕ) (ns : List Node) (n m u v : ℕ) (p q : Place) → length ns ≤ n
    → stepped at o (nodes_view ns) n m u v p q ≡ []
stepped_past at o [] n m u v p q h = refl
stepped_past at o (x ∷ ns) zero m u v p q h = absurd (omega arith)
stepped_past at o (x ∷ ns) (suc n) zero u v p q h = refl
stepped_past at o (x ∷ ns) (suc n) (suc m) u v p q h = stepped_past at o ns n m u v p q (omega arith)

pub stepped_back : (at : ℕ) (o : List ℕ) (ns : List Node) (n m u v : ℕ) (p q : Place) → m < n
    → stepped at o (nodes_view ns) n m u v p q ≡ []
stepped_back at o [] n m u v p q h = refl
stepped_back at o (x ∷ ns) zero m u v p q h = absurd (omega arith)
stepped_back at o (x ∷ ns) (suc n) zero u v p q h = refl
stepped_back at o (x ∷ ns) (suc n) (suc m) u v p q h = stepped_back at o ns n m u v p q (omega arith)

pub stepped_same : (at : ℕ) (o : List ℕ) (ns : List Node) (n m u v : ℕ) (p q : Place) (d : Node) → n < length ns → m ≡ n
    → stepped at o (nodes_view ns) n m u v p q
    ≡ (if u == v then stepped_in at (view (get_or ns n d)) p q
    else ended_in at (view (get_or ns n d)) p ++ past at o v (view (get_or ns n d)))
stepped_same at o [] n m u v p q d h e = absurd (omega arith)
stepped_same at o (x ∷ ns) zero zero u v p q d h e = refl
stepped_same at o (x ∷ ns) zero (suc m) u v p q d h e = absurd (omega arith)
stepped_same at o (x ∷ ns) (suc n) zero u v p q d h e = absurd (omega arith)
stepped_same at o (x ∷ ns) (suc n) (suc m) u v p q d h e = stepped_same at o ns n m u v p q d (omega arith) (omega arith)

pub stepped_on : (at : ℕ) (o : List ℕ) (ns : List Node) (n m k u v : ℕ) (p q : Place) (d : Node) → n < length ns → m ≡ suc n + k
    → stepped at o (nodes_view ns) n m u v p q
    ≡ ended_in at (view (get_or ns n d)) p ++ (too_few at o (u + 1) (view (get_or ns n d))
    ++ entered at o (nodes_view (drop (suc n) ns)) k v)
stepped_on at o [] n m k u v p q d h e = absurd (omega arith)
stepped_on at o (x ∷ ns) zero zero k u v p q d h e = absurd (omega arith)
stepped_on at o (x ∷ ns) zero (suc m) k u v p q d h e =
    let f : m ≡ k = omega arith in
    ap (λ (i : ℕ). ended_in at (view x) p ++ (too_few at o (u + 1) (view x) ++ entered at o (nodes_view ns) i v)) f
stepped_on at o (x ∷ ns) (suc n) zero k u v p q d h e = absurd (omega arith)
stepped_on at o (x ∷ ns) (suc n) (suc m) k u v p q d h e = stepped_on at o ns n m k u v p q d (omega arith) (omega arith)

-- the two places, by their first steps
abbrev Among : ℕ → List ℕ → List Node → List Step → List Step → List Fault
Among at o ns last next = stepped_among at o (nodes_view ns) (place_view last) (place_view next)

among : (at : ℕ) (o : List ℕ) (ns : List Node) (last next : List Step) (a : Step) (rest : List Step) (b : Step) (more : List Step)
    (f all : List Fault) → last ≡ a ∷ rest → next ≡ b ∷ more
    → stepped at o (nodes_view ns) a.child b.child a.use_no b.use_no (place_view rest) (place_view more) ≡ all
    → f ++ Among at o ns last next ≡ f ++ all
among at o ns last next a rest b more f all d e h =
    ap (λ (l : List Step). f ++ Among at o ns l next) d ∙ ap (λ (l : List Step). f ++ Among at o ns (a ∷ rest) l) e
    ∙ ap (λ (l : List Fault). f ++ l) h

pub among_outside : (at : ℕ) (o : List ℕ) (ns : List Node) (last next : List Step) (a : Step) (rest : List Step) (b : Step)
    (more : List Step) (f : List Fault) → last ≡ a ∷ rest → next ≡ b ∷ more → length ns ≤ a.child
    → f ≡ f ++ stepped_among at o (nodes_view ns) (place_view last) (place_view next)
among_outside at o ns last next a rest b more f d e h =
    sym (among at o ns last next a rest b more f [] d e
    (stepped_past at o ns a.child b.child a.use_no b.use_no (place_view rest) (place_view more) h) ∙ append-nil f)

pub among_back : (at : ℕ) (o : List ℕ) (ns : List Node) (last next : List Step) (a : Step) (rest : List Step) (b : Step)
    (more : List Step) (f : List Fault) → last ≡ a ∷ rest → next ≡ b ∷ more → b.child < a.child
    → f ≡ f ++ stepped_among at o (nodes_view ns) (place_view last) (place_view next)
among_back at o ns last next a rest b more f d e h =
    sym (among at o ns last next a rest b more f [] d e
    (stepped_back at o ns a.child b.child a.use_no b.use_no (place_view rest) (place_view more) h) ∙ append-nil f)

pub among_inside : (at : ℕ) (o : List ℕ) (ns : List Node) (last next : List Step) (a : Step) (rest : List Step) (b : Step)
    (more : List Step) (node : Node) (f g : List Fault) → last ≡ a ∷ rest → next ≡ b ∷ more → a.child < length ns
    → node ≡ get_or ns a.child node → b.child ≡ a.child → b.use_no ≡ a.use_no
    → g ≡ f ++ stepped_in at (view node) (place_view rest) (place_view more)
    → g ≡ f ++ stepped_among at o (nodes_view ns) (place_view last) (place_view next)
among_inside at o ns last next a rest b more node f g d e l n c u x =
    let t = view node in let p = place_view rest in let q = place_view more in
    x ∙ sym (among at o ns last next a rest b more f (stepped_in at t p q) d e
    (stepped_same at o ns a.child b.child a.use_no b.use_no p q node l c
    ∙ ap (λ (y : Node). if a.use_no == b.use_no then stepped_in at (view y) p q
    else ended_in at (view y) p ++ past at o b.use_no (view y)) (sym n)
    ∙ cond-true (a.use_no == b.use_no) (stepped_in at t p q) (ended_in at t p ++ past at o b.use_no t)
    (eq-eqb a.use_no b.use_no (sym u))))

pub among_again : (at : ℕ) (o : List ℕ) (ns : List Node) (last next : List Step) (a : Step) (rest : List Step) (b : Step)
    (more : List Step) (node : Node) (f g h : List Fault) → last ≡ a ∷ rest → next ≡ b ∷ more → a.child < length ns
    → node ≡ get_or ns a.child node → b.child ≡ a.child → (b.use_no ≡ a.use_no → ⊥)
    → g ≡ f ++ ended_in at (view node) (place_view rest) → h ≡ g ++ past at o b.use_no (view node)
    → h ≡ f ++ stepped_among at o (nodes_view ns) (place_view last) (place_view next)
among_again at o ns last next a rest b more node f g h d e l n c u x y =
    let t = view node in let p = place_view rest in let q = place_view more in
    y ∙ ap (λ (i : List Fault). i ++ past at o b.use_no t) x ∙ append_assoc f (ended_in at t p) (past at o b.use_no t)
    ∙ sym (among at o ns last next a rest b more f (ended_in at t p ++ past at o b.use_no t) d e
    (stepped_same at o ns a.child b.child a.use_no b.use_no p q node l c
    ∙ ap (λ (y : Node). if a.use_no == b.use_no then stepped_in at (view y) p q
    else ended_in at (view y) p ++ past at o b.use_no (view y)) (sym n)
    ∙ cond-false (a.use_no == b.use_no) (stepped_in at t p q) (ended_in at t p ++ past at o b.use_no t)
    (ne_eqb a.use_no b.use_no (λ z. u (sym z)))))

pub among_later : (at : ℕ) (o : List ℕ) (ns : List Node) (last next : List Step) (a : Step) (rest : List Step) (b : Step)
    (more : List Step) (node : Node) (f g h i : List Fault) → last ≡ a ∷ rest → next ≡ b ∷ more → a.child < length ns
    → node ≡ get_or ns a.child node → a.child < b.child
    → g ≡ f ++ ended_in at (view node) (place_view rest) → h ≡ g ++ too_few at o (a.use_no + 1) (view node)
    → i ≡ h ++ entered at o (nodes_view (drop (a.child + 1) ns)) (b.child - (a.child + 1)) b.use_no
    → i ≡ f ++ stepped_among at o (nodes_view ns) (place_view last) (place_view next)
among_later at o ns last next a rest b more node f g h i d e l n c x y z =
    let p = place_view rest in let q = place_view more in
    let k : a.child + 1 ≡ suc a.child = omega arith in let m = b.child - (a.child + 1) in
    let w : b.child ≡ suc a.child + m = omega arith in
    behind_three f g h i (ended_in at (view node) p) (too_few at o (a.use_no + 1) (view node))
    (entered at o (nodes_view (drop (a.child + 1) ns)) m b.use_no) x y z
    ∙ ap (λ (j : ℕ). f ++ (ended_in at (view node) p ++ (too_few at o (a.use_no + 1) (view node)
    ++ entered at o (nodes_view (drop j ns)) m b.use_no))) k
    ∙ ap (λ (t : Node). f ++ (ended_in at (view t) p ++ (too_few at o (a.use_no + 1) (view t)
    ++ entered at o (nodes_view (drop (suc a.child) ns)) m b.use_no))) n
    ∙ sym (among at o ns last next a rest b more f _ d e
    (stepped_on at o ns a.child b.child m a.use_no b.use_no p q node l w))

pub after : (a b : ℕ) → a ≤ b → (b ≡ a → ⊥) → a < b
after a b l n = ⊎_elim (λ e. absurd (n (sym e))) (λ d. ⊎_elim (λ m. m) (λ m. absurd (omega arith)) d) (cases_order a b)
