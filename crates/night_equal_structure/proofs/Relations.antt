-- The definition's faults, child by child from the root, are the layers' relations.
use Rattle.std.proofs.Common.{◌≡◌, ℕ, zero, suc, ◌+◌, ◌⊎◌, inl, inr, List, [], ◌∷◌, ◌++◌, Option, Some, None}
use Rattle.std.proofs.Common.{refl, sym, ap, ◌∙◌, subst, arith}
use Rattle.std.proofs.lemmas.List.{append_assoc, map-append}
use Rattle.std.proofs.lemmas.Option.{none-some, same_Some}
use Rattle.hub_kinds.specs.declared.fault.Fault.{Fault}
use Rattle.guide_tree.specs.Tree.{Tree, Trees, segment, loop, no_trees, tree}
use Rattle.guide_tree.specs.Places.{Pair, use_of}
use Rattle.guide_tree.specs.Places as old
use Rattle.guide_tree.specs.Structure.{Begins, Has, node_in, node_nth, node_at, loop_id_at, IsThere, IsPast, IsShort}
use Rattle.night_definition.specs.Places.{Place}
use Rattle.night_equal_set.specs.Placings.{pair, place}
use Rattle.night_equal_structure.proofs.Given.{given}
use Rattle.night_equal_structure.proofs.Inner.{HasUse, PastAt, ShortAt, InsideAt}
use Rattle.night_equal_structure.proofs.Found.{first_has}
use Rattle.night_equal_structure.proofs.Nodes.{Leads, leads_root, leads_next, leads_under, node_itself, use_there}
use Rattle.night_equal_structure.proofs.Parents.{past_is, short_is, is_past, is_short}

-- the layers' structural faults but for strays
abbrev pub IsTreeFault : Trees → List (Option old.Place) → (end : ℕ) → Fault → Type 0
IsTreeFault root xs end f = IsPast root xs f ⊎ IsShort root xs end f

-- a child's own faults
abbrev AtChild : List (Option Place) → (end : ℕ) → (pre : Place) → (outer : List ℕ) → Tree → (k : ℕ) → Fault → Type 0
AtChild g end pre outer t k f = PastAt g pre outer t k f ⊎ ShortAt g end pre outer t k f

leads_child : (root : Trees) (pre : Place) (outer : List ℕ) (t : Tree) (ts : Trees) (k u : ℕ) → Leads root pre outer (tree t ts) k
    → node_at root (place pre ++ use_of k u ∷ []) ≡ Some t
leads_child root pre outer t ts k u l = l.stands k 0 u [] (omega arith) ∙ node_itself t

child_old : (root : Trees) (g : List (Option Place)) (end : ℕ) (pre : Place) (outer : List ℕ) (t : Tree) (ts : Trees) (k : ℕ) (f : Fault)
    → Leads root pre outer (tree t ts) k → IsThere (given g) (place pre) → AtChild g end pre outer t k f → IsTreeFault root (given g) end f
child_old root g end pre outer t ts k f l there (inl x) =
    inl (past_is root g pre t k f (λ u. leads_child root pre outer t ts k u l) (subst (λ o. PastAt g pre o t k f) l.named x))
child_old root g end pre outer t ts k f l there (inr x) =
    inr (short_is root g end pre t k f there (leads_child root pre outer t ts k 0 l) (subst (λ o. ShortAt g end pre o t k f) l.named x))

pub inside_old : (root : Trees) (g : List (Option Place)) (end : ℕ) (ts : Trees) (pre : Place) (outer : List ℕ) (k : ℕ) (f : Fault)
    → Leads root pre outer ts k → IsThere (given g) (place pre) → InsideAt g end pre outer ts k f → IsTreeFault root (given g) end f
inside_old root g end no_trees pre outer k f l there h = absurd h
inside_old root g end (tree t ts) pre outer k f l there (inl x) = child_old root g end pre outer t ts k f l there (inl x)
inside_old root g end (tree t ts) pre outer k f l there (inr (inl x)) = child_old root g end pre outer t ts k f l there (inr x)
inside_old root g end (tree (segment s) ts) pre outer k f l there (inr (inr (inl x))) = absurd x
inside_old root g end (tree (loop o us) ts) pre outer k f l there (inr (inr (inl x))) =
    inside_old root g end us (pre ++ (k, x.0) ∷ []) o.id 0 f (leads_under root pre outer o us ts k x.0 l) (use_there g pre k x.0 x.1) x.2
inside_old root g end (tree t ts) pre outer k f l there (inr (inr (inr x))) =
    inside_old root g end ts pre outer (k + 1) f (leads_next root pre outer t ts k l) there x

in_child : (g : List (Option Place)) (end : ℕ) (pre : Place) (outer : List ℕ) (t : Tree) (ts : Trees) (k : ℕ) (f : Fault)
    → AtChild g end pre outer t k f → InsideAt g end pre outer (tree t ts) k f
in_child g end pre outer t ts k f (inl x) = inl x
in_child g end pre outer t ts k f (inr x) = inr (inl x)

-- a fault of a child of this parent
here_inside : (g : List (Option Place)) (end : ℕ) (ts : Trees) (k n c : ℕ) (pre : Place) (outer : List ℕ) (t : Tree) (f : Fault)
    → c ≡ k + n → node_nth ts n [] ≡ Some t → AtChild g end pre outer t c f → InsideAt g end pre outer ts k f
here_inside g end no_trees k n c pre outer t f e h at = absurd (none-some t h)
here_inside g end (tree s ts) k zero c pre outer t f e h at =
    let same : s ≡ t = same_Some s t (sym (node_itself s) ∙ h) in
    let first : c ≡ k = omega arith in
    in_child g end pre outer s ts k f
    (subst (λ x. AtChild g end pre outer x k f) (sym same) (subst (λ j. AtChild g end pre outer t j f) first at))
here_inside g end (tree s ts) k (suc n) c pre outer t f e h at =
    inr (inr (inr (here_inside g end ts (k + 1) n c pre outer t f (omega arith) h at)))

-- some segment is placed in each repetition on the way to one that is placed
begins_shorter : (p q w : old.Place) → Begins (p ++ q) w → Begins p w
begins_shorter [] q w b = tt
begins_shorter (a ∷ p) q [] b = absurd b
begins_shorter (a ∷ p) q (c ∷ w) b = (b.0, begins_shorter p q w b.1)

has_shorter : (p q : old.Place) (xs : List (Option old.Place)) → Has xs (p ++ q) → Has xs p
has_shorter p q [] h = h
has_shorter p q (None ∷ xs) h = has_shorter p q xs h
has_shorter p q (Some w ∷ xs) (inl b) = inl (begins_shorter p q w b)
has_shorter p q (Some w ∷ xs) (inr h) = inr (has_shorter p q xs h)

no_deeper : (q : old.Place) (a : Pair) (s : Tree) (t : Tree) → ((b : Pair) (w : old.Place) → node_in s (b ∷ w) ≡ None)
    → node_in s (q ++ a ∷ []) ≡ Some t → ⊥
no_deeper [] a s t no_one h = none-some t (sym (no_one a []) ∙ h)
no_deeper (b ∷ q) a s t no_one h = none-some t (sym (no_one b (q ++ a ∷ [])) ∙ h)

-- the use of the loop on the way to a place that some segment has
way_use : (g : List (Option Place)) (pre : Place) (k : ℕ) (a : ℕ × ℕ) (r whole : Place) → whole ≡ pre ++ a ∷ r → a.0 ≡ k
    → Has (given g) (place whole) → HasUse g pre k a.1
way_use g pre k a r whole e first h =
    has_shorter (place (pre ++ (k, a.1) ∷ [])) (place r) (given g)
    (subst (λ p. Has (given g) p) (ap place (e ∙ ap (λ j. pre ++ (j, a.1) ∷ r) first ∙ sym (append_assoc pre ((k, a.1) ∷ []) r))
    ∙ map-append pair (pre ++ (k, a.1) ∷ []) r) h)

-- a fault of a child of the parent at a place, on the way to it
way_inside : (root : Trees) (g : List (Option Place)) (end : ℕ) (ts : Trees) (k n : ℕ) (pre : Place) (outer : List ℕ) (a : ℕ × ℕ)
    (r whole : Place) (c v : ℕ) (t : Tree) (f : Fault) → Leads root pre outer ts k → a.0 ≡ k + n → whole ≡ pre ++ a ∷ r
    → node_nth ts n (place r ++ use_of c v ∷ []) ≡ Some t → Has (given g) (place whole)
    → AtChild g end whole (loop_id_at root (place whole)) t c f → InsideAt g end pre outer ts k f
way_inside root g end no_trees k n pre outer a r whole c v t f l e w h has at = absurd (none-some t h)
way_inside root g end (tree (segment s) ts) k zero pre outer a r whole c v t f l e w h has at =
    absurd (no_deeper (place r) (use_of c v) (segment s) t (λ b q. refl) h)
way_inside root g end (tree (loop o us) ts) k zero pre outer a [] whole c v t f l e w h has at =
    let first : a.0 ≡ k = omega arith in
    let same : whole ≡ pre ++ (k, a.1) ∷ [] = w ∙ ap (λ j. pre ++ (j, a.1) ∷ []) first in
    let deeper = leads_under root pre outer o us ts k a.1 l in
    inr (inr (inl (
      a.1,
      way_use g pre k a [] whole w first has,
      here_inside g end us 0 c c (pre ++ (k, a.1) ∷ []) o.id t f (omega arith) h
          (subst (λ i. AtChild g end (pre ++ (k, a.1) ∷ []) i t c f) (sym deeper.named)
          (subst (λ p. AtChild g end p (loop_id_at root (place p)) t c f) same at)),
    )))
way_inside root g end (tree (loop o us) ts) k zero pre outer a (b ∷ r) whole c v t f l e w h has at =
    let first : a.0 ≡ k = omega arith in
    inr (inr (inl (
      a.1,
      way_use g pre k a (b ∷ r) whole w first has,
      way_inside root g end us 0 b.0 (pre ++ (k, a.1) ∷ []) o.id b r whole c v t f (leads_under root pre outer o us ts k a.1 l)
          (omega arith) (w ∙ ap (λ j. pre ++ (j, a.1) ∷ b ∷ r) first ∙ sym (append_assoc pre ((k, a.1) ∷ []) (b ∷ r))) h has at,
    )))
way_inside root g end (tree s ts) k (suc n) pre outer a r whole c v t f l e w h has at =
    inr (inr (inr (way_inside root g end ts (k + 1) n pre outer a r whole c v t f (leads_next root pre outer s ts k l) (omega arith) w h
    has at)))

root_inside : (root : Trees) (g : List (Option Place)) (end : ℕ) (pre : Place) (c v : ℕ) (t : Tree) (f : Fault)
    → node_at root (place pre ++ use_of c v ∷ []) ≡ Some t → IsThere (given g) (place pre)
    → AtChild g end pre (loop_id_at root (place pre)) t c f → InsideAt g end [] [] root 0 f
root_inside root g end [] c v t f h there at = here_inside g end root 0 c c [] [] t f (omega arith) h at
root_inside root g end (a ∷ r) c v t f h there at =
    way_inside root g end root 0 a.0 [] [] a r (a ∷ r) c v t f (leads_root root) (omega arith) refl h there at

-- a place of the layers as one of the definition
abbrev seen : old.Place → Place
seen [] = []
seen (a ∷ q) = (a.child, a.use_no) ∷ seen q

seen_is : (q : old.Place) → place (seen q) ≡ q
seen_is [] = refl
seen_is (a ∷ q) = ap (λ p. a ∷ p) (seen_is q)

shorter_there : (xs : List (Option old.Place)) (p q : old.Place) → Has xs (p ++ q) → IsThere xs p
shorter_there xs [] q h = tt
shorter_there xs (a ∷ p) q h = has_shorter (a ∷ p) q xs h

pub old_inside : (root : Trees) (g : List (Option Place)) (end : ℕ) (f : Fault) → IsTreeFault root (given g) end f
    → InsideAt g end [] [] root 0 f
old_inside root g end f (inl x) =
    let e = seen_is x.parent in
    root_inside root g end (seen x.parent) x.child x.use_no x.node f
    (ap (λ p. node_at root (p ++ use_of x.child x.use_no ∷ [])) e ∙ x.there)
    (subst (λ p. IsThere (given g) p) (sym e) (shorter_there (given g) x.parent (use_of x.child x.use_no ∷ [])
    (first_has (x.parent ++ use_of x.child x.use_no ∷ []) (given g) x.index x.first)))
    (inl (is_past root g (seen x.parent) f x e))
old_inside root g end f (inr x) =
    let e = seen_is x.parent in
    root_inside root g end (seen x.parent) x.child 0 x.node f
    (ap (λ p. node_at root (p ++ use_of x.child 0 ∷ [])) e ∙ x.there)
    (subst (λ p. IsThere (given g) p) (sym e) x.repetition)
    (inr (is_short root g end (seen x.parent) f x e))
