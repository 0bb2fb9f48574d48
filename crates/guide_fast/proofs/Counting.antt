-- The counts of needed nodes say how many are reported where none comes.
use Rattle.std.proofs.Common.{◌≡◌, ℕ, zero, suc, ◌+◌, ◌-◌, ◌<◌, ◌≤◌, List, [], ◌∷◌, Bool, true, false, length, get_or, take, drop}
use Rattle.std.proofs.Common.{refl, sym, ap, ◌∙◌, arith}
use Rattle.std.specs.Prelude.{if◌then◌else◌}
use Rattle.std.proofs.lemmas.List.{length-append}
use Rattle.hub_kinds.specs.declared.fault.Fault.{Fault}
use Rattle.hub_kinds.specs.declared.codes.SegmentCode.TheVariants as ik304
use Rattle.guide_tree.specs.declared.node.Node.{Node}
use Rattle.guide_tree.specs.Words.{Tree, Trees, no_trees, tree, view, nodes_view, unused, missing, fault_of}
use Rattle.guide_fast.specs.Needed.{is_needed, with_needed, needed, counts_from}

one_missing : (b : Bool) (f : Fault) (n : ℕ) → length (if b then f ∷ [] else []) + n ≡ (if b then n + 1 else n)
one_missing true f n = omega arith
one_missing false f n = omega arith

told : (at : ℕ) (outer : List ℕ) (ts : Trees) → length (unused at outer ts) ≡ needed ts
told at outer no_trees = refl
told at outer (tree t ts) =
    length-append (missing at outer t) (unused at outer ts)
    ∙ ap (λ (n : ℕ). length (missing at outer t) + n) (told at outer ts)
    ∙ one_missing (is_needed t) (fault_of at outer ik304.RequiredSegmentMissing t) (needed ts)

moved : (t : Tree) (n m : ℕ) → with_needed t n + m ≡ n + with_needed t m
moved t n m = by (is_needed t) n m where
  by : (b : Bool) (n m : ℕ) → (if b then n + 1 else n) + m ≡ n + (if b then m + 1 else m)
  by true n m = omega arith
  by false n m = refl

-- the count before a place
counted : (n : ℕ) (ns : List Node) (k d : ℕ) → k ≤ length ns → get_or (counts_from n ns) k d ≡ n + needed (nodes_view (take k ns))
counted n [] zero d h = omega arith
counted n [] (suc k) d h = absurd (omega (arith, h))
counted n (m ∷ ns) zero d h = omega arith
counted n (m ∷ ns) (suc k) d h =
    counted (with_needed (view m) n) ns k d (omega (arith, h)) ∙ moved (view m) n (needed (nodes_view (take k ns)))

as_long : (n : ℕ) (ns : List Node) → length (counts_from n ns) ≡ length ns + 1
as_long n [] = refl
as_long n (m ∷ ns) = let e = as_long (with_needed (view m) n) ns in omega (arith, e)

split : (ns : List Node) (from more : ℕ) → from + more ≤ length ns
    → needed (nodes_view (take (from + more) ns)) ≡ needed (nodes_view (take from ns)) + needed (nodes_view (take more (drop from ns)))
split ns zero more h =
    let e : 0 + more ≡ more = omega arith in
    ap (λ (k : ℕ). needed (nodes_view (take k ns))) e
    ∙ (let z : needed (nodes_view (take more ns)) ≡ 0 + needed (nodes_view (take more ns)) = omega arith in z)
split [] (suc from) more h = absurd (omega (arith, h))
split (m ∷ ns) (suc from) more h =
    let e : suc from + more ≡ suc (from + more) = omega arith in
    ap (λ (k : ℕ). needed (nodes_view (take k (m ∷ ns)))) e
    ∙ ap (with_needed (view m)) (split ns from more (omega (arith, h)))
    ∙ one_grown (is_needed (view m)) (needed (nodes_view (take from ns))) (needed (nodes_view (take more (drop from ns)))) where
      one_grown : (b : Bool) (x y : ℕ) → (if b then (x + y) + 1 else x + y) ≡ (if b then x + 1 else x) + y
      one_grown true x y = omega arith
      one_grown false x y = refl

at_place : (ns : List Node) (counts : List ℕ) (k : ℕ) → counts ≡ counts_from 0 ns → k ≤ length ns
    → get_or counts k 0 ≡ needed (nodes_view (take k ns))
at_place ns counts k e h =
    let z : 0 + needed (nodes_view (take k ns)) ≡ needed (nodes_view (take k ns)) = omega arith in
    ap (λ (l : List ℕ). get_or l k 0) e ∙ counted 0 ns k 0 h ∙ z

grown : (ns : List Node) (counts : List ℕ) (from to : ℕ) → counts ≡ counts_from 0 ns → from ≤ to → to ≤ length ns
    → get_or counts to 0 ≡ get_or counts from 0 + needed (nodes_view (take (to - from) (drop from ns)))
grown ns counts from to e o h =
    let more : ℕ = to - from in
    let t : from + more ≡ to = omega (arith, o) in
    let p = at_place ns counts from e (omega (arith, o, h)) in
    let q = at_place ns counts to e h in
    let r : needed (nodes_view (take to ns)) ≡ needed (nodes_view (take from ns)) + needed (nodes_view (take more (drop from ns))) =
    ap (λ (k : ℕ). needed (nodes_view (take k ns))) (sym t) ∙ split ns from more (omega (arith, t, h)) in
    omega (arith, p, q, r)

pub rising : (own ns : List Node) (counts : List ℕ) (from to : ℕ) → ns ≡ own → counts ≡ counts_from 0 ns → from ≤ to → to ≤ length own
    → get_or counts from 0 ≤ get_or counts to 0
rising own ns counts from to v e o h =
    let l : length ns ≡ length own = ap length v in
    let g = grown ns counts from to e o (omega (arith, l, h)) in omega (arith, g)

pub between : (own ns : List Node) (counts : List ℕ) (from to at : ℕ) (outer : List ℕ) → ns ≡ own → counts ≡ counts_from 0 ns
    → from ≤ to → to ≤ length own
    → get_or counts to 0 - get_or counts from 0 ≡ length (unused at outer (nodes_view (take (to - from) (drop from own))))
between own ns counts from to at outer v e o h =
    let l : length ns ≡ length own = ap length v in
    let g = grown ns counts from to e o (omega (arith, l, h)) in
    let z : get_or counts to 0 - get_or counts from 0 ≡ needed (nodes_view (take (to - from) (drop from ns))) = omega (arith, g) in
    z ∙ sym (told at outer (nodes_view (take (to - from) (drop from ns))))
    ∙ ap (λ (n : List Node). length (unused at outer (nodes_view (take (to - from) (drop from n))))) v

-- one node more
pub one_more : (ns : List Node) (k n : ℕ) (m : Node) → k < length ns → m ≡ get_or ns k m
    → counts_from n (drop k ns) ≡ n ∷ counts_from (with_needed (view m) n) (drop (k + 1) ns)
one_more [] k n m h e = absurd (omega (arith, h))
one_more (x ∷ ns) zero n m h e = ap (λ (y : Node). n ∷ counts_from (with_needed (view y) n) ns) (sym e)
one_more (x ∷ ns) (suc k) n m h e =
    let a : suc k + 1 ≡ suc (k + 1) = omega arith in
    one_more ns k n m (omega (arith, h)) e
    ∙ ap (λ (i : ℕ). n ∷ counts_from (with_needed (view m) n) (drop i (x ∷ ns))) (sym a)

pub within : (own ns : List Node) (counts : List ℕ) (k : ℕ) → ns ≡ own → counts ≡ counts_from 0 ns → k ≤ length own
    → k < length counts
within own ns counts k v e h =
    let a : length counts ≡ length (counts_from 0 ns) = ap length e in
    let b = as_long 0 ns in
    let g : length ns ≡ length own = ap length v in
    omega (arith, a, b, g, h)
