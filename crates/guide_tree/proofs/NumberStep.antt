-- Numbering one node more.
use Rattle.std.proofs.Common.{◌≡◌, ◌≢◌, ◌≤◌, length-set, get_or-set_other, ℕ, ◌+◌, ◌<◌, List, [], ◌∷◌, ◌++◌, map}
use Rattle.std.proofs.Common.{length, get_or, take, drop, refl, sym, ◌∙◌, ap, arith}
use Rattle.std.proofs.Math.ListN.{set}
use Rattle.std.proofs.lemmas.List.{take_more_set, drop-set-lt, take_all, drop_all, map_push}
use Rattle.guide_tree.specs.declared.node.Node.{Node}
use Rattle.guide_tree.specs.Tree.{Tree, Trees, no_trees, tree, count_in, node_count, numbered_in, numbered}
use Rattle.guide_tree.specs.View.{view, nodes_view}
use Rattle.guide_tree.proofs.NodeViews.{nodes_view-drop, in_front}

in_front-append : (ts us : List Tree) (vs : Trees) → in_front (ts ++ us) vs ≡ in_front ts (in_front us vs)
in_front-append [] us vs = refl
in_front-append (t ∷ ts) us vs = ap (tree t) (in_front-append ts us vs)

drop_behind : (xs : List Node) (i : ℕ) (new : Node) → drop (i + 1) (set xs i new) ≡ drop (i + 1) xs
drop_behind xs i new = drop-set-lt (i + 1) xs i new (omega arith)

pub count_step : (xs : List Node) (i n m all : ℕ) (old new : Node) → i < length xs → old ≡ get_or xs i old
    → m ≡ n + count_in (view old)
    → n + node_count (nodes_view (drop i xs)) ≡ all → m + node_count (nodes_view (drop (i + 1) (set xs i new))) ≡ all
count_step xs i n m all old new h o e a =
    let d = ap node_count (nodes_view-drop xs i old h) in
    let w = ap (λ (x : Node). count_in (view x)) o in
    let s = ap (λ (ys : List Node). node_count (nodes_view ys)) (drop_behind xs i new) in
    omega arith

pub number_step : (xs : List Node) (i n m : ℕ) (all : Trees) (old new : Node) → i < length xs
    → old ≡ get_or xs i old → m ≡ n + count_in (view old)
    → view new ≡ numbered_in n (view old)
    → in_front (map view (take i xs)) (numbered n (nodes_view (drop i xs))) ≡ all
    → in_front (map view (take (i + 1) (set xs i new))) (numbered m (nodes_view (drop (i + 1) (set xs i new)))) ≡ all
number_step xs i n m all old new h o e v a =
    ap (λ (ys : List Node). in_front (map view ys) (numbered m (nodes_view (drop (i + 1) (set xs i new)))))
    (take_more_set xs i new h)
    ∙ ap (λ (ts : List Tree). in_front ts (numbered m (nodes_view (drop (i + 1) (set xs i new)))))
    (map_push view (take i xs) new)
    ∙ in_front-append (map view (take i xs)) (view new ∷ []) (numbered m (nodes_view (drop (i + 1) (set xs i new))))
    ∙ ap (in_front (map view (take i xs)))
    (ap (λ (ys : List Node). tree (view new) (numbered m (nodes_view ys))) (drop_behind xs i new)
    ∙ ap (λ (t : Tree). tree t (numbered m (nodes_view (drop (i + 1) xs)))) v
    ∙ ap (λ (k : ℕ). tree (numbered_in n (view old)) (numbered k (nodes_view (drop (i + 1) xs)))) e
    ∙ ap (λ (x : Node). numbered n (tree (view x) (nodes_view (drop (i + 1) xs)))) o
    ∙ sym (ap (numbered n) (nodes_view-drop xs i old h)))
    ∙ a

unvisited_get : (xs ys : List Node) (i : ℕ) (new : Node) → length xs ≡ length ys
    → ((k : ℕ) (d : Node) → i ≤ k → get_or xs k d ≡ get_or ys k d)
    → (length (set xs i new) ≡ length ys) × ((k : ℕ) (d : Node) → i + 1 ≤ k → get_or (set xs i new) k d ≡ get_or ys k d)
unvisited_get xs ys i new h f = (
  length-set xs i new ∙ h,
  λ k d le. (let ne : k ≢ i = omega arith in get_or-set_other xs i k new d ne)
      ∙ f k d (omega arith),
)

pub unvisited_step : (xs ys : List Node) (i : ℕ) (new : Node)
    → (length xs ≡ length ys) × ((k : ℕ) (d : Node) → i ≤ k → get_or xs k d ≡ get_or ys k d)
    → (length (set xs i new) ≡ length ys) × ((k : ℕ) (d : Node) → i + 1 ≤ k → get_or (set xs i new) k d ≡ get_or ys k d)
unvisited_step xs ys i new u = unvisited_get xs ys i new u.0 u.1

in_front_none : (xs : List Node) → in_front (map view xs) no_trees ≡ nodes_view xs
in_front_none [] = refl
in_front_none (x ∷ xs) = ap (tree (view x)) (in_front_none xs)

pub number_end : (xs : List Node) (i n : ℕ) (all : Trees) → i ≡ length xs
    → in_front (map view (take i xs)) (numbered n (nodes_view (drop i xs))) ≡ all → nodes_view xs ≡ all
number_end xs i n all e a =
    sym (in_front_none xs)
    ∙ ap (λ (ys : List Node). in_front (map view ys) no_trees) (sym (take_all i xs (omega arith)))
    ∙ ap (λ (ys : List Node). in_front (map view (take i xs)) (numbered n (nodes_view ys)))
    (sym (drop_all i xs (omega arith)))
    ∙ a
