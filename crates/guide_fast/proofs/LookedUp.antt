-- The nodes that are looked for by one of a segment's first elements hold the first that it fits.
use Rattle.std.proofs.Common.{◌≡◌, ℕ, zero, suc, ◌+◌, ◌-◌, ◌<◌, ◌≤◌, length, List, [], ◌∷◌, Bool, true, false, ◌||◌, cond, drop}
use Rattle.std.proofs.Common.{take, ◌++◌, refl, sym, ap, subst, ◌∙◌, Option, Some, None, option_map, arith}
use Rattle.std.specs.Prelude.{slice_get, IfSome}
use Rattle.std.specs.Str.{bytes_eq}
use Rattle.std.proofs.lemmas.Bool.{lt-ltb, le-ltb}
use Rattle.std.proofs.lemmas.List.{drop-map, length-drop}
use Rattle.guide_tree.specs.declared.node.Node.{Node}
use Rattle.guide_tree.specs.Words.{Segment, Candidate, Place, or_else, into, use_of, fit_start, fit_starts, view, nodes_view, element_at}
use Rattle.loop_match.specs.declared.next.Turn.{Turn}
use Rattle.loop_match.specs.Steps.{turned, below_start}
use Rattle.guide_fast.specs.Listed.{places_of}
use Rattle.guide_fast.specs.Children.{fit_node, fit_child, fit_listed, until}
use Rattle.guide_fast.specs.Keys.{begin_key, begin_keys, begin_reach, Reaches}
use Rattle.guide_fast.proofs.Keyed.{is_told, no_start_told}

-- the first node that a segment fits among those that are looked for by one of its first elements
abbrev pub fit_told : Segment → (positions k : ℕ) → List Node → Option Candidate
fit_told s n k [] = None
fit_told s n k (m ∷ ms) =
    or_else (option_map (into (use_of k 0)) (cond (is_told s n (begin_key m)) (fit_start s (view m)) None)) (fit_told s n (k + 1) ms)

abbrev pub head_child : ℕ → Place → ℕ
head_child d [] = d
head_child d (a ∷ p) = a.child

-- the child that a candidate begins with, or another number
abbrev pub child_or : ℕ → Option Candidate → ℕ
child_or d None = d
child_or d (Some c) = head_child d c.place

got : (ns : List Node) (k : ℕ) (m : Node) (ms : List Node) → drop k ns ≡ m ∷ ms → slice_get ns k ≡ Some m
got [] zero m ms e = cc
got [] (suc k) m ms e = cc
got (n ∷ ns) zero m ms e = let x : n ≡ m = cc in ap Some x
got (n ∷ ns) (suc k) m ms e = got ns k m ms e

rest : (ns : List Node) (k : ℕ) (m : Node) (ms : List Node) → drop k ns ≡ m ∷ ms → drop (k + 1) ns ≡ ms
rest [] zero m ms e = cc
rest [] (suc k) m ms e = cc
rest (n ∷ ns) zero m ms e = let x : ns ≡ ms = cc in x
rest (n ∷ ns) (suc k) m ms e =
    let a : suc k + 1 ≡ suc (k + 1) = omega arith in ap (λ (i : ℕ). drop i (n ∷ ns)) a ∙ rest ns k m ms e

pub none_told : (s : Segment) (k : ℕ) (ns : List Node) → fit_told s 0 k ns ≡ None
none_told s k [] = refl
none_told s k (m ∷ ms) = none_told s (k + 1) ms

all_but : (b : Bool) (o : Option Candidate) → (b ≡ false → o ≡ None) → cond b o None ≡ o
all_but true o e = refl
all_but false o e = sym (e refl)

pub all_told : (s : Segment) (n k : ℕ) (ns : List Node) → Reaches begin_reach n ns → fit_told s n k ns ≡ fit_starts s k (nodes_view ns)
all_told s n k [] h = refl
all_told s n k (m ∷ ms) h =
    ap (λ (o : Option Candidate). or_else (option_map (into (use_of k 0)) o) (fit_told s n (k + 1) ms))
    (all_but (is_told s n (begin_key m)) (fit_start s (view m)) (no_start_told s n (view m) h.0))
    ∙ ap (or_else (option_map (into (use_of k 0)) (fit_start s (view m)))) (all_told s n (k + 1) ms h.1)

-- a candidate among nodes from k on has a child from k on
behind : (k d : ℕ) (o r : Option Candidate) → k ≤ child_or d r → k ≤ child_or d (or_else (option_map (into (use_of k 0)) o) r)
behind k d None r h = h
behind k d (Some c) r h = omega arith

from_here : (s : Segment) (n k d : ℕ) (ms : List Node) → k + length ms ≤ d → k ≤ child_or d (fit_told s n k ms)
from_here s n k d [] h = omega (arith, h)
from_here s n k d (m ∷ ms) h =
    let e = from_here s n (k + 1) d ms (omega (arith, h)) in
    behind k d (cond (is_told s n (begin_key m)) (fit_start s (view m)) None) (fit_told s n (k + 1) ms) (omega (arith, e))

-- no place from k on is below k
past_first : (b : Bool) (k end : ℕ) (ks : List ℕ) → end ≤ k → until end ks ≡ [] → until end (cond b (k ∷ ks) ks) ≡ []
past_first true k end ks h e = ap (λ (b : Bool). cond b (k ∷ until end ks) []) (le-ltb k end h)
past_first false k end ks h e = e

past : (text : List ℕ) (k end : ℕ) (texts : List (List ℕ)) → end ≤ k → until end (places_of text k texts) ≡ []
past text k end [] h = refl
past text k end (t ∷ texts) h =
    past_first (bytes_eq t text) k end (places_of text (k + 1) texts) h (past text (k + 1) end texts (omega (arith, h)))

shown : (s : Segment) (ns : List Node) (k end : ℕ) (ks : List ℕ) (o : Option Candidate) → k < end
    → fit_child s ns k ≡ option_map (into (use_of k 0)) o
    → fit_listed s ns (until end (k ∷ ks)) ≡ or_else (option_map (into (use_of k 0)) o) (fit_listed s ns (until end ks))
shown s ns k end ks o l e =
    ap (λ (b : Bool). fit_listed s ns (cond b (k ∷ until end ks) [])) (lt-ltb k end l)
    ∙ ap (λ (c : Option Candidate). or_else c (fit_listed s ns (until end ks))) e

-- one node: whether an earlier element reports it, whether this one does, and its start
one_told : (s : Segment) (ns : List Node) (k d end : ℕ) (a b : Bool) (o : Option Candidate) (ks : List ℕ) (r all : Option Candidate)
    → fit_child s ns k ≡ option_map (into (use_of k 0)) o → k + 1 ≤ child_or d r
    → (end ≤ k + 1 → until end ks ≡ [])
    → (end ≡ child_or d r → or_else (fit_listed s ns (until end ks)) r ≡ all)
    → end ≡ child_or d (or_else (option_map (into (use_of k 0)) (cond a o None)) r)
    → or_else (fit_listed s ns (until end (cond b (k ∷ ks) ks))) (or_else (option_map (into (use_of k 0)) (cond a o None)) r)
    ≡ or_else (option_map (into (use_of k 0)) (cond (a || b) o None)) all
one_told s ns k d end true true None ks r all at low none more e =
    ap (λ (c : Option Candidate). or_else c r) (shown s ns k end ks None (omega (arith, low, e)) at) ∙ more e
one_told s ns k d end true false None ks r all at low none more e = more e
one_told s ns k d end false true None ks r all at low none more e =
    ap (λ (c : Option Candidate). or_else c r) (shown s ns k end ks None (omega (arith, low, e)) at) ∙ more e
one_told s ns k d end false false None ks r all at low none more e = more e
one_told s ns k d end true b (Some c) ks r all at low none more e =
    ap (λ (l : List ℕ). or_else (fit_listed s ns l) (Some (into (use_of k 0) c)))
    (past_first b k end ks (omega (arith, e)) (none (omega (arith, e))))
one_told s ns k d end false true (Some c) ks r all at low none more e =
    ap (λ (x : Option Candidate). or_else x r) (shown s ns k end ks (Some c) (omega (arith, low, e)) at)
one_told s ns k d end false false (Some c) ks r all at low none more e = more e

told_more : (s : Segment) (ns : List Node) (n k d end : ℕ) (ms : List Node) → drop k ns ≡ ms → k + length ms ≤ d
    → end ≡ child_or d (fit_told s n k ms)
    → or_else (fit_listed s ns (until end (places_of (element_at s n) k (begin_keys ms)))) (fit_told s n k ms) ≡ fit_told s (suc n) k ms
told_more s ns n k d end [] at h e = refl
told_more s ns n k d end (m ∷ ms) at h e =
    let next : drop (k + 1) ns ≡ ms = rest ns k m ms at in
    let room : (k + 1) + length ms ≤ d = omega (arith, h) in
    one_told s ns k d end (is_told s n (begin_key m)) (bytes_eq (begin_key m) (element_at s n)) (fit_start s (view m))
    (places_of (element_at s n) (k + 1) (begin_keys ms)) (fit_told s n (k + 1) ms) (fit_told s (suc n) (k + 1) ms)
    (ap (λ (o : Option Node). option_map (into (use_of k 0)) (fit_node s o)) (got ns k m ms at))
    (from_here s n (k + 1) d ms room) (past (element_at s n) (k + 1) end (begin_keys ms))
    (told_more s ns n (k + 1) d end ms next room) e

-- one position more
pub one_more : (s : Segment) (ns : List Node) (n from end : ℕ) (text ks : List ℕ) → from ≤ length ns → text ≡ element_at s n
    → ks ≡ places_of text from (drop from (begin_keys ns)) → end ≡ child_or (length ns) (fit_told s n from (drop from ns))
    → or_else (fit_listed s ns (until end ks)) (fit_told s n from (drop from ns)) ≡ fit_told s (n + 1) from (drop from ns)
one_more s ns n from end text ks h t e f =
    let long : length (drop from ns) ≡ length ns - from = length-drop from ns in
    let next : suc n ≡ n + 1 = omega arith in
    ap (λ (l : List ℕ). or_else (fit_listed s ns (until end l)) (fit_told s n from (drop from ns)))
    (e ∙ ap (λ (x : List ℕ). places_of x from (drop from (begin_keys ns))) t
    ∙ ap (places_of (element_at s n) from) (drop-map begin_key from ns))
    ∙ told_more s ns n from (length ns) end (drop from ns) refl (omega (arith, long, h)) f
    ∙ ap (λ (m : ℕ). fit_told s m from (drop from ns)) next

-- the first turn so far, and its child
abbrev pub IsFirst : ℕ → Option Turn → (end : ℕ) → Option Candidate → Type 0
IsFirst d first end all =
    (option_map (turned []) first ≡ all) × (end ≡ child_or d all)
    × IfSome first (λ t. t.depth ≡ 0) × IfSome first (λ t. t.use_no ≡ 0)

own_child : (d : ℕ) (t : Turn) → t.depth ≡ 0 → child_or d (Some (turned [] t)) ≡ t.child
own_child d t e = ap (λ (n : ℕ). head_child d (take n [] ++ (use_of t.child t.use_no ∷ below_start t.into_loop))) e

nothing_found : (r : Option Turn) → ((t : Turn) → r ≡ Some t → ⊥) → r ≡ None
nothing_found None e = refl
nothing_found (Some t) e = absurd (e t refl)

pub found_sooner : (d : ℕ) (r first : Option Turn) (t : Turn) (end : ℕ) (c before all : Option Candidate) → r ≡ Some t
    → first ≡ Some t → end ≡ t.child → option_map (turned []) r ≡ c → IfSome r (λ u. u.depth ≡ 0) → IfSome r (λ u. u.use_no ≡ 0)
    → or_else c before ≡ all → IsFirst d first end all
found_sooner d r first t end c before all is e f same depth uses more =
    let there : Some (turned [] t) ≡ all =
    ap (λ (o : Option Candidate). or_else o before) (ap (option_map (turned [])) (sym is) ∙ same) ∙ more in
    let none : t.depth ≡ 0 = subst (λ (o : Option Turn). IfSome o (λ u. u.depth ≡ 0)) is depth in (
      ap (option_map (turned [])) e ∙ there,
      f ∙ sym (own_child d t none) ∙ ap (child_or d) there,
      subst (λ (o : Option Turn). IfSome o (λ u. u.depth ≡ 0)) (is ∙ sym e) depth,
      subst (λ (o : Option Turn). IfSome o (λ u. u.use_no ≡ 0)) (is ∙ sym e) uses,
    )

pub none_sooner : (d : ℕ) (r first new : Option Turn) (end last : ℕ) (c before all : Option Candidate)
    → ((t : Turn) → r ≡ Some t → ⊥) → new ≡ first → last ≡ end → option_map (turned []) r ≡ c → or_else c before ≡ all
    → IsFirst d first end before → IsFirst d new last all
none_sooner d r first new end last c before all none e f same more is =
    let there : before ≡ all =
    ap (λ (o : Option Candidate). or_else o before) (ap (option_map (turned [])) (sym (nothing_found r none)) ∙ same) ∙ more in (
      ap (option_map (turned [])) e ∙ is.0 ∙ there,
      f ∙ is.1 ∙ ap (child_or d) there,
      subst (λ (o : Option Turn). IfSome o (λ u. u.depth ≡ 0)) (sym e) is.2,
      subst (λ (o : Option Turn). IfSome o (λ u. u.use_no ≡ 0)) (sym e) is.3,
    )
