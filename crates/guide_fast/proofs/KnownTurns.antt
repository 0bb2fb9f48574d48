-- Turns that are known beforehand: which of them a segment fits first, and where nothing is reported at them.
use Rattle.std.proofs.Common.{◌≡◌, ℕ, zero, suc, ◌+◌, ◌-◌, ◌<◌, ◌≤◌, List, [], ◌∷◌, ◌++◌, Bool, true, false, if◌then◌else◌, IsTrue}
use Rattle.std.proofs.Common.{length, get_or, take, drop, refl, sym, ap, subst, ◌∙◌, arith, Option, Some, None, option_map, true≢false}
use Rattle.std.specs.Bool.{OnTrue}
use Rattle.std.specs.List.{AllByRecursion}
use Rattle.std.proofs.lemmas.Bool.{OnTrue_at, cond-true, cond-false, eq-eqb, ne_eqb}
use Rattle.std.proofs.lemmas.List.{append_assoc, append-nil}
use Rattle.hub_kinds.specs.declared.fault.Fault.{Fault}
use Rattle.guide_tree.specs.declared.node.Node.{Node}
use Rattle.guide_tree.specs.declared.node.Loop.{Loop}
use Rattle.guide_tree.specs.declared.slot.Slot.{Slot}
use Rattle.guide_tree.specs.Words.{Tree, Trees, segment, loop, Segment, Place, Pair, Candidate, use_of, fits, view, nodes_view, into}
use Rattle.guide_tree.specs.Words.{fit_starts, fit_again, fit_in, fit_from, fit_next, past, too_few, unused, entered}
use Rattle.guide_tree.specs.Words.{or_else, ended_in, stepped_in}
use Rattle.loop_match.specs.Leaving.{ended_among, stepped_among}
use Rattle.loop_match.specs.Steps.{below_start}
use Rattle.loop_match.proofs.ForAbove.{ended_at, ended_past, stepped_same, stepped_on}
use Rattle.guide_fast.specs.declared.known.KnownTurn.{KnownTurn}
use Rattle.guide_fast.specs.Ahead.{children_of, use_at, next_use, place_by, led, first_led, IsTurnTo, IsStart, IsKnown, Adds, Any}
use Rattle.guide_fast.specs.Ahead.{StandsAt, once_more, AmongSilent, InSilent}

-- lists of turns
chosen : (b : Bool) (c : Candidate) (x y z : Option Candidate) → z ≡ or_else x y
    → (if b then Some c else z) ≡ or_else (if b then Some c else x) y
chosen true c x y z e = refl
chosen false c x y z e = e

pub first_append : (n : ℕ) (s : Segment) (p : Place) (xs ys : List KnownTurn)
    → first_led n s p (xs ++ ys) ≡ or_else (first_led n s p xs) (first_led n s p ys)
first_append n s p [] ys = refl
first_append n s p (t ∷ xs) ys =
    chosen (fits t.slot.now s) (led n p t) (first_led n s p xs) (first_led n s p ys) (first_led n s p (xs ++ ys))
    (first_append n s p xs ys)

pub all_append : (P : KnownTurn → Type 0) (xs ys : List KnownTurn) → AllByRecursion P xs → AllByRecursion P ys → AllByRecursion P (xs ++ ys)
all_append P [] ys h k = k
all_append P (x ∷ xs) ys h k = (h.0, all_append P xs ys h.1 k)

pub all_as : (P Q : KnownTurn → Type 0) → ((t : KnownTurn) → P t → Q t) → (xs : List KnownTurn) → AllByRecursion P xs → AllByRecursion Q xs
all_as P Q f [] h = tt
all_as P Q f (x ∷ xs) h = (f x h.0, all_as P Q f xs h.1)

abbrev Fit : Type 0
Fit = Segment → Place → Option Candidate

pub adds_none : (n : ℕ) (P : KnownTurn → Type 0) (Q : Place → Type 0) (F : Fit) (xs : List KnownTurn)
    → ((s : Segment) (p : Place) → Q p → F s p ≡ None) → Adds n P Q F xs xs
adds_none n P Q F xs none = record {
  turns = [];
  are = sym (append-nil xs);
  each = tt;
  fit = λ s p q. sym (none s p q);
}

pub adds_as : (n : ℕ) (P P2 : KnownTurn → Type 0) (Q Q2 : Place → Type 0) (F F2 : Fit) (old new : List KnownTurn)
    → Adds n P Q F old new → ((t : KnownTurn) → P t → P2 t) → ((p : Place) → Q2 p → Q p)
    → ((s : Segment) (p : Place) → Q2 p → F s p ≡ F2 s p) → Adds n P2 Q2 F2 old new
adds_as n P P2 Q Q2 F F2 old new a each at same = record {
  turns = a.turns;
  are = a.are;
  each = all_as P P2 each a.turns a.each;
  fit = λ s p q. a.fit s p (at p q) ∙ same s p q;
}

pub adds_both : (n : ℕ) (P : KnownTurn → Type 0) (Q : Place → Type 0) (F G : Fit) (old mid new : List KnownTurn)
    → Adds n P Q F old mid → Adds n P Q G mid new → Adds n P Q (λ s p. or_else (F s p) (G s p)) old new
adds_both n P Q F G old mid new a b = record {
  turns = a.turns ++ b.turns;
  are = b.are ∙ ap (λ (l : List KnownTurn). l ++ b.turns) a.are ∙ append_assoc old a.turns b.turns;
  each = all_append P a.turns b.turns a.each b.each;
  fit = λ s p q. first_append n s p a.turns b.turns
      ∙ ap (λ (o : Option Candidate). or_else o (first_led n s p b.turns)) (a.fit s p q)
      ∙ ap (or_else (F s p)) (b.fit s p q);
}

-- one step down
step_down : (n : ℕ) (t : KnownTurn) → n + 1 ≤ t.depth → t.depth - n ≡ suc (t.depth - (n + 1))
step_down n t h = omega (arith, h)

abbrev use_by : KnownTurn → (depth : ℕ) → Place → ℕ
use_by t d p = if t.again then use_at p d + 1 else 0

pub use_down : (n : ℕ) (a : Pair) (p : Place) (t : KnownTurn) → n + 1 ≤ t.depth → next_use n (a ∷ p) t ≡ next_use (n + 1) p t
use_down n a p t h = ap (λ (d : ℕ). use_by t d (a ∷ p)) (step_down n t h)

pub place_down : (n : ℕ) (a : Pair) (p : Place) (t : KnownTurn) → n + 1 ≤ t.depth → place_by n (a ∷ p) t ≡ a ∷ place_by (n + 1) p t
place_down n a p t h =
    ap (λ (d : ℕ). take d (a ∷ p) ++ (use_of t.child (use_by t d (a ∷ p)) ∷ below_start t.into_loop)) (step_down n t h)

led_down : (n : ℕ) (a : Pair) (p : Place) (t : KnownTurn) → n + 1 ≤ t.depth → led n (a ∷ p) t ≡ into a (led (n + 1) p t)
led_down n a p t h = ap (λ (q : Place). record { place = q; slot = t.slot.now }) (place_down n a p t h)

map_chosen : (b : Bool) (a : Pair) (c d : Candidate) (x y : Option Candidate) → d ≡ into a c → y ≡ option_map (into a) x
    → (if b then Some d else y) ≡ option_map (into a) (if b then Some c else x)
map_chosen true a c d x y f e = ap Some f
map_chosen false a c d x y f e = e

first_down : (n : ℕ) (s : Segment) (a : Pair) (p : Place) (ts : List KnownTurn) → AllByRecursion (λ t. n + 1 ≤ t.depth) ts
    → first_led n s (a ∷ p) ts ≡ option_map (into a) (first_led (n + 1) s p ts)
first_down n s a p [] h = refl
first_down n s a p (t ∷ ts) h =
    map_chosen (fits t.slot.now s) a (led (n + 1) p t) (led n (a ∷ p) t) (first_led (n + 1) s p ts) (first_led n s (a ∷ p) ts)
    (led_down n a p t h.0) (first_down n s a p ts h.1)

-- what a segment fits inside the child in which a place stands
abbrev pub inside : Tree → Segment → Place → Option Candidate
inside t s [] = None
inside t s (a ∷ p) = option_map (into a) (fit_in s t p)

head_is : (a : Pair) (p : Place) (c : ℕ) (rest : List ℕ) → StandsAt (c ∷ rest) (a ∷ p) → a.child ≡ c
head_is a p c rest e = cc

tail_is : (a : Pair) (p : Place) (c : ℕ) (rest : List ℕ) → StandsAt (c ∷ rest) (a ∷ p) → children_of p ≡ rest
tail_is a p c rest e = cc

nowhere : {X : Type 0} (c : ℕ) (rest : List ℕ) → StandsAt (c ∷ rest) [] → X
nowhere c rest e = let k : [] ≡ c ∷ rest = e in cc

pub below_adds : (n c : ℕ) (rest : List ℕ) (t : Tree) (P P2 : KnownTurn → Type 0) (old new : List KnownTurn)
    → Adds (n + 1) P (StandsAt rest) (λ s p. fit_in s t p) old new → ((k : KnownTurn) → P k → n + 1 ≤ k.depth)
    → ((k : KnownTurn) → P k → P2 k) → Adds n P2 (StandsAt (c ∷ rest)) (inside t) old new
below_adds n c rest t P P2 old new a deep each = record {
  turns = a.turns;
  are = a.are;
  each = all_as P P2 each a.turns a.each;
  fit = λ s p q. here s p q;
} where
  here : (s : Segment) (p : Place) → StandsAt (c ∷ rest) p → first_led n s p a.turns ≡ inside t s p
  here s [] q = nowhere c rest q
  here s (b ∷ p) q =
      first_down n s b p a.turns (all_as P (λ k. n + 1 ≤ k.depth) deep a.turns a.each)
      ∙ ap (option_map (into b)) (a.fit s p (tail_is b p c rest q))

-- the three parts of what follows a place
from_at : (s : Segment) (il : Bool) (ns : List Node) (n : ℕ) (a : Pair) (q : Place) (d : Node) → n < length ns
    → fit_from s il (nodes_view ns) n a q ≡ or_else (option_map (into a) (fit_in s (view (get_or ns n d)) q))
    (or_else (fit_again s il a (view (get_or ns n d))) (fit_starts s (a.child + 1) (nodes_view (drop (suc n) ns))))
from_at s il [] n a q d h = absurd (omega (arith, h))
from_at s il (x ∷ ns) zero a q d h = refl
from_at s il (x ∷ ns) (suc n) a q d h = from_at s il ns n a q d (omega (arith, h))

abbrev parts : Bool → (c : ℕ) → Tree → Trees → Segment → Place → Option Candidate
parts il c t ts s p = or_else (inside t s p) (or_else (once_more il c t s p) (fit_starts s (c + 1) ts))

parts_here : (s : Segment) (il : Bool) (ns : List Node) (a : Pair) (p : Place) (node : Node) → a.child < length ns
    → node ≡ get_or ns a.child node
    → parts il a.child (view node) (nodes_view (drop (a.child + 1) ns)) s (a ∷ p) ≡ fit_next s il (nodes_view ns) (a ∷ p)
parts_here s il ns a p node h at =
    let k : a.child + 1 ≡ suc a.child = omega arith in
    ap (λ (i : ℕ). or_else (inside (view node) s (a ∷ p)) (or_else (once_more il a.child (view node) s (a ∷ p))
    (fit_starts s (a.child + 1) (nodes_view (drop i ns))))) k
    ∙ ap (λ (x : Node). or_else (option_map (into a) (fit_in s (view x) p)) (or_else (fit_again s il a (view x))
    (fit_starts s (a.child + 1) (nodes_view (drop (suc a.child) ns))))) at
    ∙ sym (from_at s il ns a.child a p node h)

pub parts_are : (il : Bool) (ns : List Node) (c : ℕ) (rest : List ℕ) (node : Node) → c < length ns → node ≡ get_or ns c node
    → (s : Segment) (p : Place) → StandsAt (c ∷ rest) p
    → parts il c (view node) (nodes_view (drop (c + 1) ns)) s p ≡ fit_next s il (nodes_view ns) p
parts_are il ns c rest node h at s [] q = nowhere c rest q
parts_are il ns c rest node h at s (a ∷ p) q =
    let e : a.child ≡ c = head_is a p c rest q in
    subst (λ (i : ℕ). parts il i (view node) (nodes_view (drop (i + 1) ns)) s (a ∷ p) ≡ fit_next s il (nodes_view ns) (a ∷ p)) e
    (parts_here s il ns a p node (subst (λ (i : ℕ). i < length ns) (sym e) h)
    (subst (λ (i : ℕ). node ≡ get_or ns i node) (sym e) at))

pub next_past : (il : Bool) (ns : List Node) (c : ℕ) (rest : List ℕ) → length ns ≤ c → (s : Segment) (p : Place)
    → StandsAt (c ∷ rest) p → fit_next s il (nodes_view ns) p ≡ None
next_past il ns c rest h s [] q = refl
next_past il ns c rest h s (a ∷ p) q =
    let e = head_is a p c rest q in gone ns a.child (omega (arith, e, h)) where
      gone : (ms : List Node) (n : ℕ) → length ms ≤ n → fit_from s il (nodes_view ms) n a p ≡ None
      gone [] n l = refl
      gone (x ∷ ms) zero l = absurd (omega (arith, l))
      gone (x ∷ ms) (suc n) l = gone ms n (omega (arith, l))

pub next_nowhere : (s : Segment) (il : Bool) (ts : Trees) (p : Place) → StandsAt [] p → fit_next s il ts p ≡ None
next_nowhere s il ts [] q = refl
next_nowhere s il ts (a ∷ p) q = let k : a.child ∷ children_of p ≡ [] = q in cc

-- where nothing is reported on the way to a turn
three : (xs ys zs : List Fault) → xs ≡ [] → ys ≡ [] → zs ≡ [] → xs ++ (ys ++ zs) ≡ []
three xs ys zs e f g = rw (e, f, g) refl

two : (xs ys : List Fault) → xs ≡ [] → ys ≡ [] → xs ++ ys ≡ []
two xs ys e f = rw (e, f) refl

-- the turns inside the child
pub known_below : (n c : ℕ) (rest : List ℕ) (ns : List Node) (node : Node) → c < length ns → node ≡ get_or ns c node → (k : KnownTurn)
    → IsKnown (n + 1) rest (InSilent (view node)) k → IsKnown n (c ∷ rest) (AmongSilent (nodes_view ns)) k
known_below n c rest ns node h at k w =
    let b = w.below in let i = w.within in record {
      below = omega (arith, b);
      within = omega (arith, i);
      further = λ g. let f = w.further g in omega (arith, f);
      numbered = w.numbered;
      quiet = quiet;
    } where
      quiet : (p : Place) → children_of p ≡ c ∷ rest → next_use n p k < k.quiet → AmongSilent (nodes_view ns) p (place_by n p k)
      quiet [] q l = nowhere c rest q
      quiet (a ∷ p) q l =
          let e : a.child ≡ c = head_is a p c rest q in
          let inner : InSilent (view node) p (place_by (n + 1) p k) =
          w.quiet p (tail_is a p c rest q) (subst (λ (v : ℕ). v < k.quiet) (use_down n a p k w.below) l) in
          λ at_ o. ap (λ (r : Place). stepped_among at_ o (nodes_view ns) (a ∷ p) r) (place_down n a p k w.below)
          ∙ stepped_same at_ o ns a.child a.child a.use_no a.use_no p (place_by (n + 1) p k) node
          (subst (λ (i : ℕ). i < length ns) (sym e) h) refl
          ∙ cond-true _ _ _ (eq-eqb a.use_no a.use_no refl)
          ∙ ap (λ (x : Node). stepped_in at_ (view x) p (place_by (n + 1) p k))
          (sym (subst (λ (i : ℕ). node ≡ get_or ns i node) (sym e) at))
          ∙ inner at_

abbrev pub IsEnded : Tree → List ℕ → Type 0
IsEnded t rest = (p : Place) → children_of p ≡ rest → (at : ℕ) → ended_in at t p ≡ []

-- where a turn goes at the depth itself
place_here : (n c v : ℕ) (a : Pair) (p : Place) (k : KnownTurn) → k.depth ≡ n → k.child ≡ c → next_use n (a ∷ p) k ≡ v
    → place_by n (a ∷ p) k ≡ use_of c v ∷ below_start k.into_loop
place_here n c v a p k d e u =
    let z : k.depth - n ≡ 0 = omega (arith, d) in
    ap (λ (i : ℕ). take i (a ∷ p) ++ (use_of k.child (next_use n (a ∷ p) k) ∷ below_start k.into_loop)) z
    ∙ ap (λ (i : ℕ). use_of i (next_use n (a ∷ p) k) ∷ below_start k.into_loop) e
    ∙ ap (λ (i : ℕ). use_of c i ∷ below_start k.into_loop) u

use_again : (n : ℕ) (a : Pair) (p : Place) (k : KnownTurn) → k.depth ≡ n → k.again ≡ true → next_use n (a ∷ p) k ≡ a.use_no + 1
use_again n a p k d g =
    let z : k.depth - n ≡ 0 = omega (arith, d) in
    cond-true k.again (use_at (a ∷ p) (k.depth - n) + 1) 0 g ∙ ap (λ (i : ℕ). use_at (a ∷ p) i + 1) z

pub use_first : (n : ℕ) (p : Place) (k : KnownTurn) → k.again ≡ false → next_use n p k ≡ 0
use_first n p k g = cond-false k.again (use_at p (k.depth - n) + 1) 0 g

-- the turn to the child again
pub known_again : (n c : ℕ) (rest : List ℕ) (ns : List Node) (node : Node) (silent : Bool) → c < length ns → node ≡ get_or ns c node
    → OnTrue silent (IsEnded (view node) rest) → (k : KnownTurn) → IsTurnTo n c true silent (view node) k
    → IsKnown n (c ∷ rest) (AmongSilent (nodes_view ns)) k
known_again n c rest ns node silent h at ended k w =
    let d = w.depth in record {
      below = omega (arith, d);
      within = omega (arith, d);
      further = λ g. omega (arith, d);
      numbered = w.numbered;
      quiet = quiet;
    } where
      quiet : (p : Place) → children_of p ≡ c ∷ rest → next_use n p k < k.quiet → AmongSilent (nodes_view ns) p (place_by n p k)
      quiet [] q l = nowhere c rest q
      quiet (a ∷ p) q l =
          let e : a.child ≡ c = head_is a p c rest q in
          let u : next_use n (a ∷ p) k ≡ a.use_no + 1 = use_again n a p k w.depth w.again in
          let none = w.quiet (a.use_no + 1) (subst (λ (v : ℕ). v < k.quiet) u l) in
          let there : node ≡ get_or ns a.child node = subst (λ (i : ℕ). node ≡ get_or ns i node) (sym e) at in
          let low : Place = below_start k.into_loop in
          λ at_ o. ap (λ (r : Place). stepped_among at_ o (nodes_view ns) (a ∷ p) r) (place_here n c (a.use_no + 1) a p k w.depth w.child u)
          ∙ stepped_same at_ o ns a.child c a.use_no (a.use_no + 1) p low node (subst (λ (i : ℕ). i < length ns) (sym e) h) (sym e)
          ∙ cond-false _ _ _ (ne_eqb a.use_no (a.use_no + 1) (λ z. absurd (omega (arith, z))))
          ∙ ap (λ (x : Node). ended_in at_ (view x) p ++ past at_ o (a.use_no + 1) (view x)) (sym there)
          ∙ two _ _ (OnTrue_at none.0 ended p (tail_is a p c rest q) at_) (none.1 at_ o)

abbrev pub IsEnough : Bool → Tree → Type 0
IsEnough silent t = IsTrue silent × ((u at : ℕ) (o : List ℕ) → too_few at o (u + 1) t ≡ [])

-- a turn to a later child
pub known_later : (n c : ℕ) (rest : List ℕ) (ns : List Node) (node : Node) (silent enough : Bool) → c < length ns
    → node ≡ get_or ns c node → OnTrue silent (IsEnded (view node) rest) → OnTrue enough (IsEnough silent (view node))
    → (k : KnownTurn) → IsStart n (c + 1) enough ns k → IsKnown n (c ∷ rest) (AmongSilent (nodes_view ns)) k
known_later n c rest ns node silent enough h at ended few k w =
    let d = w.depth in record {
      below = omega (arith, d);
      within = omega (arith, d);
      further = λ g. absurd (true≢false (sym g ∙ w.again));
      numbered = w.numbered;
      quiet = quiet;
    } where
      quiet : (p : Place) → children_of p ≡ c ∷ rest → next_use n p k < k.quiet → AmongSilent (nodes_view ns) p (place_by n p k)
      quiet [] q l = nowhere c rest q
      quiet (a ∷ p) q l =
          let e : a.child ≡ c = head_is a p c rest q in
          let u : next_use n (a ∷ p) k ≡ 0 = use_first n (a ∷ p) k w.again in
          let none = w.quiet (subst (λ (v : ℕ). v < k.quiet) u l) in
          let more = OnTrue_at none.0 few in
          let there : node ≡ get_or ns a.child node = subst (λ (i : ℕ). node ≡ get_or ns i node) (sym e) at in
          let f = w.from in
          let m : k.child ≡ suc a.child + (k.child - (c + 1)) = omega (arith, e, f) in
          let i : suc a.child ≡ c + 1 = omega (arith, e) in
          λ at_ o. ap (λ (r : Place). stepped_among at_ o (nodes_view ns) (a ∷ p) r) (place_here n k.child 0 a p k w.depth refl u)
          ∙ stepped_on at_ o ns a.child k.child (k.child - (c + 1)) a.use_no 0 p (below_start k.into_loop) node
          (subst (λ (i : ℕ). i < length ns) (sym e) h) m
          ∙ ap (λ (x : Node). ended_in at_ (view x) p ++ (too_few at_ o (a.use_no + 1) (view x)
          ++ entered at_ o (nodes_view (drop (suc a.child) ns)) (k.child - (c + 1)) 0)) (sym there)
          ∙ three _ _ _ (OnTrue_at more.0 ended p (tail_is a p c rest q) at_) (more.1 a.use_no at_ o)
          (ap (λ (i : ℕ). entered at_ o (nodes_view (drop i ns)) (k.child - (c + 1)) 0) i ∙ none.1 at_ o)

-- where nothing is reported at the end of the nodes
pub ended_after : (c : ℕ) (rest : List ℕ) (ns : List Node) (node : Node) (silent enough more : Bool) → c < length ns
    → node ≡ get_or ns c node → OnTrue silent (IsEnded (view node) rest) → OnTrue enough (IsEnough silent (view node))
    → OnTrue more (IsTrue enough × ((at : ℕ) (o : List ℕ) → unused at o (nodes_view (drop (c + 1) ns)) ≡ []))
    → OnTrue more ((p : Place) → children_of p ≡ c ∷ rest → (at : ℕ) (o : List ℕ) → ended_among at o (nodes_view ns) p ≡ [])
ended_after c rest ns node silent enough false h at ended few left = tt
ended_after c rest ns node silent enough true h at ended few left = gone where
  gone : (p : Place) → children_of p ≡ c ∷ rest → (at : ℕ) (o : List ℕ) → ended_among at o (nodes_view ns) p ≡ []
  gone [] q = nowhere c rest q
  gone (a ∷ p) q =
      let e : a.child ≡ c = head_is a p c rest q in
      let some = OnTrue_at left.0 few in
      let there : node ≡ get_or ns a.child node = subst (λ (i : ℕ). node ≡ get_or ns i node) (sym e) at in
      let i : suc a.child ≡ c + 1 = omega (arith, e) in
      λ at_ o. ended_at at_ o ns a.child a.use_no p node (subst (λ (i : ℕ). i < length ns) (sym e) h)
      ∙ ap (λ (x : Node). ended_in at_ (view x) p ++ (too_few at_ o (a.use_no + 1) (view x)
      ++ unused at_ o (nodes_view (drop (suc a.child) ns)))) (sym there)
      ∙ three _ _ _ (OnTrue_at some.0 ended p (tail_is a p c rest q) at_) (some.1 a.use_no at_ o)
      (ap (λ (i : ℕ). unused at_ o (nodes_view (drop i ns))) i ∙ left.1 at_ o)

pub ended_outside : (c : ℕ) (rest : List ℕ) (ns : List Node) → length ns ≤ c → (p : Place) → children_of p ≡ c ∷ rest → (at : ℕ)
    (o : List ℕ) → ended_among at o (nodes_view ns) p ≡ []
ended_outside c rest ns h [] q at o = nowhere c rest q
ended_outside c rest ns h (a ∷ p) q at o =
    let e = head_is a p c rest q in ended_past at o ns a.child a.use_no p (omega (arith, e, h))

pub ended_nowhere : (ts : Trees) (p : Place) → children_of p ≡ [] → (at : ℕ) (o : List ℕ) → ended_among at o ts p ≡ []
ended_nowhere ts [] q at o = refl
ended_nowhere ts (a ∷ p) q at o = let k : a.child ∷ children_of p ≡ [] = q in cc

-- a place among the nodes: the turns inside the child, to it again, and to those after it
pub among_adds : (n c : ℕ) (rest : List ℕ) (il : Bool) (ns : List Node) (node : Node) (silent enough : Bool)
    (old one two new : List KnownTurn) → c < length ns → node ≡ get_or ns c node
    → OnTrue silent (IsEnded (view node) rest) → OnTrue enough (IsEnough silent (view node))
    → Adds (n + 1) (IsKnown (n + 1) rest (InSilent (view node))) (StandsAt rest) (λ s p. fit_in s (view node) p) old one
    → Adds n (IsTurnTo n c true silent (view node)) Any (once_more il c (view node)) one two
    → Adds n (IsStart n (c + 1) enough ns) Any (λ s p. fit_starts s (c + 1) (nodes_view (drop (c + 1) ns))) two new
    → Adds n (IsKnown n (c ∷ rest) (AmongSilent (nodes_view ns))) (StandsAt (c ∷ rest)) (λ s p. fit_next s il (nodes_view ns) p) old new
among_adds n c rest il ns node silent enough old one two new h at ended few first second third =
    let K = IsKnown n (c ∷ rest) (AmongSilent (nodes_view ns)) in
    let Q = StandsAt (c ∷ rest) in
    let A = inside (view node) in
    let B = once_more il c (view node) in
    let C : Fit = λ s p. fit_starts s (c + 1) (nodes_view (drop (c + 1) ns)) in
    let a : Adds n K Q A old one =
    below_adds n c rest (view node) (IsKnown (n + 1) rest (InSilent (view node))) K old one first (λ k w. w.below)
    (known_below n c rest ns node h at) in
    let b : Adds n K Q B one two =
    adds_as n (IsTurnTo n c true silent (view node)) K Any Q B B one two second (known_again n c rest ns node silent h at ended)
    (λ p q. tt) (λ s p q. refl) in
    let d : Adds n K Q C two new =
    adds_as n (IsStart n (c + 1) enough ns) K Any Q C C two new third (known_later n c rest ns node silent enough h at ended few)
    (λ p q. tt) (λ s p q. refl) in
    adds_as n K K Q Q (λ s p. or_else (A s p) (or_else (B s p) (C s p))) (λ s p. fit_next s il (nodes_view ns) p) old new
    (adds_both n K Q A (λ s p. or_else (B s p) (C s p)) old one new a (adds_both n K Q B C one two new b d)) (λ k w. w) (λ p q. q)
    (parts_are il ns c rest node h at)

-- inside a node
in_loop_adds : (n : ℕ) (path : List ℕ) (t : Tree) (ts : Trees) (old new : List KnownTurn)
    → ((s : Segment) (p : Place) → fit_next s true ts p ≡ fit_in s t p) → ((at : ℕ) → (o : List ℕ) × ((p q : Place)
    → stepped_among at o ts p q ≡ stepped_in at t p q))
    → Adds n (IsKnown n path (AmongSilent ts)) (StandsAt path) (λ s p. fit_next s true ts p) old new
    → Adds n (IsKnown n path (InSilent t)) (StandsAt path) (λ s p. fit_in s t p) old new
in_loop_adds n path t ts old new fit step a =
    adds_as n (IsKnown n path (AmongSilent ts)) (IsKnown n path (InSilent t)) (StandsAt path) (StandsAt path)
    (λ s p. fit_next s true ts p) (λ s p. fit_in s t p) old new a
    (λ k w. record {
      below = w.below;
      within = w.within;
      further = w.further;
      numbered = w.numbered;
      quiet = λ p q l at. sym ((step at).1 p (place_by n p k)) ∙ w.quiet p q l at (step at).0;
    })
    (λ p q. q) (λ s p q. fit s p)

inside_loop : (s : Segment) (l : Loop) (ts : Trees) (p : Place) → fit_next s true ts p ≡ fit_in s (loop l ts) p
inside_loop s l ts [] = refl
inside_loop s l ts (a ∷ p) = refl

step_in_loop : (at : ℕ) (l : Loop) (ts : Trees) (p q : Place) → stepped_among at l.id ts p q ≡ stepped_in at (loop l ts) p q
step_in_loop at l ts [] q = refl
step_in_loop at l ts (a ∷ p) [] = refl
step_in_loop at l ts (a ∷ p) (b ∷ q) = refl

end_in_loop : (at : ℕ) (l : Loop) (ts : Trees) (p : Place) → ended_among at l.id ts p ≡ ended_in at (loop l ts) p
end_in_loop at l ts [] = refl
end_in_loop at l ts (a ∷ p) = refl

pub loop_adds : (n : ℕ) (path : List ℕ) (t : Tree) (l : Loop) (ts : Trees) (old new : List KnownTurn) → t ≡ loop l ts
    → Adds n (IsKnown n path (AmongSilent ts)) (StandsAt path) (λ s p. fit_next s true ts p) old new
    → Adds n (IsKnown n path (InSilent t)) (StandsAt path) (λ s p. fit_in s t p) old new
loop_adds n path t l ts old new e a =
    subst (λ (u : Tree). Adds n (IsKnown n path (InSilent u)) (StandsAt path) (λ s p. fit_in s u p) old new) (sym e)
    (in_loop_adds n path (loop l ts) ts old new (λ s p. inside_loop s l ts p) (λ at. (l.id, λ p q. step_in_loop at l ts p q)) a)

pub loop_ends : (more : Bool) (path : List ℕ) (t : Tree) (l : Loop) (ts : Trees) → t ≡ loop l ts
    → OnTrue more ((p : Place) → children_of p ≡ path → (at : ℕ) (o : List ℕ) → ended_among at o ts p ≡ [])
    → OnTrue more (IsEnded t path)
loop_ends true path t l ts e h = λ p q at.
    ap (λ (u : Tree). ended_in at u p) e ∙ sym (end_in_loop at l ts p) ∙ h p q at l.id
loop_ends false path t l ts e h = tt

pub segment_adds : (n : ℕ) (path : List ℕ) (t : Tree) (x : Slot) (xs : List KnownTurn) → t ≡ segment x
    → Adds n (IsKnown n path (InSilent t)) (StandsAt path) (λ s p. fit_in s t p) xs xs
segment_adds n path t x xs e =
    adds_none n (IsKnown n path (InSilent t)) (StandsAt path) (λ s p. fit_in s t p) xs (λ s p q. ap (λ (u : Tree). fit_in s u p) e)

pub segment_ends : (path : List ℕ) (t : Tree) (x : Slot) → t ≡ segment x → IsEnded t path
segment_ends path t x e = λ p q at. ap (λ (u : Tree). ended_in at u p) e
