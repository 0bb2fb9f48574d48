-- Turns to the starts of nodes, one after another.
use Rattle.std.proofs.Common.{◌≡◌, ℕ, suc, ◌+◌, ◌-◌, ◌==◌, ◌<◌, ◌≤◌, List, [], ◌∷◌, ◌++◌, Bool, true, false}
use Rattle.std.proofs.Common.{◌&&◌, if◌then◌else◌, IsTrue}
use Rattle.std.proofs.Common.{length, get_or, drop, take, refl, sym, ap, ◌∙◌, arith, Option, Some, None, option_map}
use Rattle.std.specs.Bool.{OnTrue}
use Rattle.std.specs.List.{AllByRecursion}
use Rattle.std.proofs.lemmas.Bool.{OnTrue_at, OnTrue_from}
use Rattle.std.proofs.lemmas.List.{append_assoc, append-nil, at_drop_all}
use Rattle.hub_kinds.specs.declared.fault.Fault.{Fault}
use Rattle.guide_tree.specs.declared.node.Node.{Node}
use Rattle.guide_tree.specs.Words.{Tree, Trees, tree, Segment, Place, Pair, Candidate, use_of, fits, view, nodes_view, into, or_else}
use Rattle.guide_tree.specs.Words.{fit_start, fit_starts, missing, unused, entered, past}
use Rattle.guide_tree.proofs.ForAbove.{nodes_view-drop}
use Rattle.loop_match.specs.declared.next.Start.{Start}
use Rattle.loop_match.specs.Steps.{below_start}
use Rattle.guide_fast.specs.IdNumber.{id_number}
use Rattle.guide_fast.specs.declared.known.KnownTurn.{KnownTurn}
use Rattle.guide_fast.specs.Ahead.{use_at, led, first_led, fit_begin, IsTurnTo, IsStart, Adds, Any, first_or_again, once_more}
use Rattle.guide_fast.proofs.KnownTurns.{first_append, all_append, all_as, adds_none}

-- one turn
mapped_if : (f : Bool) (a : Pair) (c d : Candidate) → c ≡ into a d
    → (if f then Some c else None) ≡ option_map (into a) (if f then Some d else None)
mapped_if true a c d e = ap Some e
mapped_if false a c d e = refl

pub one_turn : (n child : ℕ) (again silent : Bool) (t : Tree) (b : Start) (number quiet : ℕ) (old : List KnownTurn)
    → ((s : Segment) → fit_begin s (Some b) ≡ fit_start s t) → number ≡ id_number b.slot.now.id
    → ((v : ℕ) → v < quiet → IsTrue silent × ((at : ℕ) (o : List ℕ) → past at o v t ≡ []))
    → Adds n (IsTurnTo n child again silent t) Any (first_or_again child again t) old (old ++ (record {
      number = number;
      into_loop = b.into_loop;
      again = again;
      depth = n;
      child = child;
      quiet = quiet;
      slot = b.slot;
    }) ∷ [])
one_turn n child again silent t b number quiet old starts e none = record {
  turns = k ∷ [];
  are = refl;
  each = (record { depth = refl; child = refl; again = refl; numbered = e; quiet = none }, tt);
  fit = λ s p q. mapped_if (fits b.slot.now s) (a p) (led n p k) low (here p) ∙ ap (option_map (into (a p))) (starts s);
} where
  k : KnownTurn
  k = record { number = number; into_loop = b.into_loop; again = again; depth = n; child = child; quiet = quiet; slot = b.slot }

  a : Place → Pair
  a p = use_of child (if again then use_at p 0 + 1 else 0)

  low : Candidate
  low = record { place = below_start b.into_loop; slot = b.slot.now }

  here : (p : Place) → led n p k ≡ into (a p) low
  here p =
      let z : n - n ≡ 0 = omega arith in
      ap (λ (d : ℕ). record {
        place = take d p ++ (use_of child (if again then use_at p d + 1 else 0) ∷ below_start b.into_loop);
        slot = b.slot.now;
      }) z

pub no_turn : (n child : ℕ) (again silent : Bool) (t : Tree) (o : Option Start) (old : List KnownTurn) → o ≡ None
    → ((s : Segment) → fit_begin s o ≡ fit_start s t) → Adds n (IsTurnTo n child again silent t) Any (first_or_again child again t) old old
no_turn n child again silent t o old e starts =
    adds_none n (IsTurnTo n child again silent t) Any (first_or_again child again t) old
    (λ s p q. ap (option_map (into (use_of child (if again then use_at p 0 + 1 else 0)))) (sym (starts s) ∙ ap (fit_begin s) e))

pub never_again : (n child : ℕ) (il silent : Bool) (t : Tree) (old : List KnownTurn) → (il && (child == 0)) ≡ true
    → Adds n (IsTurnTo n child true silent t) Any (once_more il child t) old old
never_again n child il silent t old e =
    adds_none n (IsTurnTo n child true silent t) Any (once_more il child t) old (λ s p q. rw e refl)

pub may_again : (n child : ℕ) (il silent : Bool) (t : Tree) (old new : List KnownTurn) → (il && (child == 0)) ≡ false
    → Adds n (IsTurnTo n child true silent t) Any (first_or_again child true t) old new
    → Adds n (IsTurnTo n child true silent t) Any (once_more il child t) old new
may_again n child il silent t old new e a = record {
  turns = a.turns;
  are = a.are;
  each = a.each;
  fit = λ s p q. a.fit s p q ∙ rw e refl;
}

-- the turns up to a child
abbrev IsPassed : Bool → ℕ → ℕ → List Node → Type 0
IsPassed silent from k ns =
    IsTrue silent
    × (((at : ℕ) (o : List ℕ) (m v : ℕ) → entered at o (nodes_view (drop from ns)) ((k - from) + m) v
    ≡ entered at o (nodes_view (drop k ns)) m v)
    × ((at : ℕ) (o : List ℕ) → unused at o (nodes_view (drop from ns)) ≡ unused at o (nodes_view (drop k ns))))

pub record IsStarted (n from k : ℕ) (silent now : Bool) (ns : List Node) (old new : List KnownTurn) : Type 0 where
  pub turns : List KnownTurn
  pub are : new ≡ old ++ turns
  pub each : AllByRecursion (IsStart n from silent ns) turns
  pub fit : (s : Segment) (p : Place) → or_else (first_led n s p turns) (fit_starts s k (nodes_view (drop k ns)))
      ≡ fit_starts s from (nodes_view (drop from ns))
  pub passed : OnTrue now (IsPassed silent from k ns)

pub starts_init : (n from : ℕ) (silent : Bool) (ns : List Node) (old : List KnownTurn) → IsStarted n from from silent silent ns old old
starts_init n from silent ns old = record {
  turns = [];
  are = sym (append-nil old);
  each = tt;
  fit = λ s p. refl;
  passed = OnTrue_from silent (IsPassed silent from from ns) (λ e. (
    e,
    (
      λ at o m v.
          let z : (from - from) + m ≡ m = omega arith in ap (λ (i : ℕ). entered at o (nodes_view (drop from ns)) i v) z,
      λ at o. refl,
    ),
  ));
}

else_assoc : (x y z : Option Candidate) → or_else (or_else x y) z ≡ or_else x (or_else y z)
else_assoc None y z = refl
else_assoc (Some c) y z = refl

else_none : (x : Option Candidate) → or_else x None ≡ x
else_none None = refl
else_none (Some c) = refl

pub starts_more : (n from k : ℕ) (silent now next : Bool) (ns : List Node) (node : Node) (old mid new : List KnownTurn) → from ≤ k
    → k < length ns → node ≡ get_or ns k node → IsStarted n from k silent now ns old mid
    → Adds n (IsTurnTo n k false now (view node)) Any (first_or_again k false (view node)) mid new
    → OnTrue next (IsTrue now × ((at : ℕ) (o : List ℕ) → missing at o (view node) ≡ []))
    → IsStarted n from (k + 1) silent next ns old new
starts_more n from k silent now next ns node old mid new le lt at up one pass = record {
  turns = up.turns ++ one.turns;
  are = one.are ∙ ap (λ (l : List KnownTurn). l ++ one.turns) up.are ∙ append_assoc old up.turns one.turns;
  each = all_append (IsStart n from silent ns) up.turns one.turns up.each
      (all_as (IsTurnTo n k false now (view node)) (IsStart n from silent ns) begins one.turns one.each);
  fit = λ s p.
      ap (λ (o : Option Candidate). or_else o (fit_starts s (k + 1) behind)) (first_append n s p up.turns one.turns)
      ∙ else_assoc (first_led n s p up.turns) (first_led n s p one.turns) (fit_starts s (k + 1) behind)
      ∙ ap (λ (o : Option Candidate). or_else (first_led n s p up.turns) (or_else o (fit_starts s (k + 1) behind))) (one.fit s p tt)
      ∙ ap (λ (ts : Trees). or_else (first_led n s p up.turns) (fit_starts s k ts)) (sym here)
      ∙ up.fit s p;
  passed = OnTrue_from next (IsPassed silent from (k + 1) ns) (λ e.
      let m = OnTrue_at e pass in let h = OnTrue_at m.0 up.passed in (
        h.0,
        (
          λ at_ o i v.
              let z : ((k + 1) - from) + i ≡ (k - from) + suc i = omega (arith, le) in
              ap (λ (j : ℕ). entered at_ o (nodes_view (drop from ns)) j v) z ∙ h.1.0 at_ o (suc i) v
              ∙ ap (λ (ts : Trees). entered at_ o ts (suc i) v) here ∙ ap (λ (l : List Fault). l ++ entered at_ o behind i v) (m.1 at_ o),
          λ at_ o. h.1.1 at_ o ∙ ap (λ (ts : Trees). unused at_ o ts) here ∙ ap (λ (l : List Fault). l ++ unused at_ o behind) (m.1 at_ o),
        ),
      ));
} where
  behind : Trees
  behind = nodes_view (drop (k + 1) ns)

  here : nodes_view (drop k ns) ≡ tree (view node) behind
  here = nodes_view-drop ns k node lt ∙ ap (λ (x : Node). tree (view x) behind) (sym at)

  begins : (t : KnownTurn) → IsTurnTo n k false now (view node) t → IsStart n from silent ns t
  begins t w =
      let c = w.child in record {
        depth = w.depth;
        from = omega (arith, c, le);
        again = w.again;
        numbered = w.numbered;
        quiet = λ l. let none = w.quiet 0 l in let h = OnTrue_at none.0 up.passed in (
          h.0,
          λ at_ o.
              let z : t.child - from ≡ (k - from) + 0 = omega (arith, c, le) in
              ap (λ (j : ℕ). entered at_ o (nodes_view (drop from ns)) j 0) z ∙ h.1.0 at_ o 0 0
              ∙ ap (λ (ts : Trees). entered at_ o ts 0 0) here ∙ none.1 at_ o,
        );
      }

pub starts_end : (n from k : ℕ) (silent now : Bool) (ns : List Node) (old new : List KnownTurn) → length ns ≤ k
    → IsStarted n from k silent now ns old new
    → Adds n (IsStart n from silent ns) Any (λ s p. fit_starts s from (nodes_view (drop from ns))) old new
starts_end n from k silent now ns old new le up = record {
  turns = up.turns;
  are = up.are;
  each = up.each;
  fit = λ s p q.
      sym (else_none (first_led n s p up.turns))
      ∙ ap (or_else (first_led n s p up.turns)) (sym (at_drop_all (λ (l : List Node). fit_starts s k (nodes_view l)) ns k le))
      ∙ up.fit s p;
}

pub starts_left : (n from k : ℕ) (silent now : Bool) (ns : List Node) (old new : List KnownTurn) → length ns ≤ k
    → IsStarted n from k silent now ns old new
    → OnTrue now (IsTrue silent × ((at : ℕ) (o : List ℕ) → unused at o (nodes_view (drop from ns)) ≡ []))
starts_left n from k silent now ns old new le up =
    OnTrue_from now _ (λ e. let h = OnTrue_at e up.passed in (
      h.0,
      λ at o.
          h.1.1 at o ∙ at_drop_all (λ (l : List Node). unused at o (nodes_view l)) ns k le,
    ))
