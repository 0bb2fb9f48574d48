-- All turns from the places that lead by some children.
use Rattle.std.proofs.Common.{◌≡◌, ℕ, zero, suc, ◌+◌, ◌-◌, ◌==◌, ◌<◌, List, [], ◌∷◌, ◌++◌, Bool, true, false, if◌then◌else◌}
use Rattle.std.proofs.Common.{length, get_or, take, drop, refl, sym, ap, subst, ◌∙◌, arith, Option, Some, None, true≢false}
use Rattle.std.specs.Prelude.{slice_index_or}
use Rattle.std.specs.Bool.{OnTrue}
use Rattle.std.specs.List.{AllByRecursion}
use Rattle.std.proofs.lemmas.Bool.{cond-true, eqb-true}
use Rattle.std.proofs.lemmas.List.{drop_more}
use Rattle.guide_tree.specs.declared.node.Node.{Node}
use Rattle.guide_tree.specs.declared.node.Loop.{Loop}
use Rattle.guide_tree.specs.Words.{Trees, Segment, Place, use_of, fits, nodes_view, fit_starts, fit_next, fit_behind}
use Rattle.guide_tree.specs.Words.{step_faults, entered, loop, view, count_in, node_count}
use Rattle.loop_match.specs.declared.next.Step.{Step}
use Rattle.loop_match.specs.Leaving.{stepped_among}
use Rattle.loop_match.specs.Steps.{place_view, last_of, below_start}
use Rattle.guide_fast.specs.declared.known.KnownTurn.{KnownTurn}
use Rattle.guide_fast.specs.declared.station.Station.{Station}
use Rattle.guide_fast.specs.Ahead.{children_of, use_at, next_use, place_by, led, first_led, IsStart, IsKnown, Adds, Any, StandsAt}
use Rattle.guide_fast.specs.Ahead.{AmongSilent, BehindSilent, IsStation, IsStationIfAny, AreStations}
use Rattle.guide_fast.proofs.KnownTurns.{adds_as, use_first}

-- the beginning
none_there : (p : Place) → children_of p ≡ [] → p ≡ []
none_there [] e = refl
none_there (a ∷ p) e = let k : a.child ∷ children_of p ≡ [] = e in cc

begins : (ns : List Node) (k : KnownTurn) → IsStart 0 0 true ns k → IsKnown 0 [] (BehindSilent (nodes_view ns)) k
begins ns k w =
    let d = w.depth in record {
      below = omega arith;
      within = omega (arith, d);
      further = λ g. absurd (true≢false (sym g ∙ w.again));
      numbered = w.numbered;
      quiet = λ p q l. subst (λ (x : Place). next_use 0 x k < k.quiet → BehindSilent (nodes_view ns) x (place_by 0 x k))
          (sym (none_there p q)) first l;
    } where
      first : next_use 0 [] k < k.quiet → BehindSilent (nodes_view ns) [] (place_by 0 [] k)
      first l at =
          let u : next_use 0 [] k ≡ 0 = use_first 0 [] k w.again in
          let none = w.quiet (subst (λ (v : ℕ). v < k.quiet) u l) in
          let d = w.depth in
          let z : k.depth - 0 ≡ 0 = omega (arith, d) in
          let c : k.child ≡ k.child - 0 = omega arith in
          ap (λ (i : ℕ). step_faults at (nodes_view ns) None (take i [] ++ (use_of k.child (next_use 0 [] k) ∷ below_start k.into_loop))) z
          ∙ ap (λ (v : ℕ). entered at [] (nodes_view ns) k.child v) u ∙ ap (λ (m : ℕ). entered at [] (nodes_view ns) m 0) c ∙ none.1 at []

pub adds_first : (path : List ℕ) (ns : List Node) (old new : List KnownTurn) → path ≡ []
    → Adds 0 (IsStart 0 0 true ns) Any (λ s p. fit_starts s 0 (nodes_view (drop 0 ns))) old new
    → Adds 0 (IsKnown 0 path (BehindSilent (nodes_view ns))) (StandsAt path) (λ s p. fit_behind s (nodes_view ns) p) old new
adds_first path ns old new e a =
    subst (λ (l : List ℕ). Adds 0 (IsKnown 0 l (BehindSilent (nodes_view ns))) (StandsAt l) (λ s p. fit_behind s (nodes_view ns) p) old new)
    (sym e)
    (adds_as 0 (IsStart 0 0 true ns) (IsKnown 0 [] (BehindSilent (nodes_view ns))) Any (StandsAt [])
    (λ s p. fit_starts s 0 (nodes_view (drop 0 ns))) (λ s p. fit_behind s (nodes_view ns) p) old new a (begins ns) (λ p q. tt)
    (λ s p q. ap (fit_behind s (nodes_view ns)) (sym (none_there p q))))

-- after a place
among_behind : (at : ℕ) (ts : Trees) (path : List ℕ) (p q : Place) → (path ≡ [] → ⊥) → children_of p ≡ path
    → step_faults at ts (last_of p) q ≡ stepped_among at [] ts p q
among_behind at ts path [] q some e = absurd (some (sym e))
among_behind at ts path (a ∷ p) [] some e = refl
among_behind at ts path (a ∷ p) (b ∷ q) some e = refl

next_behind : (s : Segment) (ts : Trees) (path : List ℕ) (p : Place) → (path ≡ [] → ⊥) → children_of p ≡ path
    → fit_next s false ts p ≡ fit_behind s ts p
next_behind s ts path [] some e = absurd (some (sym e))
next_behind s ts path (a ∷ p) some e = refl

pub adds_next : (path : List ℕ) (ts : Trees) (old new : List KnownTurn) → (path ≡ [] → ⊥)
    → Adds 0 (IsKnown 0 path (AmongSilent ts)) (StandsAt path) (λ s p. fit_next s false ts p) old new
    → Adds 0 (IsKnown 0 path (BehindSilent ts)) (StandsAt path) (λ s p. fit_behind s ts p) old new
adds_next path ts old new some a =
    adds_as 0 (IsKnown 0 path (AmongSilent ts)) (IsKnown 0 path (BehindSilent ts)) (StandsAt path) (StandsAt path)
    (λ s p. fit_next s false ts p) (λ s p. fit_behind s ts p) old new a
    (λ k w. record {
      below = w.below;
      within = w.within;
      further = w.further;
      numbered = w.numbered;
      quiet = λ p q l at. among_behind at ts path p (place_by 0 p k) some q ∙ w.quiet p q l at [];
    })
    (λ p q. q) (λ s p q. next_behind s ts path p some q)

pub is_station : (ts : Trees) (st : Station) (path : List ℕ) (old new : List KnownTurn) → old ≡ [] → new ≡ st.turns.items
    → st.path.items ≡ path → Adds 0 (IsKnown 0 path (BehindSilent ts)) (StandsAt path) (λ s p. fit_behind s ts p) old new → IsStation ts st
is_station ts st path old new none are same a =
    let all : a.turns ≡ st.turns.items = sym (a.are ∙ ap (λ (l : List KnownTurn). l ++ a.turns) none) ∙ are in
    record {
      each = subst (AllByRecursion (IsKnown 0 st.path.items (BehindSilent ts))) all
          (subst (λ (q : List ℕ). AllByRecursion (IsKnown 0 q (BehindSilent ts)) a.turns) (sym same) a.each);
      fit = λ s p q. ap (first_led 0 s p) (sym all) ∙ a.fit s p (q ∙ same);
    }

-- the turn by a station
pub all_at : {X : Type 0} (P : X → Type 0) (xs : List X) (k : ℕ) (x : X) → AllByRecursion P xs → k < length xs → x ≡ get_or xs k x → P x
all_at P [] k x h l e = absurd (omega (arith, l))
all_at P (y ∷ xs) zero x h l e = subst P (sym e) h.0
all_at P (y ∷ xs) (suc k) x h l e = all_at P xs k x h.1 (omega (arith, l)) e

pub path_length : (path : List ℕ) (last : List Step) → StandsAt path (place_view last) → length path ≡ length last
path_length [] [] e = refl
path_length [] (a ∷ last) e = let k : a.child ∷ children_of (place_view last) ≡ [] = e in cc
path_length (c ∷ path) [] e = let k : [] ≡ c ∷ path = e in cc
path_length (c ∷ path) (a ∷ last) e =
    let t : children_of (place_view last) ≡ path = cc in let n = path_length path last t in omega (arith, n)

pub first_here : (s : Segment) (p : Place) (ts : List KnownTurn) (k : ℕ) (t : KnownTurn) → k < length ts → t ≡ get_or ts k t
    → true ≡ fits t.slot.now s → first_led 0 s p (drop k ts) ≡ Some (led 0 p t)
first_here s p ts k t l e f =
    ap (first_led 0 s p) (drop_more ts k t l) ∙ ap (λ (x : KnownTurn). first_led 0 s p (x ∷ drop (k + 1) ts)) (sym e)
    ∙ ap (λ (b : Bool). if b then Some (led 0 p t) else first_led 0 s p (drop (k + 1) ts)) (sym f)

pub first_later : (s : Segment) (p : Place) (ts : List KnownTurn) (k : ℕ) (t : KnownTurn) → k < length ts → t ≡ get_or ts k t
    → false ≡ fits t.slot.now s → first_led 0 s p (drop k ts) ≡ first_led 0 s p (drop (k + 1) ts)
first_later s p ts k t l e f =
    ap (first_led 0 s p) (drop_more ts k t l) ∙ ap (λ (x : KnownTurn). first_led 0 s p (x ∷ drop (k + 1) ts)) (sym e)
    ∙ ap (λ (b : Bool). if b then Some (led 0 p t) else first_led 0 s p (drop (k + 1) ts)) (sym f)

-- the use of a step of the last place
pub use_there : (last : List Step) (d : ℕ) (x : Step) → d < length last → use_at (place_view last) d ≡ (slice_index_or last d x).use_no
use_there [] d x l = absurd (omega (arith, l))
use_there (b ∷ last) zero x l = refl
use_there (b ∷ last) (suc d) x l = use_there last d x (omega (arith, l))

pub use_next : (p : Place) (k : KnownTurn) → k.again ≡ true → next_use 0 p k ≡ use_at p k.depth + 1
use_next p k g =
    let z : k.depth - 0 ≡ k.depth = omega arith in
    cond-true k.again (use_at p (k.depth - 0) + 1) 0 g ∙ ap (λ (i : ℕ). use_at p i + 1) z

pub empty_is : (xs : List ℕ) → (length xs == 0) ≡ true → xs ≡ []
empty_is [] e = refl
empty_is (x ∷ xs) e = absurd (omega (arith, eqb-true (length (x ∷ xs)) 0 e))

pub some_is : (xs : List ℕ) → (length xs == 0) ≡ false → xs ≡ [] → ⊥
some_is [] e f = true≢false e
some_is (x ∷ xs) e f = let k : x ∷ xs ≡ [] = f in cc

pub more_stations : (ts : Trees) (sts : List (Option Station)) (st : Option Station) → AreStations ts sts → IsStationIfAny ts st
    → AreStations ts (sts ++ st ∷ [])
more_stations ts [] st h k = (k, tt)
more_stations ts (x ∷ sts) st h k = (h.0, more_stations ts sts st h.1 k)

-- the nodes of a loop are fewer than those among which it stands
pub fewer : (ns : List Node) (k : ℕ) (n : Node) (l : Loop) (ts : Trees) → k < length ns → n ≡ get_or ns k n → view n ≡ loop l ts
    → node_count ts < node_count (nodes_view ns)
fewer [] k n l ts lt e v = absurd (omega (arith, lt))
fewer (m ∷ ns) zero n l ts lt e v =
    let c : count_in (view m) ≡ node_count ts + 1 = ap (λ (x : Node). count_in (view x)) (sym e) ∙ ap count_in v in omega (arith, c)
fewer (m ∷ ns) (suc k) n l ts lt e v = let h = fewer ns k n l ts (omega (arith, lt)) e v in omega (arith, h)

pub silent_at : (b : Bool) (ts : Trees) (p : Place) (path : List ℕ) (k : KnownTurn) (q : Place) → IsKnown 0 path (BehindSilent ts) k
    → StandsAt path p → OnTrue b (next_use 0 p k < k.quiet) → q ≡ place_by 0 p k
    → OnTrue b ((at : ℕ) → step_faults at ts (last_of p) q ≡ [])
silent_at true ts p path k q w stands h e = λ at. ap (step_faults at ts (last_of p)) e ∙ w.quiet p stands h at
silent_at false ts p path k q w stands h e = tt
