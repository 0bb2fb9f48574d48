-- One more segment of a walk.
use Rattle.std.proofs.Common.{◌≡◌, ℕ, zero, suc, ◌+◌, ◌<◌, ◌≤◌, List, [], ◌∷◌, ◌++◌, take, drop, length, Option, Some, None}
use Rattle.std.proofs.Common.{option_map, Bool, true, false, refl, sym, ap, subst, ◌∙◌, arith}
use Rattle.std.specs.List.{AllByRecursion}
use Rattle.std.proofs.lemmas.List.{map-append, take-map, append_assoc, take_all, take-append-le, drop-append-le, drop_at}
use Rattle.std.proofs.lemmas.List.{length-drop, length-append}
use denote.Ref.{Bor}
use Rattle.guide_tree.specs.declared.slot.Slot.{Slot}
use Rattle.guide_tree.specs.Words.{Trees, or_else, Segment, Pair, Place, use_of, Candidate, nexts, first_fit, fit_behind}
use Rattle.loop_match.specs.declared.next.Step.{Step}
use Rattle.loop_match.specs.declared.next.Turn.{Turn}
use Rattle.loop_match.specs.declared.walk.Mark.{Mark}
use Rattle.loop_match.specs.Given.{place_in, given_from}
use Rattle.loop_match.specs.Steps.{place_view, step_view, turned, below_start, last_of, mark_view, marks_view, HasGone}
use Rattle.loop_match.proofs.Fitting.{behind_is}

abbrev pub step_of : ℕ → ℕ → Step
step_of c u = record { child = c; use_no = u }

abbrev pub Within : List Step → List Mark → Type 0
Within steps marks = AllByRecursion (λ m. m.start + m.depth ≤ length steps) marks

pub went : (n : ℕ) (last more : List Step) → place_view (take n last ++ more) ≡ take n (place_view last) ++ place_view more
went n last more = map-append step_view (take n last) more ∙ ap (λ (p : Place). p ++ place_view more) (sym (take-map step_view n last))

pub within_more : (steps more : List Step) (marks : List Mark) → Within steps marks → Within (steps ++ more) marks
within_more steps more [] h = tt
within_more steps more (m ∷ marks) h =
    let l : m.start + m.depth ≤ length steps = h.0 in let e = length-append steps more in
    ((omega arith), within_more steps more marks h.1)

pub within_push : (steps : List Step) (marks : List Mark) (m : Mark) → m.start + m.depth ≤ length steps → Within steps marks
    → Within steps (marks ++ m ∷ [])
within_push steps [] m l h = (l, tt)
within_push steps (n ∷ marks) m l h = (h.0, within_push steps marks m l h.1)

-- steps after those of a mark don't change what it says
mark_more : (steps more : List Step) (m : Mark) → m.start + m.depth ≤ length steps → mark_view (steps ++ more) m ≡ mark_view steps m
mark_more steps more m l =
    let d = length-drop m.start steps in
    ap (λ (ss : List Step). option_map (λ (s : Bor Slot). record { place = place_view ss; slot = s.now }) m.slot)
    (ap (take m.depth) (drop-append-le m.start steps more (omega arith))
    ∙ take-append-le m.depth (drop m.start steps) more (omega arith))

pub marks_more : (steps more : List Step) (marks : List Mark) → Within steps marks
    → marks_view (steps ++ more) marks ≡ marks_view steps marks
marks_more steps more [] h = refl
marks_more steps more (m ∷ marks) h =
    ap (λ (x : Option Candidate). x ∷ marks_view (steps ++ more) marks) (mark_more steps more m h.0)
    ∙ ap (λ (l : List (Option Candidate)). mark_view steps m ∷ l) (marks_more steps more marks h.1)

-- what is given with one segment more
given_more : (ts : Trees) (gs : List (Option Candidate)) (last next : Option Place) (x : Option Candidate) (s : Segment)
    (body : List Segment) → first_fit s (nexts ts last) ≡ x → next ≡ or_else (place_in x) last
    → (gs ++ x ∷ []) ++ given_from ts next body ≡ gs ++ given_from ts last (s ∷ body)
given_more ts gs last next x s body e n =
    append_assoc gs (x ∷ []) (given_from ts next body)
    ∙ ap (λ (o : Option Place). gs ++ x ∷ given_from ts o body) n
    ∙ ap (λ (y : Option Candidate). gs ++ y ∷ given_from ts (or_else (place_in y) last) body) (sym e)

pub given_stray : (ts : Trees) (steps last : List Step) (marks : List Mark) (m : Mark) (s : Segment) (body : List Segment)
    → m.slot ≡ None → None ≡ fit_behind s ts (place_view last)
    → marks_view steps (marks ++ m ∷ []) ++ given_from ts (last_of (place_view last)) body
    ≡ marks_view steps marks ++ given_from ts (last_of (place_view last)) (s ∷ body)
given_stray ts steps last marks m s body n e =
    let none : mark_view steps m ≡ None =
    ap (option_map (λ (s : Bor Slot). record { place = place_view (take m.depth (drop m.start steps)); slot = s.now })) n in
    ap (λ (l : List (Option Candidate)). l ++ given_from ts (last_of (place_view last)) body) (map-append (mark_view steps) marks (m ∷ []))
    ∙ ap (λ (x : Option Candidate). (marks_view steps marks ++ x ∷ []) ++ given_from ts (last_of (place_view last)) body) none
    ∙ given_more ts (marks_view steps marks) (last_of (place_view last)) (last_of (place_view last)) None s body
    (behind_is s ts (place_view last) ∙ sym e) refl

last_some : (p : Place) (a : Pair) (q : Place) → last_of (p ++ a ∷ q) ≡ Some (p ++ a ∷ q)
last_some [] a q = refl
last_some (b ∷ p) a q = refl

pub gone_stray : (ts : Trees) (last : List Step) (s : Segment) → None ≡ fit_behind s ts (place_view last)
    → HasGone ts last last s false
gone_stray ts last s e = (ap place_in (behind_is s ts (place_view last) ∙ sym e), refl)

pub gone_turn : (ts : Trees) (last more : List Step) (t : Turn) (s : Segment)
    → Some (turned (place_view last) t) ≡ fit_behind s ts (place_view last)
    → place_view more ≡ (turned (place_view last) t).place → HasGone ts last more s true
gone_turn ts last more t s e g = (
  ap place_in (behind_is s ts (place_view last) ∙ sym e) ∙ ap Some (sym g),
  ap last_of g ∙ last_some (take t.depth (place_view last)) (use_of t.child t.use_no) (below_start t.into_loop) ∙ ap Some (sym g),
)

new_mark : (steps more : List Step) (m : Mark) (b : Bor Slot) → m.start ≡ length steps → m.depth ≡ length more → m.slot ≡ Some b
    → mark_view (steps ++ more) m ≡ Some (record { place = place_view more; slot = b.now })
new_mark steps more m b e f g =
    ap (λ (o : Option (Bor Slot)). option_map
    (λ (s : Bor Slot). record { place = place_view (take m.depth (drop m.start (steps ++ more))); slot = s.now }) o) g
    ∙ ap (λ (ss : List Step). Some (record { place = place_view ss; slot = b.now }))
    (ap (take m.depth) (drop_at steps more m.start (sym e)) ∙ take_all m.depth more (omega (arith, f)))

pub given_turn : (ts : Trees) (steps more last : List Step) (marks : List Mark) (m : Mark) (t : Turn) (s : Segment)
    (body : List Segment) → Within steps marks → m.start ≡ length steps → m.depth ≡ length more → m.slot ≡ Some t.slot
    → Some (turned (place_view last) t) ≡ fit_behind s ts (place_view last)
    → place_view more ≡ (turned (place_view last) t).place
    → marks_view (steps ++ more) (marks ++ m ∷ []) ++ given_from ts (last_of (place_view more)) body
    ≡ marks_view steps marks ++ given_from ts (last_of (place_view last)) (s ∷ body)
given_turn ts steps more last marks m t s body w a b c e g =
    let rest = given_from ts (last_of (place_view more)) body in
    let x : Option Candidate = Some (turned (place_view last) t) in
    let same : mark_view (steps ++ more) m ≡ x =
    new_mark steps more m t.slot a b c ∙ ap (λ (p : Place). Some (record { place = p; slot = t.slot.now })) g in
    ap (λ (l : List (Option Candidate)). l ++ rest) (map-append (mark_view (steps ++ more)) marks (m ∷ []))
    ∙ ap (λ (l : List (Option Candidate)). (l ++ mark_view (steps ++ more) m ∷ []) ++ rest) (marks_more steps more marks w)
    ∙ ap (λ (y : Option Candidate). (marks_view steps marks ++ y ∷ []) ++ rest) same
    ∙ given_more ts (marks_view steps marks) (last_of (place_view last)) (last_of (place_view more)) x s body
    (behind_is s ts (place_view last) ∙ sym e)
    (ap last_of g ∙ last_some (take t.depth (place_view last)) (use_of t.child t.use_no) (below_start t.into_loop))

-- uses fewer than a bound
pub all_wider : (n : ℕ) (ls : List Step) → AllByRecursion (λ s. s.use_no < n) ls → AllByRecursion (λ s. s.use_no < n + 1) ls
all_wider n [] h = tt
all_wider n (s ∷ ls) h = ((let l = h.0 in omega arith), all_wider n ls h.1)

in_view : (n : ℕ) (ls : List Step) → AllByRecursion (λ s. s.use_no < n) ls → AllByRecursion (λ (a : Pair). a.use_no < n) (place_view ls)
in_view n [] h = tt
in_view n (s ∷ ls) h = (h.0, in_view n ls h.1)

of_view : (n : ℕ) (ls : List Step) → AllByRecursion (λ (a : Pair). a.use_no < n) (place_view ls) → AllByRecursion (λ s. s.use_no < n) ls
of_view n [] h = tt
of_view n (s ∷ ls) h = (h.0, of_view n ls h.1)

below_fewer : (n : ℕ) (b : Bool) → AllByRecursion (λ (a : Pair). a.use_no < n + 1) (below_start b)
below_fewer n true = (omega arith, tt)
below_fewer n false = tt

turned_fewer : (n d c u : ℕ) (b : Bool) (p : Place) → u ≤ n → AllByRecursion (λ (a : Pair). a.use_no < n) p
    → AllByRecursion (λ (a : Pair). a.use_no < n + 1) (take d p ++ use_of c u ∷ below_start b)
turned_fewer n zero c u b p l h = ((omega arith), below_fewer n b)
turned_fewer n (suc d) c u b [] l h = ((omega arith), below_fewer n b)
turned_fewer n (suc d) c u b (a ∷ p) l h = ((let k = h.0 in omega arith), turned_fewer n d c u b p l h.1)

pub room_more : (n : ℕ) (last more : List Step) (t : Turn) → t.use_no ≤ n → AllByRecursion (λ s. s.use_no < n) last
    → place_view more ≡ (turned (place_view last) t).place → AllByRecursion (λ s. s.use_no < n + 1) more
room_more n last more t l h g =
    of_view (n + 1) more (subst (AllByRecursion (λ (a : Pair). a.use_no < n + 1)) (sym g)
    (turned_fewer n t.depth t.child t.use_no t.into_loop (place_view last) l (in_view n last h)))
