-- The faults of uses that are still to come after a place: they show at the next place, or after it, or at the end.
use Rattle.std.proofs.Common.{◌≡◌, ℕ, zero, suc, ◌+◌, ◌-◌, ◌<◌, ◌≤◌, ◌⊎◌, inl, inr, false, List, ◌∷◌, Option, Some, None}
use Rattle.std.proofs.Common.{refl, ◌∙◌, ap, subst, arith}
use Rattle.std.specs.Prelude.{IfSome, IsSomeAnd}
use Rattle.std.proofs.lemmas.Bool.{cases_lt}
use Rattle.hub_kinds.specs.declared.fault.Fault.{Fault}
use Rattle.hub_kinds.specs.declared.codes.SegmentCode.{SegmentCode}
use Rattle.hub_kinds.specs.declared.codes.SegmentCode.TheVariants as ik304
use Rattle.guide_tree.specs.Words.{Tree, Trees, min_of, max_of, Segment, Place, IsPlacing, node_at, loop_id_at, Begins, Has, IsFirstAt}
use Rattle.guide_tree.specs.Words.{IsNowhere, IsBehind, past_code, few_code, fault_of}
use Rattle.guide_law.proofs.Cases.{pick}
use Rattle.guide_law.proofs.Gaps.{use_in, came_from, first_begins}
use Rattle.guide_law.proofs.Rising.{Rises, Later, last_place, may_rise, has_later, first_later, begins_between, behind_later}
use Rattle.guide_law.proofs.Rising.{behind_not_in, behind_parent, begins_or_behind, UseFrom, use_goes, one_use}
use Rattle.guide_law.proofs.Showing.{ShortBy, PastBy, StepBy, Shows, NoUse, FewUses}

-- a use past the greatest that begins in the places that are given after the last one
pub record PastFrom (ts : Trees) (at : ℕ) (last : Place) (given : List (Option Place)) (x : Fault) : Type 0 where
  pub parent : Place
  pub child : ℕ
  pub use_no : ℕ
  pub node : Tree
  pub index : ℕ
  pub there : node_at ts (use_in parent child 0) ≡ Some node
  pub past : max_of node ≤ use_no
  pub new : Begins (use_in parent child use_no) last → ⊥
  pub first : IsFirstAt (Begins (use_in parent child use_no)) given index
  pub is : x ≡ fault_of (index + at) (loop_id_at ts parent) (past_code node) node

-- the child has a use with this number, up to the last place or after it
abbrev pub HasUse : Place → List (Option Place) → Place → (child v : ℕ) → Type 0
HasUse last given parent child v = UseFrom parent child v last ⊎ Has given (use_in parent child v)

abbrev pub IsToldAt : List (Option Place) → (at end : ℕ) → Place → (child position : ℕ) → Type 0
IsToldAt given at end parent child position =
    ((i : ℕ) × (IsFirstAt (IsBehind parent child) given i) × (position ≡ i + at))
    ⊎ (IsNowhere (IsBehind parent child) given × (position ≡ end))

abbrev pub Short : Place → List (Option Place) → Place → ℕ → Tree → SegmentCode → Type 0
Short last given parent child node code =
    ((HasUse last given parent child 0 → ⊥) × (code ≡ ik304.RequiredSegmentMissing))
    ⊎ (HasUse last given parent child 0 × (HasUse last given parent child (min_of node - 1) → ⊥) × (code ≡ few_code node))

-- a child with too few uses that isn't left behind yet
pub record ShortFrom (ts : Trees) (at end : ℕ) (last : Place) (given : List (Option Place)) (x : Fault) : Type 0 where
  pub parent : Place
  pub child : ℕ
  pub node : Tree
  pub code : SegmentCode
  pub position : ℕ
  pub repetition : Begins parent last ⊎ Has given parent
  pub there : node_at ts (use_in parent child 0) ≡ Some node
  pub needed : 1 ≤ min_of node
  pub before : IsBehind parent child last → ⊥
  pub cases : Short last given parent child node code
  pub told : IsToldAt given at end parent child position
  pub is : x ≡ fault_of position (loop_id_at ts parent) code node

abbrev pub From : Trees → (at end : ℕ) → Place → List (Option Place) → Fault → Type 0
From ts at end last given x = PastFrom ts at last given x ⊎ ShortFrom ts at end last given x

-- what is known of the next place, and of those after it
pub record Goes (last q : Place) (given : List (Option Place)) : Type 0 where
  pub rises : Rises last q
  pub has : (pre : Place) → Has given pre → Later q (Begins pre)
  pub first : (pre : Place) (i : ℕ) → IsFirstAt (Begins pre) given i → Later q (Begins pre)
  pub came : (pre : Place) (k u : ℕ) → Begins (use_in pre k (u + 1)) q
      → Begins (use_in pre k (u + 1)) last ⊎ Begins (use_in pre k u) last

came_to : (ts : Trees) (last : Option Place) (s : Segment) (body : List Segment) (q : Place) (given : List (Option Place))
    (pre : Place) (k u : ℕ) → IsPlacing ts last (s ∷ body) (Some q ∷ given) → Begins (use_in pre k (u + 1)) q
    → Begins (use_in pre k (u + 1)) (last_place last) ⊎ Begins (use_in pre k u) (last_place last)
came_to ts None s body q given pre k u pl b = absurd (first_begins q pre k u ts s body given pl b)
came_to ts (Some p) s body q given pre k u pl b = came_from false p q pre k u pl.0 b

pub goes : (ts : Trees) (last : Option Place) (s : Segment) (body : List Segment) (q : Place) (given : List (Option Place))
    → IsPlacing ts last (s ∷ body) (Some q ∷ given) → Goes (last_place last) q given
goes ts last s body q given pl = record {
  rises = may_rise last q pl.0;
  has = λ pre h. has_later ts (Some q) body given pre pl.2 h;
  first = λ pre i f. first_later (Begins pre) ts (Some q) body given i pl.2 f;
  came = λ pre k u b. came_to ts last s body q given pre k u pl b;
}

-- the first is at the front, or after it
abbrev FirstBehind : (Place → Type 0) → Option Place → List (Option Place) → ℕ → Type 0
FirstBehind P x given i =
    (IsSomeAnd x P × (i ≡ 0)) ⊎ ((j : ℕ) × (i ≡ j + 1) × IfSome x (λ q. P q → ⊥) × IsFirstAt P given j)

pub first_cases : (P : Place → Type 0) (x : Option Place) (given : List (Option Place)) (i : ℕ) → IsFirstAt P (x ∷ given) i
    → FirstBehind P x given i
first_cases P x given zero f = inl (f, refl)
first_cases P x given (suc j) f = inr (j, (omega arith), f.0, f.1)

pub moved : (at at' : ℕ) (o : List ℕ) (code : SegmentCode) (node : Tree) (x : Fault) → x ≡ fault_of at o code node → at ≡ at'
    → x ≡ fault_of at' o code node
moved at at' o code node x f e = f ∙ ap (λ (n : ℕ). fault_of n o code node) e

past_behind : (ts : Trees) (at : ℕ) (last now : Place) (y : Option Place) (given : List (Option Place)) (x : Fault)
    (r : PastFrom ts at last (y ∷ given) x) (j : ℕ) → r.index ≡ j + 1
    → (Begins (use_in r.parent r.child r.use_no) now → ⊥) → IsFirstAt (Begins (use_in r.parent r.child r.use_no)) given j
    → PastFrom ts (at + 1) now given x
past_behind ts at last now y given x r j e new f = record {
  parent = r.parent;
  child = r.child;
  use_no = r.use_no;
  node = r.node;
  index = j;
  there = r.there;
  past = r.past;
  new = new;
  first = f;
  is = moved (r.index + at) (j + (at + 1)) (loop_id_at ts r.parent) (past_code r.node) r.node x r.is (omega arith);
}

past_before : (ts : Trees) (at : ℕ) (last now : Place) (y : Option Place) (given : List (Option Place)) (x : Fault)
    (r : PastFrom ts (at + 1) now given x) → (Begins (use_in r.parent r.child r.use_no) last → ⊥)
    → IfSome y (λ q. Begins (use_in r.parent r.child r.use_no) q → ⊥) → PastFrom ts at last (y ∷ given) x
past_before ts at last now y given x r new none = record {
  parent = r.parent;
  child = r.child;
  use_no = r.use_no;
  node = r.node;
  index = suc r.index;
  there = r.there;
  past = r.past;
  new = new;
  first = (none, r.first);
  is = moved (r.index + (at + 1)) (suc r.index + at) (loop_id_at ts r.parent) (past_code r.node) r.node x r.is (omega arith);
}

abbrev pub Step : Trees → (at : ℕ) → (last q : Place) → Fault → Type 0
Step ts at last q x = Shows (node_at ts) (loop_id_at ts) at (StepBy last q) x

pub past_to : (ts : Trees) (at : ℕ) (last q : Place) (given : List (Option Place)) (x : Fault) → PastFrom ts at last (Some q ∷ given) x
    → Step ts at last q x ⊎ PastFrom ts (at + 1) q given x
past_to ts at last q given x r =
    pick (first_cases (Begins (use_in r.parent r.child r.use_no)) (Some q) given r.index r.first)
    (λ y. let z = y.1 in inl (record {
      parent = r.parent;
      child = r.child;
      node = r.node;
      code = past_code r.node;
      there = r.there;
      holds = inr (record { use_no = r.use_no; past = r.past; new = r.new; begun = y.0; is = refl });
      is = moved (r.index + at) at (loop_id_at ts r.parent) (past_code r.node) r.node x r.is (omega arith);
    }))
    (λ y. inr (past_behind ts at last q (Some q) given x r y.0 y.1 y.2 y.3))

pub past_from : (ts : Trees) (at : ℕ) (last q : Place) (given : List (Option Place)) (x : Fault) → Goes last q given
    → PastFrom ts (at + 1) q given x → PastFrom ts at last (Some q ∷ given) x
past_from ts at last q given x g r =
    let pre = use_in r.parent r.child r.use_no in
    let l = g.first pre r.index r.first in
    past_before ts at last q (Some q) given x r (λ b. r.new (begins_between pre last q l.place b g.rises l.rises l.holds)) r.new

pub past_none : (ts : Trees) (at : ℕ) (last : Place) (given : List (Option Place)) (x : Fault) → PastFrom ts at last (None ∷ given) x
    → PastFrom ts (at + 1) last given x
past_none ts at last given x r =
    pick (first_cases (Begins (use_in r.parent r.child r.use_no)) None given r.index r.first)
    (λ y. absurd y.0)
    (λ y. past_behind ts at last last None given x r y.0 y.1 r.new y.3)

pub none_past : (ts : Trees) (at : ℕ) (last : Place) (given : List (Option Place)) (x : Fault) → PastFrom ts (at + 1) last given x
    → PastFrom ts at last (None ∷ given) x
none_past ts at last given x r = past_before ts at last last None given x r r.new tt

-- a past use that shows at the next place
pub shown_past : (ts : Trees) (at : ℕ) (last q : Place) (given : List (Option Place)) (x : Fault) (parent : Place) (child : ℕ)
    (node : Tree) (code : SegmentCode) → node_at ts (use_in parent child 0) ≡ Some node → PastBy last q parent child node code
    → x ≡ fault_of at (loop_id_at ts parent) code node → PastFrom ts at last (Some q ∷ given) x
shown_past ts at last q given x parent child node code there r f = record {
  parent = parent;
  child = child;
  use_no = r.use_no;
  node = node;
  index = 0;
  there = there;
  past = r.past;
  new = r.new;
  first = r.begun;
  is = moved at (0 + at) (loop_id_at ts parent) (past_code node) node x
      (f ∙ ap (λ (c : SegmentCode). fault_of at (loop_id_at ts parent) c node) r.is) (omega arith);
}

-- uses seen from the last place are those seen from the next one, where the child isn't left behind
uses_to : (last q : Place) (given : List (Option Place)) (parent : Place) (child v : ℕ) → Goes last q given
    → (IsBehind parent child q → ⊥) → HasUse last (Some q ∷ given) parent child v → HasUse q given parent child v
uses_to last q given parent child v g none (inl (u, l, b)) =
    pick (use_goes parent child u last q b g.rises) (λ h. absurd (none h)) (λ w. inl (w.0, (let m = w.1 in omega arith), w.2))
uses_to last q given parent child v g none (inr (inl b)) = inl (v, (omega arith), b)
uses_to last q given parent child v g none (inr (inr h)) = inr h

uses_from : (last q : Place) (given : List (Option Place)) (parent : Place) (child v : ℕ) → Goes last q given
    → HasUse q given parent child v → HasUse last (Some q ∷ given) parent child v
uses_from last q given parent child v g (inl (zero, l, b)) =
    let e : 0 ≡ v = omega arith in inr (inl (subst (λ (n : ℕ). Begins (use_in parent child n) q) e b))
uses_from last q given parent child v g (inl (suc u, l, b)) =
    pick (cases_lt u v)
    (λ m. let e : suc u ≡ v = omega arith in inr (inl (subst (λ (n : ℕ). Begins (use_in parent child n) q) e b)))
    (λ m. let e : suc u ≡ u + 1 = omega arith in
    pick (g.came parent child u (subst (λ (n : ℕ). Begins (use_in parent child n) q) e b))
    (λ h. inl (u + 1, (omega arith), h)) (λ h. inl (u, m, h)))
uses_from last q given parent child v g (inr h) = inr (inr h)

pub short_cases : (last now : Place) (given rest : List (Option Place)) (parent : Place) (child : ℕ) (node : Tree) (code : SegmentCode)
    → ((v : ℕ) → HasUse last given parent child v → HasUse now rest parent child v)
    → ((v : ℕ) → HasUse now rest parent child v → HasUse last given parent child v)
    → Short last given parent child node code → Short now rest parent child node code
short_cases last now given rest parent child node code to back c =
    pick c (λ y. inl ((λ h. y.0 (back 0 h)), y.1)) (λ y. inr (to 0 y.0, (λ h. y.1 (back (min_of node - 1) h)), y.2))

-- after the child there is no use of it
no_more : (last q : Place) (given : List (Option Place)) (parent : Place) (child v : ℕ) → Goes last q given
    → IsBehind parent child q → Has (Some q ∷ given) (use_in parent child v) → ⊥
no_more last q given parent child v g h (inl b) = behind_not_in parent child v q h b
no_more last q given parent child v g h (inr b) =
    let l = g.has (use_in parent child v) b in
    behind_not_in parent child v l.place (behind_later parent child q l.place h l.rises) l.holds

-- what is short and isn't reported at the next place is reported after it
short_goes : (ts : Trees) (at end : ℕ) (last q : Place) (given : List (Option Place)) (x : Fault)
    (r : ShortFrom ts at end last (Some q ∷ given) x) → Goes last q given → (IsBehind r.parent r.child q → ⊥)
    → IsToldAt given (at + 1) end r.parent r.child r.position → ShortFrom ts (at + 1) end q given x
short_goes ts at end last q given x r g none told = record {
  parent = r.parent;
  child = r.child;
  node = r.node;
  code = r.code;
  position = r.position;
  repetition = pick r.repetition
      (λ b. pick (begins_or_behind r.parent r.child last q b g.rises) (λ h. inl h) (λ h. absurd (none h))) (λ h. h);
  there = r.there;
  needed = r.needed;
  before = none;
  cases = short_cases last q (Some q ∷ given) given r.parent r.child r.node r.code
      (λ v h. uses_to last q given r.parent r.child v g none h) (λ v h. uses_from last q given r.parent r.child v g h) r.cases;
  told = told;
  is = r.is;
}

few_by : (last q : Place) (given : List (Option Place)) (parent : Place) (child : ℕ) (node : Tree) (code : SegmentCode)
    → Goes last q given → IsBehind parent child q → Short last (Some q ∷ given) parent child node code
    → (NoUse parent child last × (code ≡ ik304.RequiredSegmentMissing))
    ⊎ (FewUses parent child (min_of node) last × (code ≡ few_code node))
few_by last q given parent child node code g b (inl (none, e)) = inl ((λ u h. none (inl (u, (omega arith), h))), e)
few_by last q given parent child node code g b (inr (inr h, few, e)) = absurd (no_more last q given parent child 0 g b h)
few_by last q given parent child node code g b (inr (inl (u, l, h), few, e)) =
    inr ((u, h, pick (cases_lt (u + 1) (min_of node)) (λ m. m) (λ m. absurd (few (inl (u, (omega arith), h))))), e)

told_here : (ts : Trees) (at end : ℕ) (last q : Place) (given : List (Option Place)) (x : Fault)
    (r : ShortFrom ts at end last (Some q ∷ given) x) → Goes last q given → IsBehind r.parent r.child q → r.position ≡ at
    → Step ts at last q x
told_here ts at end last q given x r g b e = record {
  parent = r.parent;
  child = r.child;
  node = r.node;
  code = r.code;
  there = r.there;
  holds = inl (record {
    repetition = pick r.repetition (λ h. inl h) (λ h. inr (pick h (λ i. i)
        (λ i. let l = g.has r.parent i in behind_parent r.parent r.child q l.place b l.rises l.holds)));
    needed = r.needed;
    before = r.before;
    left = b;
    cases = few_by last q given r.parent r.child r.node r.code g b r.cases;
  });
  is = moved r.position at (loop_id_at ts r.parent) r.code r.node x r.is e;
}

pub short_to : (ts : Trees) (at end : ℕ) (last q : Place) (given : List (Option Place)) (x : Fault) → Goes last q given
    → ShortFrom ts at end last (Some q ∷ given) x → Step ts at last q x ⊎ ShortFrom ts (at + 1) end q given x
short_to ts at end last q given x g r =
    pick r.told
    (λ t. pick (first_cases (IsBehind r.parent r.child) (Some q) given t.0 t.1)
    (λ y. let z = y.1 in let p : r.position ≡ t.0 + at = t.2 in inl (told_here ts at end last q given x r g y.0 (omega arith)))
    (λ y. let z = y.1 in let p : r.position ≡ t.0 + at = t.2 in
    inr (short_goes ts at end last q given x r g y.2 (inl (y.0, y.3, (omega arith))))))
    (λ t. inr (short_goes ts at end last q given x r g t.0.0 (inr (t.0.1, t.1))))

pub short_from : (ts : Trees) (at end : ℕ) (last q : Place) (given : List (Option Place)) (x : Fault) → Goes last q given
    → ShortFrom ts (at + 1) end q given x → ShortFrom ts at end last (Some q ∷ given) x
short_from ts at end last q given x g r = record {
  parent = r.parent;
  child = r.child;
  node = r.node;
  code = r.code;
  position = r.position;
  repetition = inr r.repetition;
  there = r.there;
  needed = r.needed;
  before = λ b. r.before (behind_later r.parent r.child last q b g.rises);
  cases = short_cases q last given (Some q ∷ given) r.parent r.child r.node r.code
      (λ v h. uses_from last q given r.parent r.child v g h) (λ v h. uses_to last q given r.parent r.child v g r.before h) r.cases;
  told = pick r.told (λ t. let p : r.position ≡ t.0 + (at + 1) = t.2 in inl (suc t.0, (r.before, t.1), (omega arith)))
      (λ t. inr ((r.before, t.0), t.1));
  is = r.is;
}

shown_cases : (last q : Place) (given : List (Option Place)) (parent : Place) (child : ℕ) (node : Tree) (code : SegmentCode)
    → Goes last q given → ShortBy last (Some q) parent child node code → Short last (Some q ∷ given) parent child node code
shown_cases last q given parent child node code g s =
    pick s.cases
    (λ y. inl ((λ h. pick h (λ w. y.0 w.0 w.2) (no_more last q given parent child 0 g s.left)), y.1))
    (λ y. inr (
      inl (y.0.0, (omega arith), y.0.1),
      (λ h. pick h
          (λ w. let e = one_use parent child y.0.0 w.0 last y.0.1 w.2 in let l : y.0.0 + 1 < min_of node = y.0.2 in
          let m : min_of node - 1 ≤ w.0 = w.1 in omega arith)
          (no_more last q given parent child (min_of node - 1) g s.left)),
      y.1,
    ))

-- a short child that shows at the next place
pub shown_short : (ts : Trees) (at end : ℕ) (last q : Place) (given : List (Option Place)) (x : Fault) (parent : Place) (child : ℕ)
    (node : Tree) (code : SegmentCode) → Goes last q given → node_at ts (use_in parent child 0) ≡ Some node
    → ShortBy last (Some q) parent child node code → x ≡ fault_of at (loop_id_at ts parent) code node
    → ShortFrom ts at end last (Some q ∷ given) x
shown_short ts at end last q given x parent child node code g there s f = record {
  parent = parent;
  child = child;
  node = node;
  code = code;
  position = at;
  repetition = pick s.repetition (λ h. inl h) (λ h. inr (inl h));
  there = there;
  needed = s.needed;
  before = s.before;
  cases = shown_cases last q given parent child node code g s;
  told = inl (0, s.left, (omega arith));
  is = f;
}
