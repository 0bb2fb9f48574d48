-- The fault that is found is the first.
use Rattle.std.proofs.Common.{◌≡◌, ℕ, ◌<◌, ◌≤◌, leb, ◌⊎◌, inl, inr, Bool, true, false, cond, Option, Some, None}
use Rattle.std.proofs.Common.{option_map, refl, sym, ap, subst, ◌∙◌, arith}
use Rattle.std.proofs.lemmas.Bool.{true_from_ne_false}
use Rattle.std.proofs.lemmas.Bool.Decides.{nat_tests}
use Rattle.hub_kinds.specs.declared.limits.TheConstants.{MOST_NODES}
use Rattle.guide_tree.specs.declared.limits.TheConstants.{MOST_NESTED}
use Rattle.guide_tree.specs.declared.fault.GuideFault.{GuideFault}
use Rattle.guide_tree.specs.declared.fault.GuideFault.TheVariants as fault
use Rattle.guide_tree.specs.Tree.{Tree, Trees, segment, loop, no_trees, tree, GuideTree, numbered, nesting}
use Rattle.guide_tree.specs.Tree.{node_count, node_number, AnyNode, EachIn, EachNode, or_else, with_slot_numbers}
use Rattle.guide_tree.specs.Bounds.{is_bounded}
use Rattle.guide_tree.specs.Conditions.{is_triggered, is_conditioned, are_names_known}
use Rattle.guide_tree.specs.Ambiguity.{IsAmbiguousAt}
use Rattle.guide_tree.specs.Faults.{HasFault, FailsAt, order_of, IsBelow, IsFirstFault, IsWellFormed}
use Rattle.guide_tree.specs.Rules.{first_failing}
use Rattle.guide_tree.specs.Rivals.{Numbers, least_rivals}
use Rattle.guide_tree.specs.Judging.{first_in_size, first_in_rows, between_slots}
use Rattle.guide_tree.proofs.Keeping.{IsAtMost}
use Rattle.guide_tree.proofs.NumberLaws.{IsLeastOf, first_failing_least, nesting-numbered, node_count-numbered}
use Rattle.guide_tree.proofs.Ambiguous.{IsLeastPair, least_pair}
use Rattle.guide_tree.proofs.RivalsPaired.{IsLed}

-- the first fault of those of which F holds, or none
abbrev pub IsFirstOf : (GuideFault → Type 0) → Option GuideFault → Type 0
IsFirstOf F None = (f : GuideFault) → F f → ⊥
IsFirstOf F (Some f) = F f × ((e : GuideFault) → F e → IsBelow (order_of e) (order_of f) → ⊥)

-- F holds of faults of these kinds alone
abbrev Kinds : ℕ → ℕ → (GuideFault → Type 0) → Type 0
Kinds low high F = (f : GuideFault) → F f → (low ≤ (order_of f).0) × ((order_of f).0 ≤ high)

first_of_both : (F G : GuideFault → Type 0) (l m n h : ℕ) (a b : Option GuideFault) → Kinds l m F → Kinds n h G
    → m < n → IsFirstOf F a → (a ≡ None → IsFirstOf G b) → IsFirstOf (λ f. F f ⊎ G f) (or_else a b)
first_of_both F G l m n h (Some f) b kf kg lt x y = (
  inl x.0,
  λ e w below. elim w [
    | inl p ↦ x.1 e p below
    | inr q ↦ (let u = kf f x.0 in let v = kg e q in
        elim below [ inl z ↦ omega arith | inr z ↦ (let s = z.0 in omega arith) ])
  ],
)
first_of_both F G l m n h None None kf kg lt x y = λ f w. elim w [ inl p ↦ x f p | inr q ↦ y refl f q ]
first_of_both F G l m n h None (Some f) kf kg lt x y = let z = y refl in
    (inr z.0, λ e w below. elim w [ inl p ↦ absurd (x e p) | inr q ↦ z.1 e q below ])

both_kinds : (F G : GuideFault → Type 0) (l m n h : ℕ) → Kinds l m F → Kinds n h G → m < n → l ≤ m → n ≤ h
    → Kinds l h (λ f. F f ⊎ G f)
both_kinds F G l m n h kf kg a b c f (inl x) = let u = kf f x in (omega (arith, u.0), omega (arith, u.1))
both_kinds F G l m n h kf kg a b c f (inr x) = let u = kg f x in (omega (arith, u.0), omega (arith, u.1))

first_as : (F G : GuideFault → Type 0) (r : Option GuideFault) → ((f : GuideFault) → F f → G f)
    → ((f : GuideFault) → G f → F f) → IsFirstOf F r → IsFirstOf G r
first_as F G None to back x = λ f g. x f (back f g)
first_as F G (Some f) to back x = (to f x.0, λ e g. x.1 e (back e g))

abbrev Deep : GuideTree → GuideFault → Type 0
Deep g f = (f ≡ fault.TooDeep) × (MOST_NESTED < nesting g.nodes)

abbrev Many : GuideTree → GuideFault → Type 0
Many g f = (f ≡ fault.TooMany) × (MOST_NODES < node_count g.nodes)

abbrev AtSlot : (ℕ → GuideFault) → (ℕ → Type 0) → GuideFault → Type 0
AtSlot at P f = (k : ℕ) × (f ≡ at k) × P k

abbrev AtSlots : GuideTree → GuideFault → Type 0
AtSlots g f = (a : ℕ) × (b : ℕ) × (f ≡ fault.Ambiguous a b) × IsAmbiguousAt g.nodes a b

order_is : (e f : GuideFault) → e ≡ f → (order_of e).0 ≡ (order_of f).0
order_is e f q = ap (λ (x : GuideFault). (order_of x).0) q

first_alone : (f : GuideFault) (limit n : ℕ) (t : Bool) → leb n limit ≡ t
    → IsFirstOf (λ e. (e ≡ f) × (limit < n)) (cond t None (Some f))
first_alone f limit n true h = λ e x. (let l = x.1 in let b : n ≤ limit = grind (arith, nat_tests) in omega arith)
first_alone f limit n false h = (
  (refl, grind (arith, nat_tests)),
  λ e x below.
      (let q = ap order_of x.0 in let z = subst (λ (y : ℕ × ℕ × ℕ). IsBelow y (order_of f)) q below in
      not_below (order_of f) z),
) where
  not_below : (y : ℕ × ℕ × ℕ) → IsBelow y y → ⊥
  not_below y (inl a) = omega arith
  not_below y (inr (a, inl b)) = omega arith
  not_below y (inr (a, inr (b, c))) = omega arith

first_at : (c : ℕ) (at : ℕ → GuideFault) (P : ℕ → Type 0) (r : Option ℕ) → ((k : ℕ) → order_of (at k) ≡ (c, k, 0))
    → IsLeastOf P r → IsFirstOf (AtSlot at P) (option_map at r)
first_at c at P None o l = λ f x. l x.0 x.2
first_at c at P (Some n) o l = (
  (n, refl, l.0),
  λ e x below. (
      let q = ap order_of x.1 ∙ o x.0 in
      let z = subst (λ (y : ℕ × ℕ × ℕ). IsBelow y (order_of (at n))) q below in
      let w = subst (λ (y : ℕ × ℕ × ℕ). IsBelow (c, x.0, 0) y) (o n) z in
      let le = l.1 x.0 x.2 in
      below_slot c x.0 n le w),
) where
  below_slot : (c k n : ℕ) → n ≤ k → IsBelow (c, k, 0) (c, n, 0) → ⊥
  below_slot c k n le (inl a) = omega arith
  below_slot c k n le (inr (a, inl b)) = omega arith
  below_slot c k n le (inr (a, inr (b, d))) = omega arith

abbrev BadNames : GuideTree → ℕ → Type 0
BadNames g k = (k ≡ 0) × (are_names_known g ≡ false)

least_with_names : (g : GuideTree) (P : ℕ → Type 0) (r : Option ℕ) → are_names_known g ≡ true → IsLeastOf P r
    → IsLeastOf (λ k. BadNames g k ⊎ P k) r
least_with_names g P None e l = λ k x. elim x [ inl n ↦ (let f : true ≡ false = sym e ∙ n.1 in cc) | inr p ↦ l k p ]
least_with_names g P (Some m) e l =
    (inr l.0, λ k x. elim x [ inl n ↦ (let f : true ≡ false = sym e ∙ n.1 in cc) | inr p ↦ l.1 k p ])

order_condition : (k : ℕ) → order_of (fault.BadCondition k) ≡ (5, k, 0)
order_condition k = refl

conditions_first : (g : GuideTree) (P : ℕ → Type 0) (r : Option ℕ) (t : Bool) → are_names_known g ≡ t → IsLeastOf P r
    → IsFirstOf (AtSlot fault.BadCondition (λ k. BadNames g k ⊎ P k))
    (or_else (cond t None (Some (fault.BadCondition 0))) (option_map fault.BadCondition r))
conditions_first g P r true e l =
    first_at 5 fault.BadCondition (λ k. BadNames g k ⊎ P k) r order_condition (least_with_names g P r e l)
conditions_first g P r false e l =
    first_at 5 fault.BadCondition (λ k. BadNames g k ⊎ P k) (Some 0) order_condition (inl (refl, e), λ k x. omega arith)

rivals_first : (g : GuideTree) (r : Option Numbers) → IsLeastPair g.nodes r
    → IsFirstOf (AtSlots g) (option_map between_slots r)
rivals_first g None l = λ f x. l x.0 x.1 x.3
rivals_first g (Some m) l = (
  (m.0, m.1, refl, l.0),
  λ e x below. (
      let z = subst (λ (y : ℕ × ℕ × ℕ). IsBelow y (6, m.0, m.1)) (ap order_of x.2) below in
      below_pair m.0 m.1 x.0 x.1 (l.1 x.0 x.1 x.3) z),
) where
  below_pair : (a b c d : ℕ) → IsAtMost (a, b) (c, d) → IsBelow (6, c, d) (6, a, b) → ⊥
  below_pair a b c d (inl x) (inl y) = omega arith
  below_pair a b c d (inl x) (inr (y, inl z)) = omega arith
  below_pair a b c d (inl x) (inr (y, inr (z, w))) = omega arith
  below_pair a b c d (inr (x, v)) (inl y) = omega arith
  below_pair a b c d (inr (x, v)) (inr (y, inl z)) = omega arith
  below_pair a b c d (inr (x, v)) (inr (y, inr (z, w))) = omega arith

mutual
  each_in_passes : (test : Tree → Bool) (t : Tree)
      → ((k : ℕ) → AnyNode (λ u. (node_number u ≡ k) × (test u ≡ false)) (tree t no_trees) → ⊥)
      → EachIn (λ u. test u ≡ true) t
  each_in_passes test (segment s) h = true_from_ne_false (test (segment s)) (λ e. h s.number (inl (refl, e)))
  each_in_passes test (loop l ts) h = (
    true_from_ne_false (test (loop l ts)) (λ e. h l.number (inl (inl (refl, e)))),
    each_passes test ts
        (λ k x. h k (inl (inr x))),
  )

  -- where no node fails, each passes
  pub each_passes : (test : Tree → Bool) (ts : Trees) → ((k : ℕ) → FailsAt test ts k → ⊥)
      → EachNode (λ u. test u ≡ true) ts
  each_passes test no_trees h = tt
  each_passes test (tree t ts) h = (
    each_in_passes test t (λ k x. elim x [ inl y ↦ h k (inl y) | inr n ↦ absurd n ]),
    each_passes test ts
        (λ k x. h k (inr x)),
  )

least_in_nodes : (ns ts : Trees) (test : Tree → Bool) → ns ≡ numbered 1 ts
    → IsLeastOf (FailsAt test ns) (first_failing test ns)
least_in_nodes ns ts test e =
    subst (λ (us : Trees). IsLeastOf (FailsAt test us) (first_failing test us)) (sym e) (first_failing_least test 1 ts)

led_if_none : (ns : Trees) (r : Option ℕ) → IsLeastOf (FailsAt is_triggered ns) r
    → option_map fault.BadTrigger r ≡ None → EachNode IsLed ns
led_if_none ns None l e = each_passes is_triggered ns l
led_if_none ns (Some k) l e = cc

kinds_at : (c : ℕ) (at : ℕ → GuideFault) (P : ℕ → Type 0) → ((k : ℕ) → order_of (at k) ≡ (c, k, 0))
    → Kinds c c (AtSlot at P)
kinds_at c at P o f x = let e = order_is f (at x.0) x.1 ∙ ap (λ (y : ℕ × ℕ × ℕ). y.0) (o x.0) in
    (omega arith, omega arith)

kinds_rivals : (g : GuideTree) → Kinds 6 6 (AtSlots g)
kinds_rivals g f x = let e = order_is f (fault.Ambiguous x.0 x.1) x.2 in (omega arith, omega arith)

kinds_alone : (c : ℕ) (e : GuideFault) (Q : Type 0) → (order_of e).0 ≡ c → Kinds c c (λ f. (f ≡ e) × Q)
kinds_alone c e Q o f x = let q = order_is f e x.0 in (omega arith, omega arith)

abbrev Bounds : GuideTree → GuideFault → Type 0
Bounds g = AtSlot fault.BadBounds (FailsAt is_bounded g.nodes)

abbrev Triggers : GuideTree → GuideFault → Type 0
Triggers g = AtSlot fault.BadTrigger (FailsAt is_triggered g.nodes)

abbrev Conditions : GuideTree → GuideFault → Type 0
Conditions g = AtSlot fault.BadCondition (λ k. BadNames g k ⊎ FailsAt (is_conditioned g.nodes) g.nodes k)

abbrev InRows : GuideTree → GuideFault → Type 0
InRows g f = Bounds g f ⊎ (Triggers g f ⊎ (Conditions g f ⊎ AtSlots g f))

order_bounds : (k : ℕ) → order_of (fault.BadBounds k) ≡ (3, k, 0)
order_bounds k = refl

order_trigger : (k : ℕ) → order_of (fault.BadTrigger k) ≡ (4, k, 0)
order_trigger k = refl

kinds_conditions : (g : GuideTree) → Kinds 5 6 (λ f. Conditions g f ⊎ AtSlots g f)
kinds_conditions g =
    both_kinds (Conditions g) (AtSlots g) 5 5 6 6
    (kinds_at 5 fault.BadCondition (λ k. BadNames g k ⊎ FailsAt (is_conditioned g.nodes) g.nodes k)
    order_condition) (kinds_rivals g) (omega arith) (omega arith) (omega arith)

kinds_triggers : (g : GuideTree) → Kinds 4 6 (λ f. Triggers g f ⊎ (Conditions g f ⊎ AtSlots g f))
kinds_triggers g =
    both_kinds (Triggers g) (λ f. Conditions g f ⊎ AtSlots g f) 4 4 5 6
    (kinds_at 4 fault.BadTrigger (FailsAt is_triggered g.nodes) order_trigger) (kinds_conditions g) (omega arith)
    (omega arith) (omega arith)

or_else_assoc : (a b c : Option GuideFault) → or_else (or_else a b) c ≡ or_else a (or_else b c)
or_else_assoc None b c = refl
or_else_assoc (Some f) b c = refl

rows_first : (g : GuideTree) (ts : Trees) → g.nodes ≡ numbered 1 ts → IsFirstOf (InRows g) (first_in_rows g)
rows_first g ts e =
    let bounds = least_in_nodes g.nodes ts is_bounded e in
    let triggers = least_in_nodes g.nodes ts is_triggered e in
    let conditions = least_in_nodes g.nodes ts (is_conditioned g.nodes) e in
    let named =
    conditions_first g (FailsAt (is_conditioned g.nodes) g.nodes) (first_failing (is_conditioned g.nodes) g.nodes)
    (are_names_known g) refl conditions in
    first_of_both (Bounds g) (λ f. Triggers g f ⊎ (Conditions g f ⊎ AtSlots g f)) 3 3 4 6 _ _
    (kinds_at 3 fault.BadBounds (FailsAt is_bounded g.nodes) order_bounds) (kinds_triggers g) (omega arith)
    (first_at 3 fault.BadBounds (FailsAt is_bounded g.nodes) (first_failing is_bounded g.nodes) order_bounds bounds)
    (λ z. first_of_both (Triggers g) (λ f. Conditions g f ⊎ AtSlots g f) 4 4 5 6 _ _
    (kinds_at 4 fault.BadTrigger (FailsAt is_triggered g.nodes) order_trigger) (kinds_conditions g) (omega arith)
    (first_at 4 fault.BadTrigger (FailsAt is_triggered g.nodes) (first_failing is_triggered g.nodes) order_trigger
    triggers)
    (λ y. subst (IsFirstOf (λ f. Conditions g f ⊎ AtSlots g f))
    (or_else_assoc (cond (are_names_known g) None (Some (fault.BadCondition 0)))
    (option_map fault.BadCondition (first_failing (is_conditioned g.nodes) g.nodes))
    (option_map between_slots (least_rivals None g.nodes)))
    (first_of_both (Conditions g) (AtSlots g) 5 5 6 6 _ _
    (kinds_at 5 fault.BadCondition (λ k. BadNames g k ⊎ FailsAt (is_conditioned g.nodes) g.nodes k)
    order_condition) (kinds_rivals g) (omega arith) named
    (λ w. rivals_first g (least_rivals None g.nodes)
    (least_pair g.nodes (led_if_none g.nodes (first_failing is_triggered g.nodes) triggers y))))))

abbrev InSize : GuideTree → GuideFault → Type 0
InSize g f = Deep g f ⊎ Many g f

size_first : (g : GuideTree) → IsFirstOf (InSize g) (first_in_size g)
size_first g =
    first_of_both (Deep g) (Many g) 1 1 2 2 _ _ (kinds_alone 1 fault.TooDeep (MOST_NESTED < nesting g.nodes) refl)
    (kinds_alone 2 fault.TooMany (MOST_NODES < node_count g.nodes) refl) (omega arith)
    (first_alone fault.TooDeep MOST_NESTED (nesting g.nodes) (leb (nesting g.nodes) MOST_NESTED) refl)
    (λ z. first_alone fault.TooMany MOST_NODES (node_count g.nodes) (leb (node_count g.nodes) MOST_NODES) refl)

has_fault : (g : GuideTree) (f : GuideFault) → InSize g f ⊎ InRows g f → HasFault g f
has_fault g f (inl (inl x)) = subst (HasFault g) (sym x.0) x.1
has_fault g f (inl (inr x)) = subst (HasFault g) (sym x.0) x.1
has_fault g f (inr (inl x)) = subst (HasFault g) (sym x.1) x.2
has_fault g f (inr (inr (inl x))) = subst (HasFault g) (sym x.1) x.2
has_fault g f (inr (inr (inr (inl x)))) = subst (HasFault g) (sym x.1) x.2
has_fault g f (inr (inr (inr (inr x)))) = subst (HasFault g) (sym x.2) x.3

fault_is : (g : GuideTree) (f : GuideFault) → HasFault g f → InSize g f ⊎ InRows g f
fault_is g fault.TooDeep h = inl (inl (refl, h))
fault_is g fault.TooMany h = inl (inr (refl, h))
fault_is g (fault.BadBounds k) h = inr (inl (k, refl, h))
fault_is g (fault.BadTrigger k) h = inr (inr (inl (k, refl, h)))
fault_is g (fault.BadCondition k) h = inr (inr (inr (inl (k, refl, h))))
fault_is g (fault.Ambiguous a b) h = inr (inr (inr (inr (a, b, refl, h))))
fault_is g fault.NoMemory h = absurd h

kinds_size : (g : GuideTree) → Kinds 1 2 (InSize g)
kinds_size g =
    both_kinds (Deep g) (Many g) 1 1 2 2 (kinds_alone 1 fault.TooDeep (MOST_NESTED < nesting g.nodes) refl)
    (kinds_alone 2 fault.TooMany (MOST_NODES < node_count g.nodes) refl) (omega arith) (omega arith) (omega arith)

kinds_rows : (g : GuideTree) → Kinds 3 6 (InRows g)
kinds_rows g =
    both_kinds (Bounds g) (λ f. Triggers g f ⊎ (Conditions g f ⊎ AtSlots g f)) 3 3 4 6
    (kinds_at 3 fault.BadBounds (FailsAt is_bounded g.nodes) order_bounds) (kinds_triggers g) (omega arith)
    (omega arith) (omega arith)

judged_first : (g : GuideTree) (ts : Trees) → g.nodes ≡ numbered 1 ts
    → IsFirstOf (HasFault g) (or_else (first_in_size g) (first_in_rows g))
judged_first g ts e = first_as (λ f. InSize g f ⊎ InRows g f) (HasFault g) _ (has_fault g) (fault_is g)
    (first_of_both (InSize g) (InRows g) 1 2 3 6 _ _ (kinds_size g) (kinds_rows g) (omega arith) (size_first g)
    (λ z. rows_first g ts e))

first_by : (g : GuideTree) (r : Option GuideFault) (f : GuideFault) → r ≡ Some f → IsFirstOf (HasFault g) r
    → IsFirstFault g f
first_by g r f e x = let y = subst (IsFirstOf (HasFault g)) e x in record { holds = y.0; first = y.1 }

-- size is judged the same before the slots are numbered
size_numbered : (g : GuideTree) → first_in_size (with_slot_numbers g) ≡ first_in_size g
size_numbered g =
    ap (λ (n : ℕ). or_else (cond (leb n MOST_NESTED) None (Some fault.TooDeep))
    (cond (leb (node_count (numbered 1 g.nodes)) MOST_NODES) None (Some fault.TooMany))) (nesting-numbered 1 g.nodes)
    ∙ ap (λ (n : ℕ). or_else (cond (leb (nesting g.nodes) MOST_NESTED) None (Some fault.TooDeep))
    (cond (leb n MOST_NODES) None (Some fault.TooMany))) (node_count-numbered 1 g.nodes)

pub refused_for_size : (g : GuideTree) (f : GuideFault) → first_in_size g ≡ Some f
    → IsFirstFault (with_slot_numbers g) f
refused_for_size g f e =
    first_by (with_slot_numbers g) _ f (ap (λ (o : Option GuideFault). or_else o
    (first_in_rows (with_slot_numbers g))) (size_numbered g ∙ e)) (judged_first (with_slot_numbers g) g.nodes refl)

pub refused_for_rows : (g : GuideTree) (f : GuideFault) → first_in_size g ≡ None
    → first_in_rows (with_slot_numbers g) ≡ Some f → IsFirstFault (with_slot_numbers g) f
refused_for_rows g f e d =
    first_by (with_slot_numbers g) _ f (ap (λ (o : Option GuideFault). or_else o
    (first_in_rows (with_slot_numbers g))) (size_numbered g ∙ e) ∙ d)
    (judged_first (with_slot_numbers g) g.nodes refl)

pub accepted : (g : GuideTree) → first_in_size g ≡ None → first_in_rows (with_slot_numbers g) ≡ None
    → IsWellFormed (with_slot_numbers g)
accepted g e d =
    subst (IsFirstOf (HasFault (with_slot_numbers g)))
    (ap (λ (o : Option GuideFault). or_else o (first_in_rows (with_slot_numbers g))) (size_numbered g ∙ e) ∙ d)
    (judged_first (with_slot_numbers g) g.nodes refl)
