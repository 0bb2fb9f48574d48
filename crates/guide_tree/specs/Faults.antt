-- X12.6, transaction set (own): the guides that are accepted, and the first fault of one that is refused.
use Rattle.std.specs.Prelude.{ℕ, ◌≡◌, ◌<◌, ◌⊎◌, IsFalse, Bool}
use Rattle.hub_kinds.specs.declared.limits.TheConstants.{MOST_NODES}
use Rattle.guide_tree.specs.declared.limits.TheConstants.{MOST_NESTED}
use Rattle.guide_tree.specs.declared.fault.GuideFault.{GuideFault}
use Rattle.guide_tree.specs.declared.fault.GuideFault.TheVariants as fault
use Rattle.guide_tree.specs.Tree.{Tree, Trees, node_number, AnyNode, nesting, node_count, GuideTree}
use Rattle.guide_tree.specs.Bounds.{is_bounded}
use Rattle.guide_tree.specs.Conditions.{is_triggered, is_conditioned, are_names_known}
use Rattle.guide_tree.specs.Ambiguity.{IsAmbiguousAt}

-- some node with this number fails the test
abbrev pub FailsAt : (Tree → Bool) → Trees → ℕ → Type 0
FailsAt test ts k = AnyNode (λ t. (node_number t ≡ k) × IsFalse (test t)) ts

-- what each refusal says of a guide
abbrev pub HasFault : GuideTree → GuideFault → Type 0
HasFault g fault.TooDeep = MOST_NESTED < nesting g.nodes
HasFault g fault.TooMany = MOST_NODES < node_count g.nodes
HasFault g (fault.BadBounds k) = FailsAt is_bounded g.nodes k
HasFault g (fault.BadTrigger k) = FailsAt is_triggered g.nodes k
HasFault g (fault.BadCondition k) = ((k ≡ 0) × IsFalse (are_names_known g)) ⊎ FailsAt (is_conditioned g.nodes) g.nodes k
HasFault g (fault.Ambiguous a b) = IsAmbiguousAt g.nodes a b
HasFault g fault.NoMemory = ⊥

-- the numbers by which refusals are named
abbrev pub refusal_number : GuideFault → ℕ
refusal_number fault.TooDeep = 1
refusal_number fault.TooMany = 2
refusal_number (fault.BadBounds k) = 3
refusal_number (fault.BadTrigger k) = 4
refusal_number (fault.Ambiguous a b) = 5
refusal_number (fault.BadCondition k) = 6
refusal_number fault.NoMemory = 7

-- the order of judging, which isn't that of the refusals' numbers, and then the slots, the lesser first
abbrev pub order_of : GuideFault → ℕ × ℕ × ℕ
order_of fault.TooDeep = (1, 0, 0)
order_of fault.TooMany = (2, 0, 0)
order_of (fault.BadBounds k) = (3, k, 0)
order_of (fault.BadTrigger k) = (4, k, 0)
order_of (fault.BadCondition k) = (5, k, 0)
order_of (fault.Ambiguous a b) = (6, a, b)
order_of fault.NoMemory = (7, 0, 0)

abbrev pub IsBelow : ℕ × ℕ × ℕ → ℕ × ℕ × ℕ → Type 0
IsBelow x y = (x.0 < y.0) ⊎ ((x.0 ≡ y.0) × ((x.1 < y.1) ⊎ ((x.1 ≡ y.1) × (x.2 < y.2))))

-- the guide has this fault, and none that is judged before it
pub record IsFirstFault (g : GuideTree) (f : GuideFault) : Type 0 where
  pub holds : HasFault g f
  pub first : (e : GuideFault) → HasFault g e → IsBelow (order_of e) (order_of f) → ⊥

-- the guide has no fault
abbrev pub IsWellFormed : GuideTree → Type 0
IsWellFormed g = (f : GuideFault) → HasFault g f → ⊥
