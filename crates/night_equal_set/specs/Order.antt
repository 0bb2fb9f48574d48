-- Faults have one order, and of those with one key the first is kept. Elements are numbered from 1.
use Rattle.std.specs.Prelude.{◌≡◌, ◌≤◌, ◌↔◌, ◌⊎◌, List, [], ◌∷◌, ◌++◌, Option, Some, None, fold}
use Rattle.std.specs.List.{Contains, AllByRecursion}
use Rattle.hub_kinds.specs.declared.fault.Fault.{Fault}
use Rattle.hub_kinds.specs.declared.fault.ElemFault.{ElemFault}
use Rattle.hub_kinds.specs.Words.{AreRising, order_by}
use Rattle.hub_kinds.specs.Words as old
use Rattle.night_definition.specs.Codes as room
use Rattle.night_definition.specs.Sets.{with_fault}

abbrev pub IsNumbered : Option ElemFault → Type 0
IsNumbered None = Unit {0}
IsNumbered (Some e) = 1 ≤ e.element

abbrev pub IsPlain : Fault → Type 0
IsPlain f = IsNumbered f.elem

abbrev pub OrdersAreOne : Type 0
OrdersAreOne = (x y : Fault) → IsPlain x → IsPlain y → order_by room.key_of x y ≡ order_by old.key_of x y

abbrev pub FaultsRise : Type 0
FaultsRise = (xs : List Fault) → AllByRecursion IsPlain xs → AreRising (fold with_fault [] xs)

-- the faults of a list, after some others, whose key none before them has
abbrev pub IsFirstBehind : (before : List Fault) → List Fault → Fault → Type 0
IsFirstBehind before [] f = ⊥
IsFirstBehind before (x ∷ xs) f =
    ((f ≡ x) × ((z : Fault) → Contains before z → room.key_of z ≡ room.key_of x → ⊥)) ⊎ IsFirstBehind (before ++ x ∷ []) xs f

abbrev pub FirstsStand : Type 0
FirstsStand = (xs : List Fault) (f : Fault) → Contains (fold with_fault [] xs) f ↔ IsFirstBehind [] xs f
