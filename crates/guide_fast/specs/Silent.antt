-- 999 guide, IK304 (own): whether nothing is reported.
use Rattle.std.specs.Prelude.{List, [], ◌∷◌, Bool, true, false}
use Rattle.hub_kinds.specs.declared.fault.Fault.{Fault}

abbrev pub are_none : List Fault → Bool
are_none [] = true
are_none (f ∷ fs) = false
