-- The order of faults (own), over what the 999 guide's IK3 and IK4 show.
use Rattle.std.specs.Prelude.{ℕ, List, [], ◌∷◌, Option, Some, None, option_map}
use Rattle.hub_kinds.specs.declared.fault.Fault.{Fault}
use Rattle.hub_kinds.specs.declared.fault.ElemFault.{ElemFault}
use Rattle.hub_kinds.specs.declared.fault.FaultHead.{FaultHead}
use Rattle.hub_kinds.specs.declared.fault.TheConstants.{NO_NUMBER}
use Rattle.hub_kinds.specs.Rising.{IsRisingBy}
use Rattle.hub_kinds.specs.Codes.{segment_rank, element_rank}

-- what the element's part adds to the key
abbrev pub elem_key : Option ElemFault → List ℕ
elem_key None = NO_NUMBER ∷ NO_NUMBER ∷ NO_NUMBER ∷ 0 ∷ []
elem_key (Some e) = e.element ∷ e.component ∷ e.repetition ∷ element_rank e.code ∷ []

-- faults are ordered by position, segment code, slot, element, component, repetition and element code
abbrev pub key_of : Fault → List ℕ
key_of f = f.position ∷ segment_rank f.code ∷ f.slot ∷ elem_key f.elem

-- the faults of one segment's elements are ordered by what they add to the key
abbrev pub element_key_of : ElemFault → List ℕ
element_key_of e = elem_key (Some e)

-- each fault is before the next ones, and so appears once
abbrev pub AreRising : List Fault → Type 0
AreRising faults = IsRisingBy key_of faults

abbrev pub AreElementsRising : List ElemFault → Type 0
AreElementsRising faults = IsRisingBy element_key_of faults

-- what a fault says without its texts
abbrev pub head_of : Fault → FaultHead
head_of f = record { position = f.position; code = f.code; element_code = option_map (λ e. e.code) f.elem }
