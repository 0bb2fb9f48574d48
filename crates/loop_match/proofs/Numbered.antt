-- What a pass over an accepted guide finds has one fault for each key, since the guide's slots are numbered.
use Rattle.std.proofs.Common.{◌≡◌, ℕ, List, subst}
use Rattle.std.specs.List.{Contains}
use Rattle.hub_kinds.specs.Words.{key_of, IsKeyedBy}
use Rattle.hub_kinds.specs.declared.fault.Fault.{Fault}
use Rattle.guide_tree.specs.declared.rows.GuideRows.{GuideRows}
use Rattle.guide_tree.specs.Words.{IsAccepted, GuideTree, Segment, placing_of, structure_faults, IsStructureFault, guide_of}
use Rattle.guide_law.proofs.ForAbove.{members, keyed}

pub found_keyed : (rows : GuideRows) (body : List Segment) (end : ℕ) (faults : List Fault) → IsAccepted rows
    → faults ≡ structure_faults (guide_of rows) end body (placing_of (guide_of rows).nodes body) → IsKeyedBy key_of faults
found_keyed rows body end faults a e f h x y k =
    let g = guide_of rows in let given = placing_of g.nodes body in
    let is : (z : Fault) → Contains faults z → IsStructureFault g body given end z =
    λ z c. (members g a.well_formed body end z).0 (subst (λ (l : List Fault). Contains l z) e c) in
    keyed g body given end f h (subst (λ (n : GuideTree). IsStructureFault n body given end f) a.numbered (is f x))
    (subst (λ (n : GuideTree). IsStructureFault n body given end h) a.numbered (is h y)) k
