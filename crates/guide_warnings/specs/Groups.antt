-- X12.5, functional group header (GS01): the functional identifier code that groups of a transaction set usually have.
use Rattle.std.specs.Prelude.{Bool, ◌&&◌, not, List, [], ◌∷◌, ℕ, codes, if◌then◌else◌}
use Rattle.std.specs.Str.{bytes_eq}
use Rattle.guide_tree.specs.declared.rows.GuideHead.{GuideHead}

-- of six sets; of another none is known
abbrev pub usual_group : (set : List ℕ) → List ℕ
usual_group set =
    if bytes_eq set (codes "850") then codes "PO"
    else (if bytes_eq set (codes "856") then codes "SH"
    else (if bytes_eq set (codes "855") then codes "PR"
    else (if bytes_eq set (codes "860") then codes "PC"
    else (if bytes_eq set (codes "810") then codes "IN"
    else (if bytes_eq set (codes "846") then codes "IB"
    else [])))))

-- a guide is for sets in another group than they usually come in
abbrev pub has_unusual_group : GuideHead → Bool
has_unusual_group head = not (bytes_eq (usual_group head.set) []) && not (bytes_eq (usual_group head.set) head.group)
