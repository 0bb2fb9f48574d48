-- What texts name, after what was read before them.
use Rattle.std.proofs.Common.{◌≡◌, List, [], ◌∷◌, ◌++◌, Option, Some, None, refl, ap}
use Rattle.set_documents.specs.Documents.{DocumentValue}
use Rattle.set_documents.specs.Given.{behind, with_first}

pub behind_none : (ds : List DocumentValue) → behind ds None ≡ None
behind_none [] = refl
behind_none (d ∷ ds) = ap (with_first (Some d)) (behind_none ds)

pub behind_some : (ds es : List DocumentValue) → behind ds (Some es) ≡ Some (ds ++ es)
behind_some [] es = refl
behind_some (d ∷ ds) es = ap (with_first (Some d)) (behind_some ds es)

pub behind_snoc : (ds : List DocumentValue) (d : DocumentValue) (more : Option (List DocumentValue))
    → behind (ds ++ d ∷ []) more ≡ behind ds (with_first (Some d) more)
behind_snoc [] d more = refl
behind_snoc (e ∷ ds) d more = ap (with_first (Some e)) (behind_snoc ds d more)
