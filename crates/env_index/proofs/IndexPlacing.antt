-- The places of an index settled with the faults 1 to 8 are its index places.
use Rattle.std.proofs.Common.{◌≡◌, ℕ, ◌+◌, Bool, true, false, ◌&&◌, List, [], ◌∷◌, ◌++◌, Option, Some, None, refl, ap, ◌∙◌}
use Rattle.std.specs.Prelude.{is_none}
use Rattle.hub_kinds.specs.declared.interchange.InterchangeFault.{InterchangeFault}
use Rattle.env_index.specs.Faults.{fault_of}
use Rattle.env_index.specs.Index.{IndexEntry}
use Rattle.env_index.specs.IndexPlaces.{faults_to_eight, fault_or_unknown, interchanges_of}
use Rattle.env_index.specs.Numbers.{Numbered, kept_places, places_from, is_indexed}
use Rattle.env_index.specs.Placed.{places_behind}
use Rattle.env_index.specs.Settled.{with_faults}

kept_by : (f : Option InterchangeFault) (known : Bool) → is_none (fault_or_unknown f known) ≡ (is_none f && known)
kept_by (Some fault) known = refl
kept_by None true = refl
kept_by None false = refl

pub places_one : (knows : List ℕ → Bool) (n : ℕ) (es : List IndexEntry)
    → places_behind n (with_faults es (faults_to_eight knows es)) ≡ places_from knows n (interchanges_of es)
places_one knows n [] = refl
places_one knows n (e ∷ es) =
    ap (λ (kept : Bool). kept_places kept n e.interchange ++ places_behind (n + 1) (with_faults es (faults_to_eight knows es)))
    (kept_by (fault_of e.interchange) (knows e.interchange.header))
    ∙ ap (λ (l : List Numbered). kept_places (is_indexed knows e.interchange) n e.interchange ++ l) (places_one knows (n + 1) es)
