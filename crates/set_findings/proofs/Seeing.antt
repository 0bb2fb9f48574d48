-- The interchange places of an index settled with the faults 1 to 8 are those of the interchanges that have none of these.
use Rattle.std.proofs.Common.{◌≡◌, ℕ, List, [], ◌∷◌, Option, Some, None, map, filter, is_none, if◌then◌else◌, refl, ap}
use Rattle.hub_kinds.specs.declared.interchange.InterchangeFault.{InterchangeFault}
use Rattle.env_index.specs.Words.{IndexEntry, with_fault}
use Rattle.partner_setup.specs.Setup.{SetupValue}
use Rattle.number_register.specs.SeenNumbers.{interchange_keys, interchange_key_of}
use Rattle.set_answers.specs.Settled.{fault_alone, kept_keys}
use Rattle.set_findings.specs.Alone.{entries_alone}

kept_by : (fault : Option InterchangeFault) (e : IndexEntry) (xs ys : List IndexEntry) → map interchange_key_of xs
    ≡ map interchange_key_of ys
    → map interchange_key_of (if is_none fault then with_fault e fault ∷ xs else xs) ≡ map interchange_key_of
    (if is_none fault then e ∷ ys else ys)
kept_by None e xs ys same = ap (λ (keys : List (List ℕ)). interchange_key_of e ∷ keys) same
kept_by (Some fault) e xs ys same = same

pub alone_keys : (setup : SetupValue) (es : List IndexEntry) → interchange_keys (entries_alone setup es) ≡ kept_keys setup es
alone_keys setup [] = refl
alone_keys setup (e ∷ es) =
    kept_by (fault_alone setup e) e (filter (λ x. is_none x.fault) (entries_alone setup es))
    (filter (λ x. is_none (fault_alone setup x)) es) (alone_keys setup es)
