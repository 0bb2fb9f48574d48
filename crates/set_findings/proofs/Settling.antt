-- An index that is settled twice has the later faults.
use Rattle.std.proofs.Common.{◌≡◌, ℕ, List, [], ◌∷◌, Option, length, refl, ap, arith}
use Rattle.hub_kinds.specs.declared.interchange.InterchangeFault.{InterchangeFault}
use Rattle.env_index.specs.Words.{IndexEntry, IndexValue, settled, with_fault, with_faults}
use Rattle.partner_setup.specs.Setup.{SetupValue, sender_of}
use Rattle.set_answers.specs.Seen.{is_among}
use Rattle.set_answers.specs.Settled.{faults_with, interchange_key_of, keys_with, fault_alone, senders_of}
use Rattle.set_findings.specs.Alone.{AreSettledBy, faults_alone, index_alone}

pub settled_by_numbers : (setup : SetupValue) (numbers : List (List ℕ)) (es : List IndexEntry)
    → AreSettledBy setup es (faults_with setup numbers es)
settled_by_numbers setup numbers [] = tt
settled_by_numbers setup numbers (e ∷ es) = (
  (is_among (interchange_key_of e) numbers, refl),
  settled_by_numbers setup (keys_with numbers (fault_alone setup e)
      (interchange_key_of e)) es,
)

pub with_long : (setup : SetupValue) (numbers : List (List ℕ)) (es : List IndexEntry) → length (faults_with setup numbers es) ≡ length es
with_long setup numbers [] = refl
with_long setup numbers (e ∷ es) =
    let more = with_long setup (keys_with numbers (fault_alone setup e) (interchange_key_of e)) es in omega (arith, more)

pub alone_long : (setup : SetupValue) (es : List IndexEntry) → length (faults_alone setup es) ≡ length es
alone_long setup [] = refl
alone_long setup (e ∷ es) = let more = alone_long setup es in omega (arith, more)

pub settled_long : (es : List IndexEntry) (fs : List (Option InterchangeFault)) → length fs ≡ length es
    → length (with_faults es fs) ≡ length es
settled_long [] fs same = refl
settled_long (e ∷ es) [] same = refl
settled_long (e ∷ es) (f ∷ fs) same = let more = settled_long es fs (omega (arith, same)) in omega (arith, more)

twice : (setup : SetupValue) (es : List IndexEntry) (fs : List (Option InterchangeFault)) → length fs ≡ length es
    → with_faults (with_faults es (faults_alone setup es)) fs ≡ with_faults es fs
twice setup [] fs same = refl
twice setup (e ∷ es) [] same = absurd (omega (arith, same))
twice setup (e ∷ es) (f ∷ fs) same =
    ap (λ (l : List IndexEntry). with_fault e f ∷ l) (twice setup es fs (omega (arith, same)))

pub settled_twice : (setup : SetupValue) (index : IndexValue) (fs : List (Option InterchangeFault)) → length fs ≡ length index.entries
    → settled (index_alone setup index) fs ≡ settled index fs
settled_twice setup index fs same =
    ap (λ (l : List IndexEntry). record { text = index.text; entries = l; outside = index.outside }) (twice setup index.entries fs same)

-- a fault changes no sender
pub senders_kept : (setup : SetupValue) (es : List IndexEntry) (fs : List (Option InterchangeFault))
    → senders_of setup (with_faults es fs) ≡ senders_of setup es
senders_kept setup [] fs = refl
senders_kept setup (e ∷ es) [] = refl
senders_kept setup (e ∷ es) (f ∷ fs) =
    ap (λ (l : List (Option ℕ)). sender_of setup e.interchange.header ∷ l) (senders_kept setup es fs)
