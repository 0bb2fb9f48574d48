-- Faults and numbers of interchanges that stand further on, and the faults of two parts of a text.
use Rattle.std.proofs.Common.{◌≡◌, ℕ, Bool, true, false, cond, List, [], ◌∷◌, ◌++◌, Option, map, refl, sym, ap, ◌∙◌}
use Rattle.std.proofs.Common.{append_assoc, append-nil}
use Rattle.std.specs.Prelude.{filter, is_none}
use Rattle.hub_kinds.specs.declared.interchange.InterchangeFault.{InterchangeFault}
use Rattle.env_index.specs.Words.{IndexEntry, with_fault, with_faults}
use Rattle.partner_setup.specs.Setup.{SetupValue}
use Rattle.whole_interchanges.specs.Moved.{moved_entry}
use Rattle.set_answers.specs.Seen.{is_among}
use Rattle.set_answers.specs.Settled.{fault_alone, fault_behind, fault_if_earlier, faults_from, faults_with, kept_keys, interchange_key_of}
use Rattle.set_answers.specs.Settled.{keys_with, settled_faults}
use Rattle.set_answers.proofs.ForAbove.{keys_joined}

module _ (setup : SetupValue) where
  abbrev kept : IndexEntry → Bool
  kept e = is_none (fault_alone setup e)

  pub faults_moved : (numbers : List (List ℕ)) (by : ℕ) (es : List IndexEntry)
      → faults_with setup numbers (map (moved_entry by) es) ≡ faults_with setup numbers es
  faults_moved numbers by [] = refl
  faults_moved numbers by (e ∷ es) =
      ap (λ (fs : List (Option InterchangeFault)). fault_if_earlier (fault_alone setup e) (is_among (interchange_key_of e) numbers) ∷ fs)
      (faults_moved (keys_with numbers (fault_alone setup e) (interchange_key_of e)) by es)

  keys_moved : (by : ℕ) (es : List IndexEntry) → kept_keys setup (map (moved_entry by) es) ≡ kept_keys setup es
  keys_moved by [] = refl
  keys_moved by (e ∷ es) = by_fault (kept e) (keys_moved by es)
    where
      by_fault : (b : Bool) → map interchange_key_of (filter kept (map (moved_entry by) es)) ≡ map interchange_key_of (filter kept es)
          → map interchange_key_of (cond b (moved_entry by e ∷ filter kept (map (moved_entry by) es)) (filter kept (map
          (moved_entry by) es)))
          ≡ map interchange_key_of (cond b (e ∷ filter kept es) (filter kept es))
      by_fault true more = ap (λ (ks : List (List ℕ)). interchange_key_of e ∷ ks) more
      by_fault false more = more

  pub keys_behind : (by : ℕ) (before es : List IndexEntry)
      → kept_keys setup (before ++ map (moved_entry by) es) ≡ kept_keys setup before ++ kept_keys setup es
  keys_behind by before es =
      keys_joined setup before (map (moved_entry by) es)
      ∙ ap (λ (ks : List (List ℕ)). kept_keys setup before ++ ks) (keys_moved by es)

  settled_from : (before es fs : List IndexEntry)
      → with_faults (es ++ fs) (faults_from setup before (es ++ fs))
      ≡ with_faults es (faults_from setup before es) ++ with_faults fs (faults_from setup (before ++ es) fs)
  settled_from before [] fs =
      ap (λ (l : List IndexEntry). with_faults fs (faults_from setup l fs)) (sym (append-nil before))
  settled_from before (e ∷ es) fs =
      ap (λ (l : List IndexEntry). with_fault e (fault_behind setup before e) ∷ l)
      (settled_from (before ++ e ∷ []) es fs
      ∙ ap (λ (l : List IndexEntry).
      with_faults es (faults_from setup (before ++ e ∷ []) es) ++ with_faults fs (faults_from setup l fs))
      (append_assoc before (e ∷ []) es))

  pub settled_joined : (es fs : List IndexEntry)
      → with_faults (es ++ fs) (settled_faults setup (es ++ fs))
      ≡ with_faults es (settled_faults setup es) ++ with_faults fs (faults_from setup es fs)
  settled_joined es fs = settled_from [] es fs
