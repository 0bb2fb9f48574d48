-- Faults by the numbers of the interchanges before.
use Rattle.std.proofs.Common.{◌≡◌, ℕ, cond, List, [], ◌∷◌, ◌++◌, Option, Some, None, map, refl, sym, ap, ◌∙◌}
use Rattle.std.proofs.Common.{◌+◌, append_assoc, append-nil, drop, take}
use Rattle.std.specs.Prelude.{filter, is_none, slice_get}
use Rattle.std.proofs.lemmas.List.{map-append}
use Rattle.std.proofs.lemmas.List.Elements.{filter-append}
use Rattle.hub_kinds.specs.declared.interchange.InterchangeFault.{InterchangeFault}
use Rattle.env_index.specs.Words.{IndexEntry}
use Rattle.partner_setup.specs.Setup.{SetupValue}
use Rattle.set_answers.specs.Seen.{is_among}
use Rattle.set_answers.specs.Settled.{fault_alone, fault_behind, fault_if_earlier, faults_from, faults_with, kept_keys, interchange_key_of}
use Rattle.set_answers.specs.Settled.{keys_with}
use Rattle.set_answers.proofs.Growing.{take_one_more}
use Rattle.set_answers.proofs.Taking.{drop_one_more}

module _ (setup : SetupValue) where
  pub keys_joined : (es fs : List IndexEntry) → kept_keys setup (es ++ fs) ≡ kept_keys setup es ++ kept_keys setup fs
  keys_joined es fs =
      ap (λ (l : List IndexEntry). map interchange_key_of l) (filter-append (λ e. is_none (fault_alone setup e)) es fs)
      ∙ map-append interchange_key_of (filter (λ e. is_none (fault_alone setup e)) es) (filter (λ e. is_none (fault_alone setup e)) fs)

  -- the numbers after one interchange more
  pub keys_more : (numbers : List (List ℕ)) (before : List IndexEntry) (e : IndexEntry)
      → numbers ++ kept_keys setup (before ++ e ∷ [])
      ≡ keys_with (numbers ++ kept_keys setup before) (fault_alone setup e) (interchange_key_of e)
  keys_more numbers before e =
      ap (λ (ks : List (List ℕ)). numbers ++ ks) (keys_joined before (e ∷ [])) ∙ by_fault (fault_alone setup e)
    where
      by_fault : (f : Option InterchangeFault)
          → numbers ++ (kept_keys setup before ++ map interchange_key_of (cond (is_none f) (e ∷ []) []))
          ≡ keys_with (numbers ++ kept_keys setup before) f (interchange_key_of e)
      by_fault None = sym (append_assoc numbers (kept_keys setup before) (interchange_key_of e ∷ []))
      by_fault (Some f) = ap (λ (ks : List (List ℕ)). numbers ++ ks) (append-nil (kept_keys setup before))

  -- the interchanges before are needed by their numbers alone
  pub by_numbers : (before es : List IndexEntry) → faults_from setup before es ≡ faults_with setup (kept_keys setup before) es
  by_numbers before [] = refl
  by_numbers before (e ∷ es) =
      ap (λ (fs : List (Option InterchangeFault)). fault_behind setup before e ∷ fs)
      (by_numbers (before ++ e ∷ []) es ∙ ap (λ (ks : List (List ℕ)). faults_with setup ks es) (keys_more [] before e))

  -- one interchange more of a list
  module _ (numbers : List (List ℕ)) (es : List IndexEntry) (i : ℕ) (e : IndexEntry) (there : slice_get es i ≡ Some e)
      (alone : Option InterchangeFault) (key : List ℕ) (is : alone ≡ fault_alone setup e) (named : key ≡ interchange_key_of e) where
    abbrev so_far : List (List ℕ)
    so_far = numbers ++ kept_keys setup (take i es)

    pub keys_step : keys_with so_far alone key ≡ numbers ++ kept_keys setup (take (i + 1) es)
    keys_step =
        ap (λ (f : Option InterchangeFault). keys_with so_far f key) is
        ∙ ap (keys_with so_far (fault_alone setup e)) named
        ∙ sym (keys_more numbers (take i es) e)
        ∙ ap (λ (l : List IndexEntry). numbers ++ kept_keys setup l) (sym (take_one_more es i e there))

    pub faults_step : (done : List (Option InterchangeFault)) (fault : Option InterchangeFault)
        → fault ≡ fault_if_earlier alone (is_among key so_far)
        → (done ++ fault ∷ []) ++ faults_with setup (numbers ++ kept_keys setup (take (i + 1) es)) (drop (i + 1) es)
        ≡ done ++ faults_with setup so_far (drop i es)
    faults_step done fault told =
        append_assoc done (fault ∷ []) (faults_with setup (numbers ++ kept_keys setup (take (i + 1) es)) (drop (i + 1) es))
        ∙ ap (λ (fs : List (Option InterchangeFault)). done ++ fs) (
        ap (λ (f : Option InterchangeFault).
        f ∷ faults_with setup (numbers ++ kept_keys setup (take (i + 1) es)) (drop (i + 1) es)) first
        ∙ ap (λ (ks : List (List ℕ)).
        fault_if_earlier (fault_alone setup e) (is_among (interchange_key_of e) so_far) ∷ faults_with setup ks (drop (i + 1) es)) rest
        ∙ ap (λ (l : List IndexEntry). faults_with setup so_far l) (sym (drop_one_more es i e there))
        )
      where
        first : fault ≡ fault_if_earlier (fault_alone setup e) (is_among (interchange_key_of e) so_far)
        first = told ∙ ap (λ (f : Option InterchangeFault). fault_if_earlier f (is_among key so_far)) is
            ∙ ap (λ (k : List ℕ). fault_if_earlier (fault_alone setup e) (is_among k so_far)) named

        rest : numbers ++ kept_keys setup (take (i + 1) es) ≡ keys_with so_far (fault_alone setup e) (interchange_key_of e)
        rest = ap (λ (l : List IndexEntry). numbers ++ kept_keys setup l) (take_one_more es i e there)
            ∙ keys_more numbers (take i es) e
