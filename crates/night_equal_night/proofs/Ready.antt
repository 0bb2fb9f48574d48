-- The interchanges of a text are those of its settled index, with what is known of each.
use Rattle.std.proofs.Common.{◌≡◌, ℕ, Bool, List, [], ◌∷◌, ◌++◌, Option, Some, None, refl, sym, subst}
use Rattle.std.specs.List.{All, AllZip}
use Rattle.std.proofs.lemmas.List.Elements.{All-head, All-tail}
use Rattle.hub_kinds.specs.declared.interchange.InterchangeFault.{InterchangeFault}
use Rattle.env_index.specs.Words.{IndexEntry, IndexValue, IsIndex, with_faults}
use Rattle.partner_setup.specs.Setup.{SetupValue, sender_of}
use Rattle.set_answers.specs.CheckedText.{CheckedInterchange, IsCheckedAs, AreCheckedAs, AreAnswersBy}
use Rattle.set_answers.specs.Seen.{is_among}
use Rattle.set_answers.specs.Settled.{fault_alone, fault_behind, fault_if_earlier, fault_with_sender, faults_from, kept_keys}
use Rattle.set_answers.specs.Settled.{interchange_key_of, settled_entries, settled_faults}
use Rattle.night_law.proofs.ForAbove.{IsSource, settled_sources}
use Rattle.night_definition.specs.Interchanges.{Interchange, text_of}
use Rattle.night_definition.specs.Setup.{Judged, judged_after}
use Rattle.night_equal_text.specs.LookedUp.{seen_setup}
use Rattle.night_equal_text.specs.Faulty.{IsJudgedAs, AreJudgedAs}
use Rattle.night_equal_text.specs.Spanned.{AreGroupsIn, AreInterchangesIn}
use Rattle.night_equal_text.specs.Laws.{NightsAreSettled, SetsAreParts}
use Rattle.night_equal_night.proofs.Pairs.{zip_of_pairs}
use Rattle.night_equal_night.proofs.Interchanges.{IsReady}

alone_known : (fault : Option InterchangeFault) (sender : Option ℕ) → fault_with_sender fault sender ≡ None → sender ≡ None → ⊥
alone_known (Some f) sender no_fault is = let no : Some f ≡ None = no_fault in cc
alone_known None None no_fault is = cc
alone_known None (Some s) no_fault is = cc

alone_none : (fault : Option InterchangeFault) (earlier : Bool) → fault_if_earlier fault earlier ≡ None → fault ≡ None
alone_none (Some f) earlier no_fault = no_fault
alone_none None earlier no_fault = refl

-- an interchange without fault has a known sender
settled_known : (setup : SetupValue) (before : List IndexEntry) (e : IndexEntry) → fault_behind setup before e ≡ None
    → sender_of setup e.interchange.header ≡ None → ⊥
settled_known setup before e no_fault =
    alone_known e.fault (sender_of setup e.interchange.header)
    (alone_none (fault_alone setup e) (is_among (interchange_key_of e) (kept_keys setup before)) no_fault)

module _ (text : List ℕ) (setup : SetupValue) where
  abbrev IsSourceOf : IndexEntry → Type 0
  IsSourceOf e = IsSource text e.interchange

  -- what is said of an entry is said of the one that was checked
  ready_one : (e : IndexEntry) (c : CheckedInterchange) (j : Judged) → c.entry ≡ e → IsJudgedAs text setup j e
      → AreGroupsIn text j.interchange.delims j.interchange.content.groups e.interchange.content.groups
      → IsSourceOf e → c.sender ≡ sender_of setup e.interchange.header → AreAnswersBy text setup e e.fault c.sender c.groups
      → (e.fault ≡ None → sender_of setup e.interchange.header ≡ None → ⊥) → IsReady text setup c j
  ready_one e c j same is sets source sender groups known = record {
    judged = subst (λ (e : IndexEntry). IsJudgedAs text setup j e) (sym same) is;
    sets = subst (λ (e : IndexEntry). AreGroupsIn text j.interchange.delims j.interchange.content.groups
        e.interchange.content.groups) (sym same) sets;
    source = subst IsSourceOf (sym same) source;
    sender = subst (λ (e : IndexEntry). c.sender ≡ sender_of setup e.interchange.header) (sym same) sender;
    groups = subst (λ (e : IndexEntry). AreAnswersBy text setup e e.fault c.sender c.groups) (sym same) groups;
    known = subst (λ (e : IndexEntry). e.fault ≡ None → sender_of setup e.interchange.header ≡ None → ⊥) (sym same) known;
  }

  ready_from : (before : List Interchange) (olds : List IndexEntry) (xs : List Interchange) (es : List IndexEntry)
      (cs : List CheckedInterchange) → AreInterchangesIn text xs es
      → AreJudgedAs text setup (judged_after (seen_setup setup) before xs) (with_faults es (faults_from setup olds es))
      → All IsSourceOf (with_faults es (faults_from setup olds es))
      → AllZip (IsCheckedAs text setup) (with_faults es (faults_from setup olds es)) cs
      → AllZip (IsReady text setup) cs (judged_after (seen_setup setup) before xs)
  ready_from before olds [] [] [] is_in are sources checked = tt
  ready_from before olds [] [] (c ∷ cs) is_in are sources checked = absurd checked
  ready_from before olds [] (e ∷ es) cs is_in are sources checked = absurd is_in
  ready_from before olds (x ∷ xs) [] cs is_in are sources checked = absurd is_in
  ready_from before olds (x ∷ xs) (e ∷ es) [] is_in are sources checked = absurd checked
  ready_from before olds (x ∷ xs) (e ∷ es) (c ∷ cs) is_in are sources checked =
      let settled : IndexEntry = record { interchange = e.interchange; fault = fault_behind setup olds e } in (
        ready_one settled c _ checked.0.entry are.0 is_in.0
            (All-head IsSourceOf settled (with_faults es (faults_from setup (olds ++ e ∷ []) es)) sources) checked.0.sender checked.0.groups
            (settled_known setup olds e),
        ready_from (before ++ x ∷ []) (olds ++ e ∷ []) xs es cs is_in.1 are.1
            (All-tail IsSourceOf settled (with_faults es (faults_from setup (olds ++ e ∷ []) es)) sources) checked.1,
      )

  pub ready : NightsAreSettled → SetsAreParts → (index : IndexValue) (cs : List CheckedInterchange) → IsIndex text index
      → AreCheckedAs text setup (settled_entries setup index.entries) cs
      → AllZip (IsReady text setup) cs (judged_after (seen_setup setup) [] (text_of text).interchanges)
  ready settle parts index cs is checked =
      ready_from [] [] (text_of text).interchanges index.entries cs (parts text index is) (settle text setup index is)
      (settled_sources text index (settled_faults setup index.entries) is)
      (zip_of_pairs (IsCheckedAs text setup) (settled_entries setup index.entries) cs checked)
