-- The responses to the sets of a group.
use Rattle.std.proofs.Common.{◌≡◌, ℕ, suc, Bool, true, false, List, [], ◌∷◌, ◌++◌, Option, Some, None, map, take, length, refl, sym, ap}
use Rattle.std.proofs.Common.{subst, ◌∙◌, arith, append_assoc, append-nil}
use Rattle.std.specs.Prelude.{IfSome, slice_get, if◌then◌else◌}
use Rattle.std.specs.List.{All, Contains}
use Rattle.std.proofs.lemmas.List.Elements.{All-contains_itself, All-head, All-tail, All-weaker}
use Rattle.x12_bytes.specs.declared.delims.Delims.{Delims}
use Rattle.x12_segs.specs.Words.{SegValue, element_of}
use Rattle.x12_segs.specs.declared.set_span.SetSpan.{SetSpan}
use Rattle.x12_write.specs.Undivided.{CanDivide, IsUndivided}
use Rattle.guide_tree.specs.Words.{GuideTree}
use Rattle.hub_kinds.specs.declared.answers.GroupAnswer.{GroupAnswer}
use Rattle.hub_kinds.specs.declared.answers.SetAnswer.{SetAnswer}
use Rattle.hub_kinds.specs.declared.fault.Fault.{Fault}
use Rattle.env_index.specs.Words.{span_of, GroupEntry}
use Rattle.env_index.specs.declared.entry.SetEnvelope.{SetEnvelope}
use Rattle.partner_setup.specs.Setup.{guide_for_set}
use Rattle.set_check.specs.Checked.{Checked, guide_in, parts_in, guide_tree_of}
use Rattle.set_check.specs.MeetsLaw.{IsWellGuided}
use Rattle.set_check.specs.SetParts.{SetParts, set_parts}
use Rattle.ack_999.specs.ReadBack.{IsQuotable, IsQuotableFault}
use Rattle.ack_999.specs.Report.{shows_sets}
use Rattle.set_answers.specs.declared.answered.AnsweredGroup.{AnsweredGroup}
use Rattle.set_answers.specs.Answers.{IsGroupAnswer, IsSetAnswer, SentValue, has_number_among}
use Rattle.night_law.proofs.Accepted.{accepted_as_it_meets}
use Rattle.night_law.specs.Quotable.{IsGroupQuotable, IsGuideQuotable}
use Rattle.night_law.specs.ReadBack.{IsResponseTo, sets_with_earlier, sets_in_group}
use Rattle.night_law.proofs.QuotedElements.{AreElementsUndivided}
use Rattle.night_law.proofs.QuotingFaults.{of_set}
use Rattle.night_law.specs.Told.{is_served}
use Rattle.night_law.proofs.Headers.{HasHeader, at_index}
use Rattle.night_law.proofs.Naming.{IsGuideNamed, guide_named}
use Rattle.night_law.proofs.Reading.{response_of, shown_responses}
use Rattle.night_law.proofs.TellingGroups.{shown_as_served}
use Rattle.night_law.proofs.Together.{Together, pairs_all}

-- the guide of a set, if it has one
well_named : (d : Delims) → CanDivide d → (guide : Option GuideTree) → IsWellGuided guide → IfSome guide (IsGuideQuotable d)
    → IfSome guide (IsGuideNamed d)
well_named d can None sound quotable = tt
well_named d can (Some g) sound quotable = guide_named d can g sound quotable

-- a set and its answer
module _ (sent : SentValue) (gs : SegValue) (before : List SetEnvelope) (set : SetEnvelope) (answer : SetAnswer)
    (is : IsSetAnswer sent gs before set answer) (header : HasHeader sent.text sent.delims set) where
  abbrev there : SetParts
  there = set_parts sent.text (span_of sent.delims set)

  parts : parts_in is.checked ≡ there
  parts = ap (λ (t : List ℕ). set_parts t is.checked.span) is.text ∙ ap (λ (s : SetSpan). set_parts sent.text s) is.span

  identifier : answer.identifier ≡ element_of set.header 1
  identifier =
      ap (λ (a : SetAnswer). a.identifier) is.is ∙ ap (λ (p : SetParts). element_of p.header 1) parts
      ∙ ap (λ (s : SegValue). element_of s 1) header

  control : answer.control ≡ element_of set.header 2
  control =
      ap (λ (a : SetAnswer). a.control) is.is ∙ ap (λ (p : SetParts). element_of p.header 2) parts
      ∙ ap (λ (s : SegValue). element_of s 2) header

  pub response_to : IsResponseTo (record { sent = sent; gs = gs; before = before; set = set }) (response_of answer)
  response_to = record { identifier = identifier; control = control; accepted = accepted_as_it_meets sent gs before set answer is }

  pub identifier_quoted : (d : Delims) → IsUndivided d (element_of set.header 1) → IsUndivided d answer.identifier
  identifier_quoted d undivided = subst (IsUndivided d) (sym identifier) undivided

  pub control_quoted : (d : Delims) → IsUndivided d (element_of set.header 2) → IsUndivided d answer.control
  control_quoted d undivided = subst (IsUndivided d) (sym control) undivided

  pub faults_quoted : (d : Delims) → CanDivide d → IsUndivided d (d.component ∷ []) → IfSome
      (guide_tree_of (guide_for_set sent.setup sent.sender (element_of gs 1) (element_of gs 8) (element_of set.header 1)))
      (IsGuideQuotable d)
      → All (IsQuotableFault d) answer.faults
  faults_quoted d can separator names =
      let c : Checked = is.checked in
      let faults : c.faults ≡ answer.faults = sym (ap (λ (a : SetAnswer). a.faults) is.is) in
      let guide = subst (λ g. IfSome g (IsGuideQuotable d)) (sym (ap guide_tree_of is.guide)) names in
      let named = well_named d can (guide_in c) is.exact.well_guided guide in
      let one : (f : Fault) → Contains c.faults f → IsQuotableFault d f = λ f found.
      of_set d separator (guide_in c) (parts_in c) f named ((is.exact.faults f).0 found) in
      subst (All (IsQuotableFault d)) faults
      (All-weaker (Contains c.faults) (IsQuotableFault d) one c.faults (All-contains_itself c.faults))

-- the sets of a group and the responses to them
sets_together : (sent : SentValue) (gs : SegValue) (before sets : List SetEnvelope) (answers : List SetAnswer)
    → length answers ≡ length sets
    → ((n : ℕ) (set : SetEnvelope) (answer : SetAnswer) → slice_get sets n ≡ Some set → slice_get answers n ≡ Some answer
    → IsSetAnswer sent gs (before ++ take n sets) set answer)
    → All (HasHeader sent.text sent.delims) sets
    → Together IsResponseTo (sets_with_earlier sent gs before sets) (map response_of answers)
sets_together sent gs before [] [] count each headers = tt
sets_together sent gs before [] (a ∷ more) count each headers = absurd (omega (arith, count))
sets_together sent gs before (set ∷ sets) [] count each headers = absurd (omega (arith, count))
sets_together sent gs before (set ∷ sets) (a ∷ more) count each headers =
    let P : SetEnvelope → Type 0 = HasHeader sent.text sent.delims in
    let first : IsSetAnswer sent gs before set a =
    subst (λ (b : List SetEnvelope). IsSetAnswer sent gs b set a) (append-nil before) (each 0 set a refl refl) in (
      response_to sent gs before set a first (All-head P set sets headers),
      sets_together sent gs (before ++ set ∷ []) sets more (omega (arith, count)) (λ n s x at_s at_x.
          subst (λ (b : List SetEnvelope). IsSetAnswer sent gs b s x) (sym (append_assoc before (set ∷ []) (take n sets)))
          (each (suc n) s x at_s at_x)) (All-tail P set sets headers),
    )

shown_together : (served : Bool) (sent : SentValue) (gs : SegValue) (sets : List SetEnvelope) (answers : List SetAnswer)
    → Together IsResponseTo (sets_with_earlier sent gs [] sets) (map response_of answers)
    → Together IsResponseTo (sets_with_earlier sent gs [] (if served then sets else [])) (shown_responses served answers)
shown_together true sent gs sets answers all = all
shown_together false sent gs sets answers all = tt

module _ (sent : SentValue) (before : List GroupEntry) (group : GroupEntry) (answered : AnsweredGroup)
    (is : IsGroupAnswer sent before group answered) (headers : All (HasHeader sent.text sent.delims) group.sets) where
  pub group_together : Together IsResponseTo (sets_in_group sent group) (shown_responses (shows_sets answered.answer.codes) answered.sets)
  group_together =
      let served : shows_sets answered.answer.codes ≡ is_served sent group =
      ap (λ (a : GroupAnswer). shows_sets a.codes) is.is ∙ shown_as_served sent (has_number_among before group) group in
      subst (λ (b : Bool). Together IsResponseTo (sets_in_group sent group) (shown_responses b answered.sets)) (sym served)
      (shown_together (is_served sent group) sent group.header group.sets answered.sets
      (sets_together sent group.header [] group.sets answered.sets is.sets.count is.sets.each headers))

  -- it can be quoted, since its elements are undivided, where its guides' names are
  pub group_quoted : (d : Delims) → CanDivide d → IsUndivided d (d.component ∷ []) → AreElementsUndivided d group
      → IsGroupQuotable d sent group → IsQuotable d answered.answer answered.sets
  group_quoted d can separator elements quotable = record {
    functional_id = subst (IsUndivided d) (sym (ap (λ (a : GroupAnswer). a.functional_id) is.is)) elements.functional_id;
    control = subst (IsUndivided d) (sym (ap (λ (a : GroupAnswer). a.control) is.is)) elements.control;
    version = subst (IsUndivided d) (sym (ap (λ (a : GroupAnswer). a.version) is.is)) elements.version;
    identifiers = each (λ s. IsUndivided d s.identifier) (λ n set s at_set one.
        identifier_quoted sent group.header (take n group.sets) set s one (header n set at_set) d (st n set at_set).0);
    controls = each (λ s. IsUndivided d s.control) (λ n set s at_set one.
        control_quoted sent group.header (take n group.sets) set s one (header n set at_set) d (st n set at_set).1);
    faults = each (λ s. All (IsQuotableFault d) s.faults) (λ n set s at_set one.
        faults_quoted sent group.header (take n group.sets) set s one (header n set at_set) d can separator
        (at_index (λ set. IfSome (guide_tree_of (guide_for_set sent.setup sent.sender (element_of group.header 1)
        (element_of group.header 8)
        (element_of set.header 1))) (IsGuideQuotable d)) group.sets n set at_set quotable));
  }
    where
      header : (n : ℕ) (set : SetEnvelope) → slice_get group.sets n ≡ Some set → HasHeader sent.text sent.delims set
      header n set at_set = at_index (HasHeader sent.text sent.delims) group.sets n set at_set headers

      st : (n : ℕ) (set : SetEnvelope) → slice_get group.sets n ≡ Some set
          → IsUndivided d (element_of set.header 1) × IsUndivided d (element_of set.header 2)
      st n set at_set =
          at_index (λ set. IsUndivided d (element_of set.header 1) × IsUndivided d (element_of set.header 2)) group.sets n set at_set
          elements.sets

      each : (P : SetAnswer → Type 0) → ((n : ℕ) (set : SetEnvelope) (s : SetAnswer) → slice_get group.sets n ≡ Some set
          → IsSetAnswer sent group.header (take n group.sets) set s → P s) → All P answered.sets
      each P tells =
          pairs_all (λ n set answer. IsSetAnswer sent group.header (take n group.sets) set answer) P group.sets answered.sets is.sets tells
