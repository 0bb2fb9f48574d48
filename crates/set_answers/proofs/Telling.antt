-- What is asked of the places of an index follows from first uses of numbers, place by place.
use Rattle.std.proofs.Common.{◌≡◌, ℕ, ◌+◌, List, [], ◌∷◌, ◌++◌, Bool, true, false, Option, Some, None, length, take, map, refl}
use Rattle.std.proofs.Common.{ap, sym, subst, ◌∙◌, arith, true≢false}
use Rattle.std.specs.Prelude.{◌↔◌, slice_get, is_none, is_some}
use Rattle.std.specs.List.{All, AllZip}
use Rattle.std.proofs.lemmas.List.{append_assoc}
use Rattle.hub_kinds.specs.declared.interchange.InterchangeFault.{InterchangeFault}
use Rattle.hub_kinds.specs.declared.interchange.InterchangeFault.TheVariants.{Duplicate, TrailerMissing, ControlNumberInvalid}
use Rattle.hub_kinds.specs.declared.interchange.InterchangeFault.TheVariants.{ControlNumbersDiffer, GroupCountWrong, SegmentMisplaced}
use Rattle.hub_kinds.specs.declared.interchange.InterchangeFault.TheVariants.{GroupHeaderInvalid, SetHeaderInvalid, SenderUnknown}
use Rattle.x12_segs.specs.Words.{SegValue}
use Rattle.env_index.specs.Words.{IndexEntry, IsEntryOf, group_numbers_from, interchange_places, is_indexed, kept_places, place_at}
use Rattle.env_index.specs.Words.{places_from}
use Rattle.env_index.specs.Words.{set_numbers_from, with_fault, with_faults, GroupEntry}
use Rattle.env_index.specs.declared.entry.SetEnvelope.{SetEnvelope}
use Rattle.partner_setup.specs.Setup.{SetupValue, sender_of}
use Rattle.set_check.specs.Codes.{control_of}
use Rattle.set_answers.specs.Answers.{SentValue, controls_of, has_number_among}
use Rattle.set_answers.specs.Asked.{IsAskedAt, asked_of, entry_asked, entry_asked_by, groups_asked, has_places}
use Rattle.set_answers.specs.Asked.{is_duplicate, sets_asked}
use Rattle.set_answers.specs.CheckedText.{sent_by}
use Rattle.set_answers.specs.FirstUse.{AreNumbersByPlace, AreToldByFirstUse, IsUsedEarlier, knows}
use Rattle.set_answers.specs.Seen.{is_among}
use Rattle.set_answers.specs.Settled.{fault_alone, fault_behind, fault_if_earlier, fault_with_sender, faults_from, kept_keys}
use Rattle.set_answers.specs.Settled.{interchange_key_of}
use Rattle.set_answers.proofs.Duplicates.{alone_is_indexed, by_differs, earlier_interchange, entry_is, sender_differs, told_by_first_use}
use Rattle.set_answers.proofs.Growing.{length_snoc}
use Rattle.set_answers.proofs.Zipping.{zip_append}

at_end : {A : Type 0} (xs ys : List A) (x : A) → slice_get (xs ++ x ∷ ys) (length xs) ≡ Some x
at_end [] ys x = refl
at_end (y ∷ xs) ys x = at_end xs ys x

take_end : {A : Type 0} (xs ys : List A) → take (length xs) (xs ++ ys) ≡ xs
take_end [] ys = refl
take_end (x ∷ xs) ys = ap (λ l. x ∷ l) (take_end xs ys)

module _ (setup : SetupValue) (es : List IndexEntry) where
  -- the sets of a group that are left, after these
  sets_told : (isa gs : ℕ) (sent : SentValue) (header : SegValue) (all before sets : List SetEnvelope) (st : ℕ) → all ≡ before ++ sets
      → ((j : ℕ) (set : SetEnvelope) → slice_get all j ≡ Some set
      → (is_among (control_of set.header) (controls_of (take j all)) ≡ true) ↔ IsUsedEarlier setup es (place_at isa gs (1 + j)))
      → st ≡ 1 + length before → AllZip (IsAskedAt setup es) (set_numbers_from isa gs st sets) (sets_asked sent header before sets)
  sets_told isa gs sent header all before [] st is told counted = tt
  sets_told isa gs sent header all before (set ∷ sets) st is told counted =
      let there : slice_get all (length before) ≡ Some set = ap (λ l. slice_get l (length before)) is ∙ at_end before sets set in
      let front : take (length before) all ≡ before = ap (λ l. take (length before) l) is ∙ take_end before (set ∷ sets) in
      let h = told (length before) set there in
      let here = subst (λ l. (is_among (control_of set.header) (controls_of l) ≡ true) ↔ IsUsedEarlier setup es
      (place_at isa gs (1 + length before))) front h in (
        subst (λ n. (is_among (control_of set.header) (controls_of before) ≡ true) ↔ IsUsedEarlier setup es (place_at isa gs n))
            (sym counted) here,
        sets_told isa gs sent header all (before ++ set ∷ []) sets (st + 1) (is ∙ sym (append_assoc before (set ∷ []) sets)) told
            (omega (arith, counted, length_snoc before set)),
      )

  -- the groups of an interchange that are left, after these
  groups_told : (n : ℕ) (sent : SentValue) (all before groups : List GroupEntry) (gs : ℕ) → all ≡ before ++ groups
      → AreNumbersByPlace setup es n all → gs ≡ 1 + length before
      → AllZip (IsAskedAt setup es) (group_numbers_from (1 + n) gs groups) (groups_asked sent before groups)
  groups_told n sent all before [] gs is told counted = tt
  groups_told n sent all before (group ∷ groups) gs is told counted =
      let there : slice_get all (length before) ≡ Some group = ap (λ l. slice_get l (length before)) is ∙ at_end before groups group in
      let front : take (length before) all ≡ before = ap (λ l. take (length before) l) is ∙ take_end before (group ∷ groups) in
      let h = told.groups_told (length before) group there in
      let here = subst (λ l. (has_number_among l group ≡ true) ↔ IsUsedEarlier setup es (place_at (1 + n) (1 + length before) 0)) front h in
      let sets = sets_told (1 + n) (1 + length before) sent group.header group.sets [] group.sets 1 refl
      (λ j set at. told.sets_told (length before) group j set there at) refl in (
        subst (λ k. (has_number_among before group ≡ true) ↔ IsUsedEarlier setup es (place_at (1 + n) k 0)) (sym counted) here,
        zip_append (IsAskedAt setup es) (set_numbers_from (1 + n) gs 1 group.sets) (group_numbers_from (1 + n) (gs + 1) groups)
            (sets_asked sent group.header [] group.sets) (groups_asked sent (before ++ group ∷ []) groups)
            (subst (λ k. AllZip (IsAskedAt setup es) (set_numbers_from (1 + n) k 1 group.sets) (sets_asked sent group.header [] group.sets))
            (sym counted) sets)
            (groups_told n sent all (before ++ group ∷ []) groups (gs + 1) (is ∙ sym (append_assoc before (group ∷ []) groups)) told
            (omega (arith, counted, length_snoc before group))),
      )

  no_places : (f : InterchangeFault) → (Some f ≡ Some Duplicate → ⊥) → has_places (Some f) ≡ false
  no_places TrailerMissing d = refl
  no_places ControlNumberInvalid d = refl
  no_places ControlNumbersDiffer d = refl
  no_places GroupCountWrong d = refl
  no_places SegmentMisplaced d = refl
  no_places GroupHeaderInvalid d = refl
  no_places SetHeaderInvalid d = refl
  no_places SenderUnknown d = refl
  no_places Duplicate d = absurd (d refl)

  duplicate_places : (b : Bool) → has_places (fault_if_earlier None b) ≡ true
  duplicate_places true = refl
  duplicate_places false = refl

  duplicate_is : (b : Bool) → is_duplicate (fault_if_earlier None b) ≡ b
  duplicate_is true = refl
  duplicate_is false = refl

  -- what is asked of an interchange that has places is reported of it
  kept_told : (text : List ℕ) (n : ℕ) (e : IndexEntry) (fault : Option InterchangeFault) (sender : Option ℕ) → is_some sender ≡ true
      → ((is_duplicate fault ≡ true) ↔ IsUsedEarlier setup es (place_at (1 + n) 0 0))
      → AreNumbersByPlace setup es n e.interchange.content.groups
      → AllZip (IsAskedAt setup es) (kept_places true (1 + n) e.interchange) (entry_asked_by text setup (with_fault e fault) true sender)
  kept_told text n e fault None known own told = absurd (true≢false (sym known))
  kept_told text n e fault (Some sender) known own told = (
    own,
    groups_told n (sent_by text setup sender (with_fault e fault)) e.interchange.content.groups [] e.interchange.content.groups 1 refl
        told refl,
  )

known_by : (fault : Option InterchangeFault) (sender : Option ℕ) → fault_with_sender fault sender ≡ None → is_some sender ≡ true
known_by None None h = cc
known_by None (Some sender) h = refl
known_by (Some fault) sender h = cc

module _ (text : List ℕ) (setup : SetupValue) (es : List IndexEntry) (all : All (IsEntryOf text) es) where
  told : AreToldByFirstUse setup es
  told = told_by_first_use text setup es all

  module _ (n : ℕ) (e : IndexEntry) (there : slice_get es n ≡ Some e) (before : List IndexEntry) (front : take n es ≡ before) where
    abbrev fault : Option InterchangeFault
    fault = fault_behind setup before e

    indexed_is : is_none (fault_alone setup e) ≡ is_indexed (knows setup) e.interchange
    indexed_is = alone_is_indexed text setup e (entry_is text es n e all there)

    with_places : fault_alone setup e ≡ None
        → AllZip (IsAskedAt setup es) (interchange_places (knows setup) (1 + n) e.interchange) (entry_asked text setup (with_fault e fault))
    with_places none =
        let indexed : is_indexed (knows setup) e.interchange ≡ true = sym indexed_is ∙ ap is_none none in
        let known : is_some (sender_of setup e.interchange.header) ≡ true = known_by e.fault (sender_of setup e.interchange.header) none in
        let earlier = is_among (interchange_key_of e) (kept_keys setup before) in
        let is : fault ≡ fault_if_earlier None earlier = ap (λ o. fault_if_earlier o earlier) none in
        let used = earlier_interchange text setup es n e all there indexed in
        let own = subst (λ l. (is_among (interchange_key_of e) (kept_keys setup l) ≡ true) ↔ IsUsedEarlier setup es (place_at
        (1 + n) 0 0)) front used
        in
        let dup : is_duplicate fault ≡ earlier = ap is_duplicate is ∙ duplicate_is setup es earlier in
        let own' : (is_duplicate fault ≡ true) ↔ IsUsedEarlier setup es (place_at (1 + n) 0 0) =
        (λ h. own.0 (sym dup ∙ h), λ h. dup ∙ own.1 h) in
        let kept = kept_told setup es text n e fault (sender_of setup e.interchange.header) known own' (told.within n e there none) in
        let places : has_places fault ≡ true = ap has_places is ∙ duplicate_places setup es earlier in
        subst (λ b. AllZip (IsAskedAt setup es) (kept_places b (1 + n) e.interchange) (entry_asked text setup (with_fault e fault)))
        (sym indexed)
        (subst (λ b. AllZip (IsAskedAt setup es) (kept_places true (1 + n) e.interchange)
        (entry_asked_by text setup (with_fault e fault) b (sender_of setup e.interchange.header))) (sym places) kept)

    without_places : (f : InterchangeFault) → fault_alone setup e ≡ Some f
        → AllZip (IsAskedAt setup es) (interchange_places (knows setup) (1 + n) e.interchange) (entry_asked text setup (with_fault e fault))
    without_places f some =
        let indexed : is_indexed (knows setup) e.interchange ≡ false = sym indexed_is ∙ ap is_none some in
        let earlier = is_among (interchange_key_of e) (kept_keys setup before) in
        let is : fault ≡ Some f = ap (λ o. fault_if_earlier o earlier) some in
        let differs : Some f ≡ Some Duplicate → ⊥ = λ d. sender_differs e.fault (sender_of setup e.interchange.header)
        (λ h. by_differs e.interchange e.interchange.content.trailer (sym (entry_is text es n e all there).fault ∙ h)) (some ∙ d) in
        let places : has_places fault ≡ false = ap has_places is ∙ no_places setup es f differs in
        subst (λ b. AllZip (IsAskedAt setup es) (kept_places b (1 + n) e.interchange) (entry_asked text setup (with_fault e fault)))
        (sym indexed)
        (subst (λ b. AllZip (IsAskedAt setup es) [] (entry_asked_by text setup (with_fault e fault) b
        (sender_of setup e.interchange.header))) (sym places) tt)

    entry_by : (o : Option InterchangeFault) → fault_alone setup e ≡ o
        → AllZip (IsAskedAt setup es) (interchange_places (knows setup) (1 + n) e.interchange) (entry_asked text setup (with_fault e fault))
    entry_by None is = with_places is
    entry_by (Some f) is = without_places f is

  entries_told : (before rest : List IndexEntry) (isa : ℕ) → es ≡ before ++ rest → isa ≡ 1 + length before
      → AllZip (IsAskedAt setup es) (places_from (knows setup) isa (map (λ (e : IndexEntry). e.interchange) rest))
      (asked_of text setup (with_faults rest (faults_from setup before rest)))
  entries_told before [] isa is counted = tt
  entries_told before (e ∷ rest) isa is counted =
      let there : slice_get es (length before) ≡ Some e = ap (λ l. slice_get l (length before)) is ∙ at_end before rest e in
      let front : take (length before) es ≡ before = ap (λ l. take (length before) l) is ∙ take_end before (e ∷ rest) in
      let here = entry_by (length before) e there before front (fault_alone setup e) refl in
      zip_append (IsAskedAt setup es) (interchange_places (knows setup) isa e.interchange)
      (places_from (knows setup) (isa + 1) (map (λ (x : IndexEntry). x.interchange) rest))
      (entry_asked text setup (with_fault e (fault_behind setup before e)))
      (asked_of text setup (with_faults rest (faults_from setup (before ++ e ∷ []) rest)))
      (subst (λ k. AllZip (IsAskedAt setup es) (interchange_places (knows setup) k e.interchange)
      (entry_asked text setup (with_fault e (fault_behind setup before e)))) (sym counted) here)
      (entries_told (before ++ e ∷ []) rest (isa + 1) (is ∙ sym (append_assoc before (e ∷ []) rest))
      (omega (arith, counted, length_snoc before e)))

  pub asked_told : AllZip (IsAskedAt setup es) (places_from (knows setup) 1 (map (λ (e : IndexEntry). e.interchange) es))
      (asked_of text setup (with_faults es (faults_from setup [] es)))
  asked_told = entries_told [] es 1 refl refl
