-- What is asked of the places of an index, whichever of its interchanges have the fault 9.
use Rattle.std.proofs.Common.{◌≡◌, ℕ, ◌+◌, ◌-◌, ◌≤◌, List, [], ◌∷◌, ◌++◌, Bool, true, false, Option, Some, None, length, refl, sym, ap}
use Rattle.std.proofs.Common.{◌∙◌, subst, arith}
use Rattle.std.specs.Prelude.{◌↔◌, is_none, is_some, slice_get}
use Rattle.std.specs.List.{All, AllByRecursion, AllZip}
use Rattle.std.proofs.lemmas.List.{append_assoc, length-append}
use Rattle.std.proofs.lemmas.List.Elements.{recursion_from_All}
use Rattle.hub_kinds.specs.declared.interchange.InterchangeFault.{InterchangeFault}
use Rattle.hub_kinds.specs.declared.interchange.InterchangeFault.TheVariants.{Duplicate, TrailerMissing, ControlNumberInvalid}
use Rattle.hub_kinds.specs.declared.interchange.InterchangeFault.TheVariants.{ControlNumbersDiffer, GroupCountWrong, SegmentMisplaced}
use Rattle.hub_kinds.specs.declared.interchange.InterchangeFault.TheVariants.{GroupHeaderInvalid, SetHeaderInvalid, SenderUnknown}
use Rattle.hub_kinds.specs.declared.place.Place.{Place}
use Rattle.x12_segs.specs.Words.{SegValue}
use Rattle.env_index.specs.Words.{GroupEntry, IndexEntry, IsEntryOf, IsFirstUse, Numbered, fault_of, fault_or_unknown}
use Rattle.env_index.specs.Words.{faults_to_eight, group_numbers_from, index_places, interchanges_of, kept_places, places_behind}
use Rattle.env_index.specs.Words.{set_numbers_from}
use Rattle.env_index.specs.Words.{with_fault, with_faults}
use Rattle.env_index.specs.declared.entry.SetEnvelope.{SetEnvelope}
use Rattle.env_index.proofs.ForAbove.{places_one}
use Rattle.partner_setup.specs.Setup.{SetupValue, sender_of}
use Rattle.set_answers.specs.Answers.{SentValue}
use Rattle.set_answers.specs.Asked.{Asked, asked_of, entry_asked_by, groups_asked, has_places, is_duplicate}
use Rattle.set_answers.specs.Asked.{sets_asked}
use Rattle.set_answers.specs.CheckedText.{sent_by}
use Rattle.set_answers.specs.FirstUse.{knows}
use Rattle.set_answers.specs.Seen.{is_among}
use Rattle.set_answers.specs.Settled.{fault_if_earlier, fault_with_sender, faults_from, kept_keys, interchange_key_of}
use Rattle.set_answers.proofs.ForAbove.{by_differs, length_snoc, asked_told}
use Rattle.set_findings.specs.Alone.{AreSettledBy, entries_alone, faults_alone}
use Rattle.set_findings.specs.Flags.{has_fault, has_some}
use Rattle.set_findings.proofs.Zipped.{zip_append}

-- of a place among these: at an interchange's it is asked by its fault, at a group's or a set's by the first use of its number
pub record IsAskedBy (places : List Numbered) (faults : List (Option InterchangeFault)) (n : Numbered) (asked : Asked) : Type 0 where
  pub interchange : n.place.gs ≡ 0 → asked.earlier ≡ has_fault faults n.place.isa
  pub within : 1 ≤ n.place.gs → (asked.earlier ≡ true) ↔ ((q : Place) × IsFirstUse places n.place q)

abbrev pub IsAskedIn : List Numbered → Numbered → Asked → Type 0
IsAskedIn places n asked = (asked.earlier ≡ true) ↔ ((q : Place) × IsFirstUse places n.place q)

zip_split : {A B : Type 0} (R : A → B → Type 0) (xs xs' : List A) (ys ys' : List B) → length xs ≡ length ys
    → AllZip R (xs ++ xs') (ys ++ ys') → AllZip R xs ys × AllZip R xs' ys'
zip_split R [] xs' [] ys' same h = (tt, h)
zip_split R [] xs' (y ∷ ys) ys' same h = absurd (omega (arith, same))
zip_split R (x ∷ xs) xs' [] ys' same h = absurd (omega (arith, same))
zip_split R (x ∷ xs) xs' (y ∷ ys) ys' same h =
    let more = zip_split R xs xs' ys ys' (omega (arith, same)) h.1 in
    ((h.0, more.0), more.1)

pub sets_long : (isa gs st : ℕ) (sent : SentValue) (header : SegValue) (before sets : List SetEnvelope)
    → length (set_numbers_from isa gs st sets) ≡ length (sets_asked sent header before sets)
sets_long isa gs st sent header before [] = refl
sets_long isa gs st sent header before (set ∷ sets) =
    let more = sets_long isa gs (st + 1) sent header (before ++ set ∷ []) sets in omega (arith, more)

pub groups_long : (isa gs : ℕ) (sent : SentValue) (before groups : List GroupEntry)
    → length (group_numbers_from isa gs groups) ≡ length (groups_asked sent before groups)
groups_long isa gs sent before [] = refl
groups_long isa gs sent before (group ∷ groups) =
    let own = sets_long isa gs 1 sent group.header [] group.sets in
    let more = groups_long isa (gs + 1) sent (before ++ group ∷ []) groups in
    let left = length-append (set_numbers_from isa gs 1 group.sets) (group_numbers_from isa (gs + 1) groups) in
    let right = length-append (sets_asked sent group.header [] group.sets) (groups_asked sent (before ++ group ∷ []) groups) in
    omega (arith, own, more, left, right)

abbrev pub IsWithin : Numbered → Type 0
IsWithin n = 1 ≤ n.place.gs

within_append : (xs ys : List Numbered) → AllByRecursion IsWithin xs → AllByRecursion IsWithin ys → AllByRecursion IsWithin (xs ++ ys)
within_append [] ys h k = k
within_append (x ∷ xs) ys h k = (h.0, within_append xs ys h.1 k)

sets_within : (isa gs st : ℕ) (sets : List SetEnvelope) → 1 ≤ gs → AllByRecursion IsWithin (set_numbers_from isa gs st sets)
sets_within isa gs st [] h = tt
sets_within isa gs st (set ∷ sets) h = (h, sets_within isa gs (st + 1) sets h)

groups_within : (isa gs : ℕ) (groups : List GroupEntry) → 1 ≤ gs → AllByRecursion IsWithin (group_numbers_from isa gs groups)
groups_within isa gs [] h = tt
groups_within isa gs (group ∷ groups) h = (
  h,
  within_append (set_numbers_from isa gs 1 group.sets) (group_numbers_from isa (gs + 1) groups) (sets_within isa gs 1 group.sets h)
      (groups_within isa (gs + 1) groups (omega (arith, h))),
)

by_first_use : (places : List Numbered) (faults : List (Option InterchangeFault)) (xs : List Numbered) (ys : List Asked)
    → AllByRecursion IsWithin xs → AllZip (IsAskedIn places) xs ys → AllZip (IsAskedBy places faults) xs ys
by_first_use places faults [] [] w h = tt
by_first_use places faults [] (y ∷ ys) w h = absurd h
by_first_use places faults (x ∷ xs) [] w h = absurd h
by_first_use places faults (x ∷ xs) (y ∷ ys) w h = (
  record { interchange = λ none. absurd (omega (arith, none, w.0)); within = λ some. h.0 },
  by_first_use places faults xs ys w.1 h.1,
)

no_places : (f : InterchangeFault) → (Some f ≡ Some Duplicate → ⊥) → has_places (Some f) ≡ false
no_places TrailerMissing d = refl
no_places ControlNumberInvalid d = refl
no_places ControlNumbersDiffer d = refl
no_places GroupCountWrong d = refl
no_places SegmentMisplaced d = refl
no_places GroupHeaderInvalid d = refl
no_places SetHeaderInvalid d = refl
no_places SenderUnknown d = refl
no_places Duplicate d = absurd (d refl)

duplicate_places : (b : Bool) → has_places (fault_if_earlier None b) ≡ true
duplicate_places true = refl
duplicate_places false = refl

-- an interchange has places where it has none of the faults 1 to 8
pub has_is : (fault : Option InterchangeFault) (sender : Option ℕ) (b : Bool) → (fault ≡ Some Duplicate → ⊥)
    → has_places (fault_if_earlier (fault_with_sender fault sender) b) ≡ is_none (fault_with_sender fault sender)
has_is (Some f) sender b differs = no_places f differs
has_is None None b differs = refl
has_is None (Some s) b differs = duplicate_places b

duplicate_is : (f : Option InterchangeFault) → is_duplicate f ≡ is_some f
duplicate_is None = refl
duplicate_is (Some f) = refl

pub differs : (text : List ℕ) (e : IndexEntry) → IsEntryOf text e → e.fault ≡ Some Duplicate → ⊥
differs text e is h = by_differs e.interchange e.interchange.content.trailer (sym is.fault ∙ h)

module _ (text : List ℕ) (setup : SetupValue) (places : List Numbered) (faults : List (Option InterchangeFault)) where
  -- what is asked of an interchange with one fault of 1 to 9, and what with another
  entry_asks : (isa : ℕ) (e : IndexEntry) (fault : Option InterchangeFault) (sender : Option ℕ) (f g : Option InterchangeFault)
      → is_duplicate f ≡ has_fault faults isa → (rest : List Numbered) (more more' : List Asked)
      → (AllZip (IsAskedIn places) rest more → AllZip (IsAskedBy places faults) rest more')
      → AllZip (IsAskedIn places) (kept_places (is_none (fault_with_sender fault sender)) isa e.interchange ++ rest)
      (entry_asked_by text setup (with_fault e g) (is_none (fault_with_sender fault sender)) sender ++ more)
      → AllZip (IsAskedBy places faults) (kept_places (is_none (fault_with_sender fault sender)) isa e.interchange ++ rest)
      (entry_asked_by text setup (with_fault e f) (is_none (fault_with_sender fault sender)) sender ++ more')
  entry_asks isa e (Some x) sender f g told rest more more' go h = go h
  entry_asks isa e None None f g told rest more more' go h = go h
  entry_asks isa e None (Some s) f g told rest more more' go h =
      let groups : List GroupEntry = e.interchange.content.groups in
      let sent : SentValue = sent_by text setup s e in
      let parts = zip_split (IsAskedIn places) (group_numbers_from isa 1 groups) rest (groups_asked sent [] groups) more
      (groups_long isa 1 sent [] groups) h.1 in (
        record { interchange = λ none. told; within = λ some. absurd (omega (arith, some)) },
        zip_append (IsAskedBy places faults) (group_numbers_from isa 1 groups) rest (groups_asked sent [] groups) more'
            (by_first_use places faults (group_numbers_from isa 1 groups) (groups_asked sent [] groups)
            (groups_within isa 1 groups (omega arith)) parts.0)
            (go parts.1),
      )

  at_end : {A : Type 0} (xs ys : List A) (x : A) → slice_get (xs ++ x ∷ ys) (length xs) ≡ Some x
  at_end [] ys x = refl
  at_end (y ∷ xs) ys x = at_end xs ys x

  there : (isa : ℕ) (before fs : List (Option InterchangeFault)) (f : Option InterchangeFault) → faults ≡ before ++ f ∷ fs
      → isa ≡ 1 + length before → is_duplicate f ≡ has_fault faults isa
  there isa before fs f is counted =
      let place : isa - 1 ≡ length before = omega (arith, counted) in
      let at : slice_get faults (isa - 1) ≡ Some f
      = ap (λ (n : ℕ). slice_get faults n) place ∙ ap (λ (l : List (Option InterchangeFault)). slice_get l (length before)) is
      ∙ at_end before fs f in
      duplicate_is f ∙ sym (ap has_some at)

  entries_ask : (isa : ℕ) (before fs gs : List (Option InterchangeFault)) (es : List IndexEntry) → faults ≡ before ++ fs
      → isa ≡ 1 + length before → AllByRecursion (IsEntryOf text) es → AreSettledBy setup es fs → AreSettledBy setup es gs
      → AllZip (IsAskedIn places) (places_behind isa (entries_alone setup es)) (asked_of text setup (with_faults es gs))
      → AllZip (IsAskedBy places faults) (places_behind isa (entries_alone setup es)) (asked_of text setup (with_faults es fs))
  entries_ask isa before fs gs [] is counted all by also h = tt
  entries_ask isa before [] gs (e ∷ es) is counted all by also h = absurd by
  entries_ask isa before (f ∷ fs) [] (e ∷ es) is counted all by also h = absurd also
  entries_ask isa before (f ∷ fs) (g ∷ gs) (e ∷ es) is counted all by also h =
      let sender : Option ℕ = sender_of setup e.interchange.header in
      let kept : Bool = is_none (fault_with_sender e.fault sender) in
      let one = differs text e all.0 in
      let hf : has_places f ≡ kept = ap has_places by.0.1 ∙ has_is e.fault sender by.0.0 one in
      let hg : has_places g ≡ kept = ap has_places also.0.1 ∙ has_is e.fault sender also.0.0 one in
      let rest : List Numbered = places_behind (isa + 1) (entries_alone setup es) in
      let more : List Asked = asked_of text setup (with_faults es gs) in
      let more' : List Asked = asked_of text setup (with_faults es fs) in
      let here : List Numbered = kept_places kept isa e.interchange in
      subst (λ (b : Bool). AllZip (IsAskedBy places faults) (here ++ rest)
      (entry_asked_by text setup (with_fault e f) b sender ++ more')) (sym hf)
      (entry_asks isa e e.fault sender f g (there isa before fs f is counted) rest more more'
      (entries_ask (isa + 1) (before ++ f ∷ []) fs gs es (is ∙ sym (append_assoc before (f ∷ []) fs))
      (omega (arith, counted, length_snoc before f)) all.1 by.1 also.1)
      (subst (λ (b : Bool). AllZip (IsAskedIn places) (here ++ rest) (entry_asked_by text setup (with_fault e g) b sender ++ more)) hg h))

settled_from : (setup : SetupValue) (before es : List IndexEntry) → AreSettledBy setup es (faults_from setup before es)
settled_from setup before [] = tt
settled_from setup before (e ∷ es) =
    ((is_among (interchange_key_of e) (kept_keys setup before), refl), settled_from setup (before ++ e ∷ []) es)

alone_is : (fault : Option InterchangeFault) (sender : Option ℕ) → fault_with_sender fault sender ≡ fault_or_unknown fault (is_some sender)
alone_is (Some f) sender = refl
alone_is None None = refl
alone_is None (Some s) = refl

to_eight : (text : List ℕ) (setup : SetupValue) (es : List IndexEntry) → AllByRecursion (IsEntryOf text) es
    → faults_alone setup es ≡ faults_to_eight (knows setup) es
to_eight text setup [] all = refl
to_eight text setup (e ∷ es) all =
    let sender : Option ℕ = sender_of setup e.interchange.header in
    ap (λ (f : Option InterchangeFault). f ∷ faults_alone setup es)
    (alone_is e.fault sender ∙ ap (λ (f : Option InterchangeFault). fault_or_unknown f (is_some sender)) all.0.fault)
    ∙ ap (λ (fs : List (Option InterchangeFault)). fault_or_unknown (fault_of e.interchange) (is_some sender) ∷ fs)
    (to_eight text setup es all.1)

-- one question at each place, answered by the fault 9 or by the first use of the place's number
pub all_asked : (text : List ℕ) (setup : SetupValue) (es : List IndexEntry) (faults : List (Option InterchangeFault))
    → All (IsEntryOf text) es → AreSettledBy setup es faults
    → AllZip (IsAskedBy (places_behind 1 (entries_alone setup es)) faults) (places_behind 1 (entries_alone setup es))
    (asked_of text setup (with_faults es faults))
all_asked text setup es faults all by =
    let each = recursion_from_All (IsEntryOf text) es all in
    let settled = faults_from setup [] es in
    let same : places_behind 1 (entries_alone setup es) ≡ index_places (knows setup) (interchanges_of es)
    = ap (λ (fs : List (Option InterchangeFault)). places_behind 1 (with_faults es fs)) (to_eight text setup es each)
    ∙ places_one (knows setup) 1 es in
    let told = subst (λ (l : List Numbered). AllZip (IsAskedIn l) l (asked_of text setup (with_faults es settled))) (sym same)
    (asked_told text setup es all) in
    entries_ask text setup (places_behind 1 (entries_alone setup es)) faults 1 [] faults settled es refl refl each by
    (settled_from setup [] es) told
