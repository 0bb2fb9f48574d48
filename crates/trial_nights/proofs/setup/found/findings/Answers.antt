-- What is asked of an interchange with one group of two sets.
use Rattle.std.proofs.Common.{◌≡◌, ℕ, Bool, true, false, ◌||◌, List, [], ◌∷◌, ◌++◌, Option, Some, None, length, get_or}
use Rattle.std.proofs.Common.{refl, sym, ap, ◌∙◌, subst, arith, append-nil, rules, true≢false}
use Rattle.std.proofs.lemmas.Option.{same_Some, slice_get_read}
use Rattle.std.specs.Prelude.{is_some, slice_get}
use Rattle.std.specs.List.{All, AllZip}
use Rattle.guide_tree.specs.declared.rows.GuideRows.{GuideRows}
use Rattle.x12_bytes.specs.Header.{header_delims}
use Rattle.x12_segs.specs.Words.{IsSetSpan, SegValue, element_of}
use Rattle.x12_segs.specs.declared.set_span.SetSpan.{SetSpan}
use Rattle.env_index.specs.Words.{IndexEntry, InterchangeEntry, HasSpans, span_of, GroupEntry}
use Rattle.env_index.specs.declared.entry.SetEnvelope.{SetEnvelope}
use Rattle.partner_setup.specs.Setup.{SetupValue, guide_for_set, sender_of}
use Rattle.set_check.specs.Codes.{control_of}
use Rattle.set_answers.specs.Answers.{SentValue, controls_of}
use Rattle.set_answers.specs.Asked.{Asked, IsFound, asked_of, entry_asked, entry_asked_by, group_asked, groups_asked, has_places}
use Rattle.set_answers.specs.Asked.{interchange_asked, is_duplicate, set_asked, sets_asked}
use Rattle.set_answers.specs.CheckedText.{sent_by}
use Rattle.set_answers.specs.Seen.{is_among}
use Rattle.set_answers.specs.Settled.{senders_of}
use Rattle.set_check.specs.declared.finding.Finding.{Finding}
use Rattle.set_answers.proofs.ForAbove.{at_index}
use Rattle.trial_nights.proofs.setup.found.findings.Goals as goal

one_item : {A : Type 0} (xs : List A) (x : A) → length xs ≡ 1 → slice_get xs 0 ≡ Some x → xs ≡ x ∷ []
one_item [] x count is = absurd (omega (arith, count))
one_item (y ∷ []) x count is = ap (λ z. z ∷ []) (same_Some y x is)
one_item (y ∷ z ∷ zs) x count is = absurd (omega (arith, count))

-- a list that is read as one of one item
alone : {A : Type 0} (xs read : List A) (x : A) → read ≡ xs → length read ≡ 1 → x ≡ get_or read 0 x → xs ≡ x ∷ []
alone xs read x same count is =
    sym same ∙ one_item read x count (slice_get_read read _ 0 x refl (omega (arith, count)) is)

two_items : {A : Type 0} (xs : List A) (x y : A) → length xs ≡ 2 → slice_get xs 0 ≡ Some x → slice_get xs 1 ≡ Some y → xs ≡ x ∷ y ∷ []
two_items [] x y count is other = absurd (omega (arith, count))
two_items (a ∷ []) x y count is other = absurd (omega (arith, count))
two_items (a ∷ b ∷ []) x y count is other = ap (λ z. z ∷ b ∷ []) (same_Some a x is) ∙ ap (λ z. x ∷ z ∷ []) (same_Some b y other)
two_items (a ∷ b ∷ c ∷ cs) x y count is other = absurd (omega (arith, count))

none_there : {A : Type 0} (o : Option A) → is_some o ≡ false → o ≡ None
none_there None is = refl
none_there (Some x) is = absurd (true≢false is)

or_false : (b : Bool) → b ≡ (b || false)
or_false true = refl
or_false false = refl

guide_alike : (setup : SetupValue) (sender : ℕ) (a a' b b' c c' : List ℕ) → a ≡ a' → b ≡ b' → c ≡ c'
    → guide_for_set setup sender a b c ≡ guide_for_set setup sender a' b' c'
guide_alike setup sender a a' b b' c c' id version set =
    ap (λ (t : List ℕ). guide_for_set setup sender t b c) id ∙ ap (λ (t : List ℕ). guide_for_set setup sender a' t c) version
    ∙ ap (guide_for_set setup sender a' b') set

-- a set of an index stands in its span
stands : (text : List ℕ) (es : List IndexEntry) (e : IndexEntry) (x : InterchangeEntry) (g : GroupEntry) (s : SetEnvelope) (k : ℕ)
    → All (λ e. HasSpans text e.interchange) es → es ≡ e ∷ [] → x ≡ e.interchange → slice_get x.content.groups 0 ≡ Some g
    → slice_get g.sets k ≡ Some s → IsSetSpan text (span_of (header_delims x.header) s)
stands text es e x g s k all single same group set =
    let first : slice_get es 0 ≡ Some e = ap (λ (l : List IndexEntry). slice_get l 0) single in
    let there : HasSpans text x = subst (λ (x : InterchangeEntry). HasSpans text x) (sym same)
    (at_index (λ (e : IndexEntry). HasSpans text e.interchange) es 0 e first all) in
    at_index (λ (s : SetEnvelope). IsSetSpan text (span_of (header_delims x.header) s)) g.sets k s set
    (at_index (λ (g : GroupEntry). All (λ s. IsSetSpan text (span_of (header_delims x.header) s)) g.sets) x.content.groups 0 g group there)

abbrev asked_with : (earlier : Bool) → (text : List ℕ) → SetSpan → Option GuideRows → Asked
asked_with earlier text span guide = record { earlier = earlier; set = Some (record { text = text; span = span; guide = guide }) }

-- what was found out about a set is what is asked of it
as_asked : (sent : SentValue) (gs : SegValue) (before : List SetEnvelope) (s : SetEnvelope) (earlier : Bool) (text : List ℕ)
    (span : SetSpan) (guide : Option GuideRows) (found : Finding) → text ≡ sent.text → span ≡ span_of sent.delims s
    → guide ≡ guide_for_set sent.setup sent.sender (element_of gs 1) (element_of gs 8) (element_of s.header 1)
    → earlier ≡ is_among (control_of s.header) (controls_of before) → IsFound (asked_with earlier text span guide) found
    → IsFound (set_asked sent gs before s) found
as_asked sent gs before s earlier text span guide found same at by was is =
    let asked : asked_with earlier text span guide ≡ set_asked sent gs before s =
    ap (λ b. asked_with b text span guide) was
    ∙ ap (λ t. asked_with (is_among (control_of s.header) (controls_of before)) t span guide) same
    ∙ ap (λ p. asked_with (is_among (control_of s.header) (controls_of before)) sent.text p guide) at
    ∙ ap (asked_with (is_among (control_of s.header) (controls_of before)) sent.text (span_of sent.delims s)) by in
    subst (λ (a : Asked). IsFound a found) asked is

four_asked : (text : List ℕ) (setup : SetupValue) (e : IndexEntry) (sender : ℕ) (g : GroupEntry) (a b : SetEnvelope) → e.fault ≡ None
    → sender_of setup e.interchange.header ≡ Some sender → e.interchange.content.groups ≡ g ∷ [] → g.sets ≡ a ∷ b ∷ []
    → asked_of text setup (e ∷ [])
    ≡ interchange_asked e ∷ group_asked [] g ∷ set_asked (sent_by text setup sender e) g.header [] a
    ∷ set_asked (sent_by text setup sender e) g.header (a ∷ []) b ∷ []
four_asked text setup e sender g a b clear known groups sets =
    let sent = sent_by text setup sender e in
    append-nil (entry_asked text setup e)
    ∙ ap (λ f. entry_asked_by text setup e (has_places f) (sender_of setup e.interchange.header)) clear
    ∙ ap (λ o. entry_asked_by text setup e true o) known
    ∙ ap (λ gs. interchange_asked e ∷ groups_asked sent [] gs) groups
    ∙ ap (λ ss. interchange_asked e ∷ group_asked [] g ∷ (sets_asked sent g.header [] ss ++ [])) sets

abbrev new_place : Finding
new_place = record { number = 0; place = record { isa = 1; gs = 0; st = 0 }; checked = None; earlier = false }

-- all of it was found out
all_found : (text : List ℕ) (setup : SetupValue) (es : List IndexEntry) (e : IndexEntry) (sender : ℕ) (g : GroupEntry) (a b : SetEnvelope)
    (one other : Finding) → es ≡ e ∷ [] → e.fault ≡ None → sender_of setup e.interchange.header ≡ Some sender
    → e.interchange.content.groups ≡ g ∷ [] → g.sets ≡ a ∷ b ∷ [] → IsFound (set_asked (sent_by text setup sender e) g.header [] a) one
    → IsFound (set_asked (sent_by text setup sender e) g.header (a ∷ []) b) other
    → AllZip IsFound (asked_of text setup es) (new_place ∷ new_place ∷ one ∷ other ∷ [])
all_found text setup es e sender g a b one other single clear known groups sets first second =
    subst (λ (l : List Asked). AllZip IsFound l (new_place ∷ new_place ∷ one ∷ other ∷ []))
    (sym (ap (asked_of text setup) single ∙ four_asked text setup e sender g a b clear known groups sets))
    (record { earlier = sym (ap is_duplicate clear); set = tt }, (record { earlier = refl; set = tt }, (first, (second, tt))))

pub set_found-requires : goal.set_found-requires
set_found-requires c =
    rw (c.text.ensures, c.span.ensures, c.delims-delims.ensures.value, c.header-2.ensures)
    (stands c.args.index.now.text c.args.index.now.entries c.index-entries-0.result c.interchange-interchange.result.now
    c.group-group.result c.set-first.result 0 c.requires
    (alone _ _ _ c.interchanges-entries.ensures.value c.if-entries-ne1.false c.index-entries-0.is)
    c.interchange-interchange.ensures.value c.group-group.ensures c.set-first.ensures)

pub set_found-requires-2 : goal.set_found-requires-2
set_found-requires-2 c =
    rw (c.text-2.ensures, c.span-2.ensures, c.delims-delims.ensures.value, c.header-2.ensures)
    (stands c.args.index.now.text c.args.index.now.entries c.index-entries-0.result c.interchange-interchange.result.now
    c.group-group.result c.set-second.result 1 c.requires
    (alone _ _ _ c.interchanges-entries.ensures.value c.if-entries-ne1.false c.index-entries-0.is)
    c.interchange-interchange.ensures.value c.group-group.ensures c.set-second.ensures)

pub returns : goal.returns
returns c =
    let text : List ℕ = c.args.index.now.text in
    let entries : List IndexEntry = c.args.index.now.entries in
    let e : IndexEntry = c.index-entries-0.result in
    let setup : SetupValue = c.args.setup.now in
    let sender = c.in_ok-sender.sender in
    let g : GroupEntry = c.group-group.result in
    let single : entries ≡ e ∷ [] = alone _ _ _ c.interchanges-entries.ensures.value c.if-entries-ne1.false c.index-entries-0.is in
    let clear : e.fault ≡ None = none_there e.fault (search rules) in
    let known : c.sender_of.result ≡ Some sender = search rules in
    let same = c.interchange-interchange.ensures.value in
    let from : sender_of setup e.interchange.header ≡ Some sender =
    ap (λ (x : InterchangeEntry). sender_of setup x.header) (sym same) ∙ ap (sender_of setup) (sym c.header.ensures)
    ∙ sym c.sender_of.ensures.sender ∙ known in
    let groups : e.interchange.content.groups ≡ g ∷ [] =
    ap (λ (x : InterchangeEntry). x.content.groups) (sym same)
    ∙ one_item c.interchange-interchange.result.now.content.groups g (sym c.group_count.ensures ∙ c.if-group_count-ne1.false)
    c.group-group.ensures in
    let sets : g.sets ≡ c.set-first.result ∷ c.set-second.result ∷ [] =
    two_items g.sets c.set-first.result c.set-second.result (sym c.set_count.ensures ∙ c.if-set_count-ne2.false) c.set-first.ensures
    c.set-second.ensures in
    let delims : c.delims-delims.result ≡ header_delims e.interchange.header =
    c.delims-delims.ensures.value ∙ ap header_delims (c.header-2.ensures ∙ ap (λ (x : InterchangeEntry). x.header) same) in
    let id : c.element-id.result.now ≡ element_of g.header 1 =
    c.element-id.ensures.value ∙ ap (λ h. element_of h 1) c.header-header.ensures in
    let version : c.element-version.result.now ≡ element_of g.header 8 =
    c.element-version.ensures.value ∙ ap (λ h. element_of h 8) c.header-header.ensures in
    let first : IsFound (set_asked (sent_by text setup sender e) g.header [] c.set-first.result) c.in_ok-one.one =
    as_asked (sent_by text setup sender e) g.header [] c.set-first.result false _ _ _ c.in_ok-one.one c.text.ensures
    (c.span.ensures ∙ ap (λ d. span_of d c.set-first.result) delims)
    (c.guide_of-guide.ensures ∙ guide_alike setup sender _ _ _ _ _ _ id version c.element.ensures.value) refl
    c.in_ok-one.ensures in
    let second : IsFound (set_asked (sent_by text setup sender e) g.header (c.set-first.result ∷ []) c.set-second.result)
    c.in_ok-other.other =
    as_asked (sent_by text setup sender e) g.header (c.set-first.result ∷ []) c.set-second.result _ _ _ _
    c.in_ok-other.other c.text-2.ensures (c.span-2.ensures ∙ ap (λ d. span_of d c.set-second.result) delims)
    (c.guide_of-guide-2.ensures ∙ guide_alike setup sender _ _ _ _ _ _ id version c.element-2.ensures.value)
    (c.has_number_of-earlier.ensures ∙ or_false _) c.in_ok-other.ensures in
    record {
      senders = c.in_ok-listed.ensures.senders ∙ sym (ap (senders_of setup) single ∙ ap (λ (s : Option ℕ). s ∷ []) from);
      findings =
          subst (λ (found : List Finding). AllZip IsFound (asked_of text setup entries) found) (sym c.in_ok-listed.ensures.findings)
          (all_found text setup entries e sender g c.set-first.result c.set-second.result c.in_ok-one.one c.in_ok-other.other single clear
          from groups sets first second);
    }
