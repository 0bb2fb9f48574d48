-- What is reported of earlier numbers of interchanges, groups and sets follows from the first uses of numbers.
use Rattle.std.proofs.Common.{◌≡◌, ℕ, zero, suc, ◌+◌, ◌<◌, inl, inr, List, [], ◌∷◌, ◌++◌, Bool, true, false, refl, ap, sym, ◌∙◌, subst}
use Rattle.std.proofs.Common.{arith}
use Rattle.std.proofs.Common.{Some, None, Option}
use Rattle.std.specs.Prelude.{◌↔◌, ◌&&◌, ◌||◌, Contains, not, slice_get, take, length, map, filter, is_none, is_some, option_map}
use Rattle.std.specs.Prelude.{if◌then◌else◌}
use Rattle.std.specs.List.{list_any, list_all, All}
use Rattle.std.specs.Str.{bytes_eq}
use Rattle.std.specs.Cmp.Derive.{both_true}
use Rattle.std.proofs.lemmas.Bool.{and_parts, false≢true}
use Rattle.std.proofs.lemmas.List.{append_assoc, append-nil}
use Rattle.std.proofs.lemmas.List.Elements.{All-head, All-tail}
use Rattle.std.proofs.lemmas.Option.{none-some, slice_get-map}
use Rattle.std.proofs.lemmas.Slice.Eq.{bytes_eq-Decides}
use Rattle.x12_bytes.specs.Header.{field_of}
use Rattle.x12_segs.specs.Words.{SegValue, element_of}
use Rattle.hub_kinds.specs.declared.interchange.InterchangeFault.{InterchangeFault}
use Rattle.hub_kinds.specs.declared.interchange.InterchangeFault.TheVariants.{ControlNumbersDiffer, Duplicate, GroupCountWrong}
use Rattle.hub_kinds.specs.declared.interchange.InterchangeFault.TheVariants.{GroupHeaderInvalid}
use Rattle.hub_kinds.specs.declared.interchange.InterchangeFault.TheVariants.{SegmentMisplaced, SetHeaderInvalid}
use Rattle.hub_kinds.specs.declared.place.Place.{Place}
use Rattle.env_index.specs.Words.{control_number, counts_groups, fault_by, fault_of, fault_of_headers, fault_with}
use Rattle.env_index.specs.Words.{has_control as has_trailer_control, has_set_headers, is_group_header, IndexEntry, IsEntryOf}
use Rattle.env_index.specs.Words.{InterchangeEntry, IsEarlier, Number, Numbered, OfInterchange, index_places, interchange_number}
use Rattle.env_index.specs.Words.{is_indexed, place_at, GroupEntry}
use Rattle.env_index.specs.declared.entry.SetEnvelope.{SetEnvelope}
use Rattle.partner_setup.specs.Setup.{SetupValue, sender_of}
use Rattle.set_check.specs.Codes.{control_of}
use Rattle.set_answers.specs.Answers.{controls_of, has_number_among}
use Rattle.set_answers.specs.FirstUse.{AreToldByFirstUse, IsDuplicateByPlace, IsUsedEarlier, knows}
use Rattle.set_answers.specs.Seen.{is_among}
use Rattle.set_answers.specs.Settled.{fault_alone, fault_behind, fault_if_earlier, fault_with_sender, faults_from, kept_keys}
use Rattle.set_answers.specs.Settled.{interchange_key_of}
use Rattle.set_answers.specs.Settled.{number_key}
use Rattle.set_answers.proofs.FirstUses.{control_in, earlier_item, group_first, group_is_no_interchange, has_control, has_group_number}
use Rattle.set_answers.proofs.FirstUses.{holds_at}
use Rattle.set_answers.proofs.FirstUses.{holds_there, number_in, same_interchange, set_first, set_is_no_interchange, there_holds}
use Rattle.set_answers.proofs.Least.{AreUses, first_use, interchanges_in_order}
use Rattle.set_answers.proofs.Places.{IsOfInterchange, of_places, places_there}
use Rattle.number_register.proofs.ForAbove.{in_front, interchange_item, numbered}
use Rattle.set_answers.proofs.SoundHeaders.{group_has_number, has_nine, same_widths}

-- what stands in front in texts that are the same, where it is as long
front_same : (a b x y : List ℕ) → length a ≡ length b → a ++ x ≡ b ++ y → a ≡ b
front_same [] [] x y len h = refl
front_same [] (b ∷ ds) x y len h = absurd (omega (arith, len))
front_same (a ∷ cs) [] x y len h = absurd (omega (arith, len))
front_same (a ∷ cs) (b ∷ ds) x y len h =
    let first : a ≡ b = cc in
    let rest : cs ++ x ≡ ds ++ y = cc in
    ap (λ (n : ℕ). n ∷ cs) first ∙ ap (λ (l : List ℕ). b ∷ l) (front_same cs ds x y (omega (arith, len)) rest)

back_same : (a b x y : List ℕ) → length a ≡ length b → a ++ x ≡ b ++ y → x ≡ y
back_same [] [] x y len h = h
back_same [] (b ∷ ds) x y len h = absurd (omega (arith, len))
back_same (a ∷ cs) [] x y len h = absurd (omega (arith, len))
back_same (a ∷ cs) (b ∷ ds) x y len h =
    let rest : cs ++ x ≡ ds ++ y = cc in
    back_same cs ds x y (omega (arith, len)) rest

joined_same : {a b c d f a' b' c' d' f' : List ℕ} → a ≡ a' → b ≡ b' → c ≡ c' → d ≡ d' → f ≡ f'
    → a ++ (b ++ (c ++ (d ++ f))) ≡ a' ++ (b' ++ (c' ++ (d' ++ f')))
joined_same a b c d f = cc

numbered_same : {a b c d f a' b' c' d' f' : List ℕ} → a ≡ a' → b ≡ b' → c ≡ c' → d ≡ d' → f ≡ f'
    → OfInterchange (a ∷ b ∷ c ∷ d ∷ f ∷ []) ≡ OfInterchange (a' ∷ b' ∷ c' ∷ d' ∷ f' ∷ [])
numbered_same a b c d f = cc

-- two numbers of interchanges are the same exactly where their bytes are
key_of_number : (h i : List ℕ) → interchange_number h ≡ interchange_number i → number_key h ≡ number_key i
key_of_number h i e =
    let five : field_of h 5 ≡ field_of i 5 = cc in
    let six : field_of h 6 ≡ field_of i 6 = cc in
    let seven : field_of h 7 ≡ field_of i 7 = cc in
    let eight : field_of h 8 ≡ field_of i 8 = cc in
    let thirteen : field_of h 13 ≡ field_of i 13 = cc in
    joined_same five six seven eight thirteen

number_of_key : (h i : List ℕ) → length (field_of h 13) ≡ 9 → length (field_of i 13) ≡ 9 → number_key h ≡ number_key i
    → interchange_number h ≡ interchange_number i
number_of_key h i nine also e =
    let l5 = same_widths h i 5 (omega arith) nine also in
    let l6 = same_widths h i 6 (omega arith) nine also in
    let l7 = same_widths h i 7 (omega arith) nine also in
    let l8 = same_widths h i 8 (omega arith) nine also in
    let r5 = back_same (field_of h 5) (field_of i 5) _ _ l5 e in
    let r6 = back_same (field_of h 6) (field_of i 6) _ _ l6 r5 in
    let r7 = back_same (field_of h 7) (field_of i 7) _ _ l7 r6 in
    let r8 = back_same (field_of h 8) (field_of i 8) _ _ l8 r7 in
    let five : field_of h 5 ≡ field_of i 5 = front_same (field_of h 5) (field_of i 5) _ _ l5 e in
    let six : field_of h 6 ≡ field_of i 6 = front_same (field_of h 6) (field_of i 6) _ _ l6 r5 in
    let seven : field_of h 7 ≡ field_of i 7 = front_same (field_of h 7) (field_of i 7) _ _ l7 r6 in
    let eight : field_of h 8 ≡ field_of i 8 = front_same (field_of h 8) (field_of i 8) _ _ l8 r7 in
    numbered_same five six seven eight r8

none_is : {A : Type 0} (o : Option A) → is_none o ≡ true → o ≡ None
none_is None h = refl
none_is (Some a) h = absurd (false≢true h)

indexed_parts : (known : List ℕ → Bool) (x : InterchangeEntry) → is_indexed known x ≡ true → (fault_of x ≡ None) × (known x.header ≡ true)
indexed_parts known x h =
    let parts = and_parts (is_none (fault_of x)) (known x.header) h in
    (none_is (fault_of x) parts.0, parts.1)

-- the interchanges that have places and a number
abbrev pub has_key : (List ℕ → Bool) → (key : List ℕ) → InterchangeEntry → Bool
has_key known key x = is_indexed known x && bytes_eq key (number_key x.header)

interchange_uses : (known : List ℕ → Bool) (xs : List InterchangeEntry) (h : List ℕ) → length (field_of h 13) ≡ 9
    → AreUses (index_places known xs) (λ n. place_at (1 + n) 0 0) (interchange_number h) (holds_at (has_key known (number_key h)) xs)
interchange_uses known xs h nine = record {
  there = λ m is.
      let x = there_holds (has_key known (number_key h)) xs m is in
      let parts = and_parts (is_indexed known x.0) (bytes_eq (number_key h) (number_key x.0.header)) x.2 in
      let same = number_of_key h x.0.header nine (has_nine x.0 (indexed_parts known x.0 parts.0).0)
      ((bytes_eq-Decides (number_key h) (number_key x.0.header)).0 parts.1) in
      subst (λ (d : Number). Contains (index_places known xs) (numbered (place_at (1 + m) 0 0) d)) (sym same)
      (places_there known 1 xs m x.0 _ x.1 parts.0 (in_front (interchange_item (1 + m) x.0) _));
  only = λ r c.
      let of = of_places known 1 xs _ c in
      elim of.is [
        | inl e ↦ (
          of.n,
          ap (λ (a : Numbered). a.place) e,
          holds_there (has_key known (number_key h)) xs of.n of.x of.there
              (both_true of.indexed ((bytes_eq-Decides (number_key h) (number_key of.x.header)).1 (key_of_number h of.x.header
              (ap number_in e)))),
        )
        | inr g ↦ elim g.is [
          | inl e ↦ absurd (group_is_no_interchange _ _ _ (sym (ap number_in e)))
          | inr s ↦ absurd (set_is_no_interchange _ _ _ _ (sym (ap number_in s.is)))
        ]
      ];
}

-- what stands at the place of an interchange is that interchange
interchange_by_place : (known : List ℕ → Bool) (xs : List InterchangeEntry) (n : ℕ) (x : InterchangeEntry) (number : Number)
    → slice_get xs n ≡ Some x → IsOfInterchange known 1 xs (numbered (place_at (1 + n) 0 0) number)
    → (is_indexed known x ≡ true) × (number ≡ interchange_number x.header)
interchange_by_place known xs n x number there of = elim of.is [
  | inl e ↦
      let same : x ≡ of.x = same_interchange known xs n x _ there of (sym (ap (λ (a : Numbered). a.place.isa) e)) in (
        ap (λ (z : InterchangeEntry). is_indexed known z) same ∙ of.indexed,
        ap number_in e ∙ ap (λ (z : InterchangeEntry). interchange_number z.header) (sym same),
      )
  | inr g ↦ elim g.is [
    | inl e ↦ absurd (let zero_is : 0 ≡ 1 + g.k = ap (λ (a : Numbered). a.place.gs) e in omega (arith, zero_is))
    | inr s ↦ absurd (let zero_is : 0 ≡ 1 + g.k = ap (λ (a : Numbered). a.place.gs) s.is in omega (arith, zero_is))
  ]
]

interchange_first : (known : List ℕ → Bool) (xs : List InterchangeEntry) (n : ℕ) (x : InterchangeEntry)
    → slice_get xs n ≡ Some x → is_indexed known x ≡ true
    → ((m : ℕ) × (m < n) × (holds_at (has_key known (number_key x.header)) xs m ≡ true))
    ↔ ((q : Place) × IsEarlier known xs (place_at (1 + n) 0 0) q)
interchange_first known xs n x there indexed =
    let key = number_key x.header in
    let nine = has_nine x (indexed_parts known x indexed).0 in
    first_use (index_places known xs) (λ i. place_at (1 + i) 0 0) (interchange_number x.header) (holds_at (has_key known key) xs) n
    interchanges_in_order (interchange_uses known xs x.header nine)
    (λ other h. (interchange_by_place known xs n x other there (of_places known 1 xs _ h)).1)
    (holds_there (has_key known key) xs n x there (both_true indexed ((bytes_eq-Decides key key).1 refl)))

-- the numbers that are kept are those of the interchanges that have places
alone_is : (fault : Option InterchangeFault) (sender : Option ℕ)
    → is_none (fault_with_sender fault sender) ≡ (is_none fault && is_some sender)
alone_is (Some f) sender = refl
alone_is None None = refl
alone_is None (Some s) = refl

pub alone_is_indexed : (text : List ℕ) (setup : SetupValue) (e : IndexEntry) → IsEntryOf text e
    → is_none (fault_alone setup e) ≡ is_indexed (knows setup) e.interchange
alone_is_indexed text setup e entry =
    alone_is e.fault (sender_of setup e.interchange.header)
    ∙ ap (λ (f : Option InterchangeFault). is_none f && knows setup e.interchange.header) entry.fault

kept_step : {A B : Type 0} (b : Bool) (test : B → Bool) (f : A → B) (e : A) (es : List A)
    → list_any test (map f (if b then e ∷ es else es)) ≡ ((b && test (f e)) || list_any test (map f es))
kept_step true test f e es = refl
kept_step false test f e es = refl

kept_any : (text : List ℕ) (setup : SetupValue) (key : List ℕ) (es : List IndexEntry) (n : ℕ) → All (IsEntryOf text) es
    → is_among key (kept_keys setup (take n es)) ≡ list_any (has_key (knows setup) key) (take n (map (λ e. e.interchange) es))
kept_any text setup key es zero all = refl
kept_any text setup key [] (suc n) all = refl
kept_any text setup key (e ∷ es) (suc n) all =
    kept_step (is_none (fault_alone setup e)) (bytes_eq key) interchange_key_of e (filter (λ e. is_none (fault_alone setup e)) (take n es))
    ∙ ap (λ (b : Bool). (b && bytes_eq key (interchange_key_of e)) || is_among key (kept_keys setup (take n es)))
    (alone_is_indexed text setup e (All-head (IsEntryOf text) e es all))
    ∙ ap (λ (b : Bool). has_key (knows setup) key e.interchange || b) (kept_any text setup key es n (All-tail (IsEntryOf text) e es all))

-- the fault that is settled is the duplicate's exactly where no other is there and an earlier number is the same
fault_at : (setup : SetupValue) (before es : List IndexEntry) (n : ℕ) (e : IndexEntry) → slice_get es n ≡ Some e
    → slice_get (faults_from setup before es) n ≡ Some (fault_behind setup (before ++ take n es) e)
fault_at setup before [] n e there = absurd (none-some e there)
fault_at setup before (f ∷ es) zero e there =
    let same : f ≡ e = cc in
    ap (λ (z : IndexEntry). Some (fault_behind setup before z)) same
    ∙ ap (λ (b : List IndexEntry). Some (fault_behind setup b e)) (sym (append-nil before))
fault_at setup before (f ∷ es) (suc n) e there =
    fault_at setup (before ++ f ∷ []) es n e there
    ∙ ap (λ (b : List IndexEntry). Some (fault_behind setup b e)) (append_assoc before (f ∷ []) (take n es))

-- no other fault is the duplicate's
other_kept : (b : Bool) (f : InterchangeFault) (rest : Option InterchangeFault) → (Some f ≡ Some Duplicate → ⊥)
    → (if b then Some f else rest) ≡ Some Duplicate → rest ≡ Some Duplicate
other_kept true f rest other h = absurd (other h)
other_kept false f rest other h = h

headers_differ : (x : InterchangeEntry) → fault_of_headers x ≡ Some Duplicate → ⊥
headers_differ x h =
    let first : (if not (list_all has_set_headers x.content.groups) then Some SetHeaderInvalid else None) ≡ Some Duplicate =
    other_kept (not (list_all (λ group. is_group_header group.header) x.content.groups)) GroupHeaderInvalid _ (λ e. cc) h in
    none-some Duplicate (other_kept (not (list_all has_set_headers x.content.groups)) SetHeaderInvalid None (λ e. cc) first)

with_differs : (x : InterchangeEntry) (t : SegValue) (c : Option ℕ) → fault_with x t c ≡ Some Duplicate → ⊥
with_differs x t None h = cc
with_differs x t (Some v) h =
    let first = other_kept (not (has_trailer_control t v)) ControlNumbersDiffer _ (λ e. cc) h in
    let second = other_kept (not (counts_groups t (length x.content.groups))) GroupCountWrong _ (λ e. cc) first in
    headers_differ x (other_kept x.content.misplaced SegmentMisplaced _ (λ e. cc) second)

pub by_differs : (x : InterchangeEntry) (t : Option SegValue) → fault_by x t ≡ Some Duplicate → ⊥
by_differs x None h = cc
by_differs x (Some t) h = with_differs x t (control_number x.header) h

pub sender_differs : (fault : Option InterchangeFault) (sender : Option ℕ) → (fault ≡ Some Duplicate → ⊥)
    → fault_with_sender fault sender ≡ Some Duplicate → ⊥
sender_differs (Some f) sender other h = other h
sender_differs None None other h = cc
sender_differs None (Some s) other h = none-some Duplicate h

duplicate_parts : (fault : Option InterchangeFault) (earlier : Bool) → (fault ≡ Some Duplicate → ⊥)
    → fault_if_earlier fault earlier ≡ Some Duplicate → (fault ≡ None) × (earlier ≡ true)
duplicate_parts (Some f) earlier other h = absurd (other h)
duplicate_parts None true other h = (refl, refl)
duplicate_parts None false other h = absurd (none-some Duplicate h)

told_as_duplicate : (fault : Option InterchangeFault) (earlier : Bool) → fault ≡ None → earlier ≡ true
    → fault_if_earlier fault earlier ≡ Some Duplicate
told_as_duplicate fault earlier none is =
    ap (λ (f : Option InterchangeFault). fault_if_earlier f earlier) none ∙ ap (λ (b : Bool). fault_if_earlier None b) is

some_same : {A : Type 0} (a b : A) → Some a ≡ Some b → a ≡ b
some_same a b h = cc

entry_there : (es : List IndexEntry) (n : ℕ) (e : IndexEntry) → slice_get es n ≡ Some e
    → slice_get (map (λ e. e.interchange) es) n ≡ Some e.interchange
entry_there es n e there = slice_get-map (λ e. e.interchange) es n ∙ ap (option_map (λ e. e.interchange)) there

pub entry_is : (text : List ℕ) (es : List IndexEntry) (n : ℕ) (e : IndexEntry) → All (IsEntryOf text) es → slice_get es n ≡ Some e
    → IsEntryOf text e
entry_is text [] n e all there = absurd (none-some e there)
entry_is text (f ∷ es) zero e all there =
    let same : f ≡ e = cc in
    subst (IsEntryOf text) same (All-head (IsEntryOf text) f es all)
entry_is text (f ∷ es) (suc n) e all there = entry_is text es n e (All-tail (IsEntryOf text) f es all) there

abbrev entries_of : List IndexEntry → List InterchangeEntry
entries_of es = map (λ e. e.interchange) es

-- an earlier number of an interchange that has places
pub earlier_interchange : (text : List ℕ) (setup : SetupValue) (es : List IndexEntry) (n : ℕ) (e : IndexEntry) → All (IsEntryOf text) es
    → slice_get es n ≡ Some e → is_indexed (knows setup) e.interchange ≡ true
    → (is_among (interchange_key_of e) (kept_keys setup (take n es)) ≡ true) ↔ IsUsedEarlier setup es (place_at (1 + n) 0 0)
earlier_interchange text setup es n e all there indexed =
    let xs = entries_of es in
    let first = interchange_first (knows setup) xs n e.interchange (entry_there es n e there) indexed in
    let item = earlier_item (has_key (knows setup) (interchange_key_of e)) xs n in
    let kept = kept_any text setup (interchange_key_of e) es n all in
    (λ h. first.0 (item.0 (sym kept ∙ h)), λ h. kept ∙ item.1 (first.1 h))

pub duplicates_by_place : (text : List ℕ) (setup : SetupValue) (es : List IndexEntry) → All (IsEntryOf text) es
    → IsDuplicateByPlace setup es
duplicates_by_place text setup es all n e there =
    let entry = entry_is text es n e all there in
    let settled = fault_at setup [] es n e there in
    let earlier = is_among (interchange_key_of e) (kept_keys setup (take n es)) in
    let alone = alone_is_indexed text setup e entry in
    let differs : fault_alone setup e ≡ Some Duplicate → ⊥ = sender_differs e.fault (sender_of setup e.interchange.header)
    (λ d. by_differs e.interchange e.interchange.content.trailer (sym entry.fault ∙ d)) in (
      λ h.
          let parts = duplicate_parts (fault_alone setup e) earlier differs (some_same _ _ (sym settled ∙ h)) in
          (earlier_interchange text setup es n e all there (sym alone ∙ ap is_none parts.0)).0 parts.1,
      λ h.
          let mine = interchange_by_place (knows setup) (entries_of es) n e.interchange h.1.number (entry_there es n e there)
          (of_places (knows setup) 1 (entries_of es) _ h.1.mine) in
          settled ∙ ap (λ (f : Option InterchangeFault). Some f) (told_as_duplicate (fault_alone setup e) earlier (none_is
          (fault_alone setup e) (alone ∙ mine.0))
          ((earlier_interchange text setup es n e all there mine.0).1 h)),
    )

-- groups and sets of an interchange that has places
groups_by_first_use : (setup : SetupValue) (es : List IndexEntry) (n : ℕ) (e : IndexEntry) → slice_get es n ≡ Some e
    → is_indexed (knows setup) e.interchange ≡ true → (k : ℕ) (g : GroupEntry) → slice_get e.interchange.content.groups k ≡ Some g
    → (has_number_among (take k e.interchange.content.groups) g ≡ true) ↔ IsUsedEarlier setup es (place_at (1 + n) (1 + k) 0)
groups_by_first_use setup es n e there indexed k g at =
    let v = group_has_number e.interchange k g (indexed_parts (knows setup) e.interchange indexed).0 at in
    let first = group_first (knows setup) (entries_of es) n e.interchange k g v.0 (entry_there es n e there) indexed at v.1 in
    let item = earlier_item (has_group_number (control_in g)) e.interchange.content.groups k in
    (λ h. first.0 (item.0 h), λ h. item.1 (first.1 h))

controls_any : (c : List ℕ) (sets : List SetEnvelope) → is_among c (controls_of sets) ≡ list_any (has_control c) sets
controls_any c [] = refl
controls_any c (s ∷ sets) = ap (λ (b : Bool). bytes_eq c (element_of s.header 2) || b) (controls_any c sets)

sets_by_first_use : (setup : SetupValue) (es : List IndexEntry) (n : ℕ) (e : IndexEntry) → slice_get es n ≡ Some e
    → is_indexed (knows setup) e.interchange ≡ true → (k : ℕ) (g : GroupEntry) (j : ℕ) (set : SetEnvelope)
    → slice_get e.interchange.content.groups k ≡ Some g → slice_get g.sets j ≡ Some set
    → (is_among (control_of set.header) (controls_of (take j g.sets)) ≡ true) ↔ IsUsedEarlier setup es (place_at (1 + n) (1 + k) (1 + j))
sets_by_first_use setup es n e there indexed k g j set at in_it =
    let c = element_of set.header 2 in
    let first = set_first (knows setup) (entries_of es) n e.interchange k g j set (entry_there es n e there) indexed at in_it in
    let item = earlier_item (has_control c) g.sets j in
    let any = controls_any c (take j g.sets) in
    (λ h. first.0 (item.0 (sym any ∙ h)), λ h. any ∙ item.1 (first.1 h))

-- what is reported of earlier numbers follows from the first uses of numbers
pub told_by_first_use : (text : List ℕ) (setup : SetupValue) (es : List IndexEntry) → All (IsEntryOf text) es → AreToldByFirstUse setup es
told_by_first_use text setup es all = record {
  duplicates = duplicates_by_place text setup es all;
  within = λ n e there none.
      let indexed : is_indexed (knows setup) e.interchange ≡ true =
      sym (alone_is_indexed text setup e (entry_is text es n e all there)) ∙ ap is_none none in
      record {
        groups_told = groups_by_first_use setup es n e there indexed;
        sets_told = sets_by_first_use setup es n e there indexed;
      };
}
