-- Acknowledgments that are counted before they are written.
use Rattle.std.proofs.Common.{◌≡◌, ◌<◌, ◌≤◌, ℕ, ◌+◌, ◌==◌, Bool, true, false, cond, List, [], ◌∷◌, ◌++◌, Option, Some, None}
use Rattle.std.proofs.Common.{◌^◌, length, map, refl, sym, ap, subst, ◌∙◌, arith, eq-eqb}
use Rattle.std.specs.Prelude.{if◌then◌else◌, option_map, position, slice_get, slice_set, sum_by}
use Rattle.std.proofs.lemmas.List.{length-append, length-map}
use Rattle.std.proofs.lemmas.List.Elements.{filter-append}
use Rattle.std.proofs.lemmas.List.Sums.{sum_by-append, length-filter, count_by-le-length}
use Rattle.std.proofs.lemmas.List.Quantifiers.{position-Some}
use Rattle.std.proofs.lemmas.Option.{none-some, slice_get-map, slice_get_within}
use Rattle.env_index.specs.Words.{IndexEntry}
use Rattle.partner_setup.specs.Setup.{SetupValue, sender_of}
use Rattle.set_answers.specs.CheckedText.{SentValues, is_partner}
use Rattle.set_answers.specs.Counted.{AreCountedAfter, CanCountEach, counted_after, entries_acknowledged_to, group_count_of_entry}
use Rattle.set_answers.specs.Counted.{recipient_of_entry, will_report_of, with_count, without_text}
use Rattle.set_answers.specs.SentAfter.{CanCount}
use Rattle.set_answers.proofs.Putting.{put_each, put_length, there_is}

abbrev value : List ℕ → (k g : ℕ) → SentValues
value text k g = record { text = text; count = k; groups = g }

abbrev groups_of : SetupValue → List IndexEntry → ℕ
groups_of setup es = sum_by (group_count_of_entry setup) es

pub counted_twice : (setup : SetupValue) (f : SentValues) (es fs : List IndexEntry)
    → counted_after setup (counted_after setup f es) fs ≡ counted_after setup f (es ++ fs)
counted_twice setup f es fs =
    let count : f.count + length es + length fs ≡ f.count + length (es ++ fs) = omega (arith, length-append es fs) in
    let groups : f.groups + groups_of setup es + groups_of setup fs ≡ f.groups + groups_of setup (es ++ fs) =
    omega (arith, sum_by-append (group_count_of_entry setup) es fs) in
    ap (λ (n : ℕ). value f.text n (f.groups + groups_of setup es + groups_of setup fs)) count
    ∙ ap (λ (n : ℕ). value f.text (f.count + length (es ++ fs)) n) groups

none_after : (setup : SetupValue) (f : SentValues) → counted_after setup f [] ≡ f
none_after setup f =
    let count : f.count + 0 ≡ f.count = omega arith in
    let groups : f.groups + 0 ≡ f.groups = omega arith in
    ap (λ (n : ℕ). value f.text n (f.groups + 0)) count ∙ ap (λ (n : ℕ). value f.text f.count n) groups

one_after : (setup : SetupValue) (f : SentValues) (e : IndexEntry)
    → counted_after setup f (e ∷ []) ≡ with_count f (group_count_of_entry setup e)
one_after setup f e =
    let groups : f.groups + groups_of setup (e ∷ []) ≡ f.groups + group_count_of_entry setup e = omega arith in
    ap (λ (n : ℕ). value f.text (f.count + 1) n) groups

-- each partner's, of interchanges and then of more
pub counted_both : (setup : SetupValue) (es fs : List IndexEntry) (a b c : List SentValues)
    → AreCountedAfter setup es a b → AreCountedAfter setup fs b c → AreCountedAfter setup (es ++ fs) a c
counted_both setup es fs a b c first second = record {
  count = second.count ∙ first.count;
  each = λ q f there. second.each q (counted_after setup f (entries_acknowledged_to setup q es)) (first.each q f there)
      ∙ ap (λ (v : SentValues). Some v)
      (counted_twice setup f (entries_acknowledged_to setup q es) (entries_acknowledged_to setup q fs)
      ∙ ap (counted_after setup f) (sym (filter-append (λ e. is_partner q (recipient_of_entry setup e)) es fs)));
}

pub counted_none : (setup : SetupValue) (files : List SentValues) → AreCountedAfter setup [] files files
counted_none setup files = record {
  count = refl;
  each = λ q f there. there ∙ ap (λ (v : SentValues). Some v) (sym (none_after setup f));
}

kept : (setup : SetupValue) (q : ℕ) (e : IndexEntry) (b : Bool) → is_partner q (recipient_of_entry setup e) ≡ b
    → entries_acknowledged_to setup q (e ∷ []) ≡ cond b (e ∷ []) []
kept setup q e b is = ap (λ (c : Bool). cond c (e ∷ []) []) is

-- one interchange more, counted in its recipient's place
pub counted_here : (setup : SetupValue) (files new : List SentValues) (e : IndexEntry) (s : ℕ)
    → s < length files → recipient_of_entry setup e ≡ Some s
    → ((f : SentValues) → slice_get files s ≡ Some f → new ≡ slice_set files s (with_count f (group_count_of_entry setup e)))
    → AreCountedAfter setup (e ∷ []) files new
counted_here setup files new e s within is made = record {
  count = put_length IsCounted files new s within counted_at others;
  each = λ q f there.
      let v = put_each IsCounted files new s within counted_at others q f there in
      v.1 ∙ ap (λ (w : SentValues). Some w) v.2;
}
  where
    IsCounted : ℕ → SentValues → SentValues → Type 0
    IsCounted q f v = v ≡ counted_after setup f (entries_acknowledged_to setup q (e ∷ []))

    counted_at : (f : SentValues) → slice_get files s ≡ Some f → (v : SentValues) × (new ≡ slice_set files s v) × IsCounted s f v
    counted_at f there = (
      with_count f (group_count_of_entry setup e),
      made f there,
      sym (one_after setup f e)
          ∙ ap (counted_after setup f) (sym (kept setup s e true (ap (is_partner s) is ∙ eq-eqb s s refl))),
    )

    others : (q : ℕ) (f : SentValues) → (s == q) ≡ false → IsCounted q f f
    others q f apart = sym (ap (counted_after setup f) (kept setup q e false (ap (is_partner q) is ∙ apart)) ∙ none_after setup f)

-- where it will be acknowledged to nobody, all have what they had
pub counted_nowhere : (setup : SetupValue) (files : List SentValues) (e : IndexEntry) → recipient_of_entry setup e ≡ None
    → AreCountedAfter setup (e ∷ []) files files
counted_nowhere setup files e none = record {
  count = refl;
  each = λ q f there. there
      ∙ ap (λ (v : SentValues). Some v)
      (sym (ap (counted_after setup f) (kept setup q e false (ap (is_partner q) none)) ∙ none_after setup f));
}

one_at_most : (b : Bool) → (if b then 1 else 0) ≤ 1
one_at_most true = omega arith
one_at_most false = omega arith

pub groups_cons : (setup : SetupValue) (e : IndexEntry) (es : List IndexEntry)
    → groups_of setup (e ∷ es) ≡ group_count_of_entry setup e + groups_of setup es
groups_cons setup e es =
    let one : groups_of setup (e ∷ []) ≡ group_count_of_entry setup e = omega arith in
    sum_by-append (group_count_of_entry setup) (e ∷ []) es ∙ ap (λ (n : ℕ). n + groups_of setup es) one

few_groups : (setup : SetupValue) (es : List IndexEntry) → groups_of setup es ≤ length es
few_groups setup [] = omega arith
few_groups setup (e ∷ es) =
    let one : group_count_of_entry setup e ≤ 1 = one_at_most (will_report_of (sender_of setup e.interchange.header) e) in
    omega (arith, one, groups_cons setup e es, few_groups setup es)

-- for what is left of m interchanges, once these are counted
pub room_counted : (setup : SetupValue) (es : List IndexEntry) (old new : List SentValues) (m k : ℕ)
    → AreCountedAfter setup es old new → CanCount m old → length es + k ≤ m → CanCount k new
room_counted setup es old new m k after room fits q f there =
    let within : q < length old = omega (arith, slice_get_within new q f there, after.count) in
    let was = there_is old q within in
    let to : List IndexEntry = entries_acknowledged_to setup q es in
    let same : Some f ≡ Some (counted_after setup was.0 to) = sym there ∙ after.each q was.0 was.1 in
    let value : f ≡ counted_after setup was.0 to = cc in
    let count : f.count ≡ was.0.count + length to = ap (λ (v : SentValues). v.count) value in
    let groups : f.groups ≡ was.0.groups + groups_of setup to = ap (λ (v : SentValues). v.groups) value in
    let had = room q was.0 was.1 in
    let few = length-filter (λ e. is_partner q (recipient_of_entry setup e)) es in
    let fewer = count_by-le-length (λ e. is_partner q (recipient_of_entry setup e)) es in
    (omega (arith, count, had.0, few, fewer, fits), omega (arith, groups, had.1, few_groups setup to, few, fewer, fits))

-- the numbers alone have the same room
pub bare_room : (n : ℕ) (files : List SentValues) → CanCount n files → CanCount n (map without_text files)
bare_room n files room q f there = by (slice_get files q) refl
  where
    by : (o : Option SentValues) → slice_get files q ≡ o → (f.count + n < 2 ^ 64) × (f.groups + n < 2 ^ 64)
    by None is =
        let none : None ≡ Some f = sym (slice_get-map without_text files q ∙ ap (option_map without_text) is) ∙ there in
        cc
    by (Some w) is =
        let some : Some (without_text w) ≡ Some f = sym (slice_get-map without_text files q ∙ ap (option_map without_text) is) ∙ there in
        let same : without_text w ≡ f = cc in
        let had = room q w is in (
          subst (λ (v : SentValues). v.count + n < 2 ^ 64) same had.0,
          subst (λ (v : SentValues). v.groups + n < 2 ^ 64) same had.1,
        )

pub bare_each : (setup : SetupValue) (senders : List (Option ℕ)) (es : List IndexEntry) (files : List SentValues)
    → CanCountEach setup senders es files → CanCountEach setup senders es (map without_text files)
bare_each setup senders es files can = record {
  from = can.from;
  count = length-map files without_text ∙ can.count;
  room = bare_room (length es) files can.room;
  findings = can.findings;
}

position_within : {X : Type 0} (p : X → Bool) (xs : List X) (i : ℕ) → position p xs ≡ Some i → i < length xs
position_within p [] i is = absurd (none-some i is)
position_within p (x ∷ xs) i is = (position-Some p (x ∷ xs) i x is).0

-- a sender is one of the partners
pub sender_within : (setup : SetupValue) (header : List ℕ) (place : ℕ) → sender_of setup header ≡ Some place
    → place < length setup.partners
sender_within setup header place is = position_within _ setup.partners place is
