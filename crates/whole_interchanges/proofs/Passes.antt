-- What is passed over while the end of an interchange is looked for.
use Rattle.std.proofs.Common.{◌≡◌, ℕ, zero, suc, ◌+◌, ◌-◌, ◌<◌, ◌≤◌, List, ◌++◌, Bool, true, false, ◌&&◌, not, nat_eq, Option, Some}
use Rattle.std.proofs.Common.{None, length, drop, get_or, slice_range, refl, sym, ap, ◌∙◌, arith, inl, inr}
use Rattle.std.specs.Prelude.{codes}
use Rattle.std.specs.List.{prefix_len}
use Rattle.std.proofs.lemmas.Bool.{both_ways, cases_lt, false_from_ne_true}
use Rattle.std.proofs.lemmas.List.{get_or-drop, get_or-take, length-drop, length-take-le}
use Rattle.memchr.specs.Find.{IsFirstByte, Nowhere, OccursAt, is_byte}
use Rattle.x12_bytes.specs.Bytes.{is_line_end}
use Rattle.x12_bytes.specs.HeaderTest.{is_head}
use Rattle.x12_bytes.specs.declared.delims.Delims.{Delims}
use Rattle.x12_segs.specs.Words.{kind_of, seg_at, view_of}
use Rattle.env_index.specs.Words.{ends_interchange}
use Rattle.whole_interchanges.specs.Begun.{may_begin}
use Rattle.whole_interchanges.specs.Batches.{end_from}
use Rattle.whole_interchanges.proofs.Split.{first_byte, from_rest}
use Rattle.whole_interchanges.specs.Open.{GoesOn, IsOpen}
use Rattle.whole_interchanges.specs.Passing.{AreSearched}
use Rattle.whole_interchanges.specs.declared.passing.Searched.{Searched}
use Rattle.whole_interchanges.proofs.Letters.{begun_letters, head_letters, trailer_letters}
use Rattle.whole_interchanges.proofs.Looks.{lead_found, lead_stops, on_empty, passes_on}

-- no header and no trailer begins between two offsets, whatever follows
record IsPlain (read : List ℕ) (from to : ℕ) : Type 0 where
  room : to + 2 ≤ length read
  header : Nowhere (OccursAt read (codes "ISA")) from to
  trailer : Nowhere (OccursAt read (codes "IEA")) from to

-- one part of these
record PassesOne (read : List ℕ) (d : Delims) (from to : ℕ) : Type 0 where
  next : ℕ
  later : from < next
  within : next ≤ to
  goes_on : GoesOn read d from next

module _ (read : List ℕ) (d : Delims) (from to : ℕ) (lt : from < to) (plain : IsPlain read from to)
    (ended : nat_eq (get_or read (to - 1) 0) d.terminator ≡ true) where
  fits : to + 2 ≤ length read
  fits = plain.room

  first : IsOpen read d.terminator from from from
  first = record {
    order = omega arith;
    later = omega arith;
    within = omega (arith, lt, fits);
    line_ends = λ k below. absurd (omega (arith, below));
    none = λ k below. absurd (omega (arith, below));
  }

  lead : ℕ
  lead = from + prefix_len (λ b. is_line_end b && not (nat_eq b d.terminator)) (drop from read)

  o : IsOpen read d.terminator from lead lead
  unfolding lead
  o = lead_found read d.terminator from from from lead first refl

  order : from ≤ lead
  order = o.order

  -- the last byte is the terminator
  hit : (at : ℕ) → at ≤ to - 1 → nat_eq (get_or (drop at read) (to - 1 - at) 0) d.terminator ≡ true
  hit at le =
      let place : at + (to - 1 - at) ≡ to - 1 = omega (arith, le) in
      ap (λ (b : ℕ). nat_eq b d.terminator) (get_or-drop at read (to - 1 - at) 0 ∙ ap (λ (k : ℕ). get_or read k 0) place) ∙ ended

  near : lead ≤ to - 1
  near = elim (cases_lt (to - 1) lead) [
    | inl far ↦ absurd (both_ways (nat_eq (get_or (drop from read) (to - 1 - from) 0) d.terminator)
        (o.none (to - 1 - from) (omega (arith, far, lt))) (hit from (omega (arith, lt))))
    | inr le ↦ le
  ]

  none : is_head read lead ≡ false
  none = false_from_ne_true (is_head read lead) (λ is. plain.header lead order (omega (arith, near, lt)) (head_letters read lead is))

  closed : may_begin read lead ≡ false
  closed = false_from_ne_true (may_begin read lead)
      (λ may. plain.header lead order (omega (arith, near, lt)) (begun_letters read lead (omega (arith, near, lt, fits)) may))

  other_kind : (m : ℕ) → lead ≤ m → m ≤ length read → ends_interchange (kind_of (view_of d (seg_at read lead m))) ≡ false
  other_kind m later within = false_from_ne_true (ends_interchange (kind_of (view_of d (seg_at read lead m))))
      (λ it. plain.trailer lead order (omega (arith, near, lt)) (trailer_letters read d lead m later within it))

  by_search : nat_eq (get_or read lead 0) d.terminator ≡ false → (r : Option ℕ) → IsFirstByte (is_byte d.terminator) (drop lead read) r
      → PassesOne read d from to
  unfolding lead
  by_search inner None nowhere =
      let room : length (drop lead read) ≡ length read - lead = length-drop lead read in
      absurd (nowhere (to - 1 - lead) (omega arith) (omega (arith, room, near, lt, fits)) (hit lead near))
  by_search inner (Some ahead) found =
      let le : ahead ≤ to - 1 - lead = elim (cases_lt (to - 1 - lead) ahead) [
        | inl far ↦ absurd (found.0.before (to - 1 - lead) (omega arith) far (hit lead near))
        | inr le ↦ le
      ] in
      let other : is_line_end (get_or read lead 0) ≡ false =
      lead_stops read d.terminator from lead (omega (arith, lt, fits)) refl (omega (arith, near, lt, fits)) inner in
      let on = passes_on read d from lead from from o first (omega (arith, near, lt, fits)) other inner lead ahead
      (omega (arith, order)) (from_rest read d.terminator lead (Some ahead) found) none closed false
      (other_kind (lead + ahead) (omega arith) (omega (arith, le, near, lt, fits))) in
      record { next = lead + ahead + 1; later = on.0; within = omega (arith, le, near, lt); goes_on = on.2 }

  by_byte : (b : Bool) → nat_eq (get_or read lead 0) d.terminator ≡ b → PassesOne read d from to
  by_byte true is =
      let on = on_empty read d from lead o (omega (arith, near, lt, fits)) is in
      record { next = lead + 1; later = on.0; within = omega (arith, near, lt); goes_on = on.2 }
  by_byte false is =
      let found = first_byte d.terminator (drop lead read) in
      by_search is found.0 found.1

  one : PassesOne read d from to
  one = by_byte (nat_eq (get_or read lead 0) d.terminator) refl

plain_behind : (read : List ℕ) (from next to : ℕ) → from ≤ next → IsPlain read from to → IsPlain read next to
plain_behind read from next to le plain = record {
  room = plain.room;
  header = λ q low. plain.header q (omega (arith, low, le));
  trailer = λ q low. plain.trailer q (omega (arith, low, le));
}

-- part by part
passes : (fuel : ℕ) (read : List ℕ) (d : Delims) (from to : ℕ) → to - from ≤ fuel → from ≤ to → IsPlain read from to
    → nat_eq (get_or read (to - 1) 0) d.terminator ≡ true → GoesOn read d from to
passes zero read d from to measure le plain ended = λ more.
    ap (end_from (read ++ more) d) (let same : from ≡ to = omega (arith, measure, le) in same)
passes (suc fuel) read d from to measure le plain ended = elim (cases_lt from to) [
  | inl lt ↦
      let on : PassesOne read d from to = one read d from to lt plain ended in
      let later : from < on.next = on.later in
      λ more. on.goes_on more ∙ passes fuel read d on.next to (omega (arith, measure, later)) on.within
      (plain_behind read from on.next to (omega (arith, later)) plain) ended more
  | inr ge ↦ λ more. ap (end_from (read ++ more) d) (let same : from ≡ to = omega (arith, ge, le) in same)
]

-- up to the last terminator of a stretch
pub passed : (read : List ℕ) (d : Delims) (s : Searched) (from to ahead : ℕ) → AreSearched read s → s.header.from ≤ from
    → s.trailer.from ≤ from → from < to → to ≤ s.header.to → to ≤ s.trailer.to → to + 2 ≤ length read
    → ahead < length (slice_range read from to) → nat_eq (get_or (slice_range read from to) ahead 0) d.terminator ≡ true
    → GoesOn read d from (from + ahead + 1)
passed read d s from to ahead searched header trailer lt to_header to_trailer room high is =
    let all : length (drop from read) ≡ length read - from = length-drop from read in
    let size : length (slice_range read from to) ≡ to - from = length-take-le (to - from) (drop from read) (omega (arith, all, room)) in
    let below : ahead < to - from = omega (arith, high, size) in
    let end : ℕ = from + ahead + 1 in
    let last : from + ahead ≡ end - 1 = omega arith in
    let same : get_or (slice_range read from to) ahead 0 ≡ get_or read (end - 1) 0 =
    get_or-take (to - from) (drop from read) ahead 0 below ∙ get_or-drop from read ahead 0
    ∙ ap (λ (k : ℕ). get_or read k 0) last in
    passes (end - from) read d from end (omega arith) (omega arith) (record {
      room = omega (arith, below, room);
      header = λ q low under. searched.header q (omega (arith, low, header)) (omega (arith, under, below, to_header));
      trailer = λ q low under. searched.trailer q (omega (arith, low, trailer)) (omega (arith, under, below, to_trailer));
    }) (ap (λ (b : ℕ). nat_eq b d.terminator) (sym same) ∙ is)
