-- An interchange that is open, by the definition and by the layers.
use Rattle.std.proofs.Common.{◌≡◌, ◌≢◌, ℕ, zero, suc, ◌+◌, ◌-◌, ◌<◌, ◌≤◌, List, [], ◌∷◌, ◌++◌, Bool, true, false, cond}
use Rattle.std.proofs.Common.{Option, Some, None, ◌⊎◌}
use Rattle.std.proofs.Common.{length, take, drop, get_or, map, refl, sym, ap, subst, ◌∙◌, arith, inl, inr}
use Rattle.std.specs.Prelude.{◌↔◌, Contains}
use Rattle.std.proofs.lemmas.Bool.{both_ways, cases_lt, eq-eqb}
use Rattle.std.proofs.lemmas.List.{get_or-drop, get_or-take, length-append, length-drop, length-take-le, take_at}
use Rattle.std.proofs.lemmas.List.Elements.{Contains-append_cases, Contains-append_left}
use Rattle.x12_bytes.specs.Header.{header_at, header_delims}
use Rattle.x12_bytes.specs.HeaderTest.{is_head}
use Rattle.x12_bytes.specs.declared.delims.Delims.{Delims}
use Rattle.x12_segs.specs.Words.{Seg, kind_of, rest_from, segs_from, view_of}
use Rattle.x12_segs.proofs.ForAbove.{IsFirstSeg, StandInOrder, first_seg, segs_in_order}
use Rattle.env_index.specs.Words.{IsLeastEnd, MayEnd, Reach, behind, ends_interchange, onto_reach, reach_at, reach_from, reach_of}
use Rattle.env_index.proofs.ForAbove.{head_within, least_end}
use Rattle.whole_interchanges.specs.Batches.{ChainUpTo, WholeUpTo, end_by, whole_end}
use Rattle.whole_interchanges.specs.Begun.{may_begin}
use Rattle.whole_interchanges.proofs.ForAbove.{IsSplit, end_now, end_within, header_kept, split_at, whole_chain}
use Rattle.night_definition.specs.Header as room
use Rattle.night_equal.proofs.ForAbove.{heads}
use Rattle.gather_files.specs.Unfinished.{IsOpen}
use Rattle.gather_files.proofs.Completing.{completed}
use Rattle.gather_files.proofs.Reaching.{ends}

no_end : (e : ℕ) → ◌≡◌ {A = Option ℕ} (Some e) None → ⊥
no_end e is = (cc)

-- an interchange ends after what it begins with
low_end : (text : List ℕ) (d : Delims) (low : ℕ) (segs : List Seg) (rest : Seg) → StandInOrder low segs rest (length text)
    → low ≤ (reach_of text (map (view_of d) segs) rest).end
low_end text d low [] rest order = by_test (is_head text rest.start)
  where
    by_test : (b : Bool) → low ≤ (let r : Reach = record { segs = []; end = cond b rest.start (length text) } in r).end
    by_test true = order.0
    by_test false = omega (arith, order.0, order.1)
low_end text d low (seg ∷ segs) rest order =
    by_tests (is_head text seg.start) (ends_interchange (kind_of (view_of d seg)))
    (low_end text d (seg.start + length seg.bytes + 1) segs rest order.1)
  where
    by_tests : (h t : Bool) → seg.start + length seg.bytes + 1 ≤ (reach_of text (map (view_of d) segs) rest).end
        → low ≤ (cond h (let r : Reach = record { segs = []; end = seg.start } in r)
        (cond t (record { segs = view_of d seg ∷ []; end = behind (view_of d seg) })
        (onto_reach (view_of d seg) (reach_of text (map (view_of d) segs) rest)))).end
    by_tests true t later = order.0
    by_tests false true later = omega (arith, order.0)
    by_tests false false later = omega (arith, order.0, later)

-- a segment at which a header may begin, before the end
record IsBegunAt (text : List ℕ) (d : Delims) (segs : List Seg) (rest : Seg) : Type 0 where
  seg : Seg
  among : Contains segs seg
  begun : may_begin text seg.start ≡ true
  before : seg.start < (reach_of text (map (view_of d) segs) rest).end

-- no segment is an IEA, and it ends with the text
record IsUnended (text : List ℕ) (d : Delims) (segs : List Seg) (rest : Seg) : Type 0 where
  none : (seg : Seg) → Contains segs seg → ends_interchange (kind_of (view_of d seg)) ≡ false
  end : (reach_of text (map (view_of d) segs) rest).end ≡ length text

none_in_nothing : (seg : Seg) → Contains [] seg → ⊥
none_in_nothing seg (k, lt, is) = omega (arith, lt)

module _ (text : List ℕ) (d : Delims) where
  found : (segs : List Seg) (rest : Seg) → Reach
  found segs rest = reach_of text (map (view_of d) segs) rest

  abbrev ended : Seg → Reach
  ended seg = record { segs = view_of d seg ∷ []; end = behind (view_of d seg) }

  abbrev at_once : ℕ → Reach
  at_once n = record { segs = []; end = n }

  unended_last : (rest : Seg) (b : Bool) → is_head text rest.start ≡ b → cond b (Some rest.start) None ≡ None
      → IsBegunAt text d [] rest ⊎ IsUnended text d [] rest
  unended_last rest true head is = absurd (no_end rest.start is)
  unended_last rest false none is = inr (record {
    none = λ seg among. absurd (none_in_nothing seg among);
    end = ap (λ (b : Bool). (let r : Reach = at_once (cond b rest.start (length text)) in r).end) none;
  })

  unended_on : (low : ℕ) (seg : Seg) (segs : List Seg) (rest : Seg) (h m t : Bool) → StandInOrder low (seg ∷ segs) rest (length text)
      → is_head text seg.start ≡ h → may_begin text seg.start ≡ m → ends_interchange (kind_of (view_of d seg)) ≡ t
      → cond h (Some seg.start) (cond m None (cond t (Some (behind (view_of d seg))) (end_by text (map (view_of d) segs) rest))) ≡ None
      → (end_by text (map (view_of d) segs) rest ≡ None → IsBegunAt text d segs rest ⊎ IsUnended text d segs rest)
      → IsBegunAt text d (seg ∷ segs) rest ⊎ IsUnended text d (seg ∷ segs) rest
  unended_on low seg segs rest true m t order head begun kind is more = absurd (no_end seg.start is)
  unended_on low seg segs rest false true t order head begun kind is more =
      let later : seg.start + length seg.bytes + 1 ≤ (reach_of text (map (view_of d) segs) rest).end =
      low_end text d (seg.start + length seg.bytes + 1) segs rest order.1 in
      let past : (t : Bool) → seg.start < (cond t (ended seg) (onto_reach (view_of d seg)
      (reach_of text (map (view_of d) segs) rest))).end = λ t. by_kind t later in
      inl (record {
        seg = seg;
        among = (0, omega arith, refl);
        begun = begun;
        before = subst (λ (b : Bool). seg.start < (cond b (at_once seg.start) (cond (ends_interchange (kind_of (view_of d seg))) (ended seg)
            (onto_reach (view_of d seg) (reach_of text (map (view_of d) segs) rest)))).end) (sym head)
            (past (ends_interchange (kind_of (view_of d seg))));
      })
    where
      by_kind : (t : Bool) → seg.start + length seg.bytes + 1 ≤ (reach_of text (map (view_of d) segs) rest).end
          → seg.start < (cond t (ended seg) (onto_reach (view_of d seg) (reach_of text (map (view_of d) segs) rest))).end
      by_kind true later = omega arith
      by_kind false later = omega (arith, later)
  unended_on low seg segs rest false false true order head begun kind is more = absurd (no_end (behind (view_of d seg)) is)
  unended_on low seg segs rest false false false order head begun kind is more =
      let same : (reach_of text (map (view_of d) (seg ∷ segs)) rest).end ≡ (reach_of text (map (view_of d) segs) rest).end =
      ap (λ (b : Bool). (cond b (at_once seg.start) (cond (ends_interchange (kind_of (view_of d seg))) (ended seg)
      (onto_reach (view_of d seg) (reach_of text (map (view_of d) segs) rest)))).end) head
      ∙ ap (λ (b : Bool). (cond b (ended seg) (onto_reach (view_of d seg) (reach_of text (map (view_of d) segs) rest))).end) kind in
      elim (more is) [
        | inl b ↦ inl (record {
          seg = b.seg;
          among = (suc b.among.0, omega (arith, b.among.1), b.among.2);
          begun = b.begun;
          before = subst (λ (n : ℕ). b.seg.start < n) (sym same) b.before;
        })
        | inr u ↦ inr (record { none = none_of u; end = same ∙ u.end })
      ]
    where
      none_of : IsUnended text d segs rest → (s : Seg) → Contains (seg ∷ segs) s → ends_interchange (kind_of (view_of d s)) ≡ false
      none_of u s (zero, lt, same) = ap (λ (x : Seg). ends_interchange (kind_of (view_of d x))) (sym same) ∙ kind
      none_of u s (suc k, lt, same) = u.none s (k, omega (arith, lt), same)

  unended_by : (low : ℕ) (segs : List Seg) (rest : Seg) → StandInOrder low segs rest (length text)
      → end_by text (map (view_of d) segs) rest ≡ None → IsBegunAt text d segs rest ⊎ IsUnended text d segs rest
  unended_by low [] rest order is = unended_last rest (is_head text rest.start) refl is
  unended_by low (seg ∷ segs) rest order is =
      unended_on low seg segs rest (is_head text seg.start) (may_begin text seg.start) (ends_interchange (kind_of (view_of d seg)))
      order refl refl refl is (unended_by (seg.start + length seg.bytes + 1) segs rest order.1)

-- what ends in order ends after its start
in_order : (low : ℕ) (segs : List Seg) (rest : Seg) (len : ℕ) → StandInOrder low segs rest len → (s : Seg) → Contains segs s → low ≤ s.start
in_order low [] rest len order s among = absurd (none_in_nothing s among)
in_order low (seg ∷ segs) rest len order s (zero, lt, is) = omega (arith, order.0, ap (λ (x : Seg). x.start) is)
in_order low (seg ∷ segs) rest len order s (suc k, lt, is) =
    omega (arith, order.0, in_order (seg.start + length seg.bytes + 1) segs rest len order.1 s (k, omega (arith, lt), is))

module _ (text more : List ℕ) (d : Delims) (from : ℕ) (le : from ≤ length text) where
  abbrev all : List ℕ
  all = text ++ more

  abbrev c : ℕ
  c = length text

  size : length all ≡ c + length more
  size = length-append text more

  within : c ≤ length all
  within = omega (arith, size)

  front : take c all ≡ text
  front = take_at text more c refl

  split : IsSplit all c d.terminator from
  split = split_at all c d.terminator from le within

  abbrev later : List Seg
  later = segs_from all d.terminator split.open_at

  parted : segs_from all d.terminator from ≡ segs_from text d.terminator from ++ later
  parted = split.segs ∙ ap (λ (l : List ℕ). segs_from l d.terminator from ++ later) front

  -- a segment that isn't read whole ends after what is read
  past_read : (m : ℕ) → split.open_at ≤ m → get_or all m 0 ≡ d.terminator → c ≤ m
  past_read m low is = elim (cases_lt m c) [
    | inr past ↦ past
    | inl lt ↦
        let p : ℕ = split.open_at in
        let long : length (take c all) ≡ c = length-take-le c all within in
        let room : length (drop p (take c all)) ≡ length (take c all) - p = length-drop p (take c all) in
        let place : p + (m - p) ≡ m = omega (arith, low) in
        let byte : get_or (drop p (take c all)) (m - p) 0 ≡ d.terminator =
        get_or-drop p (take c all) (m - p) 0 ∙ ap (λ (k : ℕ). get_or (take c all) k 0) place ∙ get_or-take c all m 0 lt ∙ is in
        absurd (split.none (m - p) (omega arith) (omega (arith, long, room, lt, low))
        (eq-eqb (get_or (drop p (take c all)) (m - p) 0) d.terminator byte))
  ]

  later_by : (segs : List Seg) → later ≡ segs → (s : Seg) → Contains segs s → c ≤ s.start + length s.bytes
  later_by [] is s among = absurd (none_in_nothing s among)
  later_by (seg ∷ segs) is s among =
      let p : ℕ = split.open_at in
      let fits : p ≤ length all = omega (arith, split.within, within) in
      let first : IsFirstSeg all d.terminator p seg segs = first_seg (length all - p) all d.terminator p seg segs (omega arith) fits is in
      let end : c ≤ seg.start + length seg.bytes =
      past_read (seg.start + length seg.bytes) (omega (arith, first.start)) first.terminated in
      let order : StandInOrder p (seg ∷ segs) (rest_from all d.terminator p) (length all) =
      subst (λ (xs : List Seg). StandInOrder p xs (rest_from all d.terminator p) (length all)) is (segs_in_order all d.terminator p fits) in
      either among end order
    where
      either : Contains (seg ∷ segs) s → c ≤ seg.start + length seg.bytes
          → StandInOrder split.open_at (seg ∷ segs) (rest_from all d.terminator split.open_at) (length all)
          → c ≤ s.start + length s.bytes
      either (zero, lt, same) end order = subst (λ (x : Seg). c ≤ x.start + length x.bytes) same end
      either (suc k, lt, same) end order =
          omega (
            arith,
            end,
            in_order (seg.start + length seg.bytes + 1) segs (rest_from all d.terminator split.open_at) (length all)
                order.1 s (k, omega (arith, lt), same),
          )

  later_ends : (s : Seg) → Contains later s → c ≤ s.start + length s.bytes
  later_ends s among = later_by later refl s among

  -- a header that is completed ends the interchange there, or it ends before
  ends_by : (s : Seg) → Contains (segs_from text d.terminator from) s → is_head all s.start ≡ true
      → (reach_from all d from).end ≤ s.start
  ends_by s among head =
      let here : Contains (segs_from all d.terminator from) s =
      subst (λ (xs : List Seg). Contains xs s) (sym parted) (Contains-append_left (segs_from text d.terminator from) later s among) in
      (least_end all d from (omega (arith, le, within))).least s.start (inr (inl (head, inl (s, here, refl))))

-- with one byte more, what has no end ends elsewhere
module _ (text : List ℕ) (d : Delims) (from : ℕ) (le : from ≤ length text) where
  abbrev one_more : List ℕ
  one_more = text ++ 32 ∷ []

  long : length one_more ≡ length text + 1
  long = length-append text (32 ∷ [])

  moves : ((s : Seg) → Contains (segs_from text d.terminator from) s → ends_interchange (kind_of (view_of d s)) ≡ false)
      → (q : ℕ) → MayEnd one_more d (segs_from one_more d.terminator from) (rest_from one_more d.terminator from) q → q ≢ length text
  moves none q (inl (s, among, trailer, is)) same =
      elim (Contains-append_cases (segs_from text d.terminator from) (later text (32 ∷ []) d from le) s
      (subst (λ (xs : List Seg). Contains xs s) (parted text (32 ∷ []) d from le) among)) [
        | inl read ↦ both_ways (ends_interchange (kind_of (view_of d s))) (none s read) (ap ends_interchange trailer)
        | inr after ↦ omega (arith, is, same, later_ends text (32 ∷ []) d from le s after)
      ]
  moves none q (inr (inl at_head)) same = omega (arith, same, long, head_within one_more q at_head.0)
  moves none q (inr (inr is)) same = omega (arith, same, long, is)

module _ (text : List ℕ) (offset : ℕ) (head : is_head text offset ≡ true) where
  abbrev d : Delims
  d = header_delims (header_at text offset)

  fits : offset + 106 ≤ length text
  fits = head_within text offset head

  -- with more bytes it has the same delimiters
  same_delims : (more : List ℕ) → (reach_at (text ++ more) offset).end ≡ (reach_from (text ++ more) d (offset + 106)).end
  same_delims more =
      let c : ℕ = length text in
      let front : take c (text ++ more) ≡ text = take_at text more c refl in
      let same : header_at (text ++ more) offset ≡ header_at text offset =
      sym (header_kept (text ++ more) c (omega (arith, length-append text more)) offset fits)
      ∙ ap (λ (l : List ℕ). header_at l offset) front in
      ap (λ (h : List ℕ). (reach_from (text ++ more) (header_delims h) (offset + 106)).end) same

  opened : (more : List ℕ) → ((reach_from (text ++ more) d (offset + 106)).end ≡ (reach_at text offset).end → ⊥) → IsOpen text offset
  opened more moved = record {
    more = more;
    elsewhere = λ same. moved (sym (same_delims more) ∙ sym (ends (text ++ more) offset) ∙ same ∙ ends text offset);
  }

  opens : whole_end text offset ≡ None → IsOpen text offset
  opens is =
      let t : ℕ = d.terminator in
      let from : ℕ = offset + 106 in
      elim (unended_by text d from (segs_from text t from) (rest_from text t from) (segs_in_order text t from fits) is) [
        | inl b ↦
            let room : (reach_at text offset).end ≤ length text = end_within text offset head in
            let done = completed text b.seg.start (omega (arith, b.before, room)) b.begun in
            opened done.0 (λ same. omega (arith, same, b.before, ends_by text done.0 d from fits b.seg b.among done.1))
        | inr u ↦
            let least : IsLeastEnd (one_more text d from fits) d from (reach_from (one_more text d from fits) d from).end =
            least_end (one_more text d from fits) d from (omega (arith, fits, long text d from fits)) in
            opened (32 ∷ []) (λ same. moves text d from fits u.none (reach_from (one_more text d from fits) d from).end least.may
            (same ∙ u.end))
      ]

  shut : (e : ℕ) → whole_end text offset ≡ Some e → IsOpen text offset → ⊥
  shut e is o =
      let now : e ≡ (reach_at text offset).end = end_now text offset e head is in
      let room : (reach_at text offset).end ≤ length text = end_within text offset head in
      let whole : WholeUpTo text offset e (record { start = offset; end = e } ∷ []) = (
        record { behind = omega arith; head = head; least = λ q low lt. absurd (omega (arith, low, lt)) },
        is,
        (omega arith, omega (arith, now, room), λ q low lt. absurd (omega (arith, low, lt))),
      ) in
      let chain : ChainUpTo (text ++ o.more) offset e (record { start = offset; end = e } ∷ []) =
      whole_chain text o.more offset e (record { start = offset; end = e } ∷ []) whole in
      o.elsewhere (ends (text ++ o.more) offset ∙ sym chain.1 ∙ now ∙ sym (ends text offset))

  by_end : (e : Option ℕ) → whole_end text offset ≡ e → IsOpen text offset → whole_end text offset ≡ None
  by_end None is o = is
  by_end (Some e) is o = absurd (shut e is o)

pub open_is_one : (text : List ℕ) (offset : ℕ) → room.is_head text offset ≡ true → IsOpen text offset ↔ (whole_end text offset ≡ None)
open_is_one text offset head =
    let there : is_head text offset ≡ true = sym (heads text offset) ∙ head in (
      λ o. by_end text offset there (whole_end text offset) refl o,
      λ is. opens text offset there is,
    )
