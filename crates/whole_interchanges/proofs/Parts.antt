-- One part of a text, and where its interchange ends.
use Rattle.std.proofs.Common.{◌≡◌, ℕ, ◌+◌, ◌-◌, ◌<◌, ◌≤◌, List, [], ◌∷◌, ◌++◌, Bool, true, false, nat_eq, Some, None}
use Rattle.std.proofs.Common.{length, take, drop, get_or, map, cond, slice_range, refl, sym, ap, ◌∙◌, arith}
use Rattle.std.specs.List.{prefix_len}
use Rattle.std.proofs.lemmas.Bool.{both_ways, false_from_ne_true}
use Rattle.std.proofs.lemmas.List.{append-nil, drop-append-le, get_or_append_left, get_or-drop, get_or-take, length-append, length-drop}
use Rattle.std.proofs.lemmas.List.{length-take-le, take_rest}
use Rattle.std.proofs.lemmas.List.Sums.{prefix_len_is}
use Rattle.memchr.specs.Find.{IsFirstByte, is_byte}
use Rattle.x12_bytes.specs.Bytes.{is_line_end}
use Rattle.x12_bytes.specs.HeaderTest.{is_head}
use Rattle.x12_bytes.specs.declared.delims.Delims.{Delims}
use Rattle.x12_segs.specs.Words.{Seg, rest_from, seg_at, segs_from, without_line_ends, SegValue, view_of, kind_of}
use Rattle.x12_segs.proofs.ForAbove.{IsCut, cut_found, part_at-none, part_at-some, rest_from-found, rest_from-none, segs_from-found}
use Rattle.x12_segs.proofs.ForAbove.{segs_from-none, without_line_ends-slice}
use Rattle.env_index.specs.Words.{behind, ends_interchange}
use Rattle.whole_interchanges.specs.Begun.{is_begun, may_begin}
use Rattle.whole_interchanges.specs.Batches.{end_by, end_from}
use Rattle.whole_interchanges.proofs.BegunHeaders.{begun_cut}
use Rattle.whole_interchanges.proofs.First.{Leads, first_is, first_start}
use Rattle.whole_interchanges.proofs.Split.{first_byte, from_rest}

-- a part that a terminator ends
pub record IsPart (text : List ℕ) (t at lead end : ℕ) : Type 0 where
  pub order : at ≤ lead
  pub later : lead ≤ end
  pub below : end < length text
  pub line_ends : (k : ℕ) → k < lead - at → is_line_end (get_or (drop at text) k 0) ≡ true
  pub stops : lead < end → is_line_end (get_or (drop at text) (lead - at) 0) ≡ false
  pub none : (k : ℕ) → k < end - at → nat_eq (get_or (drop at text) k 0) t ≡ false
  pub ended : nat_eq (get_or (drop at text) (end - at) 0) t ≡ true

same_behind : (read more : List ℕ) (at k : ℕ) → at + k < length read → get_or (drop at (read ++ more)) k 0 ≡ get_or (drop at read) k 0
same_behind read more at k lt =
    get_or-drop at (read ++ more) k 0 ∙ get_or_append_left read more 0 (at + k) lt
    ∙ sym (get_or-drop at read k 0)

-- it is the same whatever follows
pub part_stays : (read more : List ℕ) (t at lead end : ℕ) → IsPart read t at lead end → IsPart (read ++ more) t at lead end
part_stays read more t at lead end p =
    let order : at ≤ lead = p.order in
    let later : lead ≤ end = p.later in
    let below : end < length read = p.below in
    record {
      order = order;
      later = later;
      below = omega (arith, length-append read more);
      line_ends = λ k lt. ap is_line_end (same_behind read more at k (omega (arith, lt))) ∙ p.line_ends k lt;
      stops = λ lt. ap is_line_end (same_behind read more at (lead - at) (omega (arith, lt))) ∙ p.stops lt;
      none = λ k lt. ap (λ (b : ℕ). nat_eq b t) (same_behind read more at k (omega (arith, lt))) ∙ p.none k lt;
      ended = ap (λ (b : ℕ). nat_eq b t) (same_behind read more at (end - at) (omega arith)) ∙ p.ended;
    }

module _ (text : List ℕ) (t at lead end : ℕ) (p : IsPart text t at lead end) where
  sum : at + (end - at) ≡ end
  sum = (let order : at ≤ lead = p.order in let later : lead ≤ end = p.later in omega arith)

  part_cut : IsCut text t at (end - at)
  part_cut =
      let order : at ≤ lead = p.order in
      let later : lead ≤ end = p.later in
      let below : end < length text = p.below in
      let room : length (drop at text) ≡ length text - at = length-drop at text in
      cut_found text t at (end - at) (omega arith) (from_rest text t at (Some (end - at)) (
        record {
          low = omega arith;
          high = omega arith;
          before = λ k low lt yes. both_ways (nat_eq (get_or (drop at text) k 0) t) (p.none k lt) yes;
        },
        p.ended,
      ))

  part_byte : (k : ℕ) → k < end - at → get_or (slice_range text at (at + (end - at))) k 0 ≡ get_or (drop at text) k 0
  part_byte k lt =
      let n : at + (end - at) - at ≡ end - at = omega arith in
      ap (λ (i : ℕ). get_or (take i (drop at text)) k 0) n ∙ get_or-take (end - at) (drop at text) k 0 lt

  part_lead : prefix_len is_line_end (slice_range text at (at + (end - at))) ≡ lead - at
  part_lead =
      let order : at ≤ lead = p.order in
      let later : lead ≤ end = p.later in
      let width : length (slice_range text at (at + (end - at))) ≡ end - at = part_cut.width in
      prefix_len_is is_line_end (slice_range text at (at + (end - at))) (lead - at) 0 (omega arith)
      (λ k lt. ap is_line_end (part_byte k (omega (arith, lt))) ∙ p.line_ends k lt)
      (λ lt. ap is_line_end (part_byte (lead - at) (omega (arith, lt))) ∙ p.stops (omega (arith, lt, width)))

  rest_on : rest_from text t at ≡ rest_from text t (end + 1)
  rest_on = rest_from-found text t at (end - at) part_cut ∙ ap (λ (n : ℕ). rest_from text t (n + 1)) sum

  -- CR and LF alone
  empty_part : lead ≡ end → segs_from text t at ≡ segs_from text t (end + 1)
  empty_part all =
      let width : length (slice_range text at (at + (end - at))) ≡ end - at = part_cut.width in
      segs_from-found text t at (end - at) part_cut
      ∙ ap (λ (xs : List Seg). xs ++ segs_from text t (at + (end - at) + 1))
      (part_at-none at (slice_range text at (at + (end - at))) (omega (arith, part_lead, all, width)))
      ∙ ap (λ (n : ℕ). segs_from text t (n + 1)) sum

  -- a segment
  a_segment : lead < end → segs_from text t at ≡ seg_at text lead end ∷ segs_from text t (end + 1)
  a_segment some =
      let order : at ≤ lead = p.order in
      let width : length (slice_range text at (at + (end - at))) ≡ end - at = part_cut.width in
      let place : at + (lead - at) ≡ lead = omega arith in
      let seg : without_line_ends at (slice_range text at (at + (end - at))) ≡ seg_at text (at + (lead - at)) (at + (end - at)) =
      without_line_ends-slice text at (at + (end - at)) (lead - at) (sym part_lead) (omega arith) in
      segs_from-found text t at (end - at) part_cut
      ∙ ap (λ (xs : List Seg). xs ++ segs_from text t (at + (end - at) + 1))
      (part_at-some at (slice_range text at (at + (end - at))) (omega (arith, part_lead, width, some))
      ∙ ap (λ (s : Seg). s ∷ []) (seg ∙ ap (λ (n : ℕ). seg_at text n (at + (end - at))) place ∙ ap (seg_at text lead) sum))
      ∙ ap (λ (n : ℕ). seg_at text lead end ∷ segs_from text t (n + 1)) sum

-- an empty part is passed over
pub passes_empty : (text : List ℕ) (d : Delims) (at end : ℕ) → IsPart text d.terminator at end end
    → end_from text d at ≡ end_from text d (end + 1)
passes_empty text d at end p =
    ap (λ (xs : List Seg). end_by text (map (view_of d) xs) (rest_from text d.terminator at))
    (empty_part text d.terminator at end end p refl)
    ∙ ap (end_by text (map (view_of d) (segs_from text d.terminator (end + 1)))) (rest_on text d.terminator at end end p)

-- the tests of a segment
end_tested : (text : List ℕ) (x : SegValue) (xs : List SegValue) (rest : Seg) (h m e : Bool) → is_head text x.start ≡ h
    → may_begin text x.start ≡ m → ends_interchange (kind_of x) ≡ e
    → end_by text (x ∷ xs) rest ≡ cond h (Some x.start) (cond m None (cond e (Some (behind x)) (end_by text xs rest)))
end_tested text x xs rest h m e is_h is_m is_e =
    ap (λ (b : Bool). cond b (Some x.start) (cond (may_begin text x.start) None
    (cond (ends_interchange (kind_of x)) (Some (behind x)) (end_by text xs rest)))) is_h
    ∙ ap (λ (b : Bool). cond h (Some x.start) (cond b None (cond (ends_interchange (kind_of x)) (Some (behind x))
    (end_by text xs rest)))) is_m
    ∙ ap (λ (b : Bool). cond h (Some x.start) (cond m None (cond b (Some (behind x)) (end_by text xs rest)))) is_e

pub end_at_segment : (text : List ℕ) (d : Delims) (at lead end : ℕ) (e : Bool) → IsPart text d.terminator at lead end → lead < end
    → is_head text lead ≡ false → may_begin text lead ≡ false → ends_interchange (kind_of (view_of d (seg_at text lead end))) ≡ e
    → end_from text d at ≡ cond e (Some (end + 1)) (end_from text d (end + 1))
end_at_segment text d at lead end e p some none closed is_e =
    let t : ℕ = d.terminator in
    let later : lead ≤ end = p.later in
    let below : end < length text = p.below in
    let x : SegValue = view_of d (seg_at text lead end) in
    let xs : List SegValue = map (view_of d) (segs_from text t (end + 1)) in
    let long : length x.bytes ≡ end - lead = length-take-le (end - lead) (drop lead text) (omega (arith, length-drop lead text)) in
    let last : behind x ≡ end + 1 = omega arith in
    ap (λ (ss : List Seg). end_by text (map (view_of d) ss) (rest_from text t at)) (a_segment text t at lead end p some)
    ∙ ap (end_by text (x ∷ xs)) (rest_on text t at lead end p)
    ∙ end_tested text x xs (rest_from text t (end + 1)) false false e none closed is_e
    ∙ ap (λ (n : ℕ). cond e (Some n) (end_from text d (end + 1))) last

-- by the first of the parts to come
end_first : (text : List ℕ) (d : Delims) (segs : List Seg) (rest : Seg) (q : ℕ) → first_start segs rest ≡ q → is_head text q ≡ true
    → end_by text (map (view_of d) segs) rest ≡ Some q
end_first text d [] rest q at head =
    ap (λ (b : Bool). cond b (Some rest.start) None) (ap (is_head text) at ∙ head) ∙ ap (λ (n : ℕ). Some n) at
end_first text d (seg ∷ segs) rest q at head =
    ap (λ (b : Bool). cond b (Some seg.start) (cond (may_begin text seg.start) None (cond (ends_interchange (kind_of (view_of d seg)))
    (Some (behind (view_of d seg))) (end_by text (map (view_of d) segs) rest)))) (ap (is_head text) at ∙ head)
    ∙ ap (λ (n : ℕ). Some n) at

none_first : (text : List ℕ) (d : Delims) (segs : List Seg) (rest : Seg) (q : ℕ) → first_start segs rest ≡ q → is_head text q ≡ false
    → may_begin text q ≡ true → end_by text (map (view_of d) segs) rest ≡ None
none_first text d [] rest q at head may = ap (λ (b : Bool). cond b (Some rest.start) None) (ap (is_head text) at ∙ head)
none_first text d (seg ∷ segs) rest q at head may =
    ap (λ (b : Bool). cond b (Some seg.start) (cond (may_begin text seg.start) None (cond (ends_interchange (kind_of (view_of d seg)))
    (Some (behind (view_of d seg))) (end_by text (map (view_of d) segs) rest)))) (ap (is_head text) at ∙ head)
    ∙ ap (λ (b : Bool). cond b None (cond (ends_interchange (kind_of (view_of d seg)))
    (Some (behind (view_of d seg))) (end_by text (map (view_of d) segs) rest))) (ap (may_begin text) at ∙ may)

pub ends_at_head : (text : List ℕ) (d : Delims) (at q : ℕ) → Leads text d.terminator at q → is_head text q ≡ true
    → end_from text d at ≡ Some q
ends_at_head text d at q leads head =
    let found = first_byte d.terminator (drop at text) in
    end_first text d (segs_from text d.terminator at) (rest_from text d.terminator at) q
    (first_is text d.terminator at q leads found.0 found.1) head

pub waits_for_head : (text : List ℕ) (d : Delims) (at q : ℕ) → Leads text d.terminator at q → is_head text q ≡ false
    → may_begin text q ≡ true → end_from text d at ≡ None
waits_for_head text d at q leads none may =
    let found = first_byte d.terminator (drop at text) in
    none_first text d (segs_from text d.terminator at) (rest_from text d.terminator at) q
    (first_is text d.terminator at q leads found.0 found.1) none may

-- no terminator is read
pub waits_for_terminator : (text : List ℕ) (d : Delims) (at lead : ℕ) → at ≤ lead → lead ≤ length text
    → ((k : ℕ) → k < lead - at → is_line_end (get_or (drop at text) k 0) ≡ true)
    → (lead < length text → is_line_end (get_or (drop at text) (lead - at) 0) ≡ false)
    → ((k : ℕ) → k < length text - at → nat_eq (get_or (drop at text) k 0) d.terminator ≡ false)
    → is_head text lead ≡ false → end_from text d at ≡ None
waits_for_terminator text d at lead order within line_ends stops none head =
    let t : ℕ = d.terminator in
    let room : length (drop at text) ≡ length text - at = length-drop at text in
    let open_end : IsFirstByte (is_byte t) (drop at text) None =
    λ k low lt yes. both_ways (nat_eq (get_or (drop at text) k 0) t) (none k (omega (arith, lt))) yes in
    let no_t = from_rest text t at None open_end in
    let n : prefix_len is_line_end (drop at text) ≡ lead - at = prefix_len_is is_line_end (drop at text) (lead - at) 0 (omega arith)
    line_ends (λ lt. stops (omega (arith, lt))) in
    let start : at + prefix_len is_line_end (drop at text) ≡ lead = omega arith in
    ap (λ (xs : List Seg). end_by text (map (view_of d) xs) (rest_from text t at)) (segs_from-none text t at no_t)
    ∙ ap (λ (r : Seg). end_by text [] r) (rest_from-none text t at no_t)
    ∙ ap (λ (b : Bool). cond b (Some (at + prefix_len is_line_end (drop at text))) None) (ap (is_head text) start ∙ head)

-- where no header may begin by what is read, none may by what is read later
pub closed_stays : (read more : List ℕ) (q : ℕ) → q ≤ length read → may_begin read q ≡ false → may_begin (read ++ more) q ≡ false
closed_stays read more q le closed = false_from_ne_true (may_begin (read ++ more) q) (λ may.
    let long : drop q (read ++ more) ≡ drop q read ++ more = drop-append-le q read more le in
    let front : take (length (drop q read)) (drop q (read ++ more)) ≡ drop q read =
    ap (take (length (drop q read))) long ∙ Rattle.std.proofs.lemmas.List.take_at (drop q read) more (length (drop q read)) refl in
    let fits : length (drop q read) ≤ length (drop q (read ++ more)) =
    omega (arith, ap (λ (xs : List ℕ). length xs) long, length-append (drop q read) more) in
    both_ways (may_begin read q) closed
    (sym (ap is_begun front) ∙ begun_cut (drop q (read ++ more)) (length (drop q read)) fits may))
