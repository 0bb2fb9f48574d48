-- What a part that is looked at makes of its interchange.
use Rattle.std.proofs.Common.{◌≡◌, ℕ, ◌+◌, ◌-◌, ◌<◌, ◌≤◌, max, List, [], ◌++◌, Bool, true, false, ◌&&◌, not, nat_eq, Some}
use Rattle.std.proofs.Common.{None}
use Rattle.std.proofs.Common.{length, take, drop, get_or, cond, slice_range, refl, sym, ap, subst, ◌∙◌, arith, inl, inr}
use Rattle.std.specs.List.{prefix_len}
use Rattle.std.proofs.lemmas.Bool.{and_cases, and_parts, both_ways, cases_lt, false_from_ne_true, not-false, not-true}
use Rattle.std.proofs.lemmas.List.{append-nil, drop-append-le, get_or-drop, length-drop, take-append-le, take_rest}
use Rattle.std.proofs.lemmas.List.Sums.{prefix_len-le-length, prefix_len_passes, prefix_len_stops}
use Rattle.memchr.specs.Find.{IsFirstByte, is_byte}
use Rattle.x12_bytes.specs.Bytes.{is_line_end}
use Rattle.x12_bytes.specs.HeaderTest.{is_head}
use Rattle.x12_bytes.specs.declared.delims.Delims.{Delims}
use Rattle.x12_segs.specs.Words.{Seg, seg_at, view_of, kind_of}
use Rattle.env_index.specs.Words.{ends_interchange}
use Rattle.env_index.proofs.ForAbove.{no_head_past}
use Rattle.whole_interchanges.specs.Begun.{may_begin}
use Rattle.whole_interchanges.specs.Batches.{end_from}
use Rattle.whole_interchanges.proofs.Chains.{none_behind}
use Rattle.whole_interchanges.proofs.First.{Leads}
use Rattle.whole_interchanges.specs.Open.{GoesOn, IsOpen}
use Rattle.whole_interchanges.specs.Steps.{Steps, Waits}
use Rattle.whole_interchanges.specs.declared.following.OpenPart.{OpenPart}
use Rattle.whole_interchanges.specs.declared.following.Step.TheVariants as step
use Rattle.whole_interchanges.proofs.Parts.{IsPart, closed_stays, end_at_segment, ends_at_head, part_stays, passes_empty, waits_for_head}
use Rattle.whole_interchanges.proofs.Parts.{waits_for_terminator}

abbrev part_at : (at lead seen : ℕ) → OpenPart
part_at at lead seen = record { at = at; lead = lead; seen = seen }

byte_behind : (read : List ℕ) (at k : ℕ) → at ≤ k → get_or (drop at read) (k - at) 0 ≡ get_or read k 0
byte_behind read at k le =
    let place : at + (k - at) ≡ k = omega arith in
    get_or-drop at read (k - at) 0 ∙ ap (λ (i : ℕ). get_or read i 0) place

-- the lead that was found: CR and LF stand up to it, and no terminator
pub lead_found : (read : List ℕ) (t at lead seen new : ℕ) → IsOpen read t at lead seen
    → new ≡ lead + prefix_len (λ b. is_line_end b && not (nat_eq b t)) (drop lead read) → IsOpen read t at new new
lead_found read t at lead seen new o is =
    let p : ℕ → Bool = λ b. is_line_end b && not (nat_eq b t) in
    let order : at ≤ lead = o.order in
    let later : lead ≤ seen = o.later in
    let within : seen ≤ length read = o.within in
    let room : length (drop lead read) ≡ length read - lead = length-drop lead read in
    let bound : prefix_len p (drop lead read) ≤ length (drop lead read) = prefix_len-le-length p (drop lead read) in
    let passes : (k : ℕ) → lead ≤ at + k → at + k < new → p (get_or (drop at read) k 0) ≡ true = λ k low lt.
    (let shift : lead + (at + k - lead) ≡ at + k = omega (arith, low) in
    let same : get_or (drop lead read) (at + k - lead) 0 ≡ get_or (drop at read) k 0 =
    get_or-drop lead read (at + k - lead) 0 ∙ ap (λ (i : ℕ). get_or read i 0) shift ∙ sym (get_or-drop at read k 0) in
    ap p (sym same) ∙ prefix_len_passes p (drop lead read) (at + k - lead) 0 (omega (arith, low, lt, is))) in
    record {
      order = omega arith;
      later = omega arith;
      within = omega arith;
      line_ends = λ k lt. elim (cases_lt (at + k) lead) [
        | inl near ↦ o.line_ends k (omega (arith, near))
        | inr far ↦ (and_parts (is_line_end (get_or (drop at read) k 0)) (not (nat_eq (get_or (drop at read) k 0) t))
            (passes k far (omega (arith, lt)))).0
      ];
      none = λ k lt. elim (cases_lt (at + k) lead) [
        | inl near ↦ o.none k (omega (arith, near))
        | inr far ↦ not-true (nat_eq (get_or (drop at read) k 0) t)
            (and_parts (is_line_end (get_or (drop at read) k 0)) (not (nat_eq (get_or (drop at read) k 0) t))
            (passes k far (omega (arith, lt)))).1
      ];
    }

-- and at it another byte, or the terminator
pub lead_stops : (read : List ℕ) (t lead new : ℕ) → lead ≤ length read
    → new ≡ lead + prefix_len (λ b. is_line_end b && not (nat_eq b t)) (drop lead read) → new < length read
    → nat_eq (get_or read new 0) t ≡ false → is_line_end (get_or read new 0) ≡ false
lead_stops read t lead new within is lt other =
    let p : ℕ → Bool = λ b. is_line_end b && not (nat_eq b t) in
    let room : length (drop lead read) ≡ length read - lead = length-drop lead read in
    let stops : p (get_or (drop lead read) (prefix_len p (drop lead read)) 0) ≡ false =
    prefix_len_stops p (drop lead read) 0 (omega arith) in
    let same : get_or (drop lead read) (prefix_len p (drop lead read)) 0 ≡ get_or read new 0 =
    get_or-drop lead read (prefix_len p (drop lead read)) 0 ∙ ap (λ (i : ℕ). get_or read i 0) (sym is) in
    elim (and_cases (is_line_end (get_or read new 0)) (not (nat_eq (get_or read new 0) t)) (ap p (sym same) ∙ stops)) [
      | inl none ↦ none
      | inr no_way ↦ absurd (both_ways (nat_eq (get_or read new 0) t) other (not-false (nat_eq (get_or read new 0) t) no_way))
    ]

-- all that is read of the part is CR and LF
pub waits_blank : (read : List ℕ) (d : Delims) (at lead : ℕ) → IsOpen read d.terminator at lead lead → lead ≡ length read
    → Waits read d at (part_at at lead lead)
waits_blank read d at lead o all =
    let order : at ≤ lead = o.order in
    record {
      same = refl;
      open_part = o;
      unknown = waits_for_terminator read d at lead order (omega arith) o.line_ends (λ lt. absurd (omega (arith, lt)))
          (λ k lt. o.none k (omega (arith, lt))) (no_head_past read lead (omega arith));
      short = inl (inl all);
    }

-- nothing but CR and LF stood before the terminator
pub on_empty : (read : List ℕ) (d : Delims) (at lead : ℕ) → IsOpen read d.terminator at lead lead → lead < length read
    → nat_eq (get_or read lead 0) d.terminator ≡ true → (at < lead + 1) × (lead + 1 ≤ length read) × GoesOn read d at (lead + 1)
on_empty read d at lead o lt ended =
    let order : at ≤ lead = o.order in
    let part : IsPart read d.terminator at lead lead = record {
      order = order;
      later = omega arith;
      below = lt;
      line_ends = o.line_ends;
      stops = λ no_way. absurd (omega (arith, no_way));
      none = o.none;
      ended = ap (λ (b : ℕ). nat_eq b d.terminator) (byte_behind read at lead order) ∙ ended;
    } in
    (omega arith, omega arith, λ more. passes_empty (read ++ more) d at lead (part_stays read more d.terminator at lead lead part))

-- a part whose first byte is read
module _ (read : List ℕ) (d : Delims) (at lead plead pseen : ℕ) (o : IsOpen read d.terminator at lead lead)
    (p : IsOpen read d.terminator at plead pseen) (lt : lead < length read) (other : is_line_end (get_or read lead 0) ≡ false)
    (inner : nat_eq (get_or read lead 0) d.terminator ≡ false) where
  order : at ≤ lead
  order = o.order

  leads : Leads read d.terminator at lead
  leads = record {
    order = order;
    within = lt;
    line_ends = o.line_ends;
    other = ap is_line_end (byte_behind read at lead order) ∙ other;
    no_terminator = λ k le. elim (cases_lt k (lead - at)) [
      | inl near ↦ o.none k near
      | inr last ↦
          let k_is : k ≡ lead - at = omega (arith, le, last) in
          ap (λ (i : ℕ). nat_eq (get_or (drop at read) i 0) d.terminator) k_is
          ∙ ap (λ (b : ℕ). nat_eq b d.terminator) (byte_behind read at lead order) ∙ inner
    ];
  }

  pub ends_here : is_head read lead ≡ true → end_from read d at ≡ Some lead
  ends_here head = ends_at_head read d at lead leads head

  -- up to where no terminator is known to stand
  seen_on : (seen : ℕ) → seen ≡ max lead pseen → IsOpen read d.terminator at lead seen
  seen_on seen is = record {
    order = order;
    later = omega arith;
    within = omega (arith, p.within);
    line_ends = o.line_ends;
    none = λ k below. elim (cases_lt k (lead - at)) [
      | inl near ↦ o.none k near
      | inr far ↦ p.none k (omega (arith, far, below, order, is))
    ];
  }

  pub waits_begun : (seen : ℕ) → seen ≡ max lead pseen → is_head read lead ≡ false → may_begin read lead ≡ true
      → Waits read d at (part_at at lead seen)
  waits_begun seen is none may = record {
    same = refl;
    open_part = seen_on seen is;
    unknown = waits_for_head read d at lead leads none may;
    short = inl (inr may);
  }

  pub waits_unended : (seen : ℕ) → seen ≡ max lead pseen → IsFirstByte (is_byte d.terminator) (slice_range read seen (length read)) None
      → is_head read lead ≡ false → Waits read d at (part_at at lead (length read))
  waits_unended seen is nowhere none =
      let s : IsOpen read d.terminator at lead seen = seen_on seen is in
      let later : lead ≤ seen = s.later in
      let within : seen ≤ length read = s.within in
      let room : length (drop seen read) ≡ length read - seen = length-drop seen read in
      let rest : IsFirstByte (is_byte d.terminator) (drop seen read) None =
      subst (λ hay. IsFirstByte (is_byte d.terminator) hay None) (take_rest read seen) nowhere in
      let clear : (k : ℕ) → k < length read - at → nat_eq (get_or (drop at read) k 0) d.terminator ≡ false =
      λ k below. elim (cases_lt (at + k) seen) [
        | inl near ↦ s.none k (omega (arith, near))
        | inr far ↦ false_from_ne_true (nat_eq (get_or (drop at read) k 0) d.terminator) (λ yes.
            (let shift : seen + (at + k - seen) ≡ at + k = omega (arith, far) in
            let same : get_or (drop seen read) (at + k - seen) 0 ≡ get_or (drop at read) k 0 =
            get_or-drop seen read (at + k - seen) 0 ∙ ap (λ (i : ℕ). get_or read i 0) shift ∙ sym (get_or-drop at read k 0) in
            rest (at + k - seen) (omega arith) (omega (arith, far, below))
            (ap (λ (b : ℕ). nat_eq b d.terminator) same ∙ yes)))
      ] in
      record {
        same = refl;
        open_part = record {
          order = order;
          later = omega arith;
          within = omega arith;
          line_ends = o.line_ends;
          none = clear;
        };
        unknown = waits_for_terminator read d at lead order (omega arith) o.line_ends (λ _. leads.other) clear none;
        short = inr (other, refl);
      }

  pub passes_on : (seen ahead : ℕ) → seen ≡ max lead pseen
      → IsFirstByte (is_byte d.terminator) (slice_range read seen (length read)) (Some ahead)
      → is_head read lead ≡ false → may_begin read lead ≡ false
      → (e : Bool) → ends_interchange (kind_of (view_of d (seg_at read lead (seen + ahead)))) ≡ e
      → Steps read d at (cond e (step.End (seen + ahead + 1)) (step.On (seen + ahead + 1)))
  passes_on seen ahead is found none closed e is_e = by_kind e is_e
    where
      m : ℕ
      m = seen + ahead

      s : IsOpen read d.terminator at lead seen
      s = seen_on seen is

      room : length (drop seen read) ≡ length read - seen
      room = length-drop seen read

      there : IsFirstByte (is_byte d.terminator) (drop seen read) (Some ahead)
      there = subst (λ hay. IsFirstByte (is_byte d.terminator) hay (Some ahead)) (take_rest read seen) found

      high : ahead < length read - seen
      high = (let h : ahead < length (drop seen read) = there.0.high in omega (arith, room))

      later : lead ≤ seen
      later = s.later

      within : seen ≤ length read
      within = s.within

      shifted : (k : ℕ) → seen ≤ at + k → get_or (drop seen read) (at + k - seen) 0 ≡ get_or (drop at read) k 0
      shifted k far =
          let shift : seen + (at + k - seen) ≡ at + k = omega (arith, far) in
          get_or-drop seen read (at + k - seen) 0 ∙ ap (λ (i : ℕ). get_or read i 0) shift ∙ sym (get_or-drop at read k 0)

      ended : nat_eq (get_or (drop at read) (m - at) 0) d.terminator ≡ true
      ended =
          let k_is : at + (m - at) - seen ≡ ahead = omega (arith, later, order) in
          ap (λ (b : ℕ). nat_eq b d.terminator) (sym (shifted (m - at) (omega (arith, later, order)))
          ∙ ap (λ (i : ℕ). get_or (drop seen read) i 0) k_is) ∙ there.1

      clear : (k : ℕ) → k < m - at → nat_eq (get_or (drop at read) k 0) d.terminator ≡ false
      clear k below = elim (cases_lt (at + k) seen) [
        | inl near ↦ s.none k (omega (arith, near))
        | inr far ↦ false_from_ne_true (nat_eq (get_or (drop at read) k 0) d.terminator) (λ yes.
            there.0.before (at + k - seen) (omega arith) (omega (arith, far, below))
            (ap (λ (b : ℕ). nat_eq b d.terminator) (shifted k far) ∙ yes))
      ]

      part : IsPart read d.terminator at lead m
      part = record {
        order = order;
        later = omega (arith, later);
        below = omega (arith, high, within);
        line_ends = o.line_ends;
        stops = λ _. leads.other;
        none = clear;
        ended = ended;
      }

      some : lead < m
      some = elim (cases_lt lead m) [
        | inl lt ↦ lt
        | inr ge ↦
            let same : lead ≡ m = omega (arith, ge, later) in
            absurd (both_ways (nat_eq (get_or read lead 0) d.terminator) inner
            (ap (λ (b : ℕ). nat_eq b d.terminator) (sym (byte_behind read at lead order)
            ∙ ap (λ (i : ℕ). get_or (drop at read) (i - at) 0) same) ∙ ended))
      ]

      same_seg : (more : List ℕ) → seg_at (read ++ more) lead m ≡ seg_at read lead m
      same_seg more =
          let long : length (drop lead read) ≡ length read - lead = length-drop lead read in
          ap (λ (bytes : List ℕ). let seg : Seg = record { start = lead; bytes = bytes } in seg)
          (ap (take (m - lead)) (drop-append-le lead read more (omega (arith, later, within)))
          ∙ take-append-le (m - lead) (drop lead read) more (omega (arith, long, high, later, within)))

      by_kind : (e : Bool) → ends_interchange (kind_of (view_of d (seg_at read lead m))) ≡ e
          → Steps read d at (cond e (step.End (m + 1)) (step.On (m + 1)))
      by_kind true is_e = end_at_segment read d at lead m true part some none closed is_e
      by_kind false is_e = (
        omega (arith, order, some),
        omega (arith, high, within),
        λ more. end_at_segment (read ++ more) d at lead m false (part_stays read more d.terminator at lead m part) some
            (none_behind read more lead (omega arith) none closed) (closed_stays read more lead (omega arith) closed)
            (ap (λ (seg : Seg). ends_interchange (kind_of (view_of d seg))) (same_seg more) ∙ is_e),
      )

-- what is so whatever follows is so now
pub goes_now : (read : List ℕ) (d : Delims) (a b : ℕ) → GoesOn read d a b → end_from read d a ≡ end_from read d b
goes_now read d a b goes =
    ap (λ (xs : List ℕ). end_from xs d a) (sym (append-nil read)) ∙ goes [] ∙ ap (λ (xs : List ℕ). end_from xs d b) (append-nil read)
