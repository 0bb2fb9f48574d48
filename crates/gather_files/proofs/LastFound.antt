-- Where the last part of what is read of an interchange begins, if no header can turn out to begin.
use Rattle.std.proofs.Common.{◌≡◌, ◌∙◌, ℕ, zero, suc, ◌+◌, ◌-◌, ◌<◌, ◌≤◌, max, List, Bool, true, false, ◌&&◌, not}
use Rattle.std.proofs.Common.{nat_eq, Option, Some, None, length, drop, get_or, slice_range, refl, sym, arith, inl, inr}
use Rattle.std.specs.List.{prefix_len}
use Rattle.std.proofs.lemmas.Bool.{cases_lt, false_from_ne_true}
use Rattle.memchr.specs.Find.{IsFirstByte, is_byte}
use Rattle.x12_bytes.specs.Bytes.{is_line_end}
use Rattle.x12_bytes.specs.HeaderTest.{is_head}
use Rattle.x12_bytes.specs.declared.delims.Delims.{Delims}
use Rattle.x12_segs.specs.Words.{seg_at, view_of, kind_of}
use Rattle.env_index.specs.Words.{ends_interchange}
use Rattle.whole_interchanges.specs.Begun.{may_begin}
use Rattle.whole_interchanges.specs.Batches.{end_from}
use Rattle.whole_interchanges.proofs.ForAbove.{first_byte}
use Rattle.whole_interchanges.specs.Open.{GoesOn, IsOpen}
use Rattle.whole_interchanges.specs.Steps.{Waits}
use Rattle.whole_interchanges.proofs.ForAbove.{ends_here, goes_now, lead_found, lead_stops, on_empty, passes_on, waits_unended}

-- where an interchange's last part begins, if no header can turn out to begin in what is read
pub record HasLast (read : List ℕ) (d : Delims) (at : ℕ) : Type 0 where
  pub from : ℕ
  pub later : at ≤ from
  pub within : from ≤ length read
  pub goes : GoesOn read d at from
  pub none : (k : ℕ) → k < length read - from → nat_eq (get_or (drop from read) k 0) d.terminator ≡ false

pub no_end : (e : ℕ) (o : Option ℕ) → o ≡ Some e → o ≡ None → ⊥
no_end e o some none = (let no : Some e ≡ None = sym some ∙ none in cc)

module _ (read : List ℕ) (d : Delims) (closed : (q : ℕ) → q < length read → may_begin read q ≡ false) where
  abbrev t : ℕ
  t = d.terminator

  later_last : (a b : ℕ) → a ≤ b → GoesOn read d a b → HasLast read d b → HasLast read d a
  later_last a b le goes l = record {
    from = l.from;
    later = omega (arith, le, l.later);
    within = l.within;
    goes = λ more. goes more ∙ l.goes more;
    none = l.none;
  }

  -- by its first part
  module _ (at : ℕ) (le : at ≤ length read) (unknown : end_from read d at ≡ None)
      (on : (m : ℕ) → at < m → m ≤ length read → end_from read d m ≡ None → HasLast read d m) where
    abbrev lead : ℕ
    lead = at + prefix_len (λ x. is_line_end x && not (nat_eq x t)) (drop at read)

    here : IsOpen read t at at at
    here = record {
      order = omega arith;
      later = omega arith;
      within = le;
      line_ends = λ k lt. absurd (omega (arith, lt));
      none = λ k lt. absurd (omega (arith, lt));
    }

    o : IsOpen read t at lead lead
    o = lead_found read t at at at lead here refl

    next : (m : ℕ) → at < m → m ≤ length read → GoesOn read d at m → HasLast read d at
    next m further within goes =
        later_last at m (omega (arith, further)) goes (on m further within (sym (goes_now read d at m goes) ∙ unknown))

    ends_here_last : ((k : ℕ) → k < length read - at → nat_eq (get_or (drop at read) k 0) t ≡ false) → HasLast read d at
    ends_here_last none = record {
      from = at;
      later = omega arith;
      within = le;
      goes = λ more. refl;
      none = none;
    }

    -- after its first byte, which is another
    module _ (lt : lead < length read) (inner : nat_eq (get_or read lead 0) t ≡ false) where
      other : is_line_end (get_or read lead 0) ≡ false
      other = lead_stops read t at lead le refl lt inner

      no_head : is_head read lead ≡ false
      no_head = false_from_ne_true (is_head read lead)
          (λ head. no_end lead (end_from read d at) (ends_here read d at lead lead lead o o lt other inner head) unknown)

      most : lead ≡ max lead lead
      most = omega arith

      by_kind : (ahead : ℕ) → IsFirstByte (is_byte t) (slice_range read lead (length read)) (Some ahead)
          → (e : Bool) → ends_interchange (kind_of (view_of d (seg_at read lead (lead + ahead)))) ≡ e → HasLast read d at
      by_kind ahead found true kind =
          absurd (no_end (lead + ahead + 1) (end_from read d at)
          (passes_on read d at lead lead lead o o lt other inner lead ahead most found no_head (closed lead lt) true kind) unknown)
      by_kind ahead found false kind =
          let s = passes_on read d at lead lead lead o o lt other inner lead ahead most found no_head (closed lead lt) false kind in
          next (lead + ahead + 1) s.0 s.1 s.2

      by_terminator : (m : Option ℕ) → IsFirstByte (is_byte t) (slice_range read lead (length read)) m → HasLast read d at
      by_terminator None nowhere =
          let w : Waits read d at (record { at = at; lead = lead; seen = length read }) =
          waits_unended read d at lead lead lead o o lt other inner lead most nowhere no_head in
          ends_here_last w.open_part.none
      by_terminator (Some ahead) found =
          by_kind ahead found (ends_interchange (kind_of (view_of d (seg_at read lead (lead + ahead))))) refl

    by_byte : lead < length read → (e : Bool) → nat_eq (get_or read lead 0) t ≡ e → HasLast read d at
    by_byte lt true ends = (let s = on_empty read d at lead o lt ends in next (lead + 1) s.0 s.1 s.2)
    by_byte lt false inner =
        let found = first_byte t (slice_range read lead (length read)) in
        by_terminator lt inner found.0 found.1

    by_first_part : HasLast read d at
    by_first_part = elim (cases_lt lead (length read)) [
      | inr all ↦ ends_here_last (λ k low. o.none k (omega (arith, low, all)))
      | inl lt ↦ by_byte lt (nat_eq (get_or read lead 0) t) refl
    ]

  pub last_of : (fuel at : ℕ) → length read - at ≤ fuel → at ≤ length read → end_from read d at ≡ None → HasLast read d at
  last_of zero at few le unknown = record {
    from = at;
    later = omega arith;
    within = le;
    goes = λ more. refl;
    none = λ k lt. absurd (omega (arith, lt, few));
  }
  last_of (suc fuel) at few le unknown =
      by_first_part at le unknown (λ m further within u. last_of fuel m (omega (arith, few, further, within)) within u)
