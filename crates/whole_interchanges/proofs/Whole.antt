-- Where an interchange is whole by what is read of a text, it ends there in the text.
use Rattle.std.proofs.Common.{◌≡◌, ℕ, ◌+◌, ◌≤◌, List, [], ◌∷◌, ◌++◌, Bool, true, false, Option, Some, None}
use Rattle.std.proofs.Common.{length, take, drop, map, cond, refl, sym, ap, subst, ◌∙◌, arith}
use Rattle.std.specs.List.{prefix_len}
use Rattle.std.proofs.lemmas.List.{length-take-le}
use Rattle.x12_bytes.specs.Bytes.{is_line_end}
use Rattle.x12_bytes.specs.HeaderTest.{is_head}
use Rattle.x12_bytes.specs.declared.delims.Delims.{Delims}
use Rattle.x12_segs.specs.Words.{Seg, segs_from, rest_from, SegValue, view_of, kind_of}
use Rattle.x12_segs.proofs.ForAbove.{StandInOrder, segs_in_order}
use Rattle.env_index.specs.Words.{Reach, behind, ends_interchange, onto_reach, reach_of, reach_from}
use Rattle.whole_interchanges.specs.Begun.{may_begin}
use Rattle.whole_interchanges.specs.Batches.{end_by, end_from}
use Rattle.whole_interchanges.proofs.First.{first_is, first_start, leads_to_head, reach_at_first}
use Rattle.whole_interchanges.proofs.Heads.{head_fits, head_more, none_begins}
use Rattle.whole_interchanges.proofs.Split.{IsSplit, first_byte, split_at}

none_is_some : (e : ℕ) → ◌≡◌ {A = Option ℕ} None (Some e) → ⊥
none_is_some e is = (cc)

some_is : (a b : ℕ) → ◌≡◌ {A = Option ℕ} (Some a) (Some b) → a ≡ b
some_is a b is = (cc)

-- what stands in order stands within
pub low_within : (low : ℕ) (segs : List Seg) (rest : Seg) (len : ℕ) → StandInOrder low segs rest len → low ≤ len
low_within low [] rest len order = omega (arith, order.0, order.1)
low_within low (seg ∷ segs) rest len order =
    omega (arith, order.0, low_within (seg.start + length seg.bytes + 1) segs rest len order.1)

-- at its IEA, and at any other segment, where no header begins
pub reach_ends : (text : List ℕ) (x : SegValue) (xs : List SegValue) (rest : Seg) → is_head text x.start ≡ false
    → ends_interchange (kind_of x) ≡ true → reach_of text (x ∷ xs) rest ≡ record { segs = x ∷ []; end = behind x }
reach_ends text x xs rest none ends =
    ap (λ (b : Bool). cond b (let r : Reach = record { segs = []; end = x.start } in r)
    (cond (ends_interchange (kind_of x)) (record { segs = x ∷ []; end = behind x }) (onto_reach x (reach_of text xs rest)))) none
    ∙ ap (λ (b : Bool). cond b (let r : Reach = record { segs = x ∷ []; end = behind x } in r) (onto_reach x (reach_of text xs rest))) ends

pub reach_goes_on : (text : List ℕ) (x : SegValue) (xs : List SegValue) (rest : Seg) → is_head text x.start ≡ false
    → ends_interchange (kind_of x) ≡ false → reach_of text (x ∷ xs) rest ≡ onto_reach x (reach_of text xs rest)
reach_goes_on text x xs rest none ends =
    ap (λ (b : Bool). cond b (let r : Reach = record { segs = []; end = x.start } in r)
    (cond (ends_interchange (kind_of x)) (record { segs = x ∷ []; end = behind x }) (onto_reach x (reach_of text xs rest)))) none
    ∙ ap (λ (b : Bool). cond b (let r : Reach = record { segs = x ∷ []; end = behind x } in r) (onto_reach x (reach_of text xs rest))) ends

module _ (text : List ℕ) (c : ℕ) (within : c ≤ length text) (d : Delims) where
  -- the end by the segments that are read
  by_segs : (segs later : List Seg) (left rest : Seg) (low e : ℕ) → StandInOrder low segs left c
      → (is_head (take c text) left.start ≡ true → left.start ≡ first_start later rest)
      → end_by (take c text) (map (view_of d) segs) left ≡ Some e
      → (reach_of text (map (view_of d) (segs ++ later)) rest).end ≡ e
  by_segs [] later left rest low e order first is = by_test (is_head (take c text) left.start) refl is
    where
      by_test : (b : Bool) → is_head (take c text) left.start ≡ b → cond b (Some left.start) None ≡ Some e
          → (reach_of text (map (view_of d) later) rest).end ≡ e
      by_test true head same =
          let at : left.start ≡ first_start later rest = first head in
          let there : is_head text (first_start later rest) ≡ true =
          ap (is_head text) (sym at) ∙ head_more text c within left.start head in
          ap (λ (r : Reach). r.end) (reach_at_first text d later rest there) ∙ sym at ∙ some_is left.start e same
      by_test false head same = absurd (none_is_some e same)
  by_segs (seg ∷ segs) later left rest low e order first is =
      by_test (is_head (take c text) seg.start) (may_begin (take c text) seg.start) (ends_interchange (kind_of (view_of d seg)))
      refl refl refl is (by_segs segs later left rest (seg.start + length seg.bytes + 1) e order.1 first)
    where
      by_test : (h m t : Bool) → is_head (take c text) seg.start ≡ h → may_begin (take c text) seg.start ≡ m
          → ends_interchange (kind_of (view_of d seg)) ≡ t
          → cond h (Some seg.start) (cond m None (cond t (Some (behind (view_of d seg))) (end_by (take c text) (map
          (view_of d) segs) left)))
          ≡ Some e
          → (end_by (take c text) (map (view_of d) segs) left ≡ Some e → (reach_of text (map (view_of d) (segs ++ later)) rest).end ≡ e)
          → (reach_of text (map (view_of d) (seg ∷ (segs ++ later))) rest).end ≡ e
      by_test true m t head may ends same more =
          ap (λ (r : Reach). r.end) (reach_at_first text d (seg ∷ (segs ++ later)) rest (head_more text c within seg.start head))
          ∙ some_is seg.start e same
      by_test false true t head may ends same more = absurd (none_is_some e same)
      by_test false false true head may ends same more =
          let near : seg.start ≤ c = omega (arith, low_within (seg.start + length seg.bytes + 1) segs left c order.1) in
          let none : is_head text seg.start ≡ false = none_begins text c within seg.start near head may in
          ap (λ (r : Reach). r.end) (reach_ends text (view_of d seg) (map (view_of d) (segs ++ later)) rest none ends)
          ∙ some_is (behind (view_of d seg)) e same
      by_test false false false head may ends same more =
          let near : seg.start ≤ c = omega (arith, low_within (seg.start + length seg.bytes + 1) segs left c order.1) in
          let none : is_head text seg.start ≡ false = none_begins text c within seg.start near head may in
          ap (λ (r : Reach). r.end) (reach_goes_on text (view_of d seg) (map (view_of d) (segs ++ later)) rest none ends) ∙ more same

  -- after an offset
  pub end_is : (from e : ℕ) → from ≤ c → end_from (take c text) d from ≡ Some e → (reach_from text d from).end ≡ e
  end_is from e le is =
      let read : List ℕ = take c text in
      let t : ℕ = d.terminator in
      let size : length read ≡ c = length-take-le c text within in
      let s : IsSplit text c t from = split_at text c t from le within in
      let later : List Seg = segs_from text t s.open_at in
      let rest : Seg = rest_from text t s.open_at in
      let left : Seg = rest_from read t from in
      let order : StandInOrder from (segs_from read t from) left c =
      subst (StandInOrder from (segs_from read t from) left) size (segs_in_order read t from (omega arith)) in
      let found = first_byte t (drop s.open_at text) in
      let first : is_head read left.start ≡ true → left.start ≡ first_start later rest = λ head.
      (let at : left.start ≡ s.open_at + prefix_len is_line_end (drop s.open_at read) = ap (λ (x : Seg). x.start) s.left in
      let fits : left.start + 106 ≤ c = head_fits text c within left.start head in
      sym (first_is text t s.open_at left.start (leads_to_head text c t s.open_at left.start within s.within s.none at (omega arith))
      found.0 found.1)) in
      ap (λ (xs : List Seg). (reach_of text (map (view_of d) xs) (rest_from text t from)).end) s.segs
      ∙ ap (λ (r : Seg). (reach_of text (map (view_of d) (segs_from read t from ++ later)) r).end) s.rest
      ∙ by_segs (segs_from read t from) later left rest from e order first is
