-- An interchange that ends in what is read of a text has the same segments and the same end there.
use Rattle.std.proofs.Common.{◌≡◌, ℕ, ◌+◌, ◌-◌, ◌<◌, ◌≤◌, List, [], ◌∷◌, ◌++◌, Bool, true, false, None, ◌⊎◌, inl, inr}
use Rattle.std.proofs.Common.{length, take, drop, get_or, map, cond, refl, sym, ap, subst, ◌∙◌, arith}
use Rattle.std.specs.List.{prefix_len}
use Rattle.std.proofs.lemmas.Bool.{both_ways, cases_lt, eq-eqb}
use Rattle.std.proofs.lemmas.List.{get_or-drop, get_or-take, length-drop, length-take-le, take_all}
use Rattle.std.proofs.lemmas.List.Sums.{prefix_len-le-length, prefix_len_passes}
use Rattle.memchr.specs.Find.{IsFirstByte, is_byte}
use Rattle.x12_bytes.specs.Bytes.{is_line_end}
use Rattle.x12_bytes.specs.HeaderTest.{is_head}
use Rattle.x12_bytes.specs.declared.delims.Delims.{Delims}
use Rattle.x12_segs.specs.Words.{Seg, segs_from, rest_from, without_line_ends, view_of, kind_of}
use Rattle.x12_segs.proofs.ForAbove.{IsFirstSeg, first_seg, StandInOrder, segs_in_order}
use Rattle.env_index.specs.Words.{Reach, behind, ends_interchange, onto_reach, reach_of, reach_from}
use Rattle.env_index.proofs.ForAbove.{head_letter, no_head_past}
use Rattle.whole_interchanges.proofs.First.{first_is, first_start, leads_to_head, reach_at_first}
use Rattle.whole_interchanges.proofs.Heads.{head_kept, none_more}
use Rattle.whole_interchanges.proofs.Split.{IsSplit, first_byte, split_at}
use Rattle.whole_interchanges.proofs.Whole.{low_within, reach_ends, reach_goes_on}

-- an interchange ends after what it begins with
pub low_end : (text : List ℕ) (d : Delims) (low : ℕ) (segs : List Seg) (rest : Seg) → StandInOrder low segs rest (length text)
    → low ≤ (reach_of text (map (view_of d) segs) rest).end
low_end text d low [] rest order = by_test (is_head text rest.start)
  where
    by_test : (b : Bool) → low ≤ (let r : Reach = record { segs = []; end = cond b rest.start (length text) } in r).end
    by_test true = order.0
    by_test false = omega (arith, order.0, order.1)
low_end text d low (seg ∷ segs) rest order =
    by_tests (is_head text seg.start) (ends_interchange (kind_of (view_of d seg)))
    (low_end text d (seg.start + length seg.bytes + 1) segs rest order.1)
  where
    by_tests : (h t : Bool) → seg.start + length seg.bytes + 1 ≤ (reach_of text (map (view_of d) segs) rest).end
        → low ≤ (cond h (let r : Reach = record { segs = []; end = seg.start } in r)
        (cond t (record { segs = view_of d seg ∷ []; end = behind (view_of d seg) })
        (onto_reach (view_of d seg) (reach_of text (map (view_of d) segs) rest)))).end
    by_tests true t later = order.0
    by_tests false true later = omega (arith, order.0)
    by_tests false false later = omega (arith, order.0, later)

-- a header at the end is read whole, or what is read ends there
abbrev pub Clears : List ℕ → (c end : ℕ) → Type 0
Clears text c end = is_head text end ≡ true → (end ≡ c) ⊎ (end + 106 ≤ c)

module _ (text : List ℕ) (c : ℕ) (below : c < length text) (d : Delims) where
  within : c ≤ length text
  within = omega arith

  size : length (take c text) ≡ c
  size = length-take-le c text within

  abbrev AtOpen : ℕ → Type 0
  AtOpen p = IsFirstByte (is_byte d.terminator) (drop p (take c text)) None

  -- no terminator stands between
  past_read : (p m : ℕ) → AtOpen p → p ≤ m → get_or text m 0 ≡ d.terminator → c ≤ m
  past_read p m none le is = elim (cases_lt m c) [
    | inr ge ↦ ge
    | inl lt ↦
        let room : length (drop p (take c text)) ≡ length (take c text) - p = length-drop p (take c text) in
        let place : p + (m - p) ≡ m = omega arith in
        let byte : get_or (drop p (take c text)) (m - p) 0 ≡ d.terminator =
        get_or-drop p (take c text) (m - p) 0 ∙ ap (λ (k : ℕ). get_or (take c text) k 0) place ∙ get_or-take c text m 0 lt ∙ is in
        absurd (none (m - p) (omega arith) (omega (arith, size))
        (eq-eqb (get_or (drop p (take c text)) (m - p) 0) d.terminator byte))
  ]

  -- what the part that is open makes of it
  at_head : (p : ℕ) → p ≤ c → AtOpen p → (f : ℕ) → f ≡ first_start (segs_from text d.terminator p) (rest_from text d.terminator p)
      → p ≤ f → f ≤ c → is_head text f ≡ true → Clears text c f
      → reach_of (take c text) [] (without_line_ends p (drop p (take c text))) ≡ record { segs = []; end = f }
  at_head p le none f is low high head clears =
      let read : List ℕ = drop p (take c text) in
      let room : length read ≡ length (take c text) - p = length-drop p (take c text) in
      let n : ℕ = prefix_len is_line_end read in
      let bound : n ≤ length read = prefix_len-le-length is_line_end read in
      let found = first_byte d.terminator (drop p text) in
      let end_by : Bool → Reach = λ b. record { segs = []; end = cond b (p + n) (length (take c text)) } in
      elim (cases_lt (p + n) c) [
        | inl lt ↦
            let at : f ≡ p + n = is ∙ first_is text d.terminator p (p + n)
            (leads_to_head text c d.terminator p (p + n) within le none refl lt) found.0 found.1 in
            let whole : f + 106 ≤ c = elim (clears head) [ inl same ↦ absurd (omega (arith, same, at)) | inr fits ↦ fits ] in
            let here : is_head (take c text) (p + n) ≡ true = ap (is_head (take c text)) (sym at) ∙ head_kept text c within f whole
            ∙ head in
            ap end_by here ∙ ap (λ (k : ℕ). let r : Reach = record { segs = []; end = k } in r) (sym at)
        | inr ge ↦
            let end : p + n ≡ c = omega (arith, size) in
            let none_here : is_head (take c text) (p + n) ≡ false = no_head_past (take c text) (p + n) (omega (arith, size)) in
            let last : f ≡ c = elim (clears head) [
              | inl same ↦ same
              | inr fits ↦
                  let place : p + (f - p) ≡ f = omega arith in
                  let letter : get_or read (f - p) 0 ≡ 73 = get_or-drop p (take c text) (f - p) 0
                  ∙ ap (λ (k : ℕ). get_or (take c text) k 0) place ∙ get_or-take c text f 0 (omega (arith, fits))
                  ∙ head_letter text f head in
                  let blank : is_line_end (get_or read (f - p) 0) ≡ true =
                  prefix_len_passes is_line_end read (f - p) 0 (omega (arith, fits)) in
                  absurd (both_ways (is_line_end (get_or read (f - p) 0)) (ap is_line_end letter) blank)
            ] in
            ap end_by none_here ∙ ap (λ (k : ℕ). let r : Reach = record { segs = []; end = k } in r) (size ∙ sym last)
      ]

  -- no end after what is read
  by_later : (p : ℕ) → p ≤ c → AtOpen p → (later : List Seg) (rest : Seg)
      → later ≡ segs_from text d.terminator p → rest ≡ rest_from text d.terminator p
      → (reach_of text (map (view_of d) later) rest).end ≤ c → Clears text c (reach_of text (map (view_of d) later) rest).end
      → reach_of (take c text) [] (without_line_ends p (drop p (take c text))) ≡ reach_of text (map (view_of d) later) rest
  by_later p le none [] rest is_l is_r ends clears = by_test (is_head text rest.start) refl ends clears
    where
      by_test : (b : Bool) → is_head text rest.start ≡ b
          → (let r : Reach = record { segs = []; end = cond b rest.start (length text) } in r).end ≤ c
          → Clears text c (let r : Reach = record { segs = []; end = cond b rest.start (length text) } in r).end
          → reach_of (take c text) [] (without_line_ends p (drop p (take c text)))
          ≡ record { segs = []; end = cond b rest.start (length text) }
      by_test true head ends clears =
          let order : StandInOrder p [] rest (length text) =
          subst (λ (xs : List Seg). StandInOrder p xs rest (length text)) (sym is_l)
          (subst (λ (r : Seg). StandInOrder p (segs_from text d.terminator p) r (length text)) (sym is_r)
          (segs_in_order text d.terminator p (omega arith))) in
          let at : rest.start ≡ first_start (segs_from text d.terminator p) (rest_from text d.terminator p) =
          ap (λ (xs : List Seg). first_start xs rest) is_l
          ∙ ap (λ (r : Seg). first_start (segs_from text d.terminator p) r) is_r in
          at_head p le none rest.start at order.0 ends head clears
      by_test false head ends clears = absurd (omega (arith, below, ends))
  by_later p le none (seg ∷ segs) rest is_l is_r ends clears =
      by_tests (is_head text seg.start) (ends_interchange (kind_of (view_of d seg))) refl refl
    where
      order : StandInOrder p (seg ∷ segs) rest (length text)
      order = subst (λ (xs : List Seg). StandInOrder p xs rest (length text)) (sym is_l)
          (subst (λ (r : Seg). StandInOrder p (segs_from text d.terminator p) r (length text)) (sym is_r)
          (segs_in_order text d.terminator p (omega arith)))

      seg_end : c ≤ seg.start + length seg.bytes
      seg_end =
          let first : IsFirstSeg text d.terminator p seg segs =
          first_seg (length text - p) text d.terminator p seg segs (omega arith) (omega arith) (sym is_l) in
          past_read p (seg.start + length seg.bytes) none (omega (arith, first.start)) first.terminated

      by_tests : (h t : Bool) → is_head text seg.start ≡ h → ends_interchange (kind_of (view_of d seg)) ≡ t
          → reach_of (take c text) [] (without_line_ends p (drop p (take c text)))
          ≡ reach_of text (map (view_of d) (seg ∷ segs)) rest
      by_tests true t head trailer =
          let is : reach_of text (map (view_of d) (seg ∷ segs)) rest ≡ record { segs = []; end = seg.start } =
          reach_at_first text d (seg ∷ segs) rest head in
          let end_is : (reach_of text (map (view_of d) (seg ∷ segs)) rest).end ≡ seg.start = ap (λ (r : Reach). r.end) is in
          at_head p le none seg.start (ap (λ (xs : List Seg). first_start xs (rest_from text d.terminator p)) is_l) order.0
          (omega (arith, ends, end_is)) head (subst (Clears text c) end_is clears) ∙ sym is
      by_tests false true head trailer =
          let end_is : (reach_of text (map (view_of d) (seg ∷ segs)) rest).end ≡ seg.start + length seg.bytes + 1 =
          ap (λ (r : Reach). r.end) (reach_ends text (view_of d seg) (map (view_of d) segs) rest head trailer) in
          absurd (omega (arith, ends, end_is, seg_end))
      by_tests false false head trailer =
          let end_is : (reach_of text (map (view_of d) (seg ∷ segs)) rest).end ≡ (reach_of text (map (view_of d) segs) rest).end =
          ap (λ (r : Reach). r.end) (reach_goes_on text (view_of d seg) (map (view_of d) segs) rest head trailer) in
          absurd (omega (arith, ends, end_is, seg_end, low_end text d (seg.start + length seg.bytes + 1) segs rest order.1))

  -- the segments that are read, one by one
  by_read : (segs later : List Seg) (left rest : Seg) (low : ℕ) → StandInOrder low segs left c
      → ((reach_of text (map (view_of d) later) rest).end ≤ c → Clears text c (reach_of text (map (view_of d) later) rest).end
      → reach_of (take c text) [] left ≡ reach_of text (map (view_of d) later) rest)
      → (reach_of text (map (view_of d) (segs ++ later)) rest).end ≤ c
      → Clears text c (reach_of text (map (view_of d) (segs ++ later)) rest).end
      → reach_of (take c text) (map (view_of d) segs) left ≡ reach_of text (map (view_of d) (segs ++ later)) rest
  by_read [] later left rest low order last ends clears = last ends clears
  by_read (seg ∷ segs) later left rest low order last ends clears =
      by_tests (is_head text seg.start) (ends_interchange (kind_of (view_of d seg))) refl refl
      (by_read segs later left rest (seg.start + length seg.bytes + 1) order.1 last)
    where
      near : seg.start + length seg.bytes + 1 ≤ c
      near = low_within (seg.start + length seg.bytes + 1) segs left c order.1

      by_tests : (h t : Bool) → is_head text seg.start ≡ h → ends_interchange (kind_of (view_of d seg)) ≡ t
          → ((reach_of text (map (view_of d) (segs ++ later)) rest).end ≤ c
          → Clears text c (reach_of text (map (view_of d) (segs ++ later)) rest).end
          → reach_of (take c text) (map (view_of d) segs) left ≡ reach_of text (map (view_of d) (segs ++ later)) rest)
          → reach_of (take c text) (map (view_of d) (seg ∷ segs)) left ≡ reach_of text (map (view_of d) (seg ∷ (segs ++ later))) rest
      by_tests true t head trailer more =
          let is : reach_of text (map (view_of d) (seg ∷ (segs ++ later))) rest ≡ record { segs = []; end = seg.start } =
          reach_at_first text d (seg ∷ (segs ++ later)) rest head in
          let end_is : (reach_of text (map (view_of d) (seg ∷ (segs ++ later))) rest).end ≡ seg.start = ap (λ (r : Reach). r.end) is in
          let clear : Clears text c seg.start = subst (Clears text c) end_is clears in
          let fits : seg.start + 106 ≤ c = elim (clear head) [ inl same ↦ absurd (omega (arith, same, near)) | inr fits ↦ fits ] in
          reach_at_first (take c text) d (seg ∷ segs) left (head_kept text c within seg.start fits ∙ head) ∙ sym is
      by_tests false true head trailer more =
          reach_ends (take c text) (view_of d seg) (map (view_of d) segs) left (none_more text c within seg.start head) trailer
          ∙ sym (reach_ends text (view_of d seg) (map (view_of d) (segs ++ later)) rest head trailer)
      by_tests false false head trailer more =
          let is = reach_goes_on text (view_of d seg) (map (view_of d) (segs ++ later)) rest head trailer in
          let end_is : (reach_of text (map (view_of d) (seg ∷ (segs ++ later))) rest).end
          ≡ (reach_of text (map (view_of d) (segs ++ later)) rest).end = ap (λ (r : Reach). r.end) is in
          reach_goes_on (take c text) (view_of d seg) (map (view_of d) segs) left (none_more text c within seg.start head) trailer
          ∙ ap (onto_reach (view_of d seg)) (more (omega (arith, ends, end_is)) (subst (Clears text c) end_is clears)) ∙ sym is

  below_end : (from : ℕ) → from ≤ c → (reach_from text d from).end ≤ c → Clears text c (reach_from text d from).end
      → reach_from (take c text) d from ≡ reach_from text d from
  below_end from le ends clears =
      let t : ℕ = d.terminator in
      let s : IsSplit text c t from = split_at text c t from le within in
      let later : List Seg = segs_from text t s.open_at in
      let rest : Seg = rest_from text t s.open_at in
      let read : List Seg = segs_from (take c text) t from in
      let left : Seg = rest_from (take c text) t from in
      let order : StandInOrder from read left c =
      subst (StandInOrder from read left) size (segs_in_order (take c text) t from (omega (arith, size))) in
      let whole : reach_from text d from ≡ reach_of text (map (view_of d) (read ++ later)) rest =
      ap (λ (xs : List Seg). reach_of text (map (view_of d) xs) (rest_from text t from)) s.segs
      ∙ ap (λ (r : Seg). reach_of text (map (view_of d) (read ++ later)) r) s.rest in
      let end_is : (reach_from text d from).end ≡ (reach_of text (map (view_of d) (read ++ later)) rest).end =
      ap (λ (r : Reach). r.end) whole in
      by_read read later left rest from order
      (λ ends clears. ap (reach_of (take c text) []) s.left
      ∙ by_later s.open_at s.within s.none later rest refl refl ends clears)
      (omega (arith, ends, end_is)) (subst (Clears text c) end_is clears) ∙ sym whole

pub same_reach : (text : List ℕ) (c : ℕ) (d : Delims) (from : ℕ) → c ≤ length text → from ≤ c → (reach_from text d from).end ≤ c
    → Clears text c (reach_from text d from).end → reach_from (take c text) d from ≡ reach_from text d from
same_reach text c d from fits le ends clears = elim (cases_lt c (length text)) [
  | inl below ↦ below_end text c below d from le ends clears
  | inr all ↦ ap (λ (xs : List ℕ). reach_from xs d from) (take_all c text all)
]
