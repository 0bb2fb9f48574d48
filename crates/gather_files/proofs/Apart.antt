-- A file that stands apart has the same interchanges whatever files follow.
use Rattle.std.proofs.Common.{◌≡◌, ℕ, ◌+◌, ◌-◌, ◌<◌, ◌≤◌, List, [], ◌∷◌, ◌++◌, Bool, true, false, not, ◌&&◌, nat_eq, leb, None, ◌⊎◌}
use Rattle.std.proofs.Common.{length, take, drop, get_or, refl, sym, ap, subst, ◌∙◌, arith, inl, inr}
use Rattle.std.specs.Prelude.{codes, Contains}
use Rattle.std.specs.List.{prefix_len, All}
use Rattle.std.specs.Str.{bytes_eq}
use Rattle.std.proofs.lemmas.Bool.{and_parts, both_ways, cases_lt, eqb-true, false_from_ne_true}
use Rattle.std.proofs.lemmas.List.{get_or-drop, get_or-take, length-drop, length-take-le}
use Rattle.std.proofs.lemmas.List.Sums.{prefix_len_passes}
use Rattle.std.proofs.lemmas.List.Elements.{Contains-append_left, Contains-append_right, All-head, All-tail}
use Rattle.memchr.specs.Find.{IsFirstByte, is_byte}
use Rattle.x12_bytes.specs.Bytes.{is_line_end, may_separate, may_terminate}
use Rattle.x12_bytes.specs.Header.{header_at, header_delims, element_separator_of, component_separator_of, terminator_of}
use Rattle.x12_bytes.specs.HeaderTest.{is_head, is_header, has_delims, has_fields}
use Rattle.x12_bytes.specs.declared.delims.Delims.{Delims}
use Rattle.x12_segs.specs.Words.{Seg, segs_from, rest_from}
use Rattle.env_index.specs.Ends.{MayEnd, IsLeastEnd, IsPartAtHeader}
use Rattle.env_index.specs.Words.{Extent, ChainFrom, Reach, reach_at, reach_from}
use Rattle.env_index.proofs.ForAbove.{least_end, head_letter, head_within}
use Rattle.whole_interchanges.specs.Begun.{may_begin}
use Rattle.whole_interchanges.specs.Batches.{ChainUpTo}
use Rattle.whole_interchanges.proofs.ForAbove.{end_within, Leads, first_is, first_start, leads_to_head, head_fits, head_more, header_kept}
use Rattle.whole_interchanges.proofs.ForAbove.{none_begins, IsSplit, first_byte, split_at, Clears, same_reach}
use Rattle.gather_files.specs.Gathered.{IsClosed}

-- a terminator is no letter
header_no_letter : (h : List ℕ) → is_header h ≡ true → nat_eq 73 (terminator_of h) ≡ false
unfolding is_header
header_no_letter h is =
    let e : ℕ = element_separator_of h in
    let c : ℕ = component_separator_of h in
    let t : ℕ = terminator_of h in
    let rest : Bool = has_delims h && has_fields h 16 in
    let isa : Bool = bytes_eq (take 3 h) (codes "ISA") in
    let first = and_parts (nat_eq (length h) 106) (isa && rest) is in
    let second = and_parts isa rest first.1 in
    let third = and_parts (has_delims h) (has_fields h 16) second.1 in
    let differ : Bool = not (nat_eq e c) && (not (nat_eq e t) && not (nat_eq c t)) in
    let ends : Bool = may_separate c && may_terminate t in
    let allowed = and_parts (may_separate e) ends (and_parts differ (may_separate e && ends) third.0).1 in
    let terminates : may_terminate t ≡ true = (and_parts (may_separate c) (may_terminate t) allowed.1).1 in
    false_from_ne_true (nat_eq 73 t) (λ same. (
    let letter : may_terminate 73 ≡ false = refl in
    both_ways (may_terminate t) (ap may_terminate (sym (eqb-true 73 t same)) ∙ letter) terminates))

pub head_no_letter : (text : List ℕ) (q : ℕ) → is_head text q ≡ true → nat_eq 73 (terminator_of (header_at text q)) ≡ false
head_no_letter text q is =
    header_no_letter (header_at text q) (and_parts (leb (q + 106) (length text)) (is_header (header_at text q)) is).1

module _ (text : List ℕ) (c : ℕ) (within : c ≤ length text) where
  size : length (take c text) ≡ c
  size = length-take-le c text within

  -- what is open of an interchange leads to a header right after
  leads_behind : (t from : ℕ) → from ≤ c → nat_eq 73 t ≡ false
      → IsFirstByte (is_byte t) (drop from (take c text)) None
      → from + prefix_len is_line_end (drop from (take c text)) ≡ c → is_head text c ≡ true → Leads text t from c
  leads_behind t from le letter none is head =
      let read : List ℕ = drop from (take c text) in
      let room : length read ≡ length (take c text) - from = length-drop from (take c text) in
      let n : ℕ = prefix_len is_line_end read in
      let n_is : c - from ≡ n = omega (arith, is) in
      let place : from + (c - from) ≡ c = omega (arith, le) in
      let same : (k : ℕ) → k < c - from → get_or read k 0 ≡ get_or (drop from text) k 0 =
      λ k lt. get_or-drop from (take c text) k 0 ∙ get_or-take c text (from + k) 0 (omega (arith, lt)) ∙ sym (get_or-drop from text k 0) in
      let first : get_or (drop from text) (c - from) 0 ≡ 73 =
      get_or-drop from text (c - from) 0 ∙ ap (λ (k : ℕ). get_or text k 0) place ∙ head_letter text c head in
      record {
        order = le;
        within = omega (arith, head_within text c head);
        line_ends = λ k lt. ap is_line_end (sym (same k lt)) ∙ prefix_len_passes is_line_end read k 0 (omega (arith, lt, n_is));
        other = ap is_line_end first;
        no_terminator = λ k low. elim (cases_lt k (c - from)) [
          | inl lt ↦ ap (λ (b : ℕ). nat_eq b t) (sym (same k lt))
              ∙ (let out : (nat_eq (get_or read k 0) t ≡ true → ⊥) = none k (omega arith) (omega (arith, lt, room, size)) in
              false_from_ne_true (nat_eq (get_or read k 0) t) out)
          | inr ge ↦
              let at : k ≡ c - from = omega (arith, low, ge) in
              ap (λ (j : ℕ). nat_eq (get_or (drop from text) j 0) t) at ∙ ap (λ (b : ℕ). nat_eq b t) first ∙ letter
        ];
      }

  -- the first of what is to come may end it, where it begins at a header
  first_part : (segs later : List Seg) (rest : Seg) (f : ℕ) → is_head text f ≡ true → f ≡ first_start later rest
      → IsPartAtHeader text (segs ++ later) rest f
  first_part segs [] rest f head is = (head, inr is)
  first_part segs (seg ∷ later) rest f head is =
      (head, inl (seg, Contains-append_right segs (seg ∷ later) seg (0, omega arith, refl), is))

  -- an interchange that is closed in what is read ends there in the text
  pub end_low : (d : Delims) (from : ℕ) → from ≤ c → nat_eq 73 d.terminator ≡ false
      → (c ≡ length text) ⊎ (is_head text c ≡ true)
      → ((reach_from (take c text) d from).end ≡ length (take c text)
      → (rest_from (take c text) d.terminator from).start ≡ length (take c text))
      → (reach_from text d from).end ≤ c
  end_low d from le letter next closed = by_end now.may
    where
      read : List ℕ
      read = take c text

      t : ℕ
      t = d.terminator

      s : IsSplit text c t from
      s = split_at text c t from le within

      later : List Seg
      later = segs_from text t s.open_at

      rest : Seg
      rest = rest_from text t s.open_at

      now : IsLeastEnd read d from (reach_from read d from).end
      now = least_end read d from (omega (arith, size))

      there : IsLeastEnd text d from (reach_from text d from).end
      there = least_end text d from (omega arith)

      e : ℕ
      e = (reach_from read d from).end

      e_within : e ≤ c
      e_within = omega (arith, size, now.least (length read) (inr (inr refl)))

      joined : (x : Seg) → Contains (segs_from read t from) x → Contains (segs_from text t from) x
      joined x is = subst (λ (xs : List Seg). Contains xs x) (sym s.segs) (Contains-append_left (segs_from read t from) later x is)

      first_at : (f : ℕ) → is_head text f ≡ true → f ≡ first_start later rest → MayEnd text d (segs_from text t from)
          (rest_from text t from) f
      first_at f head is =
          subst (λ (xs : List Seg). MayEnd text d xs (rest_from text t from) f) (sym s.segs)
          (subst (λ (r : Seg). MayEnd text d (segs_from read t from ++ later) r f) (sym s.rest)
          (inr (inl (first_part (segs_from read t from) later rest f head is))))

      left_at : (rest_from read t from).start ≡ s.open_at + prefix_len is_line_end (drop s.open_at read)
      left_at = ap (λ (x : Seg). x.start) s.left

      by_end : MayEnd read d (segs_from read t from) (rest_from read t from) e → (reach_from text d from).end ≤ c
      by_end (inl (x, in_it, trailer, is)) =
          omega (arith, e_within, there.least e (inl (x, joined x in_it, trailer, is)))
      by_end (inr (inl (head, inl (x, in_it, is)))) =
          omega (arith, e_within, there.least e (inr (inl (head_more text c within e head, inl (x, joined x in_it, is)))))
      by_end (inr (inl (head, inr is))) =
          let found = first_byte t (drop s.open_at text) in
          let fits : e + 106 ≤ c = head_fits text c within e head in
          let at : e ≡ s.open_at + prefix_len is_line_end (drop s.open_at read) = is ∙ left_at in
          let first : first_start later rest ≡ e =
          first_is text t s.open_at e (leads_to_head text c t s.open_at e within s.within s.none at (omega arith)) found.0 found.1 in
          omega (arith, e_within, there.least e (first_at e (head_more text c within e head) (sym first)))
      by_end (inr (inr is)) = elim next [
        | inl all ↦ omega (arith, all, there.least (length text) (inr (inr refl)))
        | inr head ↦
            let found = first_byte t (drop s.open_at text) in
            let at : s.open_at + prefix_len is_line_end (drop s.open_at read) ≡ c = sym left_at ∙ closed is ∙ size in
            let first : first_start later rest ≡ c =
            first_is text t s.open_at c (leads_behind t s.open_at s.within letter s.none at head) found.0 found.1 in
            there.least c (first_at c head (sym first))
      ]

  module _ (next : (c ≡ length text) ⊎ (is_head text c ≡ true)) (begun : (q : ℕ) → q < c → may_begin (take c text) q ≡ false) where
    none_there : (q : ℕ) → q < c → is_head (take c text) q ≡ false → is_head text q ≡ false
    none_there q lt none = none_begins text c within q (omega (arith, lt)) none (begun q lt)

    clear_of : (end : ℕ) → end ≤ c → Clears text c end
    clear_of end le = λ head. elim (cases_lt end c) [
      | inr ge ↦ inl (omega (arith, le, ge))
      | inl lt ↦ inr (by_test lt head (is_head (take c text) end) refl)
    ]
      where
        by_test : end < c → is_head text end ≡ true → (b : Bool) → is_head (take c text) end ≡ b → end + 106 ≤ c
        by_test lt head true is = head_fits text c within end is
        by_test lt head false is = absurd (both_ways (is_head text end) (none_there end lt is) head)

    same_as_alone : (d : Delims) (from : ℕ) → from ≤ c → nat_eq 73 d.terminator ≡ false
        → ((reach_from (take c text) d from).end ≡ length (take c text)
        → (rest_from (take c text) d.terminator from).start ≡ length (take c text))
        → reach_from (take c text) d from ≡ reach_from text d from
    same_as_alone d from le letter closed =
        let low : (reach_from text d from).end ≤ c = end_low d from le letter next closed in
        same_reach text c d from within le low (clear_of (reach_from text d from).end low)

    -- so its chain is that of the text, up to its end
    pub chain_apart : (from : ℕ) (xs : List Extent) → from ≤ c → ChainFrom (take c text) from xs
        → All (IsClosed (take c text)) xs → ChainUpTo text from c xs
    chain_apart from [] le chain closed = (le, λ q low lt. none_there q lt (chain q low))
    chain_apart from (x ∷ xs) le chain closed =
        let read : List ℕ = take c text in
        let start : ℕ = x.start in
        let head : is_head read start ≡ true = chain.0.head in
        let fits : start + 106 ≤ c = head_fits text c within start head in
        let header : header_at read start ≡ header_at text start = header_kept text c within start fits in
        let d : Delims = header_delims (header_at read start) in
        let first : IsClosed read x = All-head (IsClosed read) x xs closed in
        let same : reach_at read start ≡ reach_at text start =
        same_as_alone d (start + 106) fits (head_no_letter read start head)
        (λ is. first (chain.1 ∙ is))
        ∙ ap (λ (h : List ℕ). reach_from text (header_delims h) (start + 106)) header in (
          record {
            behind = chain.0.behind;
            head = head_more text c within start head;
            least = λ q low lt. none_there q (omega (arith, lt, fits)) (chain.0.least q low lt);
          },
          chain.1 ∙ ap (λ (r : Reach). r.end) same,
          chain_apart x.end xs (omega (arith, chain.1, end_within read start head, size)) chain.2
              (All-tail (IsClosed read) x xs closed),
        )
