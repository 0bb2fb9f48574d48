-- The chain of a text goes on after an offset at which no interchange is open, and what is read up to there has its own chain.
use Rattle.std.proofs.Common.{◌≡◌, ℕ, ◌+◌, ◌<◌, ◌≤◌, List, [], ◌∷◌, ◌++◌, true, false, Some, inl, inr}
use Rattle.std.proofs.Common.{length, take, refl, sym, ap, subst, ◌∙◌, arith}
use Rattle.std.proofs.lemmas.Bool.{both_ways, cases_lt, false_from_ne_true}
use Rattle.std.proofs.lemmas.List.{length-append, length-take-le, take_at}
use Rattle.x12_bytes.specs.Header.{header_at, header_delims}
use Rattle.x12_bytes.specs.HeaderTest.{is_head}
use Rattle.x12_bytes.specs.declared.delims.Delims.{Delims}
use Rattle.x12_segs.specs.Words.{segs_from, rest_from}
use Rattle.x12_segs.proofs.ForAbove.{segs_in_order}
use Rattle.env_index.specs.Words.{Extent, IsNextHead, ChainFrom, Reach, reach_at, reach_from}
use Rattle.env_index.proofs.ForAbove.{least_end, head_within, no_head_past}
use Rattle.whole_interchanges.specs.Begun.{may_begin}
use Rattle.whole_interchanges.specs.Batches.{ChainUpTo, WholeUpTo, end_from, whole_end}
use Rattle.whole_interchanges.proofs.Heads.{head_fits, head_kept, head_more, header_kept, none_begins, none_more}
use Rattle.whole_interchanges.proofs.Take.{Clears, low_end, same_reach}
use Rattle.whole_interchanges.proofs.Whole.{end_is}

-- an interchange holds its header
pub end_behind : (text : List ℕ) (start : ℕ) → is_head text start ≡ true → start + 106 ≤ (reach_at text start).end
end_behind text start head =
    let d : Delims = header_delims (header_at text start) in
    low_end text d (start + 106) (segs_from text d.terminator (start + 106)) (rest_from text d.terminator (start + 106))
    (segs_in_order text d.terminator (start + 106) (head_within text start head))

pub chain_order : (text : List ℕ) (from to : ℕ) (xs : List Extent) → ChainUpTo text from to xs → from ≤ to
chain_order text from to [] chain = chain.0
chain_order text from to (x ∷ xs) chain =
    omega (arith, chain.0.behind, chain.1, end_behind text x.start chain.0.head, chain_order text x.end to xs chain.2)

-- what comes after goes on with it
pub chain_on : (text : List ℕ) (from to : ℕ) (xs ys : List Extent) → ChainUpTo text from to xs → ChainFrom text to ys
    → ChainFrom text from (xs ++ ys)
chain_on text from to [] [] chain later = λ q low. elim (cases_lt q to) [ inl lt ↦ chain.1 q low lt | inr ge ↦ later q ge ]
chain_on text from to [] (y ∷ ys) chain later = (
  record {
    behind = omega (arith, chain.0, later.0.behind);
    head = later.0.head;
    least = λ q low lt. elim (cases_lt q to) [ inl near ↦ chain.1 q low near | inr ge ↦ later.0.least q ge lt ];
  },
  later.1,
  later.2,
)
chain_on text from to (x ∷ xs) ys chain later = (chain.0, chain.1, chain_on text x.end to xs ys chain.2 later)

-- a chain goes on up to a later offset, up to which no header begins
pub chain_waits : (text : List ℕ) (from to later : ℕ) (xs : List Extent) → ChainUpTo text from to xs → to ≤ later
    → ((q : ℕ) → to ≤ q → q < later → is_head text q ≡ false) → ChainUpTo text from later xs
chain_waits text from to later [] chain le none = (
  omega (arith, chain.0),
  λ q low lt. elim (cases_lt q to) [ inl near ↦ chain.1 q low near | inr ge ↦ none q ge lt ],
)
chain_waits text from to later (x ∷ xs) chain le none = (chain.0, chain.1, chain_waits text x.end to later xs chain.2 le none)

-- or by one more interchange
pub chain_joined : (text : List ℕ) (from to later : ℕ) (xs ys : List Extent) → ChainUpTo text from to xs → ChainUpTo text to later ys
    → ChainUpTo text from later (xs ++ ys)
chain_joined text from to later [] [] chain more = (
  omega (arith, chain.0, more.0),
  λ q low lt. elim (cases_lt q to) [ inl near ↦ chain.1 q low near | inr ge ↦ more.1 q ge lt ],
)
chain_joined text from to later [] (y ∷ ys) chain more = (
  record {
    behind = omega (arith, chain.0, more.0.behind);
    head = more.0.head;
    least = λ q low lt. elim (cases_lt q to) [ inl near ↦ chain.1 q low near | inr ge ↦ more.0.least q ge lt ];
  },
  more.1,
  more.2,
)
chain_joined text from to later (x ∷ xs) ys chain more = (chain.0, chain.1, chain_joined text x.end to later xs ys chain.2 more)

-- up to the text's end it is the text's
pub chain_ends : (text : List ℕ) (from : ℕ) (xs : List Extent) → ChainUpTo text from (length text) xs → ChainFrom text from xs
chain_ends text from [] chain = λ q low. elim (cases_lt q (length text)) [
  | inl lt ↦ chain.1 q low lt
  | inr ge ↦ no_head_past text q ge
]
chain_ends text from (x ∷ xs) chain = (chain.0, chain.1, chain_ends text x.end xs chain.2)

pub end_within : (text : List ℕ) (start : ℕ) → is_head text start ≡ true → (reach_at text start).end ≤ length text
end_within text start head =
    (least_end text (header_delims (header_at text start)) (start + 106) (head_within text start head)).least (length text) (inr (inr refl))

pub chain_up_to_end : (text : List ℕ) (from : ℕ) (xs : List Extent) → from ≤ length text → ChainFrom text from xs
    → ChainUpTo text from (length text) xs
chain_up_to_end text from [] le chain = (le, λ q low lt. chain q low)
chain_up_to_end text from (x ∷ xs) le chain =
    (chain.0, chain.1, chain_up_to_end text x.end xs (omega (arith, chain.1, end_within text x.start chain.0.head)) chain.2)

module _ (text : List ℕ) (c : ℕ) (within : c ≤ length text) where
  -- the end of an interchange is clear of the offset up to which the chain goes
  clears : (from : ℕ) (xs : List Extent) → ChainUpTo text from c xs → Clears text c from
  clears from [] chain = λ head. elim (cases_lt from c) [
    | inl lt ↦ absurd (both_ways (is_head text from) (chain.1 from (omega arith) lt) head)
    | inr ge ↦ inl (omega (arith, chain.0, ge))
  ]
  clears from (x ∷ xs) chain = λ head. (
      let at : x.start ≡ from = elim (cases_lt from x.start) [
        | inl lt ↦ absurd (both_ways (is_head text from) (chain.0.least from (omega arith) lt) head)
        | inr ge ↦ omega (arith, chain.0.behind, ge)
      ] in
      inr (omega (arith, at, chain.1, end_behind text x.start chain.0.head, chain_order text x.end c xs chain.2)))

  -- an interchange of it is the same in what is read
  pub reach_kept : (from : ℕ) (x : Extent) (xs : List Extent) → ChainUpTo text from c (x ∷ xs)
      → (is_head (take c text) x.start ≡ true) × (header_at (take c text) x.start ≡ header_at text x.start)
      × (reach_at (take c text) x.start ≡ reach_at text x.start)
  reach_kept from x xs chain =
      let last : x.end ≤ c = chain_order text x.end c xs chain.2 in
      let fits : x.start + 106 ≤ c = omega (arith, chain.1, end_behind text x.start chain.0.head) in
      let header : header_at (take c text) x.start ≡ header_at text x.start = header_kept text c within x.start fits in
      let d : Delims = header_delims (header_at text x.start) in
      let clear : Clears text c (reach_at text x.start).end = subst (Clears text c) chain.1 (clears x.end xs chain.2) in (
        head_kept text c within x.start fits ∙ chain.0.head,
        header,
        ap (λ (h : List ℕ). reach_from (take c text) (header_delims h) (x.start + 106)) header
            ∙ same_reach text c d (x.start + 106) within fits (omega (arith, last, chain.1)) clear,
      )

  -- what is read up to there has its own chain
  pub chain_read : (from : ℕ) (xs : List Extent) → ChainUpTo text from c xs → ChainFrom (take c text) from xs
  chain_read from [] chain = λ q low. false_from_ne_true (is_head (take c text) q)
      (λ is. both_ways (is_head text q) (chain.1 q low (omega (arith, head_fits text c within q is))) (head_more text c within q is))
  chain_read from (x ∷ xs) chain =
      let kept = reach_kept from x xs chain in (
        record {
          behind = chain.0.behind;
          head = kept.0;
          least = λ q low lt. none_more text c within q (chain.0.least q low lt);
        },
        chain.1 ∙ ap (λ (r : Reach). r.end) (sym kept.2),
        chain_read x.end xs chain.2,
      )

-- what is whole by what is read is so in the text
module _ (text : List ℕ) (c : ℕ) (within : c ≤ length text) where
  next_read : (from start : ℕ) → IsNextHead (take c text) from start → IsNextHead text from start
  next_read from start next =
      let fits : start + 106 ≤ c = head_fits text c within start next.head in
      record {
        behind = next.behind;
        head = head_more text c within start next.head;
        least = λ q low lt. sym (head_kept text c within q (omega (arith, lt))) ∙ next.least q low lt;
      }

  chain_whole : (from to : ℕ) (xs : List Extent) → WholeUpTo (take c text) from to xs → ChainUpTo text from to xs
  chain_whole from to [] whole = (
    whole.0,
    λ q low lt.
        (let none = whole.2 q low lt in
        none_begins text c within q (omega (arith, lt, whole.1, length-take-le c text within)) none.0 none.1),
  )
  chain_whole from to (x ∷ xs) whole =
      let fits : x.start + 106 ≤ c = head_fits text c within x.start whole.0.head in
      let header : header_at (take c text) x.start ≡ header_at text x.start = header_kept text c within x.start fits in
      let end : end_from (take c text) (header_delims (header_at text x.start)) (x.start + 106) ≡ Some x.end =
      ap (λ (h : List ℕ). end_from (take c text) (header_delims h) (x.start + 106)) (sym header) ∙ whole.1 in (
        next_read from x.start whole.0,
        sym (end_is text c within (header_delims (header_at text x.start)) (x.start + 106) x.end fits end),
        chain_whole x.end to xs whole.2,
      )

-- whatever follows
pub whole_chain : (read more : List ℕ) (from to : ℕ) (xs : List Extent) → WholeUpTo read from to xs → ChainUpTo (read ++ more) from to xs
whole_chain read more from to xs whole =
    let front : take (length read) (read ++ more) ≡ read = take_at read more (length read) refl in
    chain_whole (read ++ more) (length read) (omega (arith, length-append read more)) from to xs
    (subst (λ (r : List ℕ). WholeUpTo r from to xs) (sym front) whole)

pub none_behind : (read more : List ℕ) (at : ℕ) → at ≤ length read → is_head read at ≡ false → may_begin read at ≡ false
    → is_head (read ++ more) at ≡ false
none_behind read more at le none closed =
    let front : take (length read) (read ++ more) ≡ read = take_at read more (length read) refl in
    none_begins (read ++ more) (length read) (omega (arith, length-append read more)) at le
    (subst (λ (r : List ℕ). is_head r at ≡ false) (sym front) none) (subst (λ (r : List ℕ). may_begin r at ≡ false) (sym front) closed)

-- before a header that is read whole none begins that isn't read
pub not_before : (read more : List ℕ) (start q : ℕ) → start + 106 ≤ length read → q < start → is_head read q ≡ false
    → is_head (read ++ more) q ≡ false
not_before read more start q fits lt none =
    let front : take (length read) (read ++ more) ≡ read = take_at read more (length read) refl in
    let within : length read ≤ length (read ++ more) = omega (arith, length-append read more) in
    sym (head_kept (read ++ more) (length read) within q (omega arith)) ∙ ap (λ (r : List ℕ). is_head r q) front ∙ none

-- the end that is known is the end in what is read
pub end_now : (read : List ℕ) (start end : ℕ) → is_head read start ≡ true → whole_end read start ≡ Some end → end
    ≡ (reach_at read start).end
end_now read start end head is =
    let all : take (length read) read ≡ read = Rattle.std.proofs.lemmas.List.take_all (length read) read (omega arith) in
    let d : Delims = header_delims (header_at read start) in
    sym (end_is read (length read) (omega arith) d (start + 106) end (head_within read start head)
    (ap (λ (r : List ℕ). end_from r d (start + 106)) all ∙ is))
