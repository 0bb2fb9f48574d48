-- What is read at a share of headers, header by header; and what is read at two shares, one after the other.
use Rattle.std.proofs.Common.{◌≡◌, ℕ, ◌+◌, ◌-◌, ◌≤◌, ◌<◌, not, List, [], ◌∷◌, ◌++◌, length, false, arith}
use Rattle.std.proofs.Common.{sym, ap, refl, subst, ◌∙◌, inl, inr, append_assoc, drop, take, get_or, None}
use Rattle.std.specs.List.{All}
use Rattle.std.specs.Prelude.{count_by, slice_range}
use Rattle.std.proofs.lemmas.List.{append-nil, length-append, length-take, map-append, take_more, take_rest}
use Rattle.std.proofs.lemmas.List.Elements.{All-append, All-nil, All-push, All-weaker}
use Rattle.std.proofs.lemmas.List.Folds.{drop_split}
use Rattle.std.proofs.lemmas.List.Sums.{count_by-le-length, sum_by-append}
use Rattle.std.proofs.lemmas.Bool.{cases_lt}
use Rattle.x12_bytes.specs.HeaderTest.{is_head}
use Rattle.isa_scan.specs.declared.heads.HeadAt.{HeadAt}
use Rattle.env_index.specs.Extents.{Extent, ChainFrom, count_outside, is_filler, reach_at}
use Rattle.env_index.specs.Index.{IndexEntry, IsNextIn, IsReadIn, extent_of, extents_of}
use Rattle.env_index.specs.Interchange.{InterchangeEntry}
use Rattle.env_index.specs.Shares.{IsReadAt, ShareValue, joined}
use Rattle.env_index.specs.Unjudged.{IsUnjudgedEntry}

abbrev pub others : List ℕ → ℕ
others xs = count_by (λ b. not (is_filler b)) xs

abbrev pub no_header : HeadAt
no_header = record { start = 0; pair = record { element = 0; terminator = 0 } }

abbrev pub begins_before : ℕ → HeadAt → Type 0
begins_before end h = h.start < end

-- nothing is read yet
pub share_begins : (text : List ℕ) (from : ℕ) (es : List IndexEntry) → es ≡ [] → from ≤ length text
    → IsReadAt text from [] (record { entries = es; outside = 0; end = from })
share_begins text from es none within =
    subst (λ (l : List IndexEntry). IsReadAt text from [] (record { entries = l; outside = 0; end = from })) (sym none) (record {
      within = within;
      few = omega arith;
      many = omega arith;
      entries = All-nil (IsUnjudgedEntry text);
      chain = λ xs chain. chain;
      counted = λ xs chain. omega arith;
      passed = All-nil (begins_before from);
    })

-- a header inside the last interchange
pub share_skips : (text : List ℕ) (from : ℕ) (done : List HeadAt) (h : HeadAt) (s : ShareValue) → h.start < s.end
    → IsReadAt text from done s
    → IsReadAt text from (done ++ h ∷ []) s
share_skips text from done h s lt was = record {
  within = was.within;
  few = was.few;
  many = was.many;
  entries = was.entries;
  chain = was.chain;
  counted = was.counted;
  passed = All-push (begins_before s.end) done h was.passed lt;
}

few_between : (text : List ℕ) (from to : ℕ) → from ≤ to → others (slice_range text from to) ≤ to - from
few_between text from to order =
    let most = count_by-le-length (λ b. not (is_filler b)) (slice_range text from to) in
    let long = length-take (to - from) (drop from text) in
    omega (arith, most, long)

-- the next interchange
pub share_reads : (text : List ℕ) (from : ℕ) (done : List HeadAt) (h : HeadAt) (s new : ShareValue) (x : InterchangeEntry)
    → IsReadAt text from done s → IsNextIn text s.end x → h.start ≡ x.start → x.start < x.end → x.end ≤ length text
    → new.entries ≡ s.entries ++ (record { interchange = x; fault = None }) ∷ []
    → new.outside ≡ s.outside + others (slice_range text s.end x.start) → new.end ≡ x.end
    → IsReadAt text from (done ++ h ∷ []) new
share_reads text from done h s new x was next start longer within entries outside end =
    let e : IndexEntry = record { interchange = x; fault = None } in
    let low = next.next.behind in
    let more : (xs : List Extent) → extents_of new.entries ++ xs ≡ extents_of s.entries ++ extent_of e ∷ xs =
    λ xs. ap (λ (l : List IndexEntry). extents_of l ++ xs) entries
    ∙ ap (λ (l : List Extent). l ++ xs) (map-append extent_of s.entries (e ∷ []))
    ∙ append_assoc (extents_of s.entries) (extent_of e ∷ []) xs in
    let read : x.end ≡ (reach_at text x.start).end = ap (λ (y : InterchangeEntry). y.end) next.read.read in
    let follows : (xs : List Extent) → ChainFrom text new.end xs → ChainFrom text s.end (extent_of e ∷ xs) =
    λ xs chain. (next.next, read, subst (λ (n : ℕ). ChainFrom text n xs) end chain) in
    let size : length new.entries ≡ length s.entries + 1 = ap (λ (l : List IndexEntry). length l) entries
    ∙ length-append s.entries (e ∷ []) in
    record {
      within = omega (arith, end, within);
      few = omega (arith, was.few, outside, few_between text s.end x.start low, low, longer, end);
      many = omega (arith, was.many, size, low, longer, end);
      entries = subst (All (IsUnjudgedEntry text)) (sym entries)
          (All-push (IsUnjudgedEntry text) s.entries e was.entries (record { read = next.read; fault = refl }));
      chain = λ xs chain. subst (ChainFrom text from) (sym (more xs)) (was.chain (extent_of e ∷ xs) (follows xs chain));
      counted = λ xs chain.
          let all = ap (count_outside text from) (more xs) ∙ was.counted (extent_of e ∷ xs) (follows xs chain) in
          let later = ap (λ (n : ℕ). count_outside text n xs) end in
          omega (arith, all, later, outside);
      passed = All-push (begins_before new.end) done h
          (All-weaker (begins_before s.end) (begins_before new.end) (λ k lt. omega (arith, lt, low, longer, end)) done was.passed)
          (omega (arith, start, longer, end));
    }

pub share_reads_at : (text : List ℕ) (from : ℕ) (heads : List HeadAt) (i : ℕ) (s new : ShareValue) (x : InterchangeEntry) → i < length heads
    → IsReadAt text from (take i heads) s → IsNextIn text s.end x → (get_or heads i no_header).start ≡ x.start → x.start < x.end
    → x.end ≤ length text → new.entries ≡ s.entries ++ (record { interchange = x; fault = None }) ∷ []
    → new.outside ≡ s.outside + others (slice_range text s.end x.start) → new.end ≡ x.end
    → IsReadAt text from (take (i + 1) heads) new
share_reads_at text from heads i s new x lt was next start longer within entries outside end =
    subst (λ (hs : List HeadAt). IsReadAt text from hs new) (sym (take_more heads i no_header lt))
    (share_reads text from (take i heads) (get_or heads i no_header) s new x was next start longer within entries outside end)

pub share_skips_at : (text : List ℕ) (from : ℕ) (heads : List HeadAt) (i : ℕ) (s : ShareValue) → i < length heads
    → (get_or heads i no_header).start < s.end → IsReadAt text from (take i heads) s → IsReadAt text from (take (i + 1) heads) s
share_skips_at text from heads i s lt inside was =
    subst (λ (hs : List HeadAt). IsReadAt text from hs s) (sym (take_more heads i no_header lt))
    (share_skips text from (take i heads) (get_or heads i no_header) s inside was)

others_split : (text : List ℕ) (a b : ℕ) → a ≤ b → others (drop a text) ≡ others (slice_range text a b) + others (drop b text)
others_split text a b order = ap others (drop_split text a b order) ∙ sum_by-append _ (slice_range text a b) (drop b text)

others_over : (text : List ℕ) (a b c : ℕ) → a ≤ b → b ≤ c
    → others (slice_range text a c) ≡ others (slice_range text a b) + others (slice_range text b c)
others_over text a b c low high =
    let whole = others_split text a c (omega (arith, low, high)) in
    omega (arith, whole, others_split text a b low, others_split text b c high)

-- where no header begins between two offsets, what follows the later one follows the earlier one, too
pub chain_sooner : (text : List ℕ) (a b : ℕ) (xs : List Extent) → a ≤ b → ((q : ℕ) → a ≤ q → q < b → is_head text q ≡ false)
    → ChainFrom text b xs
    → ChainFrom text a xs × (count_outside text a xs ≡ others (slice_range text a b) + count_outside text b xs)
chain_sooner text a b [] order none chain = (
  λ q low. elim (cases_lt q b) [
    | inl lt ↦ none q low lt
    | inr ge ↦ chain q ge
  ],
  others_split text a b order,
)
chain_sooner text a b (x ∷ xs) order none chain =
    let next = chain.0 in
    let low = next.behind in (
      (
        record {
          behind = omega (arith, low, order);
          head = next.head;
          least = λ q from below. elim (cases_lt q b) [
            | inl lt ↦ none q from lt
            | inr ge ↦ next.least q ge below
          ];
        },
        chain.1,
        chain.2,
      ),
      omega (arith, others_over text a b x.start order low),
    )

-- two shares
pub shares_joined : (text : List ℕ) (from cut : ℕ) (low high : List HeadAt) (a b : ShareValue)
    → IsReadAt text from low a → IsReadAt text cut high b → a.end ≤ cut → ((q : ℕ) → a.end ≤ q → q < cut → is_head text q ≡ false)
    → IsReadAt text from (low ++ high) (joined text a cut b)
shares_joined text from cut low high a b first second order none =
    let es : List IndexEntry = a.entries ++ b.entries in
    let more : (xs : List Extent) → extents_of es ++ xs ≡ extents_of a.entries ++ (extents_of b.entries ++ xs) =
    λ xs. ap (λ (l : List Extent). l ++ xs) (map-append extent_of a.entries b.entries)
    ∙ append_assoc (extents_of a.entries) (extents_of b.entries) xs in
    let size : length es ≡ length a.entries + length b.entries = length-append a.entries b.entries in
    let sooner = λ (xs : List Extent) (chain : ChainFrom text b.end xs).
    chain_sooner text a.end cut (extents_of b.entries ++ xs) order none (second.chain xs chain) in
    record {
      within = second.within;
      few = omega (arith, first.few, second.few, few_between text a.end cut order, order);
      many = omega (arith, first.many, second.many, size, order);
      entries = All-append (IsUnjudgedEntry text) a.entries b.entries first.entries second.entries;
      chain = λ xs chain. subst (ChainFrom text from) (sym (more xs))
          (first.chain (extents_of b.entries ++ xs) (sooner xs chain).0);
      counted = λ xs chain.
          let all = ap (count_outside text from) (more xs) ∙ first.counted (extents_of b.entries ++ xs) (sooner xs chain).0 in
          let between = (sooner xs chain).1 in
          let rest = second.counted xs chain in
          omega (arith, all, between, rest);
      passed = All-append (begins_before b.end) low high
          (All-weaker (begins_before a.end) (begins_before b.end) (λ h lt. omega (arith, lt, order, second.few)) low first.passed)
          second.passed;
    }

-- the bytes after the last interchange
pub read_to_end : (text : List ℕ) (heads : List HeadAt) (s : ShareValue) (more : ℕ) → IsReadAt text 0 heads s → ChainFrom text s.end []
    → more ≡ others (slice_range text s.end (length text)) → s.outside + more ≡ count_outside text 0 (extents_of s.entries)
read_to_end text heads s more read none count =
    let rest = ap others (take_rest text s.end) in
    let all = sym (ap (count_outside text 0) (append-nil (extents_of s.entries))) ∙ read.counted [] none in
    omega (arith, rest, all, count)
