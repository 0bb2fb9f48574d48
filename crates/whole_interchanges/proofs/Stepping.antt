-- The index of a text goes on by the index of a batch.
use Rattle.std.proofs.Common.{◌≡◌, ℕ, zero, suc, ◌+◌, ◌-◌, ◌<◌, ◌≤◌, List, [], ◌∷◌, ◌++◌, Bool, true, false}
use Rattle.std.proofs.Common.{length, take, drop, map, slice_range, refl, sym, ap, subst, ◌∙◌, arith}
use Rattle.std.specs.Prelude.{not, count_by}
use Rattle.std.specs.List.{All}
use Rattle.std.proofs.lemmas.List.{append_assoc, drop-drop, length-append, length-drop, length-take-le, map-append, take-append-drop}
use Rattle.std.proofs.lemmas.List.{take-take, take_all}
use Rattle.std.proofs.lemmas.List.Sums.{sum_by-append}
use Rattle.std.proofs.lemmas.List.Elements.{All-append, All-cons, All-head, All-nil, All-tail}
use Rattle.x12_bytes.specs.Header.{header_delims, header_at}
use Rattle.x12_segs.specs.Words.{segs_from, IsSetSpan, kind_of}
use Rattle.x12_segs.specs.declared.set_span.SetSpan.{SetSpan}
use Rattle.env_index.specs.declared.entry.SetEnvelope.{SetEnvelope}
use Rattle.env_index.specs.Words.{DerivesInterchange, Extent, Reach, count_outside, is_filler, reach_at, IndexEntry, IndexValue}
use Rattle.env_index.specs.Words.{IsEntryOf, IsIndex, extent_of, extents_of, InterchangeEntry, HasSpans, span_of, GroupEntry}
use Rattle.env_index.specs.Words.{Summary, summary_of}
use Rattle.env_index.proofs.ForAbove.{chain_from_is_one}
use Rattle.whole_interchanges.specs.Batches.{ChainUpTo}
use Rattle.whole_interchanges.specs.Moved.{IsIndexUpTo, count_up_to, moved_entry, moved_extent}
use Rattle.whole_interchanges.proofs.Chains.{chain_ends, chain_joined, chain_order, chain_read, reach_kept}
use Rattle.whole_interchanges.proofs.Moving.{range_past}
use Rattle.whole_interchanges.proofs.MovingEntries.{chain_past, entries_past, extents_moved}

-- a span of what is read is one of the text
module _ (text : List ℕ) (c : ℕ) (within : c ≤ length text) where
  span_more : (span : SetSpan) → IsSetSpan (take c text) span → IsSetSpan text span
  span_more span is =
      let size : length (take c text) ≡ c = length-take-le c text within in
      let segs : segs_from (take span.end (take c text)) span.delims.terminator span.start
      ≡ segs_from (take span.end text) span.delims.terminator span.start =
      ap (λ (xs : List ℕ). segs_from xs span.delims.terminator span.start) (take-take span.end c text (omega (arith, is.within, size))) in
      record {
        within = omega (arith, is.within, size);
        start = ap Rattle.x12_segs.specs.Runs.start_offset (sym segs) ∙ is.start;
        end = ap Rattle.x12_segs.specs.Runs.end_of (sym segs) ∙ is.end;
        inner = is.inner;
        kinds = ap (λ ss. map kind_of (map (Rattle.x12_segs.specs.View.view_of span.delims) ss)) (sym segs) ∙ is.kinds;
        plain = is.plain;
      }

  spans_more : (x : InterchangeEntry) → HasSpans (take c text) x → HasSpans text x
  spans_more x all = in_groups x.content.groups all
    where
      in_sets : (sets : List SetEnvelope) → All (λ (set : SetEnvelope). IsSetSpan (take c text) (span_of (header_delims x.header) set)) sets
          → All (λ (set : SetEnvelope). IsSetSpan text (span_of (header_delims x.header) set)) sets
      in_sets [] all = All-nil (λ (set : SetEnvelope). IsSetSpan text (span_of (header_delims x.header) set))
      in_sets (set ∷ sets) all =
          let P = λ (set : SetEnvelope). IsSetSpan (take c text) (span_of (header_delims x.header) set) in
          All-cons (λ (set : SetEnvelope). IsSetSpan text (span_of (header_delims x.header) set)) set sets
          (span_more (span_of (header_delims x.header) set) (All-head P set sets all)) (in_sets sets (All-tail P set sets all))

      in_groups : (gs : List GroupEntry)
          → All (λ (g : GroupEntry). All (λ (set : SetEnvelope). IsSetSpan (take c text) (span_of (header_delims x.header) set)) g.sets) gs
          → All (λ (g : GroupEntry). All (λ (set : SetEnvelope). IsSetSpan text (span_of (header_delims x.header) set)) g.sets) gs
      in_groups [] all = All-nil (λ (g : GroupEntry). All (λ (set : SetEnvelope). IsSetSpan text (span_of
          (header_delims x.header) set)) g.sets)
      in_groups (g ∷ gs) all =
          let P = λ (g : GroupEntry). All (λ (set : SetEnvelope). IsSetSpan (take c text) (span_of (header_delims x.header) set)) g.sets in
          All-cons (λ (g : GroupEntry). All (λ (set : SetEnvelope). IsSetSpan text (span_of (header_delims x.header) set)) g.sets) g gs
          (in_sets g.sets (All-head P g gs all)) (in_groups gs (All-tail P g gs all))

  -- an interchange of what is read up to there is one of the text
  entry_more : (from : ℕ) (e : IndexEntry) (xs : List Extent) → ChainUpTo text from c (extent_of e ∷ xs) → IsEntryOf (take c text) e
      → IsEntryOf text e
  entry_more from e xs chain is =
      let x : InterchangeEntry = e.interchange in
      let kept = reach_kept text c within from (extent_of e) xs chain in
      let entry : List ℕ → ℕ → Summary → InterchangeEntry = λ h n s. record { header = h; start = x.start; end = n; content = s } in
      record {
        read = record {
          tree = is.read.tree;
          derived = subst (λ (r : Reach). DerivesInterchange kind_of r.segs is.read.tree) kept.2 is.read.derived;
          read = is.read.read
              ∙ ap (λ (h : List ℕ). entry h (reach_at (take c text) x.start).end (summary_of is.read.tree)) kept.1
              ∙ ap (λ (r : Reach). entry (header_at text x.start) r.end (summary_of is.read.tree)) kept.2;
          spans = spans_more x is.read.spans;
        };
        fault = is.fault;
      }

  entries_more : (from : ℕ) (es : List IndexEntry) → ChainUpTo text from c (extents_of es) → All (IsEntryOf (take c text)) es
      → All (IsEntryOf text) es
  entries_more from [] chain all = All-nil (IsEntryOf text)
  entries_more from (e ∷ es) chain all =
      All-cons (IsEntryOf text) e es (entry_more from e (extents_of es) chain (All-head (IsEntryOf (take c text)) e es all))
      (entries_more e.interchange.end es chain.2 (All-tail (IsEntryOf (take c text)) e es all))

-- bytes outside
abbrev others : List ℕ → ℕ
others xs = count_by (λ b. not (is_filler b)) xs

range_joined : (text : List ℕ) (a b c : ℕ) → a ≤ b → b ≤ c → slice_range text a c ≡ slice_range text a b ++ slice_range text b c
range_joined text a b c first second =
    let n : b ≡ a + (b - a) = omega arith in
    let long : drop (b - a) (drop a text) ≡ drop b text = drop-drop (b - a) a text ∙ ap (λ (k : ℕ). drop k text) (sym n) in
    let sum : c - a ≡ (b - a) + (c - b) = omega arith in
    ap (λ (k : ℕ). take k (drop a text)) sum ∙ sum_taken (b - a) (c - b) (drop a text)
    ∙ ap (λ (xs : List ℕ). take (b - a) (drop a text) ++ take (c - b) xs) long
  where
    sum_taken : (m n : ℕ) (xs : List ℕ) → take (m + n) xs ≡ take m xs ++ take n (drop m xs)
    sum_taken m n xs =
        sym (take-append-drop m (take (m + n) xs))
        ∙ ap (λ (l : List ℕ). l ++ drop m (take (m + n) xs)) (take-take m (m + n) xs (omega arith))
        ∙ ap (λ (l : List ℕ). take m xs ++ l) (Rattle.std.proofs.lemmas.List.drop-take m n xs)

others_joined : (text : List ℕ) (a b c : ℕ) → a ≤ b → b ≤ c
    → others (slice_range text a c) ≡ others (slice_range text a b) + others (slice_range text b c)
others_joined text a b c first second =
    ap others (range_joined text a b c first second)
    ∙ sum_by-append (λ x. Rattle.std.proofs.Common.cond (not (is_filler x)) 1 0) (slice_range text a b) (slice_range text b c)

count_joined : (text : List ℕ) (from to later : ℕ) (xs ys : List Extent) → ChainUpTo text from to xs → ChainUpTo text to later ys
    → count_up_to text from later (xs ++ ys) ≡ count_up_to text from to xs + count_up_to text to later ys
count_joined text from to later [] [] chain more = others_joined text from to later chain.0 more.0
count_joined text from to later [] (y ∷ ys) chain more =
    omega (arith, others_joined text from to y.start chain.0 more.0.behind)
count_joined text from to later (x ∷ xs) ys chain more = omega (arith, count_joined text x.end to later xs ys chain.2 more)

count_past : (before text : List ℕ) (from to : ℕ) (xs : List Extent)
    → count_up_to (before ++ text) (length before + from) (length before + to) (map (moved_extent (length before)) xs)
    ≡ count_up_to text from to xs
count_past before text from to [] = ap others (range_past before text from to)
count_past before text from to (x ∷ xs) =
    ap (λ (n : ℕ). n + count_up_to (before ++ text) (length before + x.end) (length before + to) (map (moved_extent (length before)) xs))
    (ap others (range_past before text from x.start))
    ∙ ap (λ (n : ℕ). others (slice_range text from x.start) + n) (count_past before text x.end to xs)

-- of what is read up to there, the same bytes stand outside
count_read : (text : List ℕ) (c : ℕ) → c ≤ length text → (from : ℕ) (xs : List Extent) → ChainUpTo text from c xs
    → count_outside (take c text) from xs ≡ count_up_to text from c xs
count_read text c within from [] chain = ap others (Rattle.whole_interchanges.proofs.Split.read_rest text c from chain.0)
count_read text c within from (x ∷ xs) chain =
    let last : x.end ≤ c = chain_order text x.end c xs chain.2 in
    let start : x.start ≤ x.end = omega (arith, chain.1, Rattle.whole_interchanges.proofs.Chains.end_behind text x.start chain.0.head) in
    ap (λ (n : ℕ). n + count_outside (take c text) x.end xs)
    (ap others (Rattle.whole_interchanges.proofs.Split.read_range text c from x.start chain.0.behind (omega arith)))
    ∙ ap (λ (n : ℕ). others (slice_range text from x.start) + n) (count_read text c within x.end xs chain.2)

count_all : (text : List ℕ) (from : ℕ) (xs : List Extent) → count_up_to text from (length text) xs ≡ count_outside text from xs
count_all text from [] = ap others (Rattle.std.proofs.lemmas.List.take_rest text from)
count_all text from (x ∷ xs) = ap (λ (n : ℕ). others (slice_range text from x.start) + n) (count_all text x.end xs)

-- nothing is read yet
pub starts : (text : List ℕ) → IsIndexUpTo text 0 [] 0
starts text = record { chain = (omega arith, λ q low lt. absurd (omega (arith, lt))); each = All-nil (IsEntryOf text); counted = refl }

-- a batch more
pub steps : (before text : List ℕ) (done : List IndexEntry) (outside c : ℕ) (xs : List Extent) (index : IndexValue)
    → IsIndexUpTo (before ++ text) (length before) done outside
    → c ≤ length text → ChainUpTo text 0 c xs → IsIndex (take c text) index
    → IsIndexUpTo (before ++ text) (length before + c) (done ++ map (moved_entry (length before)) index.entries) (outside + index.outside)
steps before text done outside c xs index so_far within chain batch =
    let by : ℕ = length before in
    let same : xs ≡ extents_of index.entries = chain_from_is_one (take c text) 0 xs (extents_of index.entries)
    (chain_read text c within 0 xs chain) batch.chain in
    let clean : ChainUpTo text 0 c (extents_of index.entries) = subst (ChainUpTo text 0 c) same chain in
    let place : by + 0 ≡ by = omega arith in
    let further : ChainUpTo (before ++ text) by (by + c) (map (moved_extent by) (extents_of index.entries)) =
    subst (λ (n : ℕ). ChainUpTo (before ++ text) n (by + c) (map (moved_extent by) (extents_of index.entries))) place
    (chain_past before text 0 c (extents_of index.entries) clean) in
    let extents : extents_of (done ++ map (moved_entry by) index.entries)
    ≡ extents_of done ++ map (moved_extent by) (extents_of index.entries) =
    map-append extent_of done (map (moved_entry by) index.entries)
    ∙ ap (λ (l : List Extent). extents_of done ++ l) (extents_moved by index.entries) in
    let count : count_up_to (before ++ text) by (by + c) (map (moved_extent by) (extents_of index.entries))
    ≡ count_up_to text 0 c (extents_of index.entries) =
    ap (λ (n : ℕ). count_up_to (before ++ text) n (by + c) (map (moved_extent by) (extents_of index.entries))) (sym place)
    ∙ count_past before text 0 c (extents_of index.entries) in
    let read : count_outside (take c text) 0 (extents_of index.entries) ≡ count_up_to text 0 c (extents_of index.entries) =
    count_read text c within 0 (extents_of index.entries) clean in
    let both = count_joined (before ++ text) 0 by (by + c) (extents_of done) (map (moved_extent by) (extents_of index.entries))
    so_far.chain further in
    record {
      chain = subst (ChainUpTo (before ++ text) 0 (by + c)) (sym extents)
          (chain_joined (before ++ text) 0 by (by + c) (extents_of done) (map (moved_extent by) (extents_of index.entries))
          so_far.chain further);
      each = All-append (IsEntryOf (before ++ text)) done (map (moved_entry by) index.entries) so_far.each
          (entries_past before text index.entries (entries_more text c within 0 index.entries clean batch.entries));
      counted = (let sum : outside + index.outside ≡ count_up_to (before ++ text) 0 (by + c)
          (extents_of done ++ map (moved_extent by) (extents_of index.entries)) =
          omega (arith, so_far.counted, batch.outside, read, count, both) in sum)
          ∙ ap (count_up_to (before ++ text) 0 (by + c)) (sym extents);
    }

-- all is read
pub ends : (text : List ℕ) (done : List IndexEntry) (outside : ℕ) → IsIndexUpTo text (length text) done outside
    → IsIndex text (record { text = text; entries = done; outside = outside })
ends text done outside so_far = record {
  same = refl;
  chain = chain_ends text 0 (extents_of done) so_far.chain;
  entries = so_far.each;
  outside = so_far.counted ∙ count_all text 0 (extents_of done);
}
