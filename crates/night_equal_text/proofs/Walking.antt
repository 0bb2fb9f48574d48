-- The walk over a text finds the interchanges of its chain.
use Rattle.std.proofs.Common.{◌≡◌, ℕ, suc, ◌+◌, ◌-◌, ◌<◌, ◌≤◌, List, [], ◌∷◌, map, Bool, true, false, not, cond, length, take, drop, inl}
use Rattle.std.proofs.Common.{inr, refl, sym, ap, subst, ◌∙◌, arith}
use Rattle.std.specs.Prelude.{count_by, nat_lt}
use Rattle.std.specs.List.{All, slice_range}
use Rattle.std.proofs.lemmas.Bool.{both_ways, cases_lt, ltb-true, ltb-false}
use Rattle.std.proofs.lemmas.List.{drop-drop, length-drop}
use Rattle.std.proofs.lemmas.List.Elements.{All-head, All-tail}
use Rattle.std.proofs.lemmas.List.Recursion.{is_count_by}
use Rattle.x12_bytes.specs.HeaderTest.{is_head}
use Rattle.x12_bytes.specs.Header.{header_at, header_delims}
use Rattle.env_index.specs.Words as then
use Rattle.env_index.proofs.ForAbove.{no_head_past}
use Rattle.whole_interchanges.proofs.ForAbove.{end_behind}
use Rattle.night_definition.specs.Header as room
use Rattle.night_definition.specs.Envelopes.{read, in_body}
use Rattle.night_definition.specs.Interchanges.{Interchange, Reach, Text, interchange_at, with_byte, with_interchange, found_at}
use Rattle.night_definition.specs.Interchanges.{found_from, text_of}
use Rattle.night_equal.proofs.ForAbove.{heads}
use Rattle.night_equal_text.specs.Seen.{IsSame, AreSame}
use Rattle.night_equal_text.proofs.Reading.{reaches_are_one, contents_are_one}

abbrev others : List ℕ → ℕ
others [] = 0
others (x ∷ xs) = cond (not (then.is_filler x)) (1 + others xs) (others xs)

abbrev counted : List ℕ → ℕ
counted xs = count_by (λ b. not (then.is_filler b)) xs

others_counted : (xs : List ℕ) → others xs ≡ counted xs
others_counted xs = is_count_by others (λ b. not (then.is_filler b)) refl (λ x ys. refl) xs

count_first : (b : ℕ) (xs : List ℕ) → counted (b ∷ xs) ≡ cond (not (then.is_filler b)) (1 + counted xs) (counted xs)
count_first b xs = sym (others_counted (b ∷ xs)) ∙ ap (λ n. cond (not (then.is_filler b)) (1 + n) n) (others_counted xs)

abbrev pub text_with : List Interchange → ℕ → Text
text_with xs n = record { interchanges = xs; outside = n }

-- one more byte outside
with_byte_is : (b : ℕ) (xs : List Interchange) (n m : ℕ) → m ≡ cond (not (then.is_filler b)) (1 + n) n → with_byte b (text_with xs n)
    ≡ text_with xs m
with_byte_is b xs n m is = by (then.is_filler b) is
  where
    by : (f : Bool) → m ≡ cond (not f) (1 + n) n → (cond f (text_with xs n) (text_with xs (n + 1))) ≡ text_with xs m
    by true is = ap (text_with xs) (sym is)
    by false is = ap (text_with xs) (omega (arith, is))

-- what a chain from an offset says of a text
abbrev pub told : (text : List ℕ) → (from : ℕ) → List then.Extent → Text
told text from xs = text_with (map (λ (x : then.Extent). interchange_at text x.start) xs) (then.count_outside text from xs)

-- the next offset to look at is the later one of an offset and an end
pub record IsLater (offset end from : ℕ) : Type 0 where
  pub end_before : end ≤ from
  pub offset_before : offset ≤ from
  pub is_end : offset < from → from ≡ end

abbrev pub Walks : (text bytes : List ℕ) → (offset : ℕ) → Type 0
Walks text bytes offset =
    (end from : ℕ) (xs : List then.Extent) → IsLater offset end from → then.ChainFrom text from xs
    → found_from text bytes offset end ≡ told text from xs

next_drop : (text : List ℕ) (offset b : ℕ) (bytes : List ℕ) → drop offset text ≡ b ∷ bytes → drop (offset + 1) text ≡ bytes
next_drop text offset b bytes is = sym (drop-drop 1 offset text) ∙ ap (λ (xs : List ℕ). drop 1 xs) is

nothing_left : (text : List ℕ) (offset from : ℕ) → drop offset text ≡ [] → offset ≤ from → length text ≤ from
nothing_left text offset from is le =
    let none : length (drop offset text) ≡ 0 = ap (λ (xs : List ℕ). length xs) is in
    omega (arith, none, length-drop offset text, le)

nothing_behind : (text : List ℕ) (from : ℕ) → length text ≤ from → counted (drop from text) ≡ 0
nothing_behind text from past = by (drop from text) (omega (arith, length-drop from text, past))
  where
    by : (xs : List ℕ) → length xs ≡ 0 → counted xs ≡ 0
    by [] none = refl
    by (x ∷ xs) none = absurd (omega (arith, none))

-- behind an offset with no header
head_later : (text : List ℕ) (offset start : ℕ) → is_head text offset ≡ false → then.IsNextHead text offset start → offset < start
head_later text offset start none next = elim (cases_lt offset start) [
  | inl lt ↦ lt
  | inr ge ↦ absurd (both_ways (is_head text offset) none (subst (λ n. is_head text n ≡ true)
      (let same : start ≡ offset = omega (arith, ge, next.behind) in same) next.head))
]

-- at an offset with one
head_here : (text : List ℕ) (offset start : ℕ) → is_head text offset ≡ true → then.IsNextHead text offset start → start ≡ offset
head_here text offset start here next = elim (cases_lt offset start) [
  | inl lt ↦ absurd (both_ways (is_head text offset) (next.least offset (omega arith) lt) here)
  | inr ge ↦ omega (arith, ge, next.behind)
]

-- an interchange starts here
at_head : (text : List ℕ) (b : ℕ) (bytes : List ℕ) (offset : ℕ) (xs : List then.Extent) → Walks text bytes (offset + 1)
    → is_head text offset ≡ true → then.ChainFrom text offset xs
    → with_interchange (interchange_at text offset) (found_from text bytes (offset + 1) (interchange_at text offset).end)
    ≡ told text offset xs
at_head text b bytes offset [] more here chain = absurd (both_ways (is_head text offset) (chain offset (omega arith)) here)
at_head text b bytes offset (x ∷ xs) more here chain =
    let start : x.start ≡ offset = head_here text offset x.start here chain.0 in
    let end : (interchange_at text offset).end ≡ x.end
    = ap (λ (r : Reach). r.end) (reaches_are_one text offset) ∙ ap (λ n. (then.reach_at text n).end) (sym start) ∙ sym chain.1 in
    let long : offset + 106 ≤ x.end = omega (arith, start, chain.1, end_behind text x.start chain.0.head) in
    let rest : found_from text bytes (offset + 1) x.end ≡ told text x.end xs
    = more x.end x.end xs (record { end_before = omega arith; offset_before = omega (arith, long); is_end = λ lt. refl }) chain.2 in
    let none : counted (slice_range text offset x.start) ≡ 0
    = ap (λ n. counted (take n (drop offset text))) (let zero : x.start - offset ≡ 0 = omega (arith, start) in zero) in
    let same : then.count_outside text x.end xs ≡ counted (slice_range text offset x.start) + then.count_outside text x.end xs
    = omega (arith, none) in
    ap (λ n. with_interchange (interchange_at text offset) (found_from text bytes (offset + 1) n)) end
    ∙ ap (with_interchange (interchange_at text offset)) rest
    ∙ ap (λ n. text_with (interchange_at text n ∷ map (λ (y : then.Extent). interchange_at text y.start) xs)
    (then.count_outside text x.end xs)) (sym start)
    ∙ ap (λ n. text_with (map (λ (y : then.Extent). interchange_at text y.start) (x ∷ xs)) n) same

-- a byte outside
no_head_here : (text : List ℕ) (b : ℕ) (bytes : List ℕ) (offset end : ℕ) (xs : List then.Extent) → drop offset text ≡ b ∷ bytes
    → Walks text bytes (offset + 1) → end ≤ offset → is_head text offset ≡ false → then.ChainFrom text offset xs
    → with_byte b (found_from text bytes (offset + 1) end) ≡ told text offset xs
no_head_here text b bytes offset end [] here more le none chain =
    let rest : found_from text bytes (offset + 1) end ≡ told text (offset + 1) []
    = more end (offset + 1) [] (record
    { end_before = omega (arith, le); offset_before = omega arith; is_end = λ lt. absurd (omega (arith, lt)) })
    (λ q low. chain q (omega (arith, low))) in
    let count : counted (drop offset text) ≡ cond (not (then.is_filler b)) (1 + counted (drop (offset + 1) text))
    (counted (drop (offset + 1) text))
    = ap counted here ∙ count_first b bytes
    ∙ ap (λ ys. cond (not (then.is_filler b)) (1 + counted ys) (counted ys)) (sym (next_drop text offset b bytes here)) in
    ap (with_byte b) rest ∙ with_byte_is b [] (counted (drop (offset + 1) text)) (counted (drop offset text)) count
no_head_here text b bytes offset end (x ∷ xs) here more le none chain =
    let later : offset < x.start = head_later text offset x.start none chain.0 in
    let next : then.IsNextHead text (offset + 1) x.start
    = record { behind = omega (arith, later); head = chain.0.head; least = λ q low lt. chain.0.least q (omega (arith, low)) lt } in
    let rest : found_from text bytes (offset + 1) end ≡ told text (offset + 1) (x ∷ xs)
    = more end (offset + 1) (x ∷ xs) (record
    { end_before = omega (arith, le); offset_before = omega arith; is_end = λ lt. absurd (omega (arith, lt)) })
    (next, chain.1, chain.2) in
    let k : ℕ = x.start - (offset + 1) in
    let size : x.start - offset ≡ suc k = omega (arith, later) in
    let before : counted (slice_range text offset x.start) ≡ counted (b ∷ take k bytes)
    = ap (λ n. counted (take n (drop offset text))) size ∙ ap (λ ys. counted (take (suc k) ys)) here in
    let after : take k bytes ≡ slice_range text (offset + 1) x.start = ap (take k) (sym (next_drop text offset b bytes here)) in
    let m : ℕ = counted (slice_range text (offset + 1) x.start) in
    let first : counted (slice_range text offset x.start) ≡ cond (not (then.is_filler b)) (1 + m) m
    = before ∙ count_first b (take k bytes) ∙ ap (λ ys. cond (not (then.is_filler b)) (1 + counted ys) (counted ys)) after in
    let more_outside : ℕ = then.count_outside text x.end xs in
    let all : counted (slice_range text offset x.start) + more_outside
    ≡ cond (not (then.is_filler b)) (1 + (m + more_outside)) (m + more_outside)
    = ap (λ n. n + more_outside) first ∙ either (not (then.is_filler b)) m more_outside in
    ap (with_byte b) rest
    ∙ with_byte_is b (map (λ (y : then.Extent). interchange_at text y.start) (x ∷ xs)) (m + more_outside)
    (counted (slice_range text offset x.start) + more_outside) all
  where
    either : (f : Bool) (m n : ℕ) → cond f (1 + m) m + n ≡ cond f (1 + (m + n)) (m + n)
    either true m n = omega arith
    either false m n = refl

pub walk : (text bytes : List ℕ) (offset : ℕ) → drop offset text ≡ bytes → Walks text bytes offset
walk text [] offset here end from [] later chain =
    ap (text_with []) (sym (nothing_behind text from (nothing_left text offset from here later.offset_before)))
walk text [] offset here end from (x ∷ xs) later chain =
    absurd (both_ways (is_head text x.start) (no_head_past text x.start
    (omega (arith, nothing_left text offset from here later.offset_before, chain.0.behind))) chain.0.head)
walk text (b ∷ bytes) offset here end from xs later chain =
    by (nat_lt offset end) (room.is_head text offset) refl refl (walk text bytes (offset + 1) (next_drop text offset b bytes here))
  where
    by : (within head : Bool) → nat_lt offset end ≡ within → room.is_head text offset ≡ head → Walks text bytes (offset + 1)
        → found_at within head text offset end b (λ e. found_from text bytes (offset + 1) e) ≡ told text from xs
    by true head lt is more =
        let below : offset < end = ltb-true offset end lt in
        more end from xs (record {
          end_before = later.end_before;
          offset_before = omega (arith, below, later.end_before);
          is_end = λ l. later.is_end (omega (arith, l));
        }) chain
    by false head ge is more =
        let le : end ≤ offset = ltb-false offset end ge in
        let same : from ≡ offset = elim (cases_lt offset from) [
          | inl lt ↦ absurd (omega (arith, lt, later.is_end lt, le))
          | inr near ↦ omega (arith, near, later.offset_before)
        ] in
        subst (λ n. found_at false head text offset end b (λ e. found_from text bytes (offset + 1) e) ≡ told text n xs) (sym same)
        (outside head (sym (heads text offset) ∙ is) more le (subst (λ n. then.ChainFrom text n xs) same chain))
      where
        outside : (head : Bool) → is_head text offset ≡ head → Walks text bytes (offset + 1) → end ≤ offset
            → then.ChainFrom text offset xs
            → found_at false head text offset end b (λ e. found_from text bytes (offset + 1) e) ≡ told text offset xs
        outside true is more le chain = at_head text b bytes offset xs more is chain
        outside false is more le chain = no_head_here text b bytes offset end xs here more le is chain

pub text_is_chain : (text : List ℕ) (xs : List then.Extent) → then.Chain text xs → text_of text ≡ told text 0 xs
text_is_chain text xs chain =
    walk text text 0 refl 0 0 xs (record { end_before = omega arith; offset_before = omega arith; is_end = λ lt. refl }) chain

-- the interchange at an offset, by a tree of its segments
abbrev with_reach : (text : List ℕ) → (start : ℕ) → Reach → Interchange
with_reach text start r = record {
  header = header_at text start;
  delims = header_delims (header_at text start);
  start = start;
  end = r.end;
  content = read r.segments in_body;
}

entry_is_same : (text : List ℕ) (e : then.InterchangeEntry) → then.IsReadIn text e → IsSame text (interchange_at text e.start) e
entry_is_same text e is = record {
  tree = is.tree;
  derived = is.derived;
  read = is.read;
  same = ap (with_reach text e.start) (reaches_are_one text e.start)
      ∙ ap (λ r. let x : Interchange = record {
        header = header_at text e.start;
        delims = header_delims (header_at text e.start);
        start = e.start;
        end = (then.reach_at text e.start).end;
        content = r;
      } in x) (contents_are_one (then.reach_at text e.start).segs is.tree is.derived);
}

entries_are_same : (text : List ℕ) (es : List then.IndexEntry) → All (then.IsEntryOf text) es
    → AreSame text (map (λ (x : then.Extent). interchange_at text x.start) (then.extents_of es)) es
entries_are_same text [] all = tt
entries_are_same text (e ∷ es) all =
    let first : then.IsEntryOf text e = All-head (then.IsEntryOf text) e es all in
    (entry_is_same text e.interchange first.read, entries_are_same text es (All-tail (then.IsEntryOf text) e es all))

pub texts_are_indexes : (text : List ℕ) (index : then.IndexValue) → then.IsIndex text index
    → AreSame text (text_of text).interchanges index.entries × ((text_of text).outside ≡ index.outside)
texts_are_indexes text index is =
    subst (λ (t : Text). AreSame text t.interchanges index.entries × (t.outside ≡ index.outside))
    (sym (text_is_chain text (then.extents_of index.entries) is.chain))
    (entries_are_same text index.entries is.entries, sym is.outside)
