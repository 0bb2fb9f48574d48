-- A text has no more interchanges and no more bytes outside of them than bytes.
use Rattle.std.proofs.Common.{◌≡◌, ℕ, suc, ◌+◌, ◌-◌, ◌≤◌, List, [], ◌∷◌, Option, length, drop, refl, sym, ap, subst, arith}
use Rattle.std.proofs.lemmas.List.{length-map, length-take, take_rest}
use Rattle.std.proofs.lemmas.List.Sums.{count_by-le-length}
use Rattle.std.specs.Prelude.{not, count_by, slice_range}
use Rattle.hub_kinds.specs.declared.interchange.InterchangeFault.{InterchangeFault}
use Rattle.hub_kinds.specs.declared.limits.TheConstants.{LONGEST_TEXT}
use Rattle.env_index.specs.Words.{Extent, IndexEntry, IndexValue, IsIndex, settled, with_faults}
use Rattle.env_index.specs.Extents.{count_outside, is_filler}
use Rattle.env_index.specs.Index.{extent_of, extents_of}
use Rattle.whole_interchanges.specs.Batches.{ChainUpTo}
use Rattle.whole_interchanges.specs.Moved.{IsIndexUpTo, count_up_to}
use Rattle.whole_interchanges.proofs.ForAbove.{chain_up_to_end, end_behind}
use Rattle.partner_setup.specs.Setup.{SetupValue}
use Rattle.set_answers.specs.Settled.{fault_alone, faults_with, interchange_key_of, keys_with}
use Rattle.night_batches.specs.Writing.{HasRoomFor, WritingValue}
use Rattle.night_stream.specs.Carried.{CanGoOn}

chain_length : (text : List ℕ) (from to : ℕ) (xs : List Extent) → ChainUpTo text from to xs → from + length xs ≤ to
chain_length text from to [] chain = omega (arith, chain.0)
chain_length text from to (x ∷ xs) chain =
    omega (arith, chain.0.behind, chain.1, end_behind text x.start chain.0.head, chain_length text x.end to xs chain.2)

range_length : (text : List ℕ) (from to : ℕ) → count_by (λ b. not (is_filler b)) (slice_range text from to) ≤ to - from
range_length text from to =
    omega (arith, count_by-le-length (λ b. not (is_filler b)) (slice_range text from to), length-take (to - from) (drop from text))

count_length : (text : List ℕ) (from to : ℕ) (xs : List Extent) → ChainUpTo text from to xs → from + count_up_to text from to xs ≤ to
count_length text from to [] chain = omega (arith, chain.0, range_length text from to)
count_length text from to (x ∷ xs) chain =
    omega (
      arith,
      chain.0.behind,
      chain.1,
      end_behind text x.start chain.0.head,
      range_length text from x.start,
      count_length text x.end to xs chain.2,
    )

counted_all : (text : List ℕ) (from : ℕ) (xs : List Extent) → count_up_to text from (length text) xs ≡ count_outside text from xs
counted_all text from [] = ap (λ (l : List ℕ). count_by (λ b. not (is_filler b)) l) (take_rest text from)
counted_all text from (x ∷ xs) =
    ap (λ (n : ℕ). count_by (λ b. not (is_filler b)) (slice_range text from x.start) + n) (counted_all text x.end xs)

-- up to an offset
pub few_up_to : (text : List ℕ) (to : ℕ) (entries : List IndexEntry) (outside : ℕ) → IsIndexUpTo text to entries outside
    → (length entries ≤ to) × (outside ≤ to)
few_up_to text to entries outside is = (
  omega (arith, chain_length text 0 to (extents_of entries) is.chain, length-map entries extent_of),
  omega (arith, is.counted, count_length text 0 to (extents_of entries) is.chain),
)

-- of all
pub few_of_all : (text : List ℕ) (index : IndexValue) → IsIndex text index
    → (length index.entries ≤ length text) × (index.outside ≤ length text)
few_of_all text index is =
    let chain : ChainUpTo text 0 (length text) (extents_of index.entries) =
    chain_up_to_end text 0 (extents_of index.entries) (omega arith) is.chain in (
      omega (arith, chain_length text 0 (length text) (extents_of index.entries) chain, length-map index.entries extent_of),
      omega (
        arith,
        is.outside,
        counted_all text 0 (extents_of index.entries),
        count_length text 0 (length text) (extents_of index.entries) chain,
      ),
    )

-- as many with faults
pub faulty_length : (es : List IndexEntry) (fs : List (Option InterchangeFault)) → length (with_faults es fs) ≡ length es
faulty_length [] fs = refl
faulty_length (e ∷ es) [] = refl
faulty_length (e ∷ es) (f ∷ fs) = ap suc (faulty_length es fs)

-- as many faults
pub faults_length : (setup : SetupValue) (numbers : List (List ℕ)) (es : List IndexEntry)
    → length (faults_with setup numbers es) ≡ length es
faults_length setup numbers [] = refl
faults_length setup numbers (e ∷ es) = ap suc (faults_length setup (keys_with numbers (fault_alone setup e) (interchange_key_of e)) es)

-- there is room for a batch
pub room_for : (setup : SetupValue) (at : List ℕ) (base : ℕ) (w : WritingValue) (batch : List ℕ) (index new : IndexValue)
    (faults : List (Option InterchangeFault)) → CanGoOn setup at base w → base + length batch ≤ LONGEST_TEXT → IsIndex batch index
    → new ≡ settled index faults → HasRoomFor setup at (length new.entries) new.outside w
room_for setup at base w batch index new faults can few read is =
    let most = few_of_all batch index read in
    let longest : base + length batch ≤ 4294967295 = few in
    subst (λ (i : IndexValue). HasRoomFor setup at (length i.entries) i.outside w) (sym is)
    (record {
      before = can.before;
      files = can.files;
      count = can.count;
      boxes = can.boxes;
      few = omega (arith, can.few, most.0, longest, faulty_length index.entries faults);
      outside = omega (arith, can.outside, most.1, longest);
    })
