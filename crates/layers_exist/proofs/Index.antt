-- Each text has an index.
use Rattle.std.proofs.Common.{◌≡◌, ◌⊎◌, inl, inr, ℕ, zero, suc, ◌+◌, ◌≤◌, List, [], ◌∷◌, length, Bool, true, false, refl, subst, arith}
use Rattle.std.specs.List.{All}
use Rattle.std.proofs.lemmas.Bool.{cases_lt}
use Rattle.std.proofs.lemmas.List.Elements.{All-cons, All-nil}
use Rattle.x12_bytes.specs.HeaderTest.{is_head}
use Rattle.x12_segs.specs.Words.{SegValue, kind_of}
use Rattle.env_index.specs.Words.{Body, ChainFrom, DerivesInterchange, IndexEntry, IndexValue, IsEntryOf, IsIndex}
use Rattle.env_index.specs.Words.{IsNextHead, count_outside, extents_of, fault_of, interchange_of, reach_at}
use Rattle.env_index.proofs.ForAbove.{interchange_has_spans, no_head_past}
use Rattle.whole_interchanges.proofs.ForAbove.{end_behind}

-- whatever is after a header derives a tree
abbrev pub EachHasATree : Type 0
EachHasATree = (text : List ℕ) (start : ℕ) → (tree : Body SegValue) × DerivesInterchange kind_of (reach_at text start).segs tree

module _ (trees : EachHasATree) (text : List ℕ) where
  abbrev NoHead : (from : ℕ) → Type 0
  NoHead from = (q : ℕ) → from ≤ q → is_head text q ≡ false

  -- from an offset on there is a first header, or none
  next_head : (left from : ℕ) → length text ≤ from + left → ((start : ℕ) × IsNextHead text from start) ⊎ NoHead from
  next_head zero from short = inr (λ q low. no_head_past text q (omega (arith, short, low)))
  next_head (suc left) from short = by (is_head text from) refl (next_head left (from + 1) (omega (arith, short)))
    where
      later : is_head text from ≡ false → NoHead (from + 1) → NoHead from
      later none rest q low = elim (cases_lt from q) [
        | inl lt ↦ rest q (omega (arith, lt))
        | inr ge ↦ (let same : from ≡ q = omega (arith, low, ge) in subst (λ n. is_head text n ≡ false) same none)
      ]

      by : (b : Bool) → is_head text from ≡ b → ((start : ℕ) × IsNextHead text (from + 1) start) ⊎ NoHead (from + 1)
          → ((start : ℕ) × IsNextHead text from start) ⊎ NoHead from
      by true is rest = inl (from, record { behind = omega arith; head = is; least = λ q low lt. absurd (omega (arith, low, lt)) })
      by false is (inr none) = inr (later is none)
      by false is (inl (start, next)) = inl (
        start,
        record {
          behind = omega (arith, next.behind);
          head = next.head;
          least = λ q low lt. elim (cases_lt from q) [
            | inl more ↦ next.least q (omega (arith, more)) lt
            | inr ge ↦ (let same : from ≡ q = omega (arith, low, ge) in subst (λ n. is_head text n ≡ false) same is)
          ];
        },
      )

  abbrev entry_at : (start : ℕ) → IndexEntry
  entry_at start = record {
    interchange = interchange_of text start (trees text start).0;
    fault = fault_of (interchange_of text start (trees text start).0);
  }

  is_entry : (start : ℕ) → is_head text start ≡ true → IsEntryOf text (entry_at start)
  is_entry start head = record {
    read = record {
      tree = (trees text start).0;
      derived = (trees text start).1;
      read = refl;
      spans = interchange_has_spans text start (trees text start).0 head (trees text start).1;
    };
    fault = refl;
  }

  -- the interchanges from an offset on
  record From (from : ℕ) : Type 0 where
    entries : List IndexEntry
    chain : ChainFrom text from (extents_of entries)
    are : All (IsEntryOf text) entries

  none_from : (from : ℕ) → NoHead from → From from
  none_from from none = record { entries = []; chain = none; are = All-nil (IsEntryOf text) }

  one_more : (from start : ℕ) → IsNextHead text from start → From (reach_at text start).end → From from
  one_more from start next rest = record {
    entries = entry_at start ∷ rest.entries;
    chain = (next, refl, rest.chain);
    are = All-cons (IsEntryOf text) (entry_at start) rest.entries (is_entry start next.head) rest.are;
  }

  from : (left at : ℕ) → length text ≤ at + left → From at
  from zero at short = none_from at (λ q low. no_head_past text q (omega (arith, short, low)))
  from (suc left) at short = elim (next_head (suc left) at short) [
    | inl (start, next) ↦ one_more at start next (from left (reach_at text start).end
        (omega (arith, short, next.behind, end_behind text start next.head)))
    | inr none ↦ none_from at none
  ]

  all : From 0
  all = from (length text) 0 (omega arith)

  pub an_index : (index : IndexValue) × IsIndex text index
  an_index = (
    record { text = text; entries = all.entries; outside = count_outside text 0 (extents_of all.entries) },
    record { same = refl; chain = all.chain; entries = all.are; outside = refl },
  )
