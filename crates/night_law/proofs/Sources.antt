-- The sets of an index, as they are read: the delimiters of their interchange differ, and the segments of each are its tree's.
use Rattle.std.proofs.Common.{◌≡◌, ℕ, Bool, true, false, ◌&&◌, ◌||◌, ◌==◌, not, List, [], ◌∷◌, Option, Some, None, refl, sym, subst}
use Rattle.std.proofs.Common.{eqb-true}
use Rattle.std.specs.Prelude.{if◌then◌else◌, slice_index}
use Rattle.std.specs.List.{All, list_all}
use Rattle.std.proofs.lemmas.Bool.{false_from_ne_true}
use Rattle.std.proofs.lemmas.List.Elements.{All-cons, All-head, All-nil, All-tail}
use Rattle.x12_bytes.specs.Bytes.{may_separate}
use Rattle.x12_bytes.specs.Header.{IsHeader, component_separator_of, header_delims, element_separator_of, header_at, repetition_of}
use Rattle.x12_bytes.specs.Header.{terminator_of}
use Rattle.x12_bytes.specs.HeaderTest.{is_head}
use Rattle.x12_bytes.specs.declared.delims.Delims.{Delims}
use Rattle.x12_bytes.proofs.ForAbove.{decides_head}
use Rattle.x12_segs.specs.Words.{may_stand_in_set, kind_of, SegValue}
use Rattle.x12_write.specs.Delimiters.{is_this}
use Rattle.hub_kinds.specs.declared.interchange.InterchangeFault.{InterchangeFault}
use Rattle.env_index.specs.declared.entry.SetEnvelope.{SetEnvelope}
use Rattle.env_index.specs.Words.{AGroup, ATa1, ASet, AreBodyMembers, AreMembers, InBody, InGroup, OutOfBody, OutOfGroup, Set}
use Rattle.env_index.specs.Words.{option_items, ChainFrom, IndexEntry, IndexValue, IsEntryOf, IsIndex, IsReadIn, extents_of}
use Rattle.env_index.specs.Words.{InterchangeEntry, settled, with_faults, EachSet, EachSetIn, SetStandsAlone, GroupEntry, group_entry}
use Rattle.env_index.specs.Words.{groups_in, set_entry, sets_in}
use Rattle.env_index.proofs.ForAbove.{all_alone}
use Rattle.night_law.proofs.Changing.{AreApart}

-- a set as it stands in the text
pub record IsThere (text : List ℕ) (d : Delims) (set : SetEnvelope) : Type 0 where
  pub tree : Set SegValue
  pub is : set ≡ set_entry tree
  pub alone : SetStandsAlone text d tree
  pub inner : list_all (λ x. may_stand_in_set (kind_of x)) tree.inner ≡ true

abbrev pub AreThere : (text : List ℕ) → InterchangeEntry → Type 0
AreThere text x = All (λ (g : GroupEntry). All (IsThere text (header_delims x.header)) g.sets) x.content.groups

-- an interchange's delimiters differ, and its sets are there
abbrev pub IsSource : (text : List ℕ) → InterchangeEntry → Type 0
IsSource text x = AreApart (header_delims x.header) × AreThere text x

module _ (text : List ℕ) (d : Delims) where
  there_in_group : (ms : List (InGroup SegValue)) (rest : List SegValue) → EachSet (SetStandsAlone text d) ms → AreMembers kind_of ms rest
      → All (IsThere text d) (sets_in ms)
  there_in_group [] rest alone are = All-nil (IsThere text d)
  there_in_group (ASet s ∷ ms) rest alone are =
      All-cons (IsThere text d) (set_entry s) (sets_in ms)
      (record { tree = s; is = refl; alone = alone.0; inner = are.0.inner }) (there_in_group ms rest alone.1 are.1)
  there_in_group (OutOfGroup x ∷ ms) rest alone are = there_in_group ms rest alone are.1

  there_in : (ms : List (InBody SegValue)) (rest : List SegValue) → EachSetIn (SetStandsAlone text d) ms → AreBodyMembers kind_of ms rest
      → All (λ (g : GroupEntry). All (IsThere text d) g.sets) (groups_in ms)
  there_in [] rest alone are = All-nil (λ (g : GroupEntry). All (IsThere text d) g.sets)
  there_in (ATa1 x ∷ ms) rest alone are = there_in ms rest alone are.1
  there_in (AGroup g ∷ ms) rest alone are =
      All-cons (λ (g : GroupEntry). All (IsThere text d) g.sets) (group_entry g) (groups_in ms)
      (there_in_group g.members _ alone.0 are.0.members) (there_in ms rest alone.1 are.1)
  there_in (OutOfBody x ∷ ms) rest alone are = there_in ms rest alone are.1

-- ISA11 is a repetition separator only where it is none of the others
repetition_apart : (sep e c t : Bool) (byte x : ℕ) → ((byte == x) ≡ true → ((e || c) || t) ≡ true)
    → is_this (if sep && not ((e || c) || t) then Some byte else None) x ≡ false
repetition_apart false e c t byte x other = refl
repetition_apart true e c t byte x other = by ((e || c) || t) other
  where
    by : (b : Bool) → ((byte == x) ≡ true → b ≡ true) → is_this (if true && not b then Some byte else None) x ≡ false
    by true other = refl
    by false other = false_from_ne_true (byte == x) (λ is. let no = other is in cc)

or_first : (a b c : Bool) → a ≡ true → ((a || b) || c) ≡ true
or_first true b c is = refl
or_first false b c is = cc

or_second : (a b c : Bool) → b ≡ true → ((a || b) || c) ≡ true
or_second true b c is = refl
or_second false true c is = refl
or_second false false c is = cc

or_third : (a b c : Bool) → c ≡ true → ((a || b) || c) ≡ true
or_third true b c is = refl
or_third false true c is = refl
or_third false false c is = is

header_apart : (h : List ℕ) → IsHeader h → AreApart (header_delims h)
header_apart h is =
    let e : ℕ = element_separator_of h in
    let c : ℕ = component_separator_of h in
    let t : ℕ = terminator_of h in
    let byte : ℕ = slice_index h 82 in
    let at : ℕ → Type 0 = λ x. is_this (repetition_of h) x ≡ false in
    record {
      element_component = false_from_ne_true (e == c) (λ same. is.element_not_component (eqb-true e c same));
      element_terminator = false_from_ne_true (e == t) (λ same. is.element_not_terminator (eqb-true e t same));
      component_terminator = false_from_ne_true (c == t) (λ same. is.component_not_terminator (eqb-true c t same));
      repetition_element = repetition_apart (may_separate byte) (byte == e) (byte == c) (byte == t) byte e
          (or_first (byte == e) (byte == c) (byte == t));
      repetition_component = repetition_apart (may_separate byte) (byte == e) (byte == c) (byte == t) byte c
          (or_second (byte == e) (byte == c) (byte == t));
      repetition_terminator = repetition_apart (may_separate byte) (byte == e) (byte == c) (byte == t) byte t
          (or_third (byte == e) (byte == c) (byte == t));
    }

read_source : (text : List ℕ) (x : InterchangeEntry) → is_head text x.start ≡ true → IsReadIn text x → IsSource text x
read_source text x head is =
    let d : Delims = header_delims (header_at text x.start) in
    subst (IsSource text) (sym is.read) (
      header_apart (header_at text x.start) ((decides_head text x.start).0 head).1,
      there_in text d is.tree.members (option_items is.tree.trailer) (all_alone text x.start is.tree head is.derived) is.derived.1.members,
    )

chain_sources : (text : List ℕ) (from : ℕ) (es : List IndexEntry) → ChainFrom text from (extents_of es) → All (IsEntryOf text) es
    → All (λ (e : IndexEntry). IsSource text e.interchange) es
chain_sources text from [] chain are = All-nil (λ (e : IndexEntry). IsSource text e.interchange)
chain_sources text from (e ∷ es) chain are =
    All-cons (λ (e : IndexEntry). IsSource text e.interchange) e es
    (read_source text e.interchange chain.0.head (All-head (IsEntryOf text) e es are).read)
    (chain_sources text e.interchange.end es chain.2 (All-tail (IsEntryOf text) e es are))

sources_kept : (text : List ℕ) (es : List IndexEntry) (faults : List (Option InterchangeFault))
    → All (λ (e : IndexEntry). IsSource text e.interchange) es
    → All (λ (e : IndexEntry). IsSource text e.interchange) (with_faults es faults)
sources_kept text [] faults all = all
sources_kept text (e ∷ es) [] all = all
sources_kept text (e ∷ es) (f ∷ fs) all =
    All-cons (λ (e : IndexEntry). IsSource text e.interchange) _ _
    (All-head (λ (e : IndexEntry). IsSource text e.interchange) e es all)
    (sources_kept text es fs (All-tail (λ (e : IndexEntry). IsSource text e.interchange) e es all))

-- the sets of a settled index stand in its text
pub settled_sources : (text : List ℕ) (index : IndexValue) (faults : List (Option InterchangeFault)) → IsIndex text index
    → All (λ (e : IndexEntry). IsSource text e.interchange) (settled index faults).entries
settled_sources text index faults is =
    sources_kept text index.entries faults (chain_sources text 0 index.entries is.chain is.entries)
