-- The first segment of a set, as it is read in the set's span, is the set's ST.
use Rattle.std.proofs.Common.{◌≡◌, ℕ, List, [], ◌∷◌, Option, Some, true, sym, ap, subst}
use Rattle.std.specs.Prelude.{slice_get, slice_index_or}
use Rattle.std.specs.List.{All}
use Rattle.std.proofs.lemmas.List.Elements.{All-cons, All-get_or, All-head, All-nil, All-tail}
use Rattle.std.proofs.lemmas.Option.{get_or_from_slice_get, slice_get_within}
use Rattle.x12_bytes.specs.Header.{header_delims, header_at}
use Rattle.x12_bytes.specs.HeaderTest.{is_head}
use Rattle.x12_bytes.specs.declared.delims.Delims.{Delims}
use Rattle.x12_segs.specs.Words.{SegValue}
use Rattle.hub_kinds.specs.declared.interchange.InterchangeFault.{InterchangeFault}
use Rattle.env_index.specs.declared.entry.SetEnvelope.{SetEnvelope}
use Rattle.env_index.specs.Words.{InGroup, ASet, OutOfGroup, InBody, ATa1, AGroup, OutOfBody, Set, ChainFrom, IndexEntry, IndexValue}
use Rattle.env_index.specs.Words.{IsEntryOf, IsIndex, IsReadIn, extents_of, InterchangeEntry, settled, with_faults, EachSet, EachSetIn}
use Rattle.env_index.specs.Words.{SetStandsAlone, span_of, GroupEntry, group_entry, groups_in, set_entry, sets_in}
use Rattle.env_index.proofs.ForAbove.{all_alone}
use Rattle.set_check.specs.SetParts.{no_segment, set_parts}

-- the ST that is read in the span of a set is its ST
abbrev pub HasHeader : (text : List ℕ) → Delims → SetEnvelope → Type 0
HasHeader text d set = (set_parts text (span_of d set)).header ≡ set.header

-- that is so of each set of an interchange
abbrev pub HaveHeaders : (text : List ℕ) → InterchangeEntry → Type 0
HaveHeaders text x = All (λ (group : GroupEntry). All (HasHeader text (header_delims x.header)) group.sets) x.content.groups

pub at_index : {A : Type 0} (P : A → Type 0) (xs : List A) (i : ℕ) (x : A) → slice_get xs i ≡ Some x → All P xs → P x
at_index P xs i x is all = subst P (get_or_from_slice_get xs i x x is) (All-get_or P xs i x (slice_get_within xs i x is) all)

module _ (text : List ℕ) (d : Delims) where
  alone_has_header : (s : Set SegValue) → SetStandsAlone text d s → HasHeader text d (set_entry s)
  alone_has_header s alone = ap (λ (segs : List SegValue). slice_index_or segs 0 (no_segment d)) alone.segs

  headers_in_group : (ms : List (InGroup SegValue)) → EachSet (SetStandsAlone text d) ms → All (HasHeader text d) (sets_in ms)
  headers_in_group [] alone = All-nil (HasHeader text d)
  headers_in_group (ASet s ∷ ms) alone =
      All-cons (HasHeader text d) (set_entry s) (sets_in ms) (alone_has_header s alone.0) (headers_in_group ms alone.1)
  headers_in_group (OutOfGroup x ∷ ms) alone = headers_in_group ms alone

  headers_in : (ms : List (InBody SegValue)) → EachSetIn (SetStandsAlone text d) ms
      → All (λ (group : GroupEntry). All (HasHeader text d) group.sets) (groups_in ms)
  headers_in [] alone = All-nil (λ (group : GroupEntry). All (HasHeader text d) group.sets)
  headers_in (ATa1 x ∷ ms) alone = headers_in ms alone
  headers_in (AGroup g ∷ ms) alone =
      All-cons (λ (group : GroupEntry). All (HasHeader text d) group.sets) (group_entry g) (groups_in ms)
      (headers_in_group g.members alone.0) (headers_in ms alone.1)
  headers_in (OutOfBody x ∷ ms) alone = headers_in ms alone

read_headers : (text : List ℕ) (x : InterchangeEntry) → is_head text x.start ≡ true → IsReadIn text x → HaveHeaders text x
read_headers text x head is =
    subst (HaveHeaders text) (sym is.read)
    (headers_in text (header_delims (header_at text x.start)) is.tree.members (all_alone text x.start is.tree head is.derived))

chain_headers : (text : List ℕ) (from : ℕ) (es : List IndexEntry) → ChainFrom text from (extents_of es) → All (IsEntryOf text) es
    → All (λ (e : IndexEntry). HaveHeaders text e.interchange) es
chain_headers text from [] chain are = All-nil (λ (e : IndexEntry). HaveHeaders text e.interchange)
chain_headers text from (e ∷ es) chain are =
    All-cons (λ (e : IndexEntry). HaveHeaders text e.interchange) e es
    (read_headers text e.interchange chain.0.head (All-head (IsEntryOf text) e es are).read)
    (chain_headers text e.interchange.end es chain.2 (All-tail (IsEntryOf text) e es are))

headers_kept : (text : List ℕ) (es : List IndexEntry) (faults : List (Option InterchangeFault))
    → All (λ (e : IndexEntry). HaveHeaders text e.interchange) es
    → All (λ (e : IndexEntry). HaveHeaders text e.interchange) (with_faults es faults)
headers_kept text [] faults all = all
headers_kept text (e ∷ es) [] all = all
headers_kept text (e ∷ es) (f ∷ fs) all =
    All-cons (λ (e : IndexEntry). HaveHeaders text e.interchange) _ _
    (All-head (λ (e : IndexEntry). HaveHeaders text e.interchange) e es all)
    (headers_kept text es fs (All-tail (λ (e : IndexEntry). HaveHeaders text e.interchange) e es all))

-- the sets of a settled index have the STs that are read in their spans
pub settled_headers : (text : List ℕ) (index : IndexValue) (faults : List (Option InterchangeFault)) → IsIndex text index
    → All (λ (e : IndexEntry). HaveHeaders text e.interchange) (settled index faults).entries
settled_headers text index faults is =
    headers_kept text index.entries faults (chain_headers text 0 index.entries is.chain is.entries)
