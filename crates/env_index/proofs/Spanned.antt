-- The sets of an index have spans.
use Rattle.std.proofs.Common.{◌≡◌, ℕ, List, [], ◌∷◌, Some, true, subst, sym}
use Rattle.std.specs.Prelude.{slice_get}
use Rattle.std.specs.List.{All}
use Rattle.std.proofs.lemmas.List.Elements.{All-nil, All-cons, All-get_or}
use Rattle.std.proofs.lemmas.Option.{get_or_from_slice_get, slice_get_within}
use Rattle.x12_bytes.specs.Header.{header_delims, header_at}
use Rattle.x12_bytes.specs.HeaderTest.{is_head}
use Rattle.x12_bytes.specs.declared.delims.Delims.{Delims}
use Rattle.x12_segs.specs.Words.{SegValue, kind_of, IsSetSpan}
use Rattle.env_index.specs.declared.entry.SetEnvelope.{SetEnvelope}
use Rattle.env_index.specs.Envelope.{InGroup, ASet, OutOfGroup, InBody, ATa1, AGroup, OutOfBody, Body, DerivesInterchange}
use Rattle.env_index.specs.Extents.{reach_at}
use Rattle.env_index.specs.Interchange.{InterchangeEntry, interchange_of}
use Rattle.env_index.specs.Spans.{SetStandsAlone, EachSet, EachSetIn, HasSpans, span_of}
use Rattle.env_index.specs.Summary.{GroupEntry, set_entry, group_entry, groups_in, sets_in}
use Rattle.env_index.proofs.Standing.{all_alone}

-- of a list, what holds of each element holds of the one at an index
at_index : {A : Type 0} (P : A → Type 0) (xs : List A) (i : ℕ) (x : A) → slice_get xs i ≡ Some x → All P xs → P x
at_index P xs i x is all = subst P (get_or_from_slice_get xs i x x is) (All-get_or P xs i x (slice_get_within xs i x is) all)

-- the sets of the group at an index, read by the interchange's delimiters
pub group_has_spans : (text : List ℕ) (x : InterchangeEntry) (i : ℕ) (group : GroupEntry) (d : Delims) → HasSpans text x
    → slice_get x.content.groups i ≡ Some group → d ≡ header_delims x.header → All (λ set. IsSetSpan text (span_of d set)) group.sets
group_has_spans text x i group d has is same =
    subst (λ (e : Delims). All (λ (set : SetEnvelope). IsSetSpan text (span_of e set)) group.sets) (sym same)
    (at_index (λ (g : GroupEntry). All (λ (set : SetEnvelope). IsSetSpan text (span_of (header_delims x.header) set)) g.sets)
    x.content.groups i group is has)

-- the sets of a tree of envelopes that stand alone
module _ (text : List ℕ) (d : Delims) where
  abbrev HasSpan : SetEnvelope → Type 0
  HasSpan set = IsSetSpan text (span_of d set)

  spans_in_group : (ms : List (InGroup SegValue)) → EachSet (SetStandsAlone text d) ms → All HasSpan (sets_in ms)
  spans_in_group [] alone = All-nil HasSpan
  spans_in_group (ASet s ∷ ms) alone = All-cons HasSpan (set_entry s) (sets_in ms) alone.0.span (spans_in_group ms alone.1)
  spans_in_group (OutOfGroup x ∷ ms) alone = spans_in_group ms alone

  pub spans_in : (ms : List (InBody SegValue)) → EachSetIn (SetStandsAlone text d) ms
      → All (λ (group : GroupEntry). All HasSpan group.sets) (groups_in ms)
  spans_in [] alone = All-nil (λ (group : GroupEntry). All HasSpan group.sets)
  spans_in (ATa1 x ∷ ms) alone = spans_in ms alone
  spans_in (AGroup g ∷ ms) alone =
      All-cons (λ (group : GroupEntry). All HasSpan group.sets) (group_entry g) (groups_in ms) (spans_in_group g.members alone.0)
      (spans_in ms alone.1)
  spans_in (OutOfBody x ∷ ms) alone = spans_in ms alone

-- so the sets of an interchange have spans
pub interchange_has_spans : (text : List ℕ) (start : ℕ) (tree : Body SegValue) → is_head text start ≡ true
    → DerivesInterchange kind_of (reach_at text start).segs tree → HasSpans text (interchange_of text start tree)
interchange_has_spans text start tree head derives =
    spans_in text (header_delims (header_at text start)) tree.members (all_alone text start tree head derives)
