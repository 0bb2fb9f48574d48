-- The sets that a guide takes as the index has them are sets that it takes.
use Rattle.std.proofs.Common.{◌≡◌, ◌∙◌, ℕ, List, [], ◌∷◌, Option, Some, None, refl, sym, ap, subst}
use Rattle.std.specs.Prelude.{IsTrue, bytes_eq, map, option_map, slice_index_or, true}
use Rattle.x12_segs.specs.Words.{Seg, SegValue, elements_of, span_segs, view_of}
use Rattle.std.specs.Option.{option_map_or}
use Rattle.std.specs.List.{All}
use Rattle.std.proofs.lemmas.List.Elements.{All-cons, All-head, All-nil, All-tail}
use Rattle.std.proofs.lemmas.Option.{same_Some}
use Rattle.x12_bytes.specs.declared.delims.Delims.{Delims}
use Rattle.guide_tree.specs.declared.rows.GuideRows.{GuideRows}
use Rattle.guide_tree.specs.Words.{IsAccepted, guide_of}
use Rattle.env_index.specs.Words as then
use Rattle.env_index.specs.declared.entry.SetEnvelope.{SetEnvelope}
use Rattle.set_check.specs.Meets as old
use Rattle.set_check.specs.SetParts.{no_segment, set_parts}
use Rattle.night_definition.specs.Segments.{Segment, element}
use Rattle.night_definition.specs.Envelopes.{Group, Set}
use Rattle.night_definition.specs.Interchanges.{Interchange, text_of}
use Rattle.night_definition.specs.Sets.{MeetsAlone}
use Rattle.night_equal_set.specs.Meeting.{IsConditioned, MeetingsAreOne}
use Rattle.night_equal_set.specs.Parts.{IsThatSet}
use Rattle.night_equal_text.specs.Faulty.{fault_to_seven}
use Rattle.night_equal_text.specs.Kept.{AreGroupsKept, AreSetsKept, IsKept, IsSetKept}
use Rattle.night_equal_text.specs.Laws.{FaultsAreOne, InterchangesAreKept, SetsAreParts, TextsAreIndexes}
use Rattle.night_equal_text.specs.Seen.{AreSame, seen}
use Rattle.night_equal_text.specs.Spanned.{AreGroupsIn, AreInterchangesIn, AreSetsIn, IsSetOf}
use Rattle.learn_judge.proofs.Conditioned.{conditioned}
use Rattle.learn_judge.specs.Indexed.{IsTakenIn, TakesEntry, TakesGroupIn}
use Rattle.learn_judge.specs.Samples.{IsTaken, TakesGroup, TakesInterchange, TakesText, envelope_fault, is_asked}

-- the least of the faults 1 to 7, as other proofs have it
pub same_fault : (x : Interchange) (o : Option Segment) → x.content.iea ≡ o → envelope_fault x ≡ fault_to_seven x
same_fault x None is = rw is refl
same_fault x (Some iea) is = rw is refl

first_delims : (d : Delims) (segs : List Seg) → (slice_index_or (map (view_of d) segs) 0 (no_segment d)).delims ≡ d
first_delims d [] = refl
first_delims d (s ∷ segs) = refl

trailers : (o : Option SegValue) → option_map elements_of o ≡ option_map (λ (s : Segment). s.elements) (option_map seen o)
trailers None = refl
trailers (Some s) = refl

-- a set is the one that is read in its span
that_set : (text : List ℕ) (d : Delims) (e : SetEnvelope) (s : Set) → IsSetOf s (set_parts text (then.span_of d e))
    → IsThatSet d s (set_parts text (then.span_of d e))
that_set text d e s is = record {
  delims = refl;
  header_delims = first_delims d (span_segs text (then.span_of d e));
  header = sym (ap (λ (x : Segment). x.elements) is.header);
  body = sym is.body;
  trailer = trailers (set_parts text (then.span_of d e)).trailer
      ∙ sym (ap (option_map (λ (s : Segment). s.elements)) is.trailer);
}

module _ (meetings : MeetingsAreOne) (rows : GuideRows) (accepted : IsAccepted rows) (st01 : Option (List ℕ)) (text : List ℕ) where
  meets : (d : Delims) (s : Set) (e : SetEnvelope) → IsSetOf s (set_parts text (then.span_of d e))
      → old.MeetsAlone (Some (guide_of rows)) (set_parts text (then.span_of d e)) → MeetsAlone (Some (guide_of rows)) d s
  meets d s e is met =
      (meetings (Some (guide_of rows)) d s (set_parts text (then.span_of d e)) (that_set text d e s is)
      (λ g same. subst IsConditioned (same_Some (guide_of rows) g same) (conditioned (guide_of rows) accepted.well_formed))).1 met

  set : (d : Delims) (g : Group) (ge : then.GroupEntry) (s : Set) (e : SetEnvelope) → g.header ≡ seen ge.header → IsSetKept s e
      → IsSetOf s (set_parts text (then.span_of d e)) → IsTakenIn (guide_of rows) st01 text d ge.header e
      → IsTrue (is_asked st01 s) → IsTaken (guide_of rows) d g s
  set d g ge s e same kept is takes asked =
      let found = takes (subst (λ (h : Segment). IsTrue (option_map_or (λ id. bytes_eq (element 1 h.elements) id) st01 true)) kept.header
      asked) in
      record {
        group_id = ap (λ (h : Segment). element 1 h.elements) same ∙ found.0.group_id;
        version = ap (λ (h : Segment). element 8 h.elements) same ∙ found.0.version;
        set_id = ap (λ (h : Segment). element 1 h.elements) kept.header ∙ found.0.set_id;
        meets = meets d s e is found.1;
      }

  abbrev Takes : Delims → Group → Set → Type 0
  Takes d g s = IsTrue (is_asked st01 s) → IsTaken (guide_of rows) d g s

  sets : (d : Delims) (g : Group) (ge : then.GroupEntry) → g.header ≡ seen ge.header → (ss : List Set) (es : List SetEnvelope)
      → AreSetsKept ss es → AreSetsIn text d ss es → All (IsTakenIn (guide_of rows) st01 text d ge.header) es → All (Takes d g) ss
  sets d g ge same [] es kept are all = All-nil (Takes d g)
  sets d g ge same (s ∷ ss) [] kept are all = absurd kept
  sets d g ge same (s ∷ ss) (e ∷ es) kept are all =
      All-cons (Takes d g) s ss (set d g ge s e same kept.0 are.0 (All-head (IsTakenIn (guide_of rows) st01 text d ge.header) e es all))
      (sets d g ge same ss es kept.1 are.1 (All-tail (IsTakenIn (guide_of rows) st01 text d ge.header) e es all))

  groups : (d : Delims) (gs : List Group) (es : List then.GroupEntry) → AreGroupsKept gs es → AreGroupsIn text d gs es
      → All (TakesGroupIn (guide_of rows) st01 text d) es → All (TakesGroup (guide_of rows) st01 d) gs
  groups d [] es kept are all = All-nil (TakesGroup (guide_of rows) st01 d)
  groups d (g ∷ gs) [] kept are all = absurd kept
  groups d (g ∷ gs) (e ∷ es) kept are all =
      All-cons (TakesGroup (guide_of rows) st01 d) g gs
      (sets d g e kept.0.header g.sets e.sets kept.0.sets are.0 (All-head (TakesGroupIn (guide_of rows) st01 text d) e es all))
      (groups d gs es kept.1 are.1 (All-tail (TakesGroupIn (guide_of rows) st01 text d) e es all))

  interchange : FaultsAreOne → (x : Interchange) (e : then.IndexEntry) → IsKept x e.interchange → e.fault ≡ then.fault_of e.interchange
      → AreGroupsIn text x.delims x.content.groups e.interchange.content.groups → TakesEntry (guide_of rows) st01 text e
      → TakesInterchange (guide_of rows) st01 x
  interchange faults x e kept fault are takes clean =
      let none : e.fault ≡ None = fault ∙ sym (faults x e.interchange kept) ∙ sym (same_fault x x.content.iea refl) ∙ clean in
      groups x.delims x.content.groups e.interchange.content.groups kept.content.groups are
      (subst (λ (d : Delims). All (TakesGroupIn (guide_of rows) st01 text d) e.interchange.content.groups) (sym kept.delims) (takes none))

  interchanges : InterchangesAreKept → FaultsAreOne → (xs : List Interchange) (es : List then.IndexEntry) → AreSame text xs es
      → AreInterchangesIn text xs es → All (then.IsEntryOf text) es → All (TakesEntry (guide_of rows) st01 text) es
      → All (TakesInterchange (guide_of rows) st01) xs
  interchanges keeps faults [] es same are entries all = All-nil (TakesInterchange (guide_of rows) st01)
  interchanges keeps faults (x ∷ xs) [] same are entries all = absurd same
  interchanges keeps faults (x ∷ xs) (e ∷ es) same are entries all =
      All-cons (TakesInterchange (guide_of rows) st01) x xs
      (interchange faults x e (keeps text x e.interchange same.0) (All-head (then.IsEntryOf text) e es entries).fault are.0
      (All-head (TakesEntry (guide_of rows) st01 text) e es all))
      (interchanges keeps faults xs es same.1 are.1 (All-tail (then.IsEntryOf text) e es entries)
      (All-tail (TakesEntry (guide_of rows) st01 text) e es all))

  -- a guide takes a text if it takes the sets of its index
  pub text_taken : TextsAreIndexes → InterchangesAreKept → FaultsAreOne → SetsAreParts → (index : then.IndexValue) → then.IsIndex text index
      → All (TakesEntry (guide_of rows) st01 text) index.entries → TakesText (guide_of rows) st01 text
  text_taken texts keeps faults parts index is all =
      interchanges keeps faults (text_of text).interchanges index.entries (texts text index is).0 (parts text index is) is.entries all
