-- A text whose index has one interchange, one group and one set has just this set.
use Rattle.std.proofs.Common.{◌≡◌, ℕ, List, [], ◌∷◌, Some, length, get_or, refl, sym, ap, subst, arith}
use Rattle.std.specs.Prelude.{slice_get}
use Rattle.std.specs.List.{All}
use Rattle.std.proofs.lemmas.List.Elements.{All-head}
use Rattle.std.proofs.lemmas.Option.{same_Some}
use Rattle.x12_bytes.specs.Header.{header_delims}
use Rattle.x12_bytes.specs.declared.delims.Delims.{Delims}
use Rattle.x12_segs.specs.Words.{IsSetSpan}
use Rattle.env_index.specs.Words as then
use Rattle.env_index.specs.declared.entry.SetEnvelope.{SetEnvelope}
use Rattle.set_check.specs.SetParts.{set_parts}
use Rattle.night_definition.specs.Envelopes.{Set, Group}
use Rattle.night_definition.specs.Interchanges.{Interchange, text_of}
use Rattle.night_equal_text.specs.Laws.{InterchangesAreKept, SetsAreParts, TextsAreIndexes}
use Rattle.night_equal_text.specs.Seen.{AreSame, IsSame}
use Rattle.night_equal_text.specs.Spanned.{AreGroupsIn, AreInterchangesIn, AreSetsIn, IsSetOf}
use Rattle.guide_samples.specs.Alone.{IsOnlySpan}

pub only_item : {A : Type 0} (xs : List A) (x : A) → length xs ≡ 1 → slice_get xs 0 ≡ Some x → xs ≡ x ∷ []
only_item [] x one there = absurd (omega (arith, one))
only_item (y ∷ []) x one there = ap (λ z. z ∷ []) (same_Some y x there)
only_item (y ∷ z ∷ zs) x one there = absurd (omega (arith, one))

pub first_alone : {A : Type 0} (xs : List A) (x : A) → length xs ≡ 1 → x ≡ get_or xs 0 x → xs ≡ x ∷ []
first_alone [] x one is = absurd (omega (arith, one))
first_alone (y ∷ []) x one is = ap (λ z. z ∷ []) (sym is)
first_alone (y ∷ z ∷ zs) x one is = absurd (omega (arith, one))

-- the one interchange of a text
record OneInterchange (text : List ℕ) (xs : List Interchange) (e : then.IndexEntry) : Type 0 where
  pub interchange : Interchange
  pub is : xs ≡ interchange ∷ []
  pub same : IsSame text interchange e.interchange
  pub groups : AreGroupsIn text interchange.delims interchange.content.groups e.interchange.content.groups

one_interchange : (text : List ℕ) (xs : List Interchange) (e : then.IndexEntry) → AreSame text xs (e ∷ [])
    → AreInterchangesIn text xs (e ∷ []) → OneInterchange text xs e
one_interchange text [] e same parts = absurd same
one_interchange text (x ∷ []) e same parts = record { interchange = x; is = refl; same = same.0; groups = parts.0 }
one_interchange text (x ∷ y ∷ ys) e same parts = absurd same.1

record OneGroup (text : List ℕ) (d : Delims) (xs : List Group) (e : then.GroupEntry) : Type 0 where
  pub group : Group
  pub is : xs ≡ group ∷ []
  pub sets : AreSetsIn text d group.sets e.sets

one_group : (text : List ℕ) (d : Delims) (xs : List Group) (e : then.GroupEntry) → AreGroupsIn text d xs (e ∷ []) → OneGroup text d xs e
one_group text d [] e parts = absurd parts
one_group text d (x ∷ []) e parts = record { group = x; is = refl; sets = parts.0 }
one_group text d (x ∷ y ∷ ys) e parts = absurd parts.1

record OneSet (text : List ℕ) (d : Delims) (xs : List Set) (e : SetEnvelope) : Type 0 where
  pub set : Set
  pub is : xs ≡ set ∷ []
  pub same : IsSetOf set (set_parts text (then.span_of d e))

one_set : (text : List ℕ) (d : Delims) (xs : List Set) (e : SetEnvelope) → AreSetsIn text d xs (e ∷ []) → OneSet text d xs e
one_set text d [] e parts = absurd parts
one_set text d (x ∷ []) e parts = record { set = x; is = refl; same = parts.0 }
one_set text d (x ∷ y ∷ ys) e parts = absurd parts.1

abbrev IsSpanOf : List ℕ → Delims → SetEnvelope → Type 0
IsSpanOf text d set = IsSetSpan text (then.span_of d set)

abbrev HasSpansIn : List ℕ → Delims → then.GroupEntry → Type 0
HasSpansIn text d group = All (IsSpanOf text d) group.sets

pub only_span : TextsAreIndexes → InterchangesAreKept → SetsAreParts → (text : List ℕ) (index : then.IndexValue)
    → then.IsIndex text index → (e : then.IndexEntry) → index.entries ≡ e ∷ [] → (g : then.GroupEntry)
    → e.interchange.content.groups ≡ g ∷ [] → (s : SetEnvelope) → g.sets ≡ s ∷ []
    → IsOnlySpan text (then.span_of (header_delims e.interchange.header) s)
only_span texts kept sets text index is e one g groups s of_group =
    let found : OneInterchange text (text_of text).interchanges e =
    one_interchange text (text_of text).interchanges e
    (subst (λ es. AreSame text (text_of text).interchanges es) one (texts text index is).0)
    (subst (λ es. AreInterchangesIn text (text_of text).interchanges es) one (sets text index is)) in
    let d : Delims = found.interchange.delims in
    let inner : OneGroup text d found.interchange.content.groups g =
    one_group text d found.interchange.content.groups g
    (subst (λ gs. AreGroupsIn text d found.interchange.content.groups gs) groups found.groups) in
    let last : OneSet text d inner.group.sets s =
    one_set text d inner.group.sets s (subst (λ ss. AreSetsIn text d inner.group.sets ss) of_group inner.sets) in
    let same_delims : d ≡ header_delims e.interchange.header = (kept text found.interchange e.interchange found.same).delims in
    let entry : then.IsEntryOf text e = All-head (then.IsEntryOf text) e [] (subst (λ es. All (then.IsEntryOf text) es) one is.entries) in
    let of_sets : All (IsSpanOf text (header_delims e.interchange.header)) g.sets =
    All-head (HasSpansIn text (header_delims e.interchange.header)) g []
    (subst (λ gs. All (HasSpansIn text (header_delims e.interchange.header)) gs) groups entry.read.spans) in
    record {
      span_of_set = All-head (IsSpanOf text (header_delims e.interchange.header)) s []
          (subst (λ ss. All (IsSpanOf text (header_delims e.interchange.header)) ss) of_group of_sets);
      set = last.set;
      only = record {
        interchange = found.interchange;
        group = inner.group;
        interchanges = found.is;
        delims = same_delims;
        groups = inner.is;
        sets = last.is;
      };
      same = subst (λ m. IsSetOf last.set (set_parts text (then.span_of m s))) same_delims last.same;
    }
