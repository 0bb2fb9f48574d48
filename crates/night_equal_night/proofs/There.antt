-- What is known of the sets of an index from the text: where they stand, how they begin, and which bytes divide nothing in them.
use Rattle.std.proofs.Common.{◌≡◌, ℕ, ◌-◌, ◌==◌, ◌||◌, ◌&&◌, List, ◌∷◌, map, length, drop, take, get_or, Bool, true, false}
use Rattle.std.proofs.Common.{Some, None, refl, sym, ap, ◌∙◌, subst, arith, eqb-true}
use Rattle.std.specs.Prelude.{if◌then◌else◌, is_some, codes, bytes_eq, slice_index}
use Rattle.std.proofs.lemmas.Bool.{false≢true, false_from_ne_true}
use Rattle.std.proofs.lemmas.Slice.Eq.{bytes_eq-Decides}
use Rattle.x12_bytes.specs.Bytes.{may_separate, may_terminate}
use Rattle.x12_bytes.specs.Header.{IsHeader, header_at, header_delims, component_separator_of, element_separator_of, repetition_of}
use Rattle.x12_bytes.specs.Header.{terminator_of}
use Rattle.x12_bytes.specs.HeaderTest.{is_head}
use Rattle.x12_bytes.specs.declared.delims.Delims.{Delims}
use Rattle.x12_bytes.proofs.ForAbove.{decides_head}
use Rattle.x12_segs.specs.Words.{SegValue, id_of, elements_of, span_views}
use Rattle.x12_segs.specs.Kinds.{kind_by_id, kind_of}
use Rattle.x12_segs.specs.declared.kind.Kind.{Kind}
use Rattle.x12_segs.specs.declared.kind.Kind.TheVariants as kind
use Rattle.x12_write.specs.Delimiters.{is_delimiter, is_this}
use Rattle.env_index.specs.Words.{span_of, Set}
use Rattle.env_index.specs.declared.entry.SetEnvelope.{SetEnvelope}
use Rattle.set_check.specs.SetParts.{set_parts, inner_of}
use Rattle.night_law.proofs.ForAbove.{IsThere}

-- a byte that may not divide is none of the delimiters
module _ (h : List ℕ) (is : IsHeader h) (b : ℕ) (plain : may_separate b ≡ false) (inner : may_terminate b ≡ false) where
  separates : (c : ℕ) → may_separate c ≡ true → (b == c) ≡ false
  separates c may = false_from_ne_true (b == c) (λ same. false≢true (sym plain ∙ ap may_separate (eqb-true b c same) ∙ may))

  terminates : (c : ℕ) → may_terminate c ≡ true → (b == c) ≡ false
  terminates c may = false_from_ne_true (b == c) (λ same. false≢true (sym inner ∙ ap may_terminate (eqb-true b c same) ∙ may))

  repeats : (byte : ℕ) (other : Bool) → is_this (if may_separate byte && other then Some byte else None) b ≡ false
  repeats byte other = by (may_separate byte) other refl
    where
      by : (s o : Bool) → may_separate byte ≡ s → is_this (if s && o then Some byte else None) b ≡ false
      by false o e = refl
      by true false e = refl
      by true true e =
          false_from_ne_true (byte == b) (λ same. false≢true (sym plain ∙ ap may_separate (sym (eqb-true byte b same)) ∙ e))

  divides_nothing : is_delimiter (header_delims h) b ≡ false
  divides_nothing =
      ap (λ x. x || b == component_separator_of h || b == terminator_of h || is_this (repetition_of h) b)
      (separates (element_separator_of h) is.element_allowed)
      ∙ ap (λ x. x || b == terminator_of h || is_this (repetition_of h) b) (separates (component_separator_of h) is.component_allowed)
      ∙ ap (λ x. x || is_this (repetition_of h) b) (terminates (terminator_of h) is.terminator_allowed)
      ∙ repeats (slice_index h 82) _

-- S and T
pub record HasLetters (d : Delims) : Type 0 where
  pub s : is_delimiter d 83 ≡ false
  pub t : is_delimiter d 84 ≡ false

pub letters : (text : List ℕ) (start : ℕ) → is_head text start ≡ true → HasLetters (header_delims (header_at text start))
letters text start head =
    let is : IsHeader (header_at text start) = ((decides_head text start).0 head).1 in
    record {
      s = divides_nothing (header_at text start) is 83 refl refl;
      t = divides_nothing (header_at text start) is 84 refl refl;
    }

-- a segment of this kind is ST
st_only : (a b c d e f : Bool) → (if a then kind.InterchangeTrailer else if b then kind.GroupHeader else if c then kind.GroupTrailer
    else if d then kind.SetHeader else if e then kind.SetTrailer else if f then kind.Ta1 else kind.Other) ≡ kind.SetHeader → d ≡ true
st_only true b c d e f is = cc
st_only false true c d e f is = cc
st_only false false true d e f is = cc
st_only false false false true e f is = refl
st_only false false false false true f is = cc
st_only false false false false false true is = cc
st_only false false false false false false is = cc

st_id : (id : List ℕ) → kind_by_id id ≡ kind.SetHeader → id ≡ codes "ST"
st_id id is =
    (bytes_eq-Decides id (codes "ST")).0
    (st_only (bytes_eq id (codes "IEA")) (bytes_eq id (codes "GS")) (bytes_eq id (codes "GE")) (bytes_eq id (codes "ST"))
    (bytes_eq id (codes "SE")) (bytes_eq id (codes "TA1")) is)

first_kind : (k l : Kind) (ks ls : List Kind) → k ∷ ks ≡ l ∷ ls → k ≡ l
first_kind k l ks ls e = ap (λ (xs : List Kind). get_or xs 0 k) e

module _ (text : List ℕ) (d : Delims) (set : SetEnvelope) (there : IsThere text d set) where
  pub begins : id_of set.header ≡ codes "ST"
  unfolding kind_of
  begins =
      let tree : Set SegValue = there.tree in
      let kinds = sym (ap (map kind_of) there.alone.segs) ∙ there.alone.span.kinds in
      ap (λ (s : SetEnvelope). id_of s.header) there.is
      ∙ st_id (id_of tree.header) (first_kind (kind_of tree.header) kind.SetHeader _ _ kinds)

  long : length (span_views text (span_of d set)) ≡ set.segments
  long =
      subst (λ (s : SetEnvelope). length (span_views text (span_of d s)) ≡ s.segments) (sym there.is) (ap length there.alone.segs)

by_closed : (closed : Bool) (segs : List SegValue) (n : ℕ) → length segs ≡ n
    → inner_of closed segs ≡ take (if closed then n - 2 else n - 1) (drop 1 segs)
by_closed true segs n is =
    let same : length segs - 1 - 1 ≡ n - 2 = omega (arith, is) in ap (λ k. take k (drop 1 segs)) same
by_closed false segs n is =
    let same : length segs - 1 ≡ n - 1 = omega (arith, is) in ap (λ k. take k (drop 1 segs)) same

-- the body that is checked is what stands between ST and SE
pub body_is : (text : List ℕ) (d : Delims) (set : SetEnvelope) → IsThere text d set → (set_parts text (span_of d set)).body
    ≡ map elements_of (take (if is_some set.trailer then set.segments - 2 else set.segments - 1) (drop 1 (span_views text (span_of d set))))
body_is text d set there =
    ap (map elements_of) (by_closed (is_some set.trailer) (span_views text (span_of d set)) set.segments (long text d set there))
