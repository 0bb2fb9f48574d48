-- What a walk by marks has read of a part.
use Rattle.std.proofs.Common.{◌≡◌, ℕ, ◌+◌, ◌-◌, ◌<◌, ◌≤◌, Bool, false, List, [], ◌∷◌, ◌++◌, length, drop}
use Rattle.std.proofs.Common.{slice_range, sym, ap, subst, ◌∙◌, arith}
use Rattle.std.proofs.Math.ListN.{set}
use Rattle.std.proofs.Math.Seq.{take-suc-set}
use Rattle.std.proofs.Common.{take, add-one}
use Rattle.std.specs.Prelude.{IsTrue}
use Rattle.std.specs.List.{list_any}
use Rattle.memchr.specs.Find.{Nowhere, NoneBefore, Passes, is_byte, places, places_from}
use Rattle.memchr.proofs.lemmas.FindLemmas.{Nowhere-then}
use Rattle.x12_bytes.specs.declared.delims.Delims.{Delims}
use Rattle.marked_segments.specs.Marks.{is_odd}
use Rattle.marked_segments.proofs.PlaceLemmas.{places_from-further, places_from-one, places_from-zero}
use Rattle.marked_segments.proofs.PlaceLemmas.{Nowhere-behind, behind-Passes, places-part, list_any-part}

-- over the next byte that passes
pub place_found : (test : ℕ → Bool) (text : List ℕ) (from at end place : ℕ) → from ≤ at
    → NoneBefore (Passes test text) at end place → Passes test text place
    → places_from test (drop from text) 0 (place + 1 - from) ≡ places_from test (drop from text) 0 (at - from) ++ (place - from) ∷ []
place_found test text from at end place low first passes =
    let on : at ≤ place = first.low in
    let inside : from + (place - from) ≡ place = omega arith in
    let count : place + 1 - from ≡ place - from + 1 = omega arith in
    ap (places_from test (drop from text) 0) count
    ∙ places_from-one test (drop from text) (place - from)
    (behind-Passes test text from (place - from) (subst (λ k. Passes test text k) (sym inside) passes))
    ∙ ap (λ (l : List ℕ). l ++ (place - from) ∷ [])
    (places_from-further test (drop from text) (at - from) (place - from) (omega arith)
    (Nowhere-behind test text from at place low first.before))

-- over bytes of which none passes
pub places_passed : (test : ℕ → Bool) (text : List ℕ) (from at end : ℕ) → from ≤ at → at ≤ end → Nowhere (Passes test text) at end
    → places_from test (drop from text) 0 (end - from) ≡ places_from test (drop from text) 0 (at - from)
places_passed test text from at end low on none =
    places_from-further test (drop from text) (at - from) (end - from) (omega arith) (Nowhere-behind test text from at end low none)

-- the place is written after the others
pub place_kept : (test : ℕ → Bool) (text : List ℕ) (from at end place count : ℕ) (items : List ℕ) → from ≤ at
    → NoneBefore (Passes test text) at end place → Passes test text place → count < length items
    → take count items ≡ places_from test (drop from text) 0 (at - from)
    → take (count + 1) (set items count (place - from)) ≡ places_from test (drop from text) 0 (place + 1 - from)
place_kept test text from at end place count items low first passes room are =
    ap (λ n. take n (set items count (place - from))) (add-one count) ∙ take-suc-set items count (place - from) room
    ∙ ap (λ (l : List ℕ). l ++ (place - from) ∷ []) are ∙ sym (place_found test text from at end place low first passes)

module _ (d : Delims) (text : List ℕ) where
  -- what was read from an offset up to another, in which no terminator stands
  pub record IsReadTo (from at : ℕ) (separators : List ℕ) (is_plain : Bool) : Type 0 where
    pub behind : from ≤ at
    pub unended : Nowhere (Passes (is_byte d.terminator) text) from at
    pub separators_are : IsTrue is_plain → separators ≡ places_from (is_byte d.element) (drop from text) 0 (at - from)
    pub none_odd : IsTrue is_plain → Nowhere (Passes (is_odd d) text) from at

  -- up to the terminator
  pub record IsEnded (from end : ℕ) (separators : List ℕ) (is_plain : Bool) : Type 0 where
    pub first : NoneBefore (Passes (is_byte d.terminator) text) from (length text) end
    pub passes : Passes (is_byte d.terminator) text end
    pub separators_are : IsTrue is_plain → separators ≡ places (is_byte d.element) (slice_range text from end)
    pub none_odd : IsTrue is_plain → list_any (is_odd d) (slice_range text from end) ≡ false

  pub read_end : (from end : ℕ) (separators : List ℕ) (is_plain : Bool) → IsReadTo from end separators is_plain → end < length text
      → Passes (is_byte d.terminator) text end → IsEnded from end separators is_plain
  read_end from end separators is_plain r high here =
      let behind : from ≤ end = r.behind in
      record {
        first = record { low = behind; high = high; before = r.unended };
        passes = here;
        separators_are = λ plain. r.separators_are plain ∙ places-part (is_byte d.element) text from end behind (omega arith);
        none_odd = λ plain. list_any-part (is_odd d) text from end behind (omega arith) (r.none_odd plain);
      }

  -- over the front of a block
  pub read_front : (from at end : ℕ) (separators now : List ℕ) (is_plain still : Bool) → IsReadTo from at separators is_plain → at ≤ end
      → Nowhere (Passes (is_byte d.terminator) text) at end → (IsTrue still → IsTrue is_plain)
      → (IsTrue still → Nowhere (Passes (is_odd d) text) at end)
      → (IsTrue still → now ≡ places_from (is_byte d.element) (drop from text) 0 (end - from)) → IsReadTo from end now still
  read_front from at end separators now is_plain still r on unended was even are =
      let behind : from ≤ at = r.behind in
      record {
        behind = omega arith;
        unended = Nowhere-then r.unended unended;
        separators_are = are;
        none_odd = λ plain. Nowhere-then (r.none_odd (was plain)) (even plain);
      }

  -- nothing yet
  pub read_nothing : (from : ℕ) (is_plain : Bool) → IsReadTo from from [] is_plain
  read_nothing from is_plain = record {
    behind = omega arith;
    unended = λ k low high p. absurd (omega arith);
    separators_are =
        let none : from - from ≡ 0 = omega arith in
        λ plain. sym (ap (places_from (is_byte d.element) (drop from text) 0) none
        ∙ places_from-zero (is_byte d.element) (drop from text) 0);
    none_odd = λ plain k low high p. absurd (omega arith);
  }
