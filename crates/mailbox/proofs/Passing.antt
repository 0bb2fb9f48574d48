-- A text in which no delimiter of the receiver stands, but those of the source.
use Rattle.std.proofs.Common.{◌≡◌, ℕ, suc, ◌<◌, ◌∙◌, List, [], ◌∷◌, Bool, true, false, ◌||◌, ◌&&◌}
use Rattle.std.proofs.Common.{length, get_or, refl, ap, sym, inl, inr, arith}
use Rattle.std.specs.Prelude.{◌==◌, not, Option, Some, None, is_some}
use Rattle.std.specs.Bool.{OnTrue}
use Rattle.std.specs.List.{list_any}
use Rattle.std.proofs.Math.Bool.{and-false}
use Rattle.std.proofs.lemmas.Bool.{eq-eqb, eqb-true, false_from_ne_true}
use Rattle.std.proofs.lemmas.Bool.Decides.{eqb_tells}
use Rattle.memchr.specs.Find.{IsFirstByte, is_byte}
use Rattle.x12_bytes.specs.declared.delims.Delims.{Delims}
use Rattle.x12_write.specs.Delimiters.{is_delimiter, is_this}
use Rattle.mailbox.specs.Blocking.{is_foreign, is_foreign_if}
use Rattle.mailbox.specs.Deliveries.{collides, has_collision}
use Rattle.answered_sets.proofs.ForAbove.{neither, nor}

clear : (own e c t r : Bool) → (not own && e) ≡ false → (not own && c) ≡ false → (not own && t) ≡ false → (not own && r) ≡ false
    → (not own && (e || c || t || r)) ≡ false
clear true e c t r he hc ht hr = refl
clear false e c t r he hc ht hr = nor (e || c || t) r (nor (e || c) t (nor e c he hc) ht) hr

pub all_clear : (from to : Delims) (text : List ℕ) → list_any (is_foreign from to.element) text ≡ false
    → list_any (is_foreign from to.component) text ≡ false → list_any (is_foreign from to.terminator) text ≡ false
    → list_any (is_foreign_if from to.repetition) text ≡ false → has_collision from to text ≡ false
all_clear from to [] he hc ht hr = refl
all_clear from to (b ∷ text) he hc ht hr =
    let e = neither (is_foreign from to.element b) (list_any (is_foreign from to.element) text) he in
    let c = neither (is_foreign from to.component b) (list_any (is_foreign from to.component) text) hc in
    let t = neither (is_foreign from to.terminator b) (list_any (is_foreign from to.terminator) text) ht in
    let r = neither (is_foreign_if from to.repetition b) (list_any (is_foreign_if from to.repetition) text) hr in
    nor (collides from to b) (list_any (collides from to) text)
    (clear (is_delimiter from b) (b == to.element) (b == to.component) (b == to.terminator) (is_this to.repetition b) e.0 c.0 t.0 r.0)
    (all_clear from to text e.1 c.1 t.1 r.1)

-- a delimiter of the source is never foreign there
own_byte : (from : Delims) (byte b : ℕ) → is_delimiter from byte ≡ true → is_foreign from byte b ≡ false
own_byte from byte b h = elim (eqb_tells b byte) [
  | inl (e, same) ↦ ap (λ (d : Bool). not d && b == byte) (ap (is_delimiter from) same ∙ h)
  | inr (e, other) ↦ ap (λ (v : Bool). not (is_delimiter from b) && v) e ∙ and-false (not (is_delimiter from b))
]

pub own_passed : (from : Delims) (byte : ℕ) (text : List ℕ) → is_delimiter from byte ≡ true → list_any (is_foreign from byte) text ≡ false
own_passed from byte [] h = refl
own_passed from byte (b ∷ text) h =
    nor (is_foreign from byte b) (list_any (is_foreign from byte) text) (own_byte from byte b h) (own_passed from byte text h)

-- a byte that doesn't stand in a text
absent : (from : Delims) (byte : ℕ) (text : List ℕ) → ((j : ℕ) → j < length text → is_byte byte (get_or text j 0) ≡ true → ⊥)
    → list_any (is_foreign from byte) text ≡ false
absent from byte [] h = refl
absent from byte (b ∷ text) h =
    nor (is_foreign from byte b) (list_any (is_foreign from byte) text)
    (ap (λ (v : Bool). not (is_delimiter from b) && v) (false_from_ne_true (b == byte) (h 0 (omega arith)))
    ∙ and-false (not (is_delimiter from b)))
    (absent from byte text (λ j lt. h (suc j) (omega arith)))

pub absent_passed : (from : Delims) (byte : ℕ) (text : List ℕ) (found : Option ℕ) (b : Bool) → is_some found ≡ not b
    → IsFirstByte (is_byte byte) text found → OnTrue b (list_any (is_foreign from byte) text ≡ false)
absent_passed from byte text found false none h = tt
absent_passed from byte text (Some k) true none h = cc
absent_passed from byte text None true none h = absent from byte text (λ j lt. h j (omega arith) lt)

-- the same of a byte that is there
same_sides : (a b : ℕ) → (a == b) ≡ (b == a)
same_sides a b = elim (eqb_tells a b) [
  | inl (e, same) ↦ e ∙ sym (eq-eqb b a (sym same))
  | inr (e, other) ↦ e ∙ sym (false_from_ne_true (b == a) (λ h. other (sym (eqb-true b a h))))
]

pub passed_if : (from : Delims) (byte : ℕ) (text : List ℕ) → list_any (is_foreign from byte) text ≡ false
    → list_any (is_foreign_if from (Some byte)) text ≡ false
passed_if from byte [] h = refl
passed_if from byte (b ∷ text) h =
    let e = neither (is_foreign from byte b) (list_any (is_foreign from byte) text) h in
    nor (is_foreign_if from (Some byte) b) (list_any (is_foreign_if from (Some byte)) text)
    (ap (λ (v : Bool). not (is_delimiter from b) && v) (same_sides byte b) ∙ e.0) (passed_if from byte text e.1)

pub none_if : (from : Delims) (text : List ℕ) → list_any (is_foreign_if from None) text ≡ false
none_if from [] = refl
none_if from (b ∷ text) =
    nor (is_foreign_if from None b) (list_any (is_foreign_if from None) text) (and-false (not (is_delimiter from b))) (none_if from text)
