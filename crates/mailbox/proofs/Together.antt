-- Segments whose bytes are changed at once are those that are changed one by one.
use Rattle.std.proofs.Common.{◌≡◌, ◌==◌, ℕ, Bool, true, false, cond, List, [], ◌∷◌, ◌++◌, Option, Some, None, take, drop, length, map}
use Rattle.std.proofs.Common.{refl, sym, ap, ◌∙◌, eqb-true}
use Rattle.std.specs.Prelude.{unwrap_or}
use Rattle.std.specs.List.{flat_map}
use Rattle.std.proofs.Math.Seq.{drop-append_seam, take-append_seam}
use Rattle.std.proofs.lemmas.List.{map-append}
use Rattle.x12_bytes.specs.declared.delims.Delims.{Delims}
use Rattle.x12_segs.specs.Words.{SegValue}
use Rattle.x12_write.specs.Delimiters.{is_this}
use Rattle.mailbox.specs.Mailbox.{inner_text, mapped, mapped_byte}
use Rattle.mailbox.specs.Read.{text_as_read}

pub changed_together : (from to : Delims) → mapped_byte from to from.terminator ≡ to.terminator → (segs : List SegValue)
    → mapped from to (flat_map (text_as_read from) segs) ≡ flat_map (inner_text from to) segs
changed_together from to e [] = refl
changed_together from to e (s ∷ segs) =
    let f = mapped_byte from to in
    let later = flat_map (text_as_read from) segs in
    map-append f (s.bytes ++ from.terminator ∷ []) later
    ∙ ap (λ (xs : List ℕ). xs ++ map f later)
    (map-append f s.bytes (from.terminator ∷ []) ∙ ap (λ (b : ℕ). map f s.bytes ++ b ∷ []) e)
    ∙ ap (λ (ys : List ℕ). (map f s.bytes ++ to.terminator ∷ []) ++ ys) (changed_together from to e segs)

-- between the same delimiters no byte changes
chosen : (c : Bool) (x y b : ℕ) → (c ≡ true → x ≡ b) → y ≡ b → cond c x y ≡ b
chosen true x y b h e = h refl
chosen false x y b h e = e

same_repetition : (o : Option ℕ) (b : ℕ) → is_this o b ≡ true → unwrap_or o b ≡ b
same_repetition None b h = refl
same_repetition (Some r) b h = eqb-true r b h

same_byte : (d : Delims) (b : ℕ) → mapped_byte d d b ≡ b
same_byte d b =
    chosen (b == d.element) d.element _ b (λ h. sym (eqb-true b d.element h))
    (chosen (b == d.component) d.component _ b (λ h. sym (eqb-true b d.component h))
    (chosen (b == d.terminator) d.terminator _ b (λ h. sym (eqb-true b d.terminator h))
    (chosen (is_this d.repetition b) (unwrap_or d.repetition b) b b (same_repetition d.repetition b) refl)))

same_bytes : (d : Delims) (bytes : List ℕ) → mapped d d bytes ≡ bytes
same_bytes d [] = refl
same_bytes d (b ∷ bytes) =
    ap (λ (x : ℕ). x ∷ mapped d d bytes) (same_byte d b) ∙ ap (λ (xs : List ℕ). b ∷ xs) (same_bytes d bytes)

pub unchanged : (d : Delims) (segs : List SegValue) → flat_map (text_as_read d) segs ≡ flat_map (inner_text d d) segs
unchanged d segs =
    sym (same_bytes d (flat_map (text_as_read d) segs)) ∙ changed_together d d (same_byte d d.terminator) segs

-- what stands after a place
pub changed_behind : (f : List ℕ → List ℕ) (old mid new read written : List ℕ) (start : ℕ) → start ≡ length old → mid ≡ old ++ read
    → new ≡ take start mid ++ f (drop start mid) → f read ≡ written → new ≡ old ++ written
changed_behind f old mid new read written start es em en e =
    en ∙ ap (λ (n : ℕ). take n mid ++ f (drop n mid)) es
    ∙ ap (λ (m : List ℕ). take (length old) m ++ f (drop (length old) m)) em
    ∙ ap (λ (t : List ℕ). t ++ f (drop (length old) (old ++ read))) (take-append_seam old read)
    ∙ ap (λ (t : List ℕ). old ++ f t) (drop-append_seam old read)
    ∙ ap (λ (t : List ℕ). old ++ t) e
