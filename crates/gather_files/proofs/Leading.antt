-- A file without the blanks at its front, while more of it is read.
use Rattle.std.proofs.Common.{◌≡◌, ◌∙◌, ℕ, suc, ◌+◌, ◌<◌, List, [], ◌∷◌, ◌++◌, Bool, true, false, cond, Option, Some, None, IfSome}
use Rattle.std.proofs.Common.{length, drop, refl, sym, ap, subst, arith}
use Rattle.std.proofs.lemmas.List.{length-append}
use Rattle.std.specs.List.{prefix_len}
use Rattle.std.specs.Io.KnownBytes.{Consumes}
use Rattle.stream_read.specs.Held.{HasRead, HeldValue}
use Rattle.stream_read.proofs.ForAbove.{consumes_on}
use Rattle.gather_files.specs.Gathering.{IsLed}
use Rattle.gather_files.specs.Lead.{is_blank, led}

skips : (b : ℕ) (bs : List ℕ) → is_blank b ≡ true → led (b ∷ bs) ≡ led bs
skips b bs e =
    let n : ℕ = prefix_len is_blank bs in
    let count : 1 + n ≡ suc n = omega arith in
    ap (λ (t : Bool). drop (cond t (1 + n) 0) (b ∷ bs)) e ∙ ap (λ (k : ℕ). drop k (b ∷ bs)) count

stops : (b : ℕ) (bs : List ℕ) → is_blank b ≡ false → led (b ∷ bs) ≡ b ∷ bs
stops b bs e = ap (λ (t : Bool). drop (cond t (1 + prefix_len is_blank bs) 0) (b ∷ bs)) e

more_by : (b : ℕ) (bs more : List ℕ) (t : Bool) → is_blank b ≡ t → led (bs ++ more) ≡ led (led bs ++ more)
    → led (b ∷ (bs ++ more)) ≡ led (led (b ∷ bs) ++ more)
more_by b bs more true e rest = skips b (bs ++ more) e ∙ rest ∙ ap (λ (l : List ℕ). led (l ++ more)) (sym (skips b bs e))
more_by b bs more false e rest = ap (λ (l : List ℕ). led (l ++ more)) (sym (stops b bs e))

pub led_more : (file more : List ℕ) → led (file ++ more) ≡ led (led file ++ more)
led_more [] more = refl
led_more (b ∷ bs) more = more_by b bs more (is_blank b) refl (led_more bs more)

kept_by : (b : ℕ) (bs more : List ℕ) (t : Bool) → is_blank b ≡ t → 0 < length (led (b ∷ bs))
    → (0 < length (led bs) → led (bs ++ more) ≡ led bs ++ more) → led (b ∷ (bs ++ more)) ≡ led (b ∷ bs) ++ more
kept_by b bs more true e some rest =
    let here : 0 < length (led bs) = subst (λ (l : List ℕ). 0 < length l) (skips b bs e) some in
    skips b (bs ++ more) e ∙ rest here ∙ ap (λ (l : List ℕ). l ++ more) (sym (skips b bs e))
kept_by b bs more false e some rest = stops b (bs ++ more) e ∙ ap (λ (l : List ℕ). l ++ more) (sym (stops b bs e))

-- where something is held, all that follows is
pub led_kept : (file more : List ℕ) → 0 < length (led file) → led (file ++ more) ≡ led file ++ more
led_kept [] more some = absurd (omega (arith, some))
led_kept (b ∷ bs) more some = kept_by b bs more (is_blank b) refl some (led_kept bs more)

pub led_nothing : (first : Option (List ℕ)) → IsLed first first (record { bytes = []; total = 0 })
led_nothing first = record { file = []; consumed = nothing first; led_is = refl; total = refl }
  where
    nothing : (a : Option (List ℕ)) → Consumes a a []
    nothing None = tt
    nothing (Some xs) = refl

-- a window more is read
pub led_on : (first now later : Option (List ℕ)) (old read new : HeldValue) (n : ℕ) → HasRead now later old read n
    → new.bytes ≡ led read.bytes → new.total ≡ read.total → IsLed first now old → IsLed first later new
led_on first now later old read new n more bytes total is = record {
  file = is.file ++ more.more;
  consumed = consumes_on first now later is.file more.more is.consumed more.consumed;
  led_is = bytes ∙ ap led (more.bytes ∙ ap (λ (l : List ℕ). l ++ more.more) is.led_is) ∙ sym (led_more is.file more.more);
  total = (let t : new.total ≡ length (is.file ++ more.more) =
      omega (arith, total, more.total, is.total, more.count, length-append is.file more.more) in t);
}

-- more is declared than there is room for
pub led_too_long : (first now : Option (List ℕ)) (held : HeldValue) (most : ℕ) → IsLed first now held
    → IfSome now (λ xs. most < held.total + length xs) → IfSome first (λ xs. most < length xs)
led_too_long None now held most is long = tt
led_too_long (Some xs) None held most is long = absurd is.consumed
led_too_long (Some xs) (Some ys) held most is long =
    let all : length xs ≡ length is.file + length ys = ap (λ (l : List ℕ). length l) is.consumed ∙ length-append is.file ys in
    omega (arith, all, is.total, long)
