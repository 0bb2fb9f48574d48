-- The front of a file: it goes in where a header begins there, and is set aside where none does.
use Rattle.std.proofs.Common.{◌≡◌, ◌∙◌, ℕ, ◌+◌, ◌<◌, ◌≤◌, ◌⊎◌, List, [], ◌++◌, true, false, inl, inr, Option, Some, None, IfSome}
use Rattle.std.proofs.Common.{length, refl, sym, ap, arith}
use Rattle.std.specs.Io.KnownBytes.{Appends}
use Rattle.std.proofs.lemmas.List.{append-nil, length-append, take-append-le, take_at}
use Rattle.x12_bytes.specs.Header.{header_at, terminator_of}
use Rattle.x12_bytes.specs.HeaderTest.{is_head}
use Rattle.whole_interchanges.proofs.ForAbove.{head_kept}
use Rattle.night_equal.proofs.ForAbove.{heads}
use Rattle.stream_read.specs.Held.{HeldValue}
use Rattle.gather_files.specs.Causes.{cause_by, cause_of}
use Rattle.gather_files.specs.Gathering.{IsBegun, IsPassed, IsSetAside}
use Rattle.gather_files.specs.Lead.{led}
use Rattle.gather_files.specs.declared.gather.Passing.{Passing}
use Rattle.gather_files.proofs.Leading.{led_kept}

-- nothing is passed on yet
abbrev nothing_passed : (terminator : ℕ) → Passing
nothing_passed terminator =
    record { terminator = terminator; scout = record { at = 0; inside = None }; interchanges = 0; written = 0; seen = 0; ends = 0 }

nothing_written : (a : Option (List ℕ)) → Appends a a []
nothing_written None = tt
nothing_written (Some xs) = sym (append-nil xs)

pub begun_passed : (first now was : Option (List ℕ)) (held : HeldValue) (t : ℕ) → IsBegun first now held → is_head held.bytes 0 ≡ true
    → t ≡ terminator_of (header_at held.bytes 0) → IsPassed first now was was held (nothing_passed t)
begun_passed first now was held t begun head named = record {
  file = begun.is_led.file;
  consumed = begun.is_led.consumed;
  total = begun.is_led.total;
  front = [];
  led_is = sym begun.is_led.led_is;
  begins = ap (λ (l : List ℕ). is_head l 0) (sym begun.is_led.led_is) ∙ head;
  written = nothing_written was;
  size = refl;
  few_written = omega arith;
  seen = omega arith;
  few = omega arith;
  ends = refl;
  terminator = named ∙ ap (λ (l : List ℕ). terminator_of (header_at l 0)) begun.is_led.led_is;
  whole = λ more. ([], (omega arith, λ q low lt. absurd (omega (arith, low, lt))), refl);
  start = refl;
  stands = omega arith;
}

-- what is reported of the whole file follows from what is held of it
no_header_told : (first now : Option (List ℕ)) (held : HeldValue) → IsBegun first now held → is_head held.bytes 0 ≡ false
    → IfSome first (λ xs. is_head (led xs) 0 ≡ false)
no_header_told None now held begun none = tt
no_header_told (Some xs) None held begun none = absurd begun.is_led.consumed
no_header_told (Some xs) (Some ys) held begun none = by_rest begun.enough
  where
    file : List ℕ
    file = begun.is_led.file

    here : is_head (led file) 0 ≡ false
    here = ap (λ (l : List ℕ). is_head l 0) (sym begun.is_led.led_is) ∙ none

    by_rest : (106 ≤ length held.bytes) ⊎ (ys ≡ []) → is_head (led xs) 0 ≡ false
    by_rest (inl le) =
        let size : length held.bytes ≡ length (led file) = ap (λ (l : List ℕ). length l) begun.is_led.led_is in
        let c : ℕ = length (led file) in
        ap (λ (l : List ℕ). is_head (led l) 0) begun.is_led.consumed
        ∙ ap (λ (l : List ℕ). is_head l 0) (led_kept file ys (omega (arith, le, size)))
        ∙ sym (head_kept (led file ++ ys) c (omega (arith, length-append (led file) ys)) 0 (omega (arith, le, size)))
        ∙ ap (λ (l : List ℕ). is_head l 0) (take_at (led file) ys c refl) ∙ here
    by_rest (inr e) =
        ap (λ (l : List ℕ). is_head (led l) 0) (begun.is_led.consumed ∙ ap (λ (l : List ℕ). file ++ l) e ∙ append-nil file) ∙ here

cause_told : (first now : Option (List ℕ)) (held : HeldValue) → IsBegun first now held
    → IfSome first (λ xs. cause_of held.bytes ≡ cause_of (led xs))
cause_told None now held begun = tt
cause_told (Some xs) None held begun = absurd begun.is_led.consumed
cause_told (Some xs) (Some ys) held begun = by_rest begun.enough
  where
    file : List ℕ
    file = begun.is_led.file

    here : cause_of held.bytes ≡ cause_of (led file)
    here = ap cause_of begun.is_led.led_is

    by_rest : (106 ≤ length held.bytes) ⊎ (ys ≡ []) → cause_of held.bytes ≡ cause_of (led xs)
    by_rest (inl le) =
        let size : length held.bytes ≡ length (led file) = ap (λ (l : List ℕ). length l) begun.is_led.led_is in
        here ∙ ap cause_by (sym (take-append-le 106 (led file) ys (omega (arith, le, size))))
        ∙ ap cause_of (sym (led_kept file ys (omega (arith, le, size))))
        ∙ ap (λ (l : List ℕ). cause_of (led l)) (sym begun.is_led.consumed)
    by_rest (inr e) =
        here ∙ ap (λ (l : List ℕ). cause_of (led l))
        (sym (begun.is_led.consumed ∙ ap (λ (l : List ℕ). file ++ l) e ∙ append-nil file))

pub set_aside : (first now was : Option (List ℕ)) (held : HeldValue) → IsBegun first now held → is_head held.bytes 0 ≡ false
    → IsSetAside first was was (cause_of held.bytes)
set_aside None now was held begun none = record {
  file = begun.is_led.file;
  told_all = tt;
  no_header = heads (led begun.is_led.file) 0 ∙ ap (λ (l : List ℕ). is_head l 0) (sym begun.is_led.led_is) ∙ none;
  named = ap cause_of begun.is_led.led_is;
  nothing = refl;
}
set_aside (Some xs) now was held begun none = record {
  file = xs;
  told_all = refl;
  no_header = heads (led xs) 0 ∙ no_header_told (Some xs) now held begun none;
  named = cause_told (Some xs) now held begun;
  nothing = refl;
}

-- more is declared than there is room for
pub passed_too_long : (first now was is : Option (List ℕ)) (held : HeldValue) (p : Passing) (most : ℕ)
    → IsPassed first now was is held p → IfSome now (λ xs. most < held.total + length xs) → IfSome first (λ xs. most < length xs)
passed_too_long None now was is held p most passed long = tt
passed_too_long (Some xs) None was is held p most passed long = absurd passed.consumed
passed_too_long (Some xs) (Some ys) was is held p most passed long =
    let all : length xs ≡ length passed.file + length ys =
    ap (λ (l : List ℕ). length l) passed.consumed ∙ length-append passed.file ys in
    omega (arith, all, passed.total, long)
