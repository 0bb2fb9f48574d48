-- A counters file is written in ASCII.
use Rattle.std.proofs.Common.{◌≡◌, ◌≤◌, ◌<◌, ℕ, Bool, true, List, [], ◌∷◌, ◌++◌, codes, arith, refl}
use Rattle.std.specs.Prelude.{All, decimal, nat_lt}
use Rattle.std.specs.Char.{is_ascii_alphanumeric}
use Rattle.std.specs.List.{list_all}
use Rattle.std.specs.Str.{IsAscii, IsUtf8}
use Rattle.std.proofs.lemmas.Bool.{and_parts}
use Rattle.std.proofs.lemmas.Bool.Decides.{nat_tests}
use Rattle.std.proofs.lemmas.Fmt.{IsAscii-decimal}
use Rattle.std.proofs.lemmas.List.Elements.{All-cons, All-nil}
use Rattle.std.proofs.lemmas.Str.{IsAscii-append, IsUtf8-from_ascii}
use Rattle.std.proofs.lemmas.Str.Ascii.{IsAscii-from_all, IsAscii-nil}
use Rattle.partner_setup.specs.CountersText.{counter_lines, name_lines, number_line}
use Rattle.partner_setup.specs.declared.rows.CounterRow.{CounterRow}
use Rattle.counters_law.proofs.Telling.{ArePlain, IsPlain, text_of}

abbrev is_low : ℕ → Bool
is_low b = nat_lt b 128

all_low : (s : List ℕ) → list_all is_low s ≡ true → All (λ b. b < 128) s
all_low [] h = All-nil (λ b. b < 128)
all_low (c ∷ s) h =
    let parts = and_parts (is_low c) (list_all is_low s) h in
    let low : c < 128 = grind (arith, nat_tests) in
    All-cons (λ b. b < 128) c s low (all_low s parts.1)

low : (s : List ℕ) → list_all is_low s ≡ true → IsAscii s
low s h = IsAscii-from_all s (all_low s h)

letters_low : (s : List ℕ) → list_all is_ascii_alphanumeric s ≡ true → list_all is_low s ≡ true
letters_low [] h = refl
letters_low (c ∷ s) h =
    let parts = and_parts (is_ascii_alphanumeric c) (list_all is_ascii_alphanumeric s) h in
    let one : is_low c ≡ true = grind (arith, nat_tests) in
    rw (one) (letters_low s parts.1)

number_ascii : (key : List ℕ) (n : ℕ) → list_all is_low key ≡ true → n ≤ 999999999 → IsAscii (number_line key n)
number_ascii key n k small =
    IsAscii-append key (codes " = " ++ (decimal n ++ 10 ∷ [])) (low key k)
    (IsAscii-append (codes " = ") (decimal n ++ 10 ∷ []) (low (codes " = ") refl)
    (IsAscii-append (decimal n) (10 ∷ []) (IsAscii-decimal n (omega arith)) (low (10 ∷ []) refl)))

name_ascii : (name : List ℕ) → list_all is_ascii_alphanumeric name ≡ true → IsAscii (name_lines name)
name_ascii name h =
    IsAscii-append (codes "\n[[counter]]\npartner = \"") (name ++ codes "\"\n") (low (codes "\n[[counter]]\npartner = \"") refl)
    (IsAscii-append name (codes "\"\n") (low name (letters_low name h)) (low (codes "\"\n") refl))

row_ascii : (r : CounterRow) → IsPlain r → IsAscii (counter_lines r.partner r.counters)
row_ascii r p =
    let c = r.counters in
    let i = number_line (codes "interchange") c.interchange in
    let g = number_line (codes "group") c.group in
    let s = number_line (codes "set") c.set in
    IsAscii-append (name_lines r.partner) (i ++ (g ++ s)) (name_ascii r.partner p.name)
    (IsAscii-append i (g ++ s) (number_ascii (codes "interchange") c.interchange refl p.counters.1)
    (IsAscii-append g s (number_ascii (codes "group") c.group refl p.counters.3) (number_ascii (codes "set") c.set refl p.counters.5)))

rows_ascii : (rs : List CounterRow) → ArePlain rs → IsAscii (text_of rs)
rows_ascii [] plain = IsAscii-nil
rows_ascii (r ∷ rs) plain = IsAscii-append (counter_lines r.partner r.counters) (text_of rs) (row_ascii r plain.0) (rows_ascii rs plain.1)

pub text_utf8 : (rs : List CounterRow) → ArePlain rs → IsUtf8 (codes "version = 2\n" ++ text_of rs)
text_utf8 rs plain =
    IsUtf8-from_ascii (codes "version = 2\n" ++ text_of rs)
    (IsAscii-append (codes "version = 2\n") (text_of rs) (low (codes "version = 2\n") refl) (rows_ascii rs plain))
