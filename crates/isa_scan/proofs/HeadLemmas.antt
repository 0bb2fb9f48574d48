-- The headers of a stretch, one offset more or many without a header.
use Rattle.std.proofs.Common.{◌≡◌, ℕ, ◌+◌, ◌-◌, ◌≤◌, ◌<◌, List, [], ◌∷◌, ◌++◌, length, filter, map, Bool, zero, suc, true, false, cond}
use Rattle.std.proofs.Common.{append-nil, arith, ap, sym, refl, subst, ◌∙◌, get_or, ◌&&◌, nat_eq, leb, take, drop, inl, inr}
use Rattle.std.specs.Prelude.{slice_range, codes}
use Rattle.std.specs.Str.{bytes_eq}
use Rattle.std.specs.Cmp.Lexicographic.{bytes_decides}
use Rattle.std.proofs.lemmas.Bool.{and_parts, false_from_ne_true, both_ways}
use Rattle.std.proofs.lemmas.Bool.Decides.{leb_tells}
use Rattle.std.proofs.lemmas.List.{get_or-drop, get_or-take}
use Rattle.memchr.specs.Find.{Nowhere, Passes, is_byte}
use Rattle.x12_bytes.specs.Header.{header_at}
use Rattle.std.specs.List.{range_with_len}
use Rattle.std.proofs.lemmas.List.{map-append}
use Rattle.x12_bytes.specs.HeaderTest.{is_head, is_header, has_delims, has_fields}
use Rattle.isa_scan.specs.declared.heads.HeadAt.{HeadAt}
use Rattle.isa_scan.specs.Heads.{starts_in, heads_in, head_at}

pub filter-append : (p : ℕ → Bool) (xs ys : List ℕ) → filter p (xs ++ ys) ≡ filter p xs ++ filter p ys
filter-append p [] ys = refl
filter-append p (x ∷ xs) ys
    = elim (p x) as (λ v. cond v (x ∷ filter p (xs ++ ys)) (filter p (xs ++ ys))
    ≡ cond v (x ∷ filter p xs) (filter p xs) ++ filter p ys) [
      | true ↦ ap (λ r. x ∷ r) (filter-append p xs ys)
      | false ↦ filter-append p xs ys
    ]

pub range-append : (a m n : ℕ) → range_with_len a (m + n) ≡ range_with_len a m ++ range_with_len (a + m) n
range-append a zero n = let e : zero + n ≡ n = omega arith in let f : a + zero ≡ a = omega arith in rw (e, f) refl
range-append a (suc m) n =
    let e : suc m + n ≡ suc (m + n) = omega arith in
    let f : a + 1 + m ≡ a + suc m = omega arith in
    rw e (ap (λ r. a ∷ r) (rw f at (range-append (a + 1) m n)))

pub no_heads : (text : List ℕ) (a : ℕ) → heads_in text a a ≡ []
no_heads text a = let e : a - a ≡ 0 = omega arith in rw e refl

-- a stretch in two
pub heads_both : (text : List ℕ) (a b c : ℕ) → a ≤ b → b ≤ c → heads_in text a c ≡ heads_in text a b ++ heads_in text b c
heads_both text a b c h k =
    let e : c - a ≡ (b - a) + (c - b) = omega arith in
    let f : a + (b - a) ≡ b = omega arith in
    ap (λ (starts : List ℕ). map (head_at text) starts)
    (ap (λ n. filter (is_head text) (range_with_len a n)) e
    ∙ ap (filter (is_head text)) (range-append a (b - a) (c - b))
    ∙ filter-append (is_head text) (range_with_len a (b - a)) (range_with_len (a + (b - a)) (c - b))
    ∙ ap (λ n. filter (is_head text) (range_with_len a (b - a)) ++ filter (is_head text) (range_with_len n (c - b))) f)
    ∙ map-append (head_at text) (starts_in text a b) (starts_in text b c)

-- where no header begins
none_among : (text : List ℕ) (n a : ℕ) → ((q : ℕ) → a ≤ q → q < a + n → is_head text q ≡ false)
    → filter (is_head text) (range_with_len a n) ≡ []
none_among text zero a none = refl
none_among text (suc n) a none =
    let here : is_head text a ≡ false = none a (omega arith) (omega arith) in
    let later : filter (is_head text) (range_with_len (a + 1) n) ≡ []
    = none_among text n (a + 1) (λ q low high. none q (omega (arith, low)) (omega (arith, high))) in
    ap (λ v. cond v (a ∷ filter (is_head text) (range_with_len (a + 1) n)) (filter (is_head text) (range_with_len (a + 1) n))) here ∙ later

pub heads_none : (text : List ℕ) (a b : ℕ) → a ≤ b → ((q : ℕ) → a ≤ q → q < b → is_head text q ≡ false) → heads_in text a b ≡ []
heads_none text a b h none =
    ap (λ (starts : List ℕ). map (head_at text) starts)
    (none_among text (b - a) a (λ q low high. none q low (let e : q < b = omega (arith, high, h) in e)))

-- one offset
pub head_one : (text : List ℕ) (a : ℕ) → is_head text a ≡ true → heads_in text a (a + 1) ≡ head_at text a ∷ []
head_one text a is =
    let e : a + 1 - a ≡ 1 = omega arith in
    ap (λ n. map (head_at text) (filter (is_head text) (range_with_len a n))) e
    ∙ ap (λ v. map (head_at text) (cond v (a ∷ []) [])) is

-- a header is bytes of the text, and begins with the letter I
pub head_within : (text : List ℕ) (q : ℕ) → is_head text q ≡ true → q + 106 ≤ length text
head_within text q is = elim (leb_tells (q + 106) (length text)) [
  | inl w ↦ w.1
  | inr w ↦ absurd
      (both_ways (leb (q + 106) (length text)) w.0 (and_parts (leb (q + 106) (length text)) (is_header (header_at text q)) is).0)
]

header_letter : (h : List ℕ) → is_header h ≡ true → get_or h 0 0 ≡ 73
unfolding is_header
header_letter h is =
    let rest : Bool = has_delims h && has_fields h 16 in
    let isa : Bool = bytes_eq (take 3 h) (codes "ISA") in
    let text : take 3 h ≡ codes "ISA" = (bytes_decides (take 3 h) (codes "ISA")).0
    (and_parts isa rest (and_parts (nat_eq (length h) 106) (isa && rest) is).1).0 in
    sym (get_or-take 3 h 0 0 (omega arith)) ∙ ap (λ (xs : List ℕ). get_or xs 0 0) text

pub head_letter : (text : List ℕ) (q : ℕ) → is_head text q ≡ true → get_or text q 0 ≡ 73
head_letter text q is =
    let n : q + 106 - q ≡ 106 = omega arith in
    let z : q + 0 ≡ q = omega arith in
    let first : get_or (header_at text q) 0 0
    ≡ 73 = header_letter (header_at text q) (and_parts (leb (q + 106) (length text)) (is_header (header_at text q)) is).1 in
    sym (get_or-take (q + 106 - q) (drop q text) 0 0 (omega arith) ∙ get_or-drop q text 0 0 ∙ ap (λ (k : ℕ). get_or text k 0) z) ∙ first

-- where the letter I doesn't stand none begins
pub no_head_ahead : (text : List ℕ) (at to ahead q : ℕ) → Nowhere (Passes (is_byte 73) (slice_range text at to)) 0 ahead
    → at + ahead ≤ to → at ≤ q → q < at + ahead → is_head text q ≡ false
no_head_ahead text at to ahead q nowhere fits low high =
    let place : at + (q - at) ≡ q = omega arith in
    let near : 0 ≤ q - at = omega arith in
    let below : q - at < ahead = omega arith in
    let inside : q - at < to - at = omega arith in
    let passed : Passes (is_byte 73) (slice_range text at to) (q - at) → ⊥ = nowhere (q - at) near below in
    false_from_ne_true (is_head text q) (λ is.
    let there : get_or (slice_range text at to) (q - at) 0 ≡ 73
    = get_or-take (to - at) (drop at text) (q - at) 0 inside ∙ get_or-drop at text (q - at) 0
    ∙ ap (λ (k : ℕ). get_or text k 0) place ∙ head_letter text q is in
    passed (subst (λ (n : ℕ). nat_eq n 73 ≡ true) (sym there) refl))

-- a stretch goes on, with no header up to an offset
pub goes_on : (text : List ℕ) (from at start : ℕ) → from ≤ at → at ≤ start → ((q : ℕ) → at ≤ q → q < start → is_head text q ≡ false)
    → heads_in text from start ≡ heads_in text from at
goes_on text from at start h k none =
    heads_both text from at start h k ∙ ap (λ (n : List HeadAt). heads_in text from at ++ n) (heads_none text at start k none)
    ∙ append-nil (heads_in text from at)

pub heads_at : (text : List ℕ) (from at start : ℕ) → from ≤ at → at ≤ start → ((q : ℕ) → at ≤ q → q < start → is_head text q ≡ false)
    → heads_in text from (start + 1) ≡ heads_in text from at ++ heads_in text start (start + 1)
heads_at text from at start h k none =
    heads_both text from start (start + 1) (omega (arith, h, k)) (omega arith)
    ∙ ap (λ (n : List HeadAt). n ++ heads_in text start (start + 1)) (goes_on text from at start h k none)

pub head_none : (text : List ℕ) (a : ℕ) → is_head text a ≡ false → heads_in text a (a + 1) ≡ []
head_none text a is =
    let e : a + 1 - a ≡ 1 = omega arith in
    ap (λ n. map (head_at text) (filter (is_head text) (range_with_len a n))) e
    ∙ ap (λ v. map (head_at text) (cond v (a ∷ []) [])) is
