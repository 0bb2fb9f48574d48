-- Where a header begins, and filler, of which no byte is counted.
use Rattle.std.proofs.Common.{◌≡◌, ℕ, ◌+◌, ◌-◌, ◌≤◌, List, [], ◌∷◌, Bool, true, false, not, ◌&&◌, nat_eq, leb, length, take, drop, get_or}
use Rattle.std.proofs.Common.{cond, refl, sym, ap, ◌∙◌, inl, inr, arith}
use Rattle.std.specs.Prelude.{codes, count_by}
use Rattle.std.specs.List.{prefix_len}
use Rattle.std.specs.Str.{bytes_eq}
use Rattle.std.specs.Cmp.Lexicographic.{bytes_decides}
use Rattle.std.proofs.lemmas.Bool.{and_parts, false_from_ne_true, both_ways}
use Rattle.std.proofs.lemmas.Bool.Decides.{leb_tells}
use Rattle.std.proofs.lemmas.List.{get_or-drop, get_or-take}
use Rattle.std.proofs.lemmas.List.Recursion.{is_count_by}
use Rattle.x12_bytes.specs.Header.{header_at}
use Rattle.x12_bytes.specs.HeaderTest.{is_head, is_header, has_delims, has_fields}
use Rattle.env_index.specs.Extents.{is_filler}

-- a header is bytes of the text, and begins with the letter I
pub head_within : (text : List ℕ) (q : ℕ) → is_head text q ≡ true → q + 106 ≤ length text
head_within text q is = elim (leb_tells (q + 106) (length text)) [
  | inl w ↦ w.1
  | inr w ↦ absurd
      (both_ways (leb (q + 106) (length text)) w.0 (and_parts (leb (q + 106) (length text)) (is_header (header_at text q)) is).0)
]

header_letter : (h : List ℕ) → is_header h ≡ true → get_or h 0 0 ≡ 73
unfolding is_header
header_letter h is =
    let rest : Bool = has_delims h && has_fields h 16 in
    let isa : Bool = bytes_eq (take 3 h) (codes "ISA") in
    let text : take 3 h ≡ codes "ISA" = (bytes_decides (take 3 h) (codes "ISA")).0
    (and_parts isa rest (and_parts (nat_eq (length h) 106) (isa && rest) is).1).0 in
    sym (get_or-take 3 h 0 0 (omega arith)) ∙ ap (λ (xs : List ℕ). get_or xs 0 0) text

pub head_letter : (text : List ℕ) (q : ℕ) → is_head text q ≡ true → get_or text q 0 ≡ 73
head_letter text q is =
    let n : q + 106 - q ≡ 106 = omega arith in
    let z : q + 0 ≡ q = omega arith in
    let first : get_or (header_at text q) 0 0
    ≡ 73 = header_letter (header_at text q) (and_parts (leb (q + 106) (length text)) (is_header (header_at text q)) is).1 in
    sym (get_or-take (q + 106 - q) (drop q text) 0 0 (omega arith) ∙ get_or-drop q text 0 0 ∙ ap (λ (k : ℕ). get_or text k 0) z) ∙ first

-- none begins after the text
pub no_head_past : (text : List ℕ) (q : ℕ) → length text ≤ q → is_head text q ≡ false
no_head_past text q past = false_from_ne_true (is_head text q) (λ is. absurd (omega (arith, head_within text q is)))

-- how many bytes are no filler, from the front
abbrev others : List ℕ → ℕ
others [] = 0
others (x ∷ xs) = cond (not (is_filler x)) (1 + others xs) (others xs)

others_counted : (xs : List ℕ) → others xs ≡ count_by (λ b. not (is_filler b)) xs
others_counted xs = is_count_by others (λ b. not (is_filler b)) refl (λ x ys. refl) xs

-- in filler alone there are none
no_others : (xs : List ℕ) → length xs ≤ prefix_len is_filler xs → others xs ≡ 0
no_others [] all = refl
no_others (x ∷ xs) all = by_test (is_filler x) all (no_others xs)
  where
    by_test : (b : Bool) → length (x ∷ xs) ≤ cond b (1 + prefix_len is_filler xs) 0
        → (length xs ≤ prefix_len is_filler xs → others xs ≡ 0) → cond (not b) (1 + others xs) (others xs) ≡ 0
    by_test true all more = more (omega (arith, all))
    by_test false all more = absurd (omega (arith, all))

pub nothing_counted : (xs : List ℕ) → length xs ≤ prefix_len is_filler xs → count_by (λ b. not (is_filler b)) xs ≡ 0
nothing_counted xs all = sym (others_counted xs) ∙ no_others xs all
