-- A header is a header.
use Rattle.std.proofs.Common.{◌≡◌, ℕ, zero, suc, ◌+◌, ◌-◌, List, [], ◌∷◌, ◌++◌, Bool, true, false, ◌&&◌, ◌||◌, not, Option, Some, None}
use Rattle.std.proofs.Common.{length, refl, sym, ap, ◌∙◌}
use Rattle.std.specs.Prelude.{take, codes, bytes_eq, nat_le, ◌==◌}
use Rattle.std.specs.List.{list_all, range_with_len}
use Rattle.x12_bytes.specs.Header as old
use Rattle.x12_bytes.specs.HeaderTest as old_test
use Rattle.x12_bytes.specs.Bytes as old_bytes
use Rattle.night_definition.specs.Header as room

pub delims_are_those : (header : List ℕ) → room.delims_of header ≡ old.header_delims header
delims_are_those header = refl

pub may_separate_is_that : (b : ℕ) → room.may_separate b ≡ old_bytes.may_separate b
may_separate_is_that b = refl

-- the last of two conjuncts first
swapped : (a b : Bool) → (a && b) ≡ (b && a)
swapped true true = refl
swapped true false = refl
swapped false true = refl
swapped false false = refl

associated : (a b c : Bool) → ((a && b) && c) ≡ (a && (b && c))
associated true b c = refl
associated false b c = refl

with_true : (a : Bool) → (a && true) ≡ a
with_true true = refl
with_true false = refl

abbrev down : (ℕ → Bool) → ℕ → Bool
down p zero = true
down p (suc k) = p (k + 1) && down p k

-- from the last down to the first, and then the rest
abbrev onto : (ℕ → Bool) → ℕ → Bool → Bool
onto p zero rest = rest
onto p (suc k) rest = onto p k (p (k + 1) && rest)

down_onto : (p : ℕ → Bool) (k : ℕ) (rest : Bool) → onto p k rest ≡ (down p k && rest)
down_onto p zero rest = refl
down_onto p (suc k) rest =
    down_onto p k (p (k + 1) && rest) ∙ sym (associated (down p k) (p (k + 1)) rest)
    ∙ ap (λ b. b && rest) (swapped (down p k) (p (k + 1)))

sixteen : (p : ℕ → Bool) → list_all p (range_with_len 1 16) ≡ down p 16
sixteen p = down_onto p 16 true ∙ with_true (down p 16)

pub heads : (text : List ℕ) (offset : ℕ) → room.is_head text offset ≡ old_test.is_head text offset
unfolding old_test.is_header old_test.has_fields
heads text offset =
    let h : List ℕ = room.header_at text offset in
    ap (λ b. nat_le (offset + 106) (length text) && ((length h == 106) && (bytes_eq (take 3 h) (codes "ISA")
    && (room.are_delims (room.delims_of h) && b)))) (sixteen (room.is_element_there (room.delims_of h) h))
