-- What is in the way, one segment on.
use Rattle.std.proofs.Common.{◌≡◌, ◌<◌, ℕ, suc, ◌+◌, ◌-◌, List, ◌∷◌, Option, None, take, sym, ap, ◌∙◌, arith}
use Rattle.x12_bytes.specs.declared.delims.Delims.{Delims}
use Rattle.x12_segs.specs.Words.{SegValue}
use Rattle.track_table.specs.Hindrance.{byte_in_the_way, first_in, here_or}
use Rattle.track_table.specs.declared.hindrance.Hindrance.{Hindrance}

pub next_segment : (from to : Delims) (count most : ℕ) (left rest : List SegValue) (seg : SegValue) (found : Option ℕ) → count < most
    → left ≡ seg ∷ rest → found ≡ byte_in_the_way from to seg.bytes → found ≡ None → (all : Option Hindrance)
    → first_in from to (count + 1) (take (most - count) left) ≡ all
    → first_in from to (count + 1 + 1) (take (most - (count + 1)) rest) ≡ all
next_segment from to count most left rest seg found more is told none all known =
    let some : most - count ≡ suc (most - (count + 1)) = omega (arith, more) in
    sym (ap (λ (n : ℕ). first_in from to (count + 1) (take n left)) some
    ∙ ap (λ (xs : List SegValue). first_in from to (count + 1) (take (suc (most - (count + 1))) xs)) is
    ∙ ap (λ (b : Option ℕ). here_or b (count + 1) (first_in from to (count + 1 + 1) (take (most - (count + 1)) rest))) (sym told ∙ none))
    ∙ known
