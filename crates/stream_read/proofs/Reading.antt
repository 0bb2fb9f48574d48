-- What is held of a stream, a read further.
use Rattle.std.proofs.Common.{◌≡◌, ℕ, ◌+◌, ◌-◌, ◌≤◌, List, ◌++◌, Option, length, take, drop, slice_range, refl, sym, ap, ◌∙◌, arith}
use Rattle.std.proofs.lemmas.List.{append_assoc, drop-take, length-append, length-drop, length-take-le, take-append-drop, take-take}
use Rattle.std.specs.Io.KnownBytes.{Consumes}
use Rattle.stream_read.specs.Held.{HasRead, HeldValue}
use Rattle.stream_read.proofs.Known.{consumes_on}

abbrev pub held : List ℕ → ℕ → HeldValue
held bytes total = record { bytes = bytes; total = total }

taken_more : (xs : List ℕ) (m n : ℕ) → take (m + n) xs ≡ take m xs ++ slice_range xs m (m + n)
taken_more xs m n =
    let n_is : m + n - m ≡ n = omega arith in
    sym (take-append-drop m (take (m + n) xs))
    ∙ ap (λ (l : List ℕ). l ++ drop m (take (m + n) xs)) (take-take m (m + n) xs (omega arith))
    ∙ ap (λ (l : List ℕ). take m xs ++ l) (drop-take m n xs ∙ sym (ap (λ (k : ℕ). take k (drop m xs)) n_is))

pub read_more : (before after : Option (List ℕ)) (old new : List ℕ) (filled n total : ℕ) → take filled new ≡ take filled old
    → filled + n ≤ length new → Consumes before after (slice_range new filled (filled + n))
    → HasRead before after (held (take filled old) total) (held (take (filled + n) new) (total + n)) n
read_more before after old new filled n total front fits consumed =
    let n_is : filled + n - filled ≡ n = omega arith in
    record {
      more = slice_range new filled (filled + n);
      count = length-take-le (filled + n - filled) (drop filled new) (omega (arith, length-drop filled new)) ∙ n_is;
      consumed = consumed;
      bytes = taken_more new filled n ∙ ap (λ (l : List ℕ). l ++ slice_range new filled (filled + n)) front;
      total = refl;
    }

pub read_on : (a b c : Option (List ℕ)) (x y z : HeldValue) (n m sum : ℕ) → sum ≡ n + m → HasRead a b x y n → HasRead b c y z m
    → HasRead a c x z sum
read_on a b c x y z n m sum is first second = record {
  more = first.more ++ second.more;
  count = length-append first.more second.more ∙ (let k : length first.more + length second.more ≡ sum
      = omega (arith, first.count, second.count, is) in k);
  consumed = consumes_on a b c first.more second.more first.consumed second.consumed;
  bytes = second.bytes ∙ ap (λ (l : List ℕ). l ++ second.more) first.bytes ∙ append_assoc x.bytes first.more second.more;
  total = (let t : z.total ≡ x.total + sum = omega (arith, first.total, second.total, is) in t);
}
