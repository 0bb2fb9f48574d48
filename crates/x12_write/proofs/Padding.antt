-- Numbers and texts brought to a width.
use Rattle.std.proofs.Common.{◌≡◌, ℕ, ◌+◌, ◌-◌, ◌≤◌, List, ◌++◌, length, take, drop, sym, ap, ◌∙◌, arith}
use Rattle.std.specs.Prelude.{decimal, replicate, min}
use Rattle.std.proofs.lemmas.List.{append_assoc, take-append-drop, take-replicate, take-take, drop-replicate, drop-append-le}
use Rattle.std.proofs.lemmas.List.{length-replicate}
use Rattle.x12_write.specs.Number.{padded_number}

-- so many zeros before a text, and some of them dropped
drop-zeros : (zeros from : ℕ) (text : List ℕ) → from ≤ zeros → drop from (replicate zeros 48 ++ text) ≡ replicate (zeros - from) 48 ++ text
drop-zeros zeros from text within =
    let width : length (replicate {A = ℕ} zeros 48) ≡ zeros = length-replicate zeros 48 in
    let below : from ≤ length (replicate {A = ℕ} zeros 48) = omega arith in
    drop-append-le from (replicate zeros 48) text below ∙ ap (λ (s : List ℕ). s ++ text) (drop-replicate from zeros 48)

-- a buffer that ends with a text after zeros
from_zeros : (start : ℕ) (buffer text : List ℕ) → start ≤ 10 → drop start buffer ≡ text → take start buffer ≡ take start (replicate 10 48)
    → buffer ≡ replicate start 48 ++ text
from_zeros start buffer text within digits zeros =
    sym (take-append-drop start buffer)
    ∙ ap (λ (s : List ℕ). s ++ drop start buffer) (zeros ∙ take-replicate start 10 48 within)
    ∙ ap (λ (s : List ℕ). replicate start 48 ++ s) digits

-- digits at the end of a buffer of zeros, read from so many zeros on
pub padded_number-from_zeros : (least n start : ℕ) (buffer : List ℕ) → least ≤ 10 → start + length (decimal n) ≡ 10
    → drop start buffer ≡ decimal n → take start buffer ≡ take start (replicate 10 48)
    → drop (min start (10 - least)) buffer ≡ padded_number least n
padded_number-from_zeros least n start buffer least_fits place digits zeros =
    let left : start - min start (10 - least) ≡ least - length (decimal n) = omega arith in
    ap (drop (min start (10 - least))) (from_zeros start buffer (decimal n) (omega arith) digits zeros)
    ∙ drop-zeros start (min start (10 - least)) (decimal n) (omega arith)
    ∙ ap (λ (k : ℕ). replicate k 48 ++ decimal n) left

-- digits in a buffer, read from so many zeros on, before what stands there
before-rest : (start : ℕ) (buffer text : List ℕ) → drop start buffer ≡ text → take start buffer ≡ replicate start 48
    → buffer ≡ replicate start 48 ++ text
before-rest start buffer text digits zeros =
    sym (take-append-drop start buffer)
    ∙ ap (λ (s : List ℕ). s ++ drop start buffer) zeros
    ∙ ap (λ (s : List ℕ). replicate start 48 ++ s) digits

-- the zeros before the digits are still there
still-zeros : (start end : ℕ) (buffer old : List ℕ) → start ≤ end → take start buffer ≡ take start old → take end old ≡ replicate end 48
    → take start buffer ≡ replicate start 48
still-zeros start end buffer old within same zeros =
    same ∙ sym (take-take start end old within) ∙ ap (take start) zeros ∙ take-replicate {X = ℕ} start end 48 within

pub padded_number-before : (least n start end : ℕ) (buffer old rest : List ℕ) → least ≤ end → start + length (decimal n) ≡ end
    → drop start buffer ≡ decimal n ++ rest → take start buffer ≡ take start old → take end old ≡ replicate end 48
    → drop (min start (end - least)) buffer ≡ padded_number least n ++ rest
padded_number-before least n start end buffer old rest least_fits place digits same zeros =
    let left : start - min start (end - least) ≡ least - length (decimal n) = omega arith in
    let kept = still-zeros start end buffer old (omega arith) same zeros in
    ap (drop (min start (end - least))) (before-rest start buffer (decimal n ++ rest) digits kept)
    ∙ drop-zeros start (min start (end - least)) (decimal n ++ rest) (omega arith)
    ∙ ap (λ (k : ℕ). replicate k 48 ++ (decimal n ++ rest)) left
    ∙ sym (append_assoc (replicate (least - length (decimal n)) 48) (decimal n) rest)

-- and before those that are shown there are zeros
pub zeros-before : (least n start end : ℕ) (buffer old rest : List ℕ) → start + length (decimal n) ≡ end
    → drop start buffer ≡ decimal n ++ rest → take start buffer ≡ take start old → take end old ≡ replicate end 48
    → take (min start (end - least)) buffer ≡ replicate (min start (end - least)) 48
zeros-before least n start end buffer old rest place digits same zeros =
    let kept = still-zeros start end buffer old (omega arith) same zeros in
    let k : ℕ = min start (end - least) in
    sym (take-take k start buffer (omega arith)) ∙ ap (take k) kept ∙ take-replicate {X = ℕ} k start 48 (omega arith)
