use Rattle.std.proofs.Common.{◌≡◌, ◌∙◌, ◌+◌, ◌-◌, ◌<◌, ◌≤◌, ℕ, List, true, false, ap, sym, arith}
use Rattle.std.specs.List.{prefix_len, range_with_len}
use Rattle.std.proofs.lemmas.List.FromFn.{get_or-range_with_len}
use Rattle.std.proofs.lemmas.List.Sums.{prefix_len_is}
use Rattle.gather_files.specs.Causes.{is_wide, wrong_element}
use Rattle.gather_files.proofs.elements.wrong_element.Goals as goal

-- each element before k is as long as it has to be, and k isn't, or is none of them
found : (file : List ℕ) (k : ℕ) → 1 ≤ k → k ≤ 16 → ((j : ℕ) → j < k - 1 → is_wide file (1 + j) ≡ true)
    → (k < 16 → is_wide file k ≡ false) → k ≡ wrong_element file
found file k from to wide stop =
    let n : ℕ = k - 1 in
    let count : prefix_len (is_wide file) (range_with_len 1 15) ≡ n =
    prefix_len_is (is_wide file) (range_with_len 1 15) n 0 (omega (arith, to))
    (λ j lt. ap (is_wide file) (get_or-range_with_len 1 15 j 0 (omega (arith, lt, to))) ∙ wide j lt)
    (λ lt. (let low : n < 15 = lt in
    let place : 1 + n ≡ k = omega (arith, from) in
    ap (is_wide file) (get_or-range_with_len 1 15 n 0 low ∙ place) ∙ stop (omega (arith, low, from)))) in
    omega (arith, count, from)

pub returns-else-is_wide-clause-value : goal.returns-else-is_wide-clause-value
returns-else-is_wide-clause-value c =
    found c.args.file.now c.loop-k.k c.loop-k.invariant.from c.loop-k.invariant.to c.loop-k.invariant.wide
    (λ lt. sym c.is_wide.ensures ∙ c.if-is_wide.false)

pub returns-after-loop-k-clause-value : goal.returns-after-loop-k-clause-value
returns-after-loop-k-clause-value c =
    found c.args.file.now c.loop-k.k c.loop-k.invariant.from c.loop-k.invariant.to c.loop-k.invariant.wide
    (λ lt. absurd (omega (arith, lt, c.loop-k-test.false)))
