-- Fields in a row.
use Rattle.std.proofs.Common.{ℕ, ◌+◌, ◌≤◌, ◌<◌, List, below_more, arith}
use Rattle.x12_bytes.specs.FieldRow.{HasRow}
use Rattle.x12_bytes.specs.Header.{IsFieldAt}

none_yet : (header : List ℕ) (k n : ℕ) → n < k → k ≤ n → IsFieldAt header n
none_yet header k n low from = absurd (omega (arith, low, from))

-- one field after another
pub two_in_a_row : (header : List ℕ) (k : ℕ) → IsFieldAt header k → IsFieldAt header (k + 1) → HasRow header k 2
two_in_a_row header k first second n from to =
    let P : ℕ → Type 0 = λ x. k ≤ x → IsFieldAt header x in
    let one : (x : ℕ) → x < k + 1 → P x = below_more P k (none_yet header k) (λ _. first) in
    below_more P (k + 1) one (λ _. second) n (omega (arith, to)) from
