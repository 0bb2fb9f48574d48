-- The places and widths of a header's elements are those of the definition of a night.
use Rattle.std.proofs.Common.{◌≡◌, ℕ, ◌≤◌, nat_eq, true, refl, arith}
use Rattle.std.proofs.lemmas.Bool.{agree_below_at, eqb-true}
use Rattle.x12_bytes.specs.Header.{separator_place, width_of}
use Rattle.night_definition.specs.Header.{separator_at}
use Rattle.gather_files.specs.Causes.{width_of as width_there}

pub same_place : (k : ℕ) → k ≤ 16 → separator_place k ≡ separator_at k
same_place k to =
    eqb-true (separator_place k) (separator_at k)
    (agree_below_at (λ n. nat_eq (separator_place n) (separator_at n)) (λ _. true) 17 k refl (omega (arith, to)))

pub same_width : (k : ℕ) → k ≤ 16 → width_of k ≡ width_there k
same_width k to =
    eqb-true (width_of k) (width_there k)
    (agree_below_at (λ n. nat_eq (width_of n) (width_there n)) (λ _. true) 17 k refl (omega (arith, to)))
