use Rattle.std.proofs.Common.{◌≡◌, ◌≤◌, ◌∙◌, ℕ, ap, codes, refl, sym, true}
use Rattle.std.proofs.lemmas.Bool.{and_parts, leb-true}
use Rattle.night_record.specs.Values.{is_count}
use Rattle.night_record.proofs.Between.{number_once}
use Rattle.night_record.proofs.head.read_count.Goals as goal

small_count : (n : ℕ) → is_count n ≡ true → n ≤ 999999999
small_count n can = leb-true n 999999999 ((and_parts _ _ can).1)

pub returns-in-Some-2-clause-refused : goal.returns-in-Some-2-clause-refused
returns-in-Some-2-clause-refused c = (
  refl,
  λ n can same. (
      let one : c.in-Some.n ≡ n =
      number_once (codes "number") c.in-Some.n n c.in-Some.ensures.1 (small_count n can) (sym c.in-Some.ensures.0 ∙ same) in
      let is : is_count c.in-Some.n ≡ true = ap is_count one ∙ can in
      cc
      ),
)
