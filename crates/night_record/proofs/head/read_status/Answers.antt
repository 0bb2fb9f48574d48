use Rattle.std.proofs.Common.{◌≡◌, ◌≤◌, ◌∙◌, codes, refl, sym, arith}
use Rattle.std.proofs.lemmas.Bool.{leb-true}
use Rattle.night_record.proofs.Between.{number_once}
use Rattle.night_record.proofs.head.read_status.Goals as goal

pub returns-in-Some-2-clause-refused : goal.returns-in-Some-2-clause-refused
returns-in-Some-2-clause-refused c = (
  refl,
  λ n can same. (
      let small : n ≤ 6 = leb-true n 6 can in
      let one : c.in-Some.n ≡ n =
      number_once (codes "status") c.in-Some.n n c.in-Some.ensures.1 (omega arith) (sym c.in-Some.ensures.0 ∙ same) in
      absurd (omega arith)
      ),
)
