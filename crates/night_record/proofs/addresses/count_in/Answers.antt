use Rattle.std.proofs.Common.{◌≡◌, ◌∙◌, ap, arith, sym, true}
use Rattle.std.proofs.lemmas.Fmt.{decimal_injective}
use Rattle.night_record.specs.Values.{is_count}
use Rattle.night_record.proofs.Clean.{small_count}
use Rattle.night_record.proofs.addresses.count_in.Goals as goal

pub returns-in-Some-2 : goal.returns-in-Some-2
returns-in-Some-2 c n can same =
    let small = small_count n can in
    let low = c.in-Some.ensures.1 in
    let one : c.in-Some.n ≡ n = decimal_injective c.in-Some.n n (omega arith) (omega arith) (sym c.in-Some.ensures.0 ∙ same) in
    let is : is_count c.in-Some.n ≡ true = ap is_count one ∙ can in
    cc
