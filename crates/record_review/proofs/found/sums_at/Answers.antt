use Rattle.std.proofs.Common.{◌≡◌, ◌+◌, ℕ, List, arith, get_or, subst, sym, take}
use Rattle.std.specs.List.{AllZip}
use Rattle.record_review.specs.Found.{IsSumOf}
use Rattle.record_review.proofs.Zips.{zip_more}
use Rattle.record_review.proofs.found.sums_at.Goals as goal

pub loop-i-preserved : goal.loop-i-preserved
loop-i-preserved g c =
    let names : List (List ℕ) = c.args.names.now in
    subst (AllZip (IsSumOf c.args.night.now) (take (c.loop-i.i + 1) names)) (sym c.in_ok-push.ensures.items)
    (zip_more (IsSumOf c.args.night.now) names c.loop-i.sums.items c.loop-i.i c.as_slice.result.now c.in_ok-sum_at.field-0 (omega (arith))
    (subst (λ (k : List ℕ). k ≡ get_or names c.loop-i.i k) (sym c.as_slice.ensures) c.index-names-i.is)
    c.loop-i.invariant c.in_ok-sum_at.ensures)
