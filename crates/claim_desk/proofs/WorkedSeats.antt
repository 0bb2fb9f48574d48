-- Each job once: of two jobs, in either order; not with one left out, nor with one twice, nor with a third.
use Rattle.std.proofs.Common.{◌≡◌, [], ◌∷◌, arith}
use Rattle.std.proofs.lemmas.Bool.Decides.{nat_tests}
use Rattle.claim_desk.specs.Seats.{EachOnce}

both : EachOnce 2 (1 ∷ 0 ∷ [])
both x = grind (arith, nat_tests)

none_of_none : EachOnce 0 []
none_of_none x = grind (arith, nat_tests)

left_out : EachOnce 2 (0 ∷ []) → ⊥
left_out h = let e : 0 ≡ 1 = h 1 in omega (arith, e)

twice : EachOnce 2 (0 ∷ 1 ∷ 1 ∷ []) → ⊥
twice h = let e : 2 ≡ 1 = h 1 in omega (arith, e)

another : EachOnce 2 (0 ∷ 1 ∷ 2 ∷ []) → ⊥
another h = let e : 1 ≡ 0 = h 2 in omega (arith, e)
