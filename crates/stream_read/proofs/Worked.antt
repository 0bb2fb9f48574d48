-- What a source counts, worked: 1,000 interruptions in a row are no failure, and one more is; both ways. Bytes that are given add up.
use Rattle.std.proofs.Common.{◌≡◌, ℕ, Ok, Err, inl, inr, refl, arith}
use Rattle.stream_read.specs.Source.{GivenUp, HasFailed, TriedAgain, given_after}

thousand_are_none : HasFailed 3 3 1000 → ⊥
thousand_are_none (inl once) = omega (arith, once)
thousand_are_none (inr often) = omega (arith, often.1)

one_more_is : HasFailed 3 3 1001
one_more_is = inr (refl, omega arith)

failure_is : HasFailed 3 4 0
failure_is = inl refl

thousand_tries : TriedAgain 0 0 1000
thousand_tries = omega arith

no_more_tries : TriedAgain 0 0 1001 → ⊥
no_more_tries more = omega (arith, more)

given_up_at_one_more : GivenUp 0 0 1001
given_up_at_one_more = omega arith

given_up_not_later : GivenUp 0 0 1002 → ⊥
given_up_not_later more = omega (arith, more)

bytes_add_up : given_after {E = ℕ} (Ok 5) 4294967295 ≡ 4294967300
bytes_add_up = refl

failure_gives_none : given_after {E = ℕ} (Err 1) 7 ≡ 7
failure_gives_none = refl

no_more_are_counted : given_after {E = ℕ} (Ok 5) 18446744073709551612 ≡ 18446744073709551615
no_more_are_counted = refl
