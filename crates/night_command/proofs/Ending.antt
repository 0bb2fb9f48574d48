-- The lines of a report, one by one, and the status of what isn't a failure.
use Rattle.std.proofs.Common.{ℕ, Bool, true, false, if◌then◌else◌, ◌≡◌, ◌≤◌, ◌⊎◌, inl, inr, List, [], ◌∷◌}
use Rattle.std.proofs.Common.{length, drop, get_or, refl, ap, arith, nat_eq}
use Rattle.std.proofs.lemmas.List.Splits.{length-slice_split}
use Rattle.x12_segs.specs.Words.{parts}
use Rattle.night_report.specs.Clean.{all_but_last, is_clean, last_behind, last_of, lines_of}
use Rattle.night_command.specs.Outcome.{status_of}
use Rattle.night_command.specs.declared.outcome.Outcome.{Outcome}
use Rattle.night_command.specs.declared.outcome.Outcome.TheVariants.{Ran, Shown}

first_and_rest : (xs : List (List ℕ)) → 1 ≤ length xs → get_or xs 0 [] ∷ drop 1 xs ≡ xs
first_and_rest [] h = absurd (omega arith)
first_and_rest (x ∷ xs) h = refl

-- before the first line there is no last one
pub begins : (report line : List ℕ) (left : List (List ℕ)) → line ≡ get_or (parts 10 report) 0 [] → left ≡ drop 1 (parts 10 report)
    → last_behind [] (all_but_last (line ∷ left)) ≡ last_of (lines_of report)
begins report line left first rest =
    let some : 1 ≤ length (parts 10 report) = omega (arith, length-slice_split (λ b. nat_eq b 10) report) in
    let whole : line ∷ left ≡ parts 10 report = rw (first, rest) (first_and_rest (parts 10 report) some) in
    ap (λ (xs : List (List ℕ)). last_behind [] (all_but_last xs)) whole

none_or_one : (b : Bool) → (if b then 0 else 1) ≤ 1
none_or_one true = omega arith
none_or_one false = omega arith

at_most_one : (o : Outcome) → status_of o ≤ 1
at_most_one (Shown text) = omega arith
at_most_one (Ran night) = none_or_one (is_clean night.report)

-- it isn't that of a failure but of standard output
pub no_failure : (o : Outcome) (n k : ℕ) → (n ≡ status_of o) ⊎ (n ≡ 5) → n ≡ k → 2 ≤ k → k ≤ 4 → ⊥
no_failure o n k (inl is) at least most = let bound = at_most_one o in omega (arith, bound, is, at)
no_failure o n k (inr is) at least most = omega (arith, is, at)
