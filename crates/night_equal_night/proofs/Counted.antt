-- The sets of a mailbox's interchanges are all of them.
use Rattle.std.proofs.Common.{◌≡◌, ℕ, zero, suc, ◌+◌, ◌<◌, ◌≤◌, List, [], ◌∷◌, length, take, drop, refl, sym, ap, ◌∙◌, arith}
use Rattle.std.proofs.Common.{length-append}
use Rattle.std.specs.Prelude.{sum_by}
use Rattle.std.proofs.lemmas.List.{length-drop, take-append-drop}
use Rattle.std.proofs.lemmas.List.Sums.{sum_by-cons}
use Rattle.count_numbers.specs.Layout as old
use Rattle.count_numbers.proofs.ForAbove.{first_interchange, no_interchange}
use Rattle.night_definition.specs.Deliveries.{interchanges_of}

by_chunks : {A : Type 0} (cap fuel : ℕ) (xs : List A) → 0 < cap → length xs ≤ fuel → sum_by length (old.interchanges_of cap xs) ≡ length xs
by_chunks cap fuel [] some few = ap (sum_by length) (no_interchange cap [] refl)
by_chunks cap zero (x ∷ xs) some few = absurd (omega (arith, few))
by_chunks {A} cap (suc fuel) (x ∷ xs) some few =
    let all : List A = x ∷ xs in
    ap (sum_by length) (first_interchange cap all some (omega arith))
    ∙ sum_by-cons length (take cap all) (old.interchanges_of cap (drop cap all))
    ∙ ap (λ n. length (take cap all) + n) (by_chunks cap fuel (drop cap all) some (omega (arith, few, some, length-drop cap all)))
    ∙ sym (length-append (take cap all) (drop cap all))
    ∙ ap length (take-append-drop cap all)

pub sets_counted : {A : Type 0} (cap : ℕ) (xs : List A) → 1 ≤ cap → sum_by length (interchanges_of cap xs) ≡ length xs
sets_counted cap xs some = by_chunks cap (length xs) xs some (omega arith)
