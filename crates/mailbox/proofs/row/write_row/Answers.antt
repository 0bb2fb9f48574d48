use Rattle.std.proofs.Common.{◌≡◌, ◌+◌, ℕ, List, ◌∷◌, ◌++◌, drop, ap, sym, ◌∙◌, arith}
use Rattle.std.proofs.lemmas.List.{drop_more}
use Rattle.answered_sets.specs.Judged.{PlacedValue}
use Rattle.mailbox.specs.Rendered.{rendered_from}
use Rattle.mailbox.proofs.WrittenSets.{one_added}
use Rattle.mailbox.proofs.row.write_row.Goals as goal

pub loop-i-preserved : goal.loop-i-preserved
loop-i-preserved c =
    let partner = c.args.partner.now in
    let sets : List PlacedValue = c.args.sets.now in
    let i : ℕ = c.loop-i.i in
    let k : ℕ = c.args.k in
    let set : PlacedValue = c.index-sets-i.result in
    let split : drop i sets ≡ set ∷ drop (i + 1) sets =
    drop_more sets i set c.loop-i-test.true ∙ ap (λ (p : PlacedValue). p ∷ drop (i + 1) sets) (sym c.index-sets-i.is) in
    let more = one_added partner (k + i) set (drop i sets) (drop (i + 1) sets) c.loop-i.row c.in_ok-row-2.row (rendered_from partner k sets)
    c.in_ok-row-2.ensures split c.loop-i.invariant in
    ap (λ (n : ℕ). c.in_ok-row-2.row ++ rendered_from partner n (drop (i + 1) sets)) (omega arith) ∙ more
