use Rattle.std.proofs.Common.{◌≡◌, ◌∙◌, ◌+◌, ◌-◌, ◌<◌, ◌≤◌, ℕ, List, ◌∷◌, ap, arith, drop, length, rules, sym}
use Rattle.std.proofs.lemmas.List.{drop_more}
use Rattle.mailbox.specs.declared.woven.Cut.{Cut}
use Rattle.mailbox.proofs.Weaving.{cut_within}
use Rattle.mailbox.proofs.woven.Woven.parts.Goals as goal

pub part_of-requires-clause-within : goal.part_of-requires-clause-within
part_of-requires-clause-within c =
    let cuts : List Cut = c.self.inside.cuts.items in
    let i : ℕ = c.loop-i.i in
    let cut : Cut = c.index-cut.result.now in
    let end : c.len-i-end.result ≡ length cuts = search rules in
    let here : i < length cuts = omega (arith, c.loop-i-test.true, end) in
    let split : drop i cuts ≡ cut ∷ drop (i + 1) cuts =
    drop_more cuts i cut here ∙ ap (λ (k : Cut). k ∷ drop (i + 1) cuts) (sym c.index-cut.ensures) in
    let within : cut.at ≤ length c.self.inside.ends.items = cut_within c.loop-i.from (length c.self.inside.ends.items)
    (length c.self.inside.sets - c.loop-i.set) cuts i cut split c.loop-i.invariant.cuts in
    let long : length c.as_slice-ends.result.now ≡ length c.self.inside.ends.items =
    ap (λ (b : List ℕ). length b) c.as_slice-ends.ensures.value in
    omega (arith, within, long)
