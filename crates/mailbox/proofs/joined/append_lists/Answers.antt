use Rattle.std.proofs.Common.{◌≡◌, ◌<◌, ◌+◌, ◌++◌, ◌∷◌, [], ℕ, List, length, ap, sym, ◌∙◌, arith, append_assoc, length-append}
use Rattle.answered_sets.specs.Judged.{PlacedValue}
use Rattle.mailbox.proofs.Growing.{Lists}
use Rattle.mailbox.proofs.Halved.{lists_grown}
use Rattle.mailbox.proofs.joined.append_lists.Goals as goal

pub append_to-requires : goal.append_to-requires
append_to-requires c =
    let done : Lists = c.loop-sets.yielded in
    let sets : List PlacedValue = c.in-Some.sets in
    let rest : Lists = c.next.new.self.rest.items in
    let was = c.loop-sets.invariant in
    let split : c.args.more.items ≡ done ++ sets ∷ rest = was.2 ∙ ap (λ (l : Lists). done ++ l) c.in-Some.ensures.steps.0 in
    let size : length c.args.more.items ≡ length done + length (sets ∷ rest) =
    ap (λ (l : Lists). length l) split ∙ length-append done (sets ∷ rest) in
    omega (arith, size, was.1, was.0.count, c.requires)

pub loop-sets-preserved : goal.loop-sets-preserved
loop-sets-preserved c =
    let done : Lists = c.loop-sets.yielded in
    let sets : List PlacedValue = c.in-Some.sets in
    let rest : Lists = c.next.new.self.rest.items in
    let was = c.loop-sets.invariant in
    let split : c.args.more.items ≡ done ++ sets ∷ rest = was.2 ∙ ap (λ (l : Lists). done ++ l) c.in-Some.ensures.steps.0 in
    let size : length c.args.more.items ≡ length done + length (sets ∷ rest) =
    ap (λ (l : Lists). length l) split ∙ length-append done (sets ∷ rest) in
    let within : c.loop-sets.place < length c.loop-sets.lists = omega (arith, size, was.1, was.0.count, c.requires) in (
      lists_grown done sets c.args.lists.now c.loop-sets.lists c.append_to.new.lists c.loop-sets.place was.1 within
          c.in_ok-append_to.ensures was.0,
      ap (λ (n : ℕ). n + 1) was.1 ∙ sym (length-append done (sets ∷ [])),
      split ∙ sym (append_assoc done (sets ∷ []) rest),
    )
