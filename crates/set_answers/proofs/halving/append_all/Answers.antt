use Rattle.std.proofs.Common.{◌≡◌, ◌<◌, ◌+◌, ◌++◌, ◌∷◌, [], ℕ, List, length, ap, sym, ◌∙◌, arith, append_assoc, length-append}
use Rattle.set_answers.specs.CheckedText.{SentValues}
use Rattle.set_answers.proofs.Continuing.{continued_more}
use Rattle.set_answers.proofs.halving.append_all.Goals as goal

pub append_to-requires : goal.append_to-requires
append_to-requires c =
    let done : List SentValues = c.loop-sent.yielded in
    let sent : SentValues = c.in-Some.sent in
    let rest : List SentValues = c.next.new.self.rest.items in
    let was = c.loop-sent.invariant in
    let split : c.args.more.items ≡ done ++ sent ∷ rest =
    was.2 ∙ ap (λ (l : List SentValues). done ++ l) c.in-Some.ensures.steps.0 in
    let size : length c.args.more.items ≡ length done + length (sent ∷ rest) =
    ap (λ (l : List SentValues). length l) split ∙ length-append done (sent ∷ rest) in
    omega (arith, size, was.1, was.0.continued.count, c.requires)

pub loop-sent-preserved : goal.loop-sent-preserved
loop-sent-preserved c =
    let done : List SentValues = c.loop-sent.yielded in
    let sent : SentValues = c.in-Some.sent in
    let rest : List SentValues = c.next.new.self.rest.items in
    let was = c.loop-sent.invariant in
    let split : c.args.more.items ≡ done ++ sent ∷ rest =
    was.2 ∙ ap (λ (l : List SentValues). done ++ l) c.in-Some.ensures.steps.0 in
    let size : length c.args.more.items ≡ length done + length (sent ∷ rest) =
    ap (λ (l : List SentValues). length l) split ∙ length-append done (sent ∷ rest) in
    let within : c.loop-sent.place < length c.loop-sent.files = omega (arith, size, was.1, was.0.continued.count, c.requires) in (
      continued_more done sent c.args.files.now c.loop-sent.files c.append_to.new.files c.loop-sent.place was.1 within
          c.in_ok-append_to.ensures was.0,
      ap (λ (n : ℕ). n + 1) was.1 ∙ sym (length-append done (sent ∷ [])),
      split ∙ sym (append_assoc done (sent ∷ []) rest),
    )
