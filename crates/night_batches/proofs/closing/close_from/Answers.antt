use Rattle.std.proofs.Common.{◌≡◌, ◌<◌, ◌+◌, ℕ, List, [], ◌∷◌, ◌++◌, length, sym, ap, subst, ◌∙◌, arith, append_assoc, length-append}
use Rattle.std.proofs.Common.{rules}
use Rattle.hub_kinds.specs.declared.counters.Counters.{Counters}
use Rattle.mailbox.specs.Rendered.{RenderedValue}
use Rattle.set_answers.specs.CheckedText.{SentValues, nothing_sent}
use Rattle.night_batches.specs.ByPlace.{AreClosedFrom, box_behind, next_behind}
use Rattle.night_batches.proofs.Sides.{closed_more, read_at}
use Rattle.night_batches.proofs.closing.close_from.Goals as goal

pub loop-sets-preserved : goal.loop-sets-preserved
loop-sets-preserved c =
    let setup = c.args.setup.now in
    let at = c.args.at.now in
    let fs : List SentValues = c.args.files.now in
    let from : ℕ = c.args.from in
    let ls : List (List RenderedValue) = c.args.boxes.items in
    let done : List (List RenderedValue) = c.loop-sets.yielded in
    let sets : List RenderedValue = c.in-Some.sets in
    let rest : List (List RenderedValue) = c.next.new.self.rest.items in
    let was = c.loop-sets.invariant in
    let count : ℕ = c.len-count.result in
    let place : ℕ = from + count in
    let texts : List (List ℕ) = c.loop-sets.texts.items in
    let counters : List Counters = c.loop-sets.counters.items in
    let len : count ≡ length counters = search rules in
    let count_is : count ≡ length done = len ∙ was.0.counters_count in
    let split : ls ≡ done ++ sets ∷ rest =
    was.1 ∙ ap (λ (l : List (List RenderedValue)). done ++ l) c.in-Some.ensures.steps.0 in
    let size : length ls ≡ length done + length (sets ∷ rest) =
    ap (λ (l : List (List RenderedValue)). length l) split ∙ length-append done (sets ∷ rest) in
    let within : place < length fs = omega (arith, count_is, size, c.requires.boxes, c.requires.files) in
    let file = read_at fs place c.index-files-place.result nothing_sent within c.index-files-place.is in
    let made = closed_more setup at fs from place done sets texts counters c.in_ok-closed.closed.text c.in_ok-closed.closed.next
    (ap (λ (n : ℕ). from + n) count_is)
    (λ p there. c.in_ok-closed.ensures.text p there ∙ ap (λ (f : SentValues). box_behind setup at f sets p) file)
    (λ p there. c.in_ok-closed.ensures.next p there ∙ ap (λ (f : SentValues). next_behind f sets p) file)
    was.0 in (
      subst (λ (ts : List (List ℕ)). AreClosedFrom setup at fs from (done ++ sets ∷ []) ts
          c.push-in-loop-sets.new.self.items)
          (sym c.in_ok-push.ensures.items)
          (subst (λ (xs : List Counters). AreClosedFrom setup at fs from (done ++ sets ∷ []) (texts ++ c.in_ok-closed.closed.text ∷ []) xs)
          (sym c.in_ok-push-2.ensures.items) made),
      split ∙ sym (append_assoc done (sets ∷ []) rest),
    )
