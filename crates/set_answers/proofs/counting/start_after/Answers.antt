use Rattle.std.proofs.Common.{List, map, sym, subst, ◌∙◌, arith}
use Rattle.set_answers.specs.CheckedText.{SentValues}
use Rattle.set_answers.specs.Counted.{AreCountedAfter, CanCountEach, without_text}
use Rattle.set_answers.proofs.Counts.{bare_each}
use Rattle.set_answers.proofs.Putting.{take_front}
use Rattle.set_answers.proofs.counting.start_after.Goals as goal

pub count_each-findings-requires : goal.count_each-findings-requires
count_each-findings-requires c =
    let setup = c.requires.0 in (
      setup,
      subst (CanCountEach setup c.args.senders.now c.args.entries.now) (sym (c.as_mut_slice.ensures.value ∙ c.in_ok-numbers.ensures))
          (bare_each setup c.args.senders.now c.args.entries.now c.args.sent.now c.requires.1),
    )

pub returns-clause-sent : goal.returns-clause-sent
returns-clause-sent c setup can =
    let bare = c.as_mut_slice.ensures.value ∙ c.in_ok-numbers.ensures in
    let now = subst (CanCountEach setup c.args.senders.now c.args.entries.now) (sym bare)
    (bare_each setup c.args.senders.now c.args.entries.now c.args.sent.now can) in
    subst (λ (files : List SentValues). AreCountedAfter setup c.args.entries.now (map without_text c.args.sent.now) files)
    (sym (take_front c.count_each-findings.new.sent _ c.in_ok-numbers.numbers.len
    (omega (arith, c.as_mut_slice.ensures.len, c.count_each-findings.auto.sent))))
    (subst (λ (files : List SentValues). AreCountedAfter setup c.args.entries.now files c.count_each-findings.new.sent) bare
    (c.count_each-findings.ensures.sent setup now))

pub returns-clause-findings : goal.returns-clause-findings
returns-clause-findings c setup can =
    c.count_each-findings.ensures.findings setup
    (subst (CanCountEach setup c.args.senders.now c.args.entries.now) (sym (c.as_mut_slice.ensures.value ∙ c.in_ok-numbers.ensures))
    (bare_each setup c.args.senders.now c.args.entries.now c.args.sent.now can))
