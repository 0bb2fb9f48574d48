use Rattle.std.proofs.Common.{List, length, ap, sym, subst, ◌∙◌, arith}
use Rattle.set_answers.specs.CheckedText.{SentValues}
use Rattle.set_answers.specs.Counted.{AreContinued}
use Rattle.set_answers.proofs.Putting.{take_front}
use Rattle.set_answers.proofs.halving.both.Goals as goal

pub append_all-requires : goal.append_all-requires
append_all-requires c = c.requires ∙ sym (ap (λ (files : List SentValues). length files) c.as_mut_slice.ensures.value)

pub returns-clause-files : goal.returns-clause-files
returns-clause-files c =
    let more = c.args.second.acknowledgments.items in
    let old = c.args.first.acknowledgments.items in
    let continued = subst (λ (files : List SentValues). AreContinued more files c.append_all.new.files) c.as_mut_slice.ensures.value
    c.in_ok-append_all.ensures in
    subst (λ (files : List SentValues). AreContinued more old files)
    (sym (take_front c.append_all.new.files _ c.args.first.acknowledgments.len
    (omega (arith, c.as_mut_slice.ensures.len, c.append_all.auto.files))))
    continued
