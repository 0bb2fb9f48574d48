use Rattle.std.proofs.Common.{◌∙◌, ◌++◌, ap, codes}
use Rattle.std.proofs.lemmas.Result.{on_ok_weaker}
use Rattle.record_chain.specs.Lines.{fault_words}
use Rattle.record_chain.proofs.Appended.{three}
use Rattle.record_chain.proofs.lines.append_wrong.Goals as goal

pub returns : goal.returns
returns c =
    let b = c.args.file.now in
    let one = c.append_text.new.out.items in
    let two = c.extend_from_slice.new.self.items in
    on_ok_weaker c.append_text-2.result (λ adds. three c.args.out.now.items one two c.append_text-2.new.out.items
    (codes " isn't what its record says: ") b.file (fault_words b.fault) c.in_ok-append_text.ensures
    (c.in_ok-extend_from_slice.ensures.items ∙ ap (λ l. one ++ l) c.bytes.ensures) (adds ∙ ap (λ l. two ++ l) c.fault_words.ensures))
    c.append_text-2.ensures
