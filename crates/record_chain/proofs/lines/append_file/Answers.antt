use Rattle.std.proofs.Common.{◌∙◌, ◌++◌, ap, codes}
use Rattle.std.proofs.lemmas.Result.{on_ok_weaker}
use Rattle.record_chain.specs.Lines.{night_words, wrong_words}
use Rattle.record_chain.proofs.Appended.{three}
use Rattle.record_chain.proofs.lines.append_file.Goals as goal

pub returns : goal.returns
returns c =
    let b = c.args.file.now in
    let one = c.append_text.new.out.items in
    on_ok_weaker c.append_wrong.result (λ adds. three c.args.out.now.items one c.append_night.new.out.items c.append_wrong.new.out.items
    (codes "night ") (night_words b.number b.name) (wrong_words b) c.in_ok-append_text.ensures
    (c.in_ok-append_night.ensures ∙ ap (λ l. one ++ night_words b.number l) c.bytes.ensures) adds) c.append_wrong.ensures
