use Rattle.std.proofs.Common.{◌∙◌, ◌++◌, ap, codes}
use Rattle.std.proofs.lemmas.Result.{on_ok_weaker}
use Rattle.record_chain.specs.Lines.{after_words, night_words}
use Rattle.record_chain.proofs.Appended.{three}
use Rattle.record_chain.proofs.lines.append_late.Goals as goal

pub returns : goal.returns
returns c =
    let b = c.args.other.now in
    let one = c.append_text.new.out.items in
    on_ok_weaker c.append_after.result (λ adds. three c.args.out.now.items one c.append_night.new.out.items c.append_after.new.out.items
    (codes "night ") (night_words b.number b.name) (after_words b) c.in_ok-append_text.ensures
    (c.in_ok-append_night.ensures ∙ ap (λ l. one ++ night_words b.number l) c.bytes.ensures) adds) c.append_after.ensures
