use Rattle.std.proofs.Common.{ℕ, List, ◌++◌, ◌∙◌, ap}
use Rattle.std.specs.Prelude.{codes}
use Rattle.std.proofs.lemmas.Result.{on_ok_weaker}
use Rattle.breach_lines.specs.Lines.{named_words, night_words}
use Rattle.breach_lines.proofs.Chain.{three}
use Rattle.breach_lines.proofs.others.append_link_words.Goals as goal

pub returns : goal.returns
returns c =
    let b = c.args.link.now in
    let old : List ℕ = c.args.out.now.items in
    on_ok_weaker c.append_named-2.result
    (three old c.append_night.new.out.items c.append_named.new.out.items c.append_named-2.new.out.items (night_words b.night)
    (codes "from/before names " ++ named_words b.named) (codes ", and the night before it is " ++ named_words b.before)
    (c.in_ok-append_night.ensures ∙ ap (λ (l : List ℕ). old ++ night_words l) c.bytes.ensures) c.in_ok-append_named.ensures)
    c.append_named-2.ensures
