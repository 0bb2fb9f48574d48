use Rattle.std.proofs.Common.{ℕ, List, ◌++◌, ◌∙◌, ap, ap₂}
use Rattle.std.proofs.lemmas.Result.{on_ok_weaker}
use Rattle.breach_lines.specs.Lines.{interchange_words, night_words, receipt_words, set_words}
use Rattle.breach_lines.proofs.Chain.{two}
use Rattle.breach_lines.proofs.breaches.append_delivered.Goals as goal

pub returns : goal.returns
returns c =
    let b = c.args.breach.now in
    let old : List ℕ = c.args.out.now.items in
    let between : List ℕ = c.append_night.new.out.items in
    let words : List ℕ → List ℕ → List ℕ = λ key earlier. set_words key ++ (interchange_words key ++ receipt_words key earlier) in
    on_ok_weaker c.append_delivery.result
    (λ adds. two old between c.append_delivery.new.out.items (night_words b.night) (words b.key b.earlier)
    (c.in_ok-append_night.ensures ∙ ap (λ (l : List ℕ). old ++ night_words l) c.bytes.ensures)
    (adds ∙ ap₂ (λ (key earlier : List ℕ). between ++ words key earlier) c.bytes-2.ensures c.bytes-3.ensures))
    c.append_delivery.ensures
