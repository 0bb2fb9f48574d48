use Rattle.std.proofs.Common.{◌≡◌, ◌∙◌, List, ℕ, [], ap, codes, get_or, length, sym}
use Rattle.std.specs.Cmp.Lexicographic.{bytes_decides}
use Rattle.std.specs.Str.{bytes_eq}
use Rattle.std.proofs.lemmas.Bool.{eqb-true}
use Rattle.night_record.proofs.Sliced.{no_bytes, none, two_first}
use Rattle.night_record.proofs.parts.after_made_of_title.Goals as goal

pub returns-in-len2-up : goal.returns-in-len2-up
returns-in-len2-up c =
    let blank : List ℕ = (get_or c.args.lines.now 0 none).now in
    let title : List ℕ = (get_or c.args.lines.now 1 none).now in
    let empty : length blank ≡ 0 = eqb-true (length blank) 0 (sym c.is_empty.ensures ∙ c.if-is_empty.true) in
    two_first c.args.lines.now [] (codes "[made_of]") c.in-len2-up.len_at_least (no_bytes blank empty)
    ((bytes_decides title (codes "[made_of]")).0 (ap (λ (t : List ℕ). bytes_eq title t) (sym c.as_slice.ensures)
    ∙ sym c.eq.ensures ∙ c.if-eq.true))
