use Rattle.std.proofs.Common.{◌∙◌, List, ℕ, ap, codes, get_or, sym}
use Rattle.std.specs.Cmp.Lexicographic.{bytes_decides}
use Rattle.std.specs.Str.{bytes_eq}
use Rattle.night_record.proofs.Sliced.{none, one_first}
use Rattle.night_record.proofs.parts.after_gave_title.Goals as goal

pub returns-in-len1-up : goal.returns-in-len1-up
returns-in-len1-up c =
    let title : List ℕ = (get_or c.args.lines.now 0 none).now in
    one_first c.args.lines.now (codes "[gave]") c.in-len1-up.len_at_least
    ((bytes_decides title (codes "[gave]")).0 (ap (λ (t : List ℕ). bytes_eq title t) (sym c.as_slice.ensures)
    ∙ sym c.eq.ensures ∙ c.if-eq.true))
