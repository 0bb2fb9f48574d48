use Rattle.std.proofs.Common.{List, ℕ, [], ◌∷◌, ◌++◌, ap, ◌∙◌}
use Rattle.std.specs.Prelude.{codes, decimal}
use Rattle.night_report.specs.Lines.{spaced}
use Rattle.night_report.proofs.Spacing.{words_behind, line_behind}
use Rattle.night_report.proofs.lines.append_total_line.Goals as goal

pub returns : goal.returns
returns c =
    let t = c.args.totals.now in
    let groups : List (List ℕ) =
    codes "interchanges" ∷ decimal t.interchanges ∷ codes "refused" ∷ decimal t.refused ∷ codes "groups" ∷ decimal t.groups ∷ [] in
    let sets : List (List ℕ) =
    codes "sets" ∷ decimal t.sets ∷ codes "accepted" ∷ decimal t.accepted ∷ codes "held" ∷ decimal t.held ∷ [] in
    let outside : List (List ℕ) = codes "outside" ∷ decimal c.args.outside ∷ [] in
    let begun : List ℕ = c.extend_from_slice.new.self.items in
    let both = words_behind begun c.append_first_totals.new.out.items c.append_set_totals.new.out.items groups sets
    c.in_ok-append_first_totals.ensures c.in_ok-append_set_totals.ensures in
    let all = words_behind begun c.append_set_totals.new.out.items c.append_count.new.out.items (groups ++ sets) outside both
    (c.in_ok-append_count.ensures
    ∙ ap (λ (n : ℕ). c.append_set_totals.new.out.items ++ spaced (codes "outside" ∷ decimal n ∷ [])) c.from.ensures) in
    line_behind c.args.out.now.items (codes "total") begun c.append_count.new.out.items c.push.new.self.items
    ((groups ++ sets) ++ outside) c.in_ok-extend_from_slice.ensures.items all c.in_ok-push.ensures.items
