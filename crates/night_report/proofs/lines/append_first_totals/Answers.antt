use Rattle.std.proofs.Common.{List, ℕ, [], ◌∷◌, ◌++◌}
use Rattle.std.specs.Prelude.{codes, decimal}
use Rattle.std.proofs.lemmas.Result.{on_ok_weaker}
use Rattle.night_report.proofs.Spacing.{words_behind}
use Rattle.night_report.proofs.lines.append_first_totals.Goals as goal

pub returns : goal.returns
returns c =
    let t = c.args.totals.now in
    let old : List ℕ = c.args.out.now.items in
    let first : List (List ℕ) = codes "interchanges" ∷ decimal t.interchanges ∷ [] in
    let second : List (List ℕ) = codes "refused" ∷ decimal t.refused ∷ [] in
    let third : List (List ℕ) = codes "groups" ∷ decimal t.groups ∷ [] in
    let two =
    words_behind old c.append_count.new.out.items c.append_count-2.new.out.items first second c.in_ok-append_count.ensures
    c.in_ok-append_count-2.ensures in
    on_ok_weaker c.append_count-3.result
    (words_behind old c.append_count-2.new.out.items c.append_count-3.new.out.items (first ++ second) third two) c.append_count-3.ensures
