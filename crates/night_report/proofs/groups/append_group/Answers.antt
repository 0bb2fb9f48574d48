use Rattle.std.proofs.Common.{◌∙◌, ◌++◌, List, ℕ, ap, length, arith, append_assoc}
use Rattle.std.specs.List.{flat_map}
use Rattle.env_index.specs.Words.{GroupEntry}
use Rattle.answered_sets.specs.Judged.{standing_at}
use Rattle.answered_sets.specs.declared.standing.GroupStanding.{GroupStanding}
use Rattle.night_report.specs.Adding.{shown_at, totals_with}
use Rattle.night_report.specs.Report.{ShownGroup, group_line, held_lines, placed_sets_in}
use Rattle.night_report.proofs.groups.append_group.Goals as goal

pub returns-clause-text : goal.returns-clause-text
returns-clause-text c =
    let x = c.args.interchange.now in
    let g : ShownGroup = shown_at x c.args.n in
    let line : List ℕ → List ℕ = λ text. text ++ flat_map (held_lines c.args.setup.now) (placed_sets_in g) in
    c.in_ok-held.ensures.text g c.requires.outcomes
    ∙ ap line (c.in_ok-append_group_line.ensures.text
    ∙ ap (λ (group : GroupEntry). c.args.out.now.items ++ group_line group (standing_at c.standings.result.now c.args.n))
    c.group_at-group.ensures
    ∙ ap (λ (standings : List GroupStanding). c.args.out.now.items ++ group_line g.group (standing_at standings c.args.n))
    c.standings.ensures)
    ∙ append_assoc c.args.out.now.items (group_line g.group g.standing) (flat_map (held_lines c.args.setup.now) (placed_sets_in g))

pub returns-clause-totals : goal.returns-clause-totals
returns-clause-totals c =
    let g : ShownGroup = shown_at c.args.interchange.now c.args.n in
    c.group_totals.ensures.value
    ∙ ap (λ (group : GroupEntry). totals_with group (standing_at c.standings-2.result.now c.args.n) c.in_ok-held.held)
    c.group_at-group.ensures
    ∙ ap (λ (standings : List GroupStanding). totals_with g.group (standing_at standings c.args.n) c.in_ok-held.held) c.standings-2.ensures
    ∙ ap (totals_with g.group g.standing) (c.in_ok-held.ensures.held g c.requires.outcomes)

pub returns-clause-room : goal.returns-clause-room
returns-clause-room c =
    c.group_totals.ensures.room (length c.args.out.now.items) (length c.append_held_of_group.new.out.items)
    (omega (arith, c.in_ok-append_group_line.ensures.room, c.in_ok-held.ensures.room))
