use Rattle.std.proofs.Common.{ℕ, List, [], ◌+◌, arith, get_or, take}
use Rattle.std.specs.Borrow.{Bor}
use Rattle.night_search.specs.Lines.{read}
use Rattle.night_search.proofs.ForAbove.{lines_more}
use Rattle.night_page.specs.Tags.{head_cell}
use Rattle.night_page.proofs.Growing.{taken_at}
use Rattle.night_page.proofs.tags.append_head_cells.Goals as goal

pub loop-i-preserved : goal.loop-i-preserved
loop-i-preserved c =
    let names : List (Bor (List ℕ)) = c.args.names.now in
    let d : Bor (List ℕ) = record { ref_ptr = (0, 0); now = [] } in
    let i = c.loop-i.i in
    lines_more head_cell (read (take i names)) (read (take (i + 1) names)) (get_or names i d).now c.args.out.now.items c.loop-i.out.items
    c.append_head_cell.new.out.items (taken_at (λ (n : Bor (List ℕ)). n.now) names i d (omega (arith)))
    c.loop-i.invariant c.in_ok-append_head_cell.ensures
