use Rattle.std.proofs.Common.{ℕ, ◌≤◌, ◌+◌, arith, length}
use Rattle.env_index.specs.Extents.{reach_at}
use Rattle.whole_interchanges.proofs.ForAbove.{end_behind, end_within}
use Rattle.inner_headers.proofs.inner.inner_count.Goals as goal

pub scan_piece-requires-clause-order : goal.scan_piece-requires-clause-order
scan_piece-requires-clause-order c =
    let start : ℕ = c.args.interchange.now.start in
    let room : start + 106 ≤ (reach_at c.args.text.now start).end = end_behind c.args.text.now start c.requires.head in
    omega (arith, room, c.requires.end, c.start.ensures, c.end.ensures)

pub scan_piece-requires-clause-within : goal.scan_piece-requires-clause-within
scan_piece-requires-clause-within c =
    let start : ℕ = c.args.interchange.now.start in
    let inside : (reach_at c.args.text.now start).end ≤ length c.args.text.now = end_within c.args.text.now start c.requires.head in
    omega (arith, inside, c.requires.end, c.end.ensures)
