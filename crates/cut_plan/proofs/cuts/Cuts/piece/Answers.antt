use Rattle.std.proofs.Common.{ℕ, List, ap, sym, ◌∙◌, arith}
use Rattle.std.specs.Prelude.{slice_get}
use Rattle.cut_plan.specs.Plan.{Plan, pieces_from}
use Rattle.cut_plan.proofs.Pieces.{piece_within}
use Rattle.cut_plan.proofs.cuts.Cuts.piece.Goals as goal

pub returns-clause-order : goal.returns-clause-order
returns-clause-order c =
    let ends = piece_within 0 c.self.inside.places.items c.self.inside.text_len c.args.index c.piece_in.result (omega arith)
    c.self.invariant.rises c.self.invariant.inside
    (ap (λ (ps : List ℕ). slice_get (pieces_from 0 ps c.self.inside.text_len) c.args.index) (sym c.as_slice.ensures.value)
    ∙ c.piece_in.ensures) in
    ends.0

pub returns-clause-within : goal.returns-clause-within
returns-clause-within c =
    let ends = piece_within 0 c.self.inside.places.items c.self.inside.text_len c.args.index c.piece_in.result (omega arith)
    c.self.invariant.rises c.self.invariant.inside
    (ap (λ (ps : List ℕ). slice_get (pieces_from 0 ps c.self.inside.text_len) c.args.index) (sym c.as_slice.ensures.value)
    ∙ c.piece_in.ensures) in
    let same = ap (λ (p : Plan). p.text_len) c.self.view_is in
    omega (arith, ends.1, same)
