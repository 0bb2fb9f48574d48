use Rattle.std.proofs.Common.{◌≡◌, ℕ, List, subst, arith}
use Rattle.std.specs.Prelude.{IfOk}
use Rattle.std.proofs.lemmas.List.{length-map}
use Rattle.isa_scan.specs.Heads.{heads_in}
use Rattle.cut_plan.proofs.ForAbove.{length-pieces}
use Rattle.trial_cuts.proofs.pieces.heads_of_pieces.Goals as goal

pub gather-requires : goal.gather-requires
gather-requires c =
    let ps = length-pieces 0 c.args.cuts.now.places c.args.cuts.now.text_len in
    rw (c.in_ok-list.ensures.list, length-map, ps) (omega arith)

pub returns : goal.returns
returns c =
    let text : List ℕ = c.args.text.now in
    subst (λ n. IfOk c.gather.result (λ heads. heads ≡ heads_in text 0 n)) c.requires
    (c.gather.ensures tt text c.args.cuts.now (c.in_ok-list.ensures.plan) (omega (arith, c.requires)) (c.in_ok-list.ensures.list))
