use Rattle.std.proofs.Common.{arith, ◌≡◌, length, ap, ◌∙◌, ℕ}
use Rattle.elem_rules.specs.Clean.{bits_to}
use Rattle.elem_rules.proofs.FlatSlots.{is_needed, needed_more, needed_all}
use Rattle.elem_rules.proofs.flat_slot.must_of.Goals as goal

pub loop-k-preserved : goal.loop-k-preserved
loop-k-preserved c =
    needed_more c.args.rows.now c.loop-k.k c.loop-k.must c.marked-must.result c.index-rows-k.result c.fits_empty.result
    (omega (arith, c.loop-k-test.true)) c.index-rows-k.is c.loop-k.invariant c.fits_empty.ensures c.marked-must.ensures

pub returns : goal.returns
returns c =
    let all : c.loop-k.k ≡ length c.args.rows.now = omega (arith, c.loop-k-test.false, c.loop-k.auto.k-end) in
    needed_all c.args.rows.now c.loop-k.must c.requires
    (c.loop-k.invariant ∙ ap (λ (n : ℕ). bits_to (is_needed c.args.rows.now) n) all)
