use Rattle.std.proofs.Common.{List, ℕ, [], ◌++◌, refl, subst}
use Rattle.std.proofs.lemmas.List.{take_all}
use Rattle.elem_rules.specs.Marks.{AreBits}
use Rattle.elem_rules.proofs.Marks.{next_set, unchanged}
use Rattle.elem_rules.proofs.broken.marked_all.Goals as goal

pub loop-position-init : goal.loop-position-init
loop-position-init c listed are = unchanged c.args.bits listed [] refl are

pub loop-position-preserved : goal.loop-position-preserved
loop-position-preserved c listed are =
    let k = c.loop-position.position-index in
    next_set c.loop-position.marks c.marked-marks.result k c.args.positions.now listed c.loop-position-test.true
    (c.requires k 0 c.loop-position-test.true) c.marked-marks.ensures (c.loop-position.invariant listed are)

pub returns : goal.returns
returns c listed are =
    subst (λ (l : List ℕ). AreBits c.loop-position.marks (listed ++ l))
    (take_all c.loop-position.position-index c.args.positions.now c.loop-position-test.false)
    (c.loop-position.invariant listed are)
