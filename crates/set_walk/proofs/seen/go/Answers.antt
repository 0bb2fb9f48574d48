use Rattle.std.proofs.Common.{subst}
use Rattle.guide_tree.specs.declared.rows.GuideRows.{GuideRows}
use Rattle.guide_tree.specs.Words.{guide_of, IsWellFormed}
use Rattle.set_walk.proofs.Taking.{sound_turn, slot_turn}
use Rattle.set_walk.proofs.seen.go.Goals as goal

pub looks_faultless-faultless-requires-clause-sound : goal.looks_faultless-faultless-requires-clause-sound
looks_faultless-faultless-requires-clause-sound c =
    let well : IsWellFormed (guide_of c.args.fast.now) =
    subst (λ (rows : GuideRows). IsWellFormed (guide_of rows)) c.guide.ensures c.rows-accepted.ensures.accepted.well_formed in
    sound_turn (guide_of c.args.fast.now) c.args.seen.now.walk.last.items c.args.next.now.turn c.args.seg.now well c.requires.turn

pub looks_faultless-faultless-requires-clause-slot : goal.looks_faultless-faultless-requires-clause-slot
looks_faultless-faultless-requires-clause-slot c =
    slot_turn (guide_of c.args.fast.now) c.args.seen.now.walk.last.items c.args.next.now.turn c.args.seg.now c.requires.turn

pub errors_of-requires-clause-sound : goal.errors_of-requires-clause-sound
errors_of-requires-clause-sound c =
    let well : IsWellFormed (guide_of c.args.fast.now) =
    subst (λ (rows : GuideRows). IsWellFormed (guide_of rows)) c.guide.ensures c.rows-accepted.ensures.accepted.well_formed in
    sound_turn (guide_of c.args.fast.now) c.args.seen.now.walk.last.items c.args.next.now.turn c.args.seg.now well c.requires.turn

pub errors_of-requires-clause-slot : goal.errors_of-requires-clause-slot
errors_of-requires-clause-slot c =
    slot_turn (guide_of c.args.fast.now) c.args.seen.now.walk.last.items c.args.next.now.turn c.args.seg.now c.requires.turn
