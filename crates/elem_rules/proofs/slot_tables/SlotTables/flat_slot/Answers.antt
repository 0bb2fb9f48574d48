use Rattle.std.proofs.Common.{ℕ, ◌<◌, subst, sym}
use Rattle.elem_rules.proofs.Standing.{flat_stands}
use Rattle.elem_rules.proofs.slot_tables.SlotTables.flat_slot.Goals as goal

pub index-requires : goal.index-requires
index-requires c =
    subst (λ (n : ℕ). c.args.slot.now.number < n) (sym c.self.inside.slots.ok.0)
    (flat_stands c.self.inside.guide.now c.args.self.now c.self.inside.slots.items c.args.slot.now c.self.view_is
    c.rows-accepted.ensures.accepted.numbered c.requires c.self.invariant).0

pub returns : goal.returns
returns c =
    (flat_stands c.self.inside.guide.now c.args.self.now c.self.inside.slots.items c.args.slot.now c.self.view_is
    c.rows-accepted.ensures.accepted.numbered c.requires c.self.invariant).1 c.index.result.now c.index.ensures
