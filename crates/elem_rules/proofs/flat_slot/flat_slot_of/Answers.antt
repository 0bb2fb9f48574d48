use Rattle.std.proofs.Common.{length, refl}
use Rattle.elem_rules.proofs.Bounded.{rows_few}
use Rattle.elem_rules.proofs.FlatSlots.{named_once}
use Rattle.elem_rules.proofs.Marks.{few_listed, rows_listed}
use Rattle.elem_rules.proofs.flat_slot.flat_slot_of.Goals as goal

pub flat_conditions_of-requires-clause-few : goal.flat_conditions_of-requires-clause-few
flat_conditions_of-requires-clause-few c =
    let slot = c.args.slot.now in
    rw c.as_slice.ensures
    (few_listed (length slot.elements) slot.conditions (rows_few slot c.requires.bounded)
    (rows_listed slot slot.elements slot.conditions refl refl c.requires.conditioned))

pub flat_conditions_of-requires-clause-distinct : goal.flat_conditions_of-requires-clause-distinct
flat_conditions_of-requires-clause-distinct c =
    rw c.as_slice.ensures (named_once c.args.slot.now c.requires.conditioned)

pub must_of-requires : goal.must_of-requires
must_of-requires c = rw c.as_slice-elements.ensures (rows_few c.args.slot.now c.requires.bounded)
