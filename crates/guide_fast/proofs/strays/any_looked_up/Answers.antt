use Rattle.std.proofs.Common.{◌≡◌, ℕ, sym, ap, ◌∙◌, arith}
use Rattle.x12_segs.specs.Words.{elements_of}
use Rattle.guide_fast.specs.Keys.{slot_keys}
use Rattle.guide_fast.specs.Slots.{lent_slots}
use Rattle.guide_fast.proofs.Strayed.{any_told, none_told, none_more, some_found, all_told}
use Rattle.guide_fast.proofs.strays.any_looked_up.Goals as goal

pub loop-position-init : goal.loop-position-init
loop-position-init c = none_told (elements_of c.args.seg.now) (lent_slots c.args.slots.now)

pub loop-position-preserved : goal.loop-position-preserved
loop-position-preserved c =
    let slots = lent_slots c.args.slots.now in
    none_more (elements_of c.args.seg.now) slots c.loop-position.position c.text_at.result.now c.places.result.now c.text_at.ensures
    (c.places.ensures (slot_keys slots) c.requires.keys) c.loop-position.invariant (sym c.any_fits.ensures ∙ c.if-any_fits.false)

pub returns-then-any_fits : goal.returns-then-any_fits
returns-then-any_fits c =
    let slots = lent_slots c.args.slots.now in
    some_found (elements_of c.args.seg.now) slots c.loop-position.position c.text_at.result.now c.places.result.now c.text_at.ensures
    (c.places.ensures (slot_keys slots) c.requires.keys) (sym c.any_fits.ensures ∙ c.if-any_fits.true)

pub returns : goal.returns
returns c =
    let s = elements_of c.args.seg.now in
    let slots = lent_slots c.args.slots.now in
    let all : c.loop-position.position ≡ c.args.reach = omega (arith, c.loop-position-test.false, c.loop-position.auto.position-end) in
    sym c.loop-position.invariant ∙ ap (λ (n : ℕ). any_told s n slots) all ∙ all_told s c.args.reach c.args.slots.now c.requires.reach
