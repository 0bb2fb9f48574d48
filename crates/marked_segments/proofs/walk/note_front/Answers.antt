use Rattle.std.proofs.Common.{ℕ, ◌-◌, ◌++◌, List, take, refl, sym, ap, ◌∙◌, arith}
use Rattle.std.proofs.Math.ListN.{length-set}
use Rattle.std.proofs.lemmas.Nat.{and_le_r}
use Rattle.std.proofs.lemmas.List.{append-nil}
use Rattle.memchr.specs.Find.{is_byte}
use Rattle.marked_segments.specs.Marks.{is_odd}
use Rattle.marked_segments.proofs.BitLemmas.{set_bits, set_bits-zero, lowest_noted, places_by_mask}
use Rattle.marked_segments.proofs.MaskLemmas.{none_in_mask}
use Rattle.marked_segments.proofs.walk.note_front.Goals as goal

pub loop-seps-init : goal.loop-seps-init
loop-seps-init c = (
  c.requires.room,
  refl,
  refl,
  λ plain. places_by_mask (is_byte c.args.delims.element) c.args.stretch.now c.args.from c.args.first c.args.front.end c.args.front.seps
      (take c.args.walk.now.count c.args.walk.now.separators.items) c.requires.mask c.requires.low (c.requires.read plain),
)

pub loop-seps-preserved : goal.loop-seps-preserved
loop-seps-preserved c =
    let inv = c.loop-seps.invariant in
    let room = c.if-walk-len.false in
    let long = c.len.ensures in (
      omega (arith, room, long, length-set {A = ℕ}),
      inv.1,
      inv.2,
      λ plain. lowest_noted c.loop-seps.walk.separators.items c.loop-seps.walk.count (c.args.first - c.args.from) c.loop-seps.seps
          (omega (arith, room, long)) c.loop-seps-test.true c.loop-seps.auto.seps-fits.fits
          ∙ inv.3 plain,
    )

pub loop-seps-smaller : goal.loop-seps-smaller
loop-seps-smaller c = omega (arith, c.loop-seps-test.true, and_le_r c.loop-seps.seps (c.loop-seps.seps - 1))

pub returns-clause-read : goal.returns-clause-read
returns-clause-read c plain =
    let items = take c.loop-seps.walk.count c.loop-seps.walk.separators.items in
    let base = c.args.first - c.args.from in
    sym (ap (λ (l : List ℕ). items ++ l) (ap (set_bits 64 base) c.loop-seps-test.false ∙ set_bits-zero 64 base) ∙ append-nil items)
    ∙ c.loop-seps.invariant.3 plain

pub returns-clause-even : goal.returns-clause-even
returns-clause-even c plain =
    none_in_mask (is_odd c.args.delims) c.args.stretch.now c.args.first c.args.front.end c.args.front.odds c.requires.odd
    c.if-front-ne0.false
