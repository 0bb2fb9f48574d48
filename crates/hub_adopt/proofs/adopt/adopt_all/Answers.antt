use Rattle.std.proofs.Common.{◌≡◌, ℕ, arith, inl, inr, length, subst}
use Rattle.std.proofs.lemmas.List.{length-map}
use Rattle.night_marks.specs.declared.mark.NightMark.{NightMark}
use Rattle.hub_folder.specs.Older.{map_now}
use Rattle.hub_adopt.specs.Adopt.{AreAdopted}
use Rattle.hub_adopt.proofs.Adopting.{mark_at, one_more}
use Rattle.hub_adopt.proofs.adopt.adopt_all.Goals as goal
use denote.Ref.{Bor}

pub loop-i-preserved : goal.loop-i-preserved
loop-i-preserved g c =
    let order = c.args.order.now in
    let i : ℕ = c.loop-i.i in
    one_more c.args.adoption.now (map_now order) i c.index-order-i.result.now _ _ _
    (mark_at order i c.index-order-i.result (omega (arith)) c.index-order-i.is) c.loop-i.invariant c.in_ok-adopt_night.ensures.adopted

pub returns-in_err-adopt_night-clause-stopped : goal.returns-in_err-adopt_night-clause-stopped
returns-in_err-adopt_night-clause-stopped g c =
    let order = c.args.order.now in
    let i : ℕ = c.loop-i.i in
    inr (record {
      count = i;
      between = g.S.Shelf.place c.loop-i.shelf;
      adopted = c.loop-i.invariant;
      mark = c.index-order-i.result.now;
      mark_is = mark_at order i c.index-order-i.result (omega (arith)) c.index-order-i.is;
      next = c.adopt_night.ensures.stopped;
    })

pub returns-clause-adopted : goal.returns-clause-adopted
returns-clause-adopted g c =
    let order = c.args.order.now in
    let all : c.loop-i.i ≡ length (map_now order) = omega (arith, length-map order (λ (m : Bor NightMark). m.now)) in
    let old = g.S.Shelf.place c.args.shelf.now in
    subst (λ (n : ℕ). AreAdopted c.args.adoption.now (map_now order) n old (g.S.Shelf.place c.loop-i.shelf)) all c.loop-i.invariant

pub returns-clause-stopped : goal.returns-clause-stopped
returns-clause-stopped g c =
    let order = c.args.order.now in
    let all : c.loop-i.i ≡ length (map_now order) = omega (arith, length-map order (λ (m : Bor NightMark). m.now)) in
    let old = g.S.Shelf.place c.args.shelf.now in
    inl (subst (λ (n : ℕ). AreAdopted c.args.adoption.now (map_now order) n old (g.S.Shelf.place c.loop-i.shelf)) all c.loop-i.invariant)
