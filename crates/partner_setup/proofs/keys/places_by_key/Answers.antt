use Rattle.std.proofs.Common.{◌≡◌, ◌+◌, ◌-◌, ℕ, map, drop, length, subst, arith}
use Rattle.partner_setup.specs.Tables.{KeepsPlaces}
use Rattle.partner_setup.proofs.Tabling.{more_kept}
use Rattle.partner_setup.proofs.keys.places_by_key.Goals as goal

pub loop-behind-preserved : goal.loop-behind-preserved
loop-behind-preserved g c =
    let rows = c.args.rows.now in
    let key = g.T.Kept.key in
    let i : ℕ = length rows - 1 - c.loop-behind.behind in
    let test = c.loop-behind-test.true in
    let next : length rows - c.loop-behind.behind ≡ i + 1 = omega arith in
    let same : i ≡ length rows - (c.loop-behind.behind + 1) = omega arith in
    let kept = subst (λ (n : ℕ). KeepsPlaces c.loop-behind.table n (map key (drop n rows))) next c.loop-behind.invariant in
    subst (λ (n : ℕ). KeepsPlaces c.insert.new.self n (map key (drop n rows))) same
    (more_kept key rows c.loop-behind.table c.insert.new.self c.in_ok-key.key i c.index-rows-i.result (omega arith) c.index-rows-i.is
    c.in_ok-key.ensures c.in_ok-insert.ensures.updates kept)
