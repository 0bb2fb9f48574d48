use Rattle.std.proofs.Common.{◌≡◌, ◌+◌, ◌-◌, ℕ, map, drop, length, subst, arith}
use Rattle.partner_setup.specs.Known.{KnowsPlaces}
use Rattle.partner_setup.proofs.Naming.{more_behind}
use Rattle.partner_setup.proofs.names.places_by_name.Goals as goal

pub loop-behind-preserved : goal.loop-behind-preserved
loop-behind-preserved g c =
    let rows = c.args.rows.now in
    let name = g.T.Named.name in
    let i : ℕ = length rows - 1 - c.loop-behind.behind in
    let test = c.loop-behind-test.true in
    let next : length rows - c.loop-behind.behind ≡ i + 1 = omega arith in
    let same : i ≡ length rows - (c.loop-behind.behind + 1) = omega arith in
    let known = subst (λ (n : ℕ). KnowsPlaces c.loop-behind.places n (map name (drop n rows))) next c.loop-behind.invariant in
    subst (λ (n : ℕ). KnowsPlaces c.insert.new.self n (map name (drop n rows))) same
    (more_behind name rows c.loop-behind.places c.insert.new.self c.name.result i c.index-rows-i.result (omega arith) c.index-rows-i.is
    c.name.ensures c.in_ok-insert.ensures.updates.0 known)
