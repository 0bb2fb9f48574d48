use Rattle.std.proofs.Common.{◌≡◌, ◌+◌, ◌-◌, ℕ, map, drop, length, subst, arith}
use Rattle.partner_setup.specs.Tables.{KeepsPlaces}
use Rattle.set_findings.specs.Keys.{key_at}
use Rattle.set_findings.proofs.Tabled.{one_kept}
use Rattle.set_findings.proofs.table.table_of.Goals as goal

pub loop-behind-preserved : goal.loop-behind-preserved
loop-behind-preserved c =
    let places = c.args.places.now in
    let key = key_at c.args.guides.now in
    let i : ℕ = length places - 1 - c.loop-behind.behind in
    let test = c.loop-behind-test.true in
    let next : length places - c.loop-behind.behind ≡ i + 1 = omega arith in
    let same : i ≡ length places - (c.loop-behind.behind + 1) = omega arith in
    let kept = subst (λ (n : ℕ). KeepsPlaces c.loop-behind.table n (map key (drop n places))) next c.loop-behind.invariant in
    subst (λ (n : ℕ). KeepsPlaces c.insert.new.self n (map key (drop n places))) same
    (one_kept c.args.guides.now places c.loop-behind.table c.insert.new.self c.in_ok-key.key i _ (omega arith) c.in_ok-key.ensures
    c.in_ok-insert.ensures.updates kept)
