use Rattle.std.proofs.Common.{◌≡◌, ℕ, List, sym, subst, arith, get_or}
use Rattle.night_breaches.proofs.Knowing.{keys_more}
use Rattle.night_breaches.proofs.known.add_keys.Goals as goal

pub loop-i-preserved : goal.loop-i-preserved
loop-i-preserved c =
    let keys : List (List ℕ) = c.args.keys.now in
    keys_more c.args.nights.now c.loop-i.nights c.insert.new.self c.args.name keys c.loop-i.i c.as_slice.result.now (omega (arith))
    (subst (λ (k : List ℕ). k ≡ get_or keys c.loop-i.i k) (sym c.as_slice.ensures) c.index-keys-i.is)
    c.in_ok-insert.ensures.updates c.loop-i.invariant
