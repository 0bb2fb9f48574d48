use Rattle.std.proofs.Common.{◌≡◌, ◌+◌, ◌++◌, List, ℕ, get_or, drop, option_map, Some, ap, ◌∙◌, arith, rules}
use Rattle.guide_toml.specs.Entries.{position_of, positions_of}
use Rattle.guide_toml.proofs.PositionSteps.{one_position, one_digit_left}
use Rattle.guide_toml.proofs.entry.positions_of.Goals as goal

pub loop-from-preserved : goal.loop-from-preserved
loop-from-preserved c =
    let ds = c.args.digits.now in
    let e : position_of (get_or ds c.loop-from.from 0) (get_or ds (c.loop-from.from + 1) 0) ≡ Some c.in-Some.position =
    search rules in
    record {
      within = omega arith;
      rest =
          ap (λ (done : List ℕ). option_map (λ ps. done ++ ps) (positions_of (drop (c.loop-from.from + 2) ds)))
          c.in_ok-push-in-Some.ensures.items
          ∙ one_position c.loop-from.positions.items ds c.loop-from.from c.in-Some.position (omega arith) e
          c.loop-from.invariant.rest;
    }

pub returns-then-from-digits : goal.returns-then-from-digits
returns-then-from-digits c =
    one_digit_left c.loop-from.positions.items c.args.digits.now c.loop-from.from (omega arith) (omega arith)
    c.loop-from.invariant.rest
