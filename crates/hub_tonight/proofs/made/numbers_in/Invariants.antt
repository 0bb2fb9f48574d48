use Rattle.std.proofs.Common.{◌≡◌, map, take}
use Rattle.partner_setup.specs.declared.rows.CounterRow.{CounterRow}
use Rattle.hub_tonight.proofs.made.numbers_in.Given as goal

abbrev pub invariant-loop-i : goal.invariant-loop-i
invariant-loop-i l = l.list.items ≡ map (λ (row : CounterRow). row.counters) (take l.i l.rows)
