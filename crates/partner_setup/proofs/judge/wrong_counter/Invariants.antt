use Rattle.std.proofs.Common.{◌≡◌, drop, not, List, map}
use Rattle.std.specs.List.{position_from}
use Rattle.partner_setup.specs.Known.{KnowsPlaces}
use Rattle.partner_setup.specs.SetupFaults.{counts_for, name_of_row}
use Rattle.partner_setup.specs.declared.rows.PartnerRow.{PartnerRow}
use Rattle.partner_setup.specs.declared.rows.CounterRow.{CounterRow}
use Rattle.partner_setup.proofs.judge.wrong_counter.Given as goal

abbrev pub invariant-loop-i : goal.invariant-loop-i
invariant-loop-i l = (ps : List PartnerRow) → KnowsPlaces l.places 0 (map name_of_row ps)
    → position_from (λ (c : CounterRow). not (counts_for ps c)) l.i (drop l.i l.rows)
    ≡ position_from (λ (c : CounterRow). not (counts_for ps c)) 0 l.rows
