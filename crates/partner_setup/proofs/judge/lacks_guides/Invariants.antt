use Rattle.std.proofs.Common.{◌≡◌, drop, not}
use Rattle.std.specs.List.{position_from}
use Rattle.partner_setup.specs.SetupFaults.{has_guides}
use Rattle.partner_setup.specs.declared.rows.PartnerRow.{PartnerRow}
use Rattle.partner_setup.proofs.judge.lacks_guides.Given as goal

abbrev pub invariant-loop-i : goal.invariant-loop-i
invariant-loop-i l = position_from (λ (p : PartnerRow). not (has_guides l.guides p)) l.i (drop l.i l.partners)
    ≡ position_from (λ (p : PartnerRow). not (has_guides l.guides p)) 0 l.partners
