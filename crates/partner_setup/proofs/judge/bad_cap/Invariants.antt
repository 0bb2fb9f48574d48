use Rattle.std.proofs.Common.{◌≡◌, drop, not}
use Rattle.std.specs.List.{position_from}
use Rattle.partner_setup.specs.SetupFaults.{is_cap}
use Rattle.partner_setup.specs.declared.rows.PartnerRow.{PartnerRow}
use Rattle.partner_setup.proofs.judge.bad_cap.Given as goal

abbrev pub invariant-loop-i : goal.invariant-loop-i
invariant-loop-i l = position_from (λ (p : PartnerRow). not (is_cap p.cap)) l.i (drop l.i l.partners)
    ≡ position_from (λ (p : PartnerRow). not (is_cap p.cap)) 0 l.partners
