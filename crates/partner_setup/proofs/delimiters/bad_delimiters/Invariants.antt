use Rattle.std.proofs.Common.{◌≡◌, drop, is_none}
use Rattle.std.specs.List.{position_from}
use Rattle.partner_setup.specs.SetupFaults.{delims_of}
use Rattle.partner_setup.specs.declared.rows.PartnerRow.{PartnerRow}
use Rattle.partner_setup.proofs.delimiters.bad_delimiters.Given as goal

abbrev pub invariant-loop-i : goal.invariant-loop-i
invariant-loop-i l = position_from (λ (p : PartnerRow). is_none (delims_of p)) l.i (drop l.i l.partners)
    ≡ position_from (λ (p : PartnerRow). is_none (delims_of p)) 0 l.partners
