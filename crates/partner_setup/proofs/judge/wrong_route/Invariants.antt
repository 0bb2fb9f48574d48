use Rattle.std.proofs.Common.{◌≡◌, drop, not, List, map}
use Rattle.std.specs.List.{position_from}
use Rattle.partner_setup.specs.Known.{KnowsPlaces}
use Rattle.partner_setup.specs.SetupFaults.{is_route, name_of_row}
use Rattle.partner_setup.specs.declared.rows.PartnerRow.{PartnerRow}
use Rattle.partner_setup.specs.declared.rows.RouteRow.{RouteRow}
use Rattle.partner_setup.proofs.judge.wrong_route.Given as goal

abbrev pub invariant-loop-i : goal.invariant-loop-i
invariant-loop-i l = (ps : List PartnerRow) → KnowsPlaces l.places 0 (map name_of_row ps)
    → position_from (λ (r : RouteRow). not (is_route ps r)) l.i (drop l.i l.routes)
    ≡ position_from (λ (r : RouteRow). not (is_route ps r)) 0 l.routes
