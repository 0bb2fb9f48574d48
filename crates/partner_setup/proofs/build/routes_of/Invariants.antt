use Rattle.std.proofs.Common.{◌≡◌, map}
use Rattle.partner_setup.specs.Setup.{route_by}
use Rattle.partner_setup.proofs.build.routes_of.Given as goal

abbrev pub invariant-loop-row : goal.invariant-loop-row
invariant-loop-row l = l.routes.items ≡ map (route_by l.partners) l.yielded
