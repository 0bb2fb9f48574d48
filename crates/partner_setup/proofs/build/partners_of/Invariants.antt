use Rattle.std.proofs.Common.{◌≡◌, map}
use Rattle.partner_setup.specs.Setup.{partner_of}
use Rattle.partner_setup.proofs.build.partners_of.Given as goal

abbrev pub invariant-loop-row : goal.invariant-loop-row
invariant-loop-row l = l.partners.items ≡ map (partner_of l.counter_rows l.guides) l.yielded
