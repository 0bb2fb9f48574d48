use Rattle.night_stream.proofs.Going.{system_io, night_starts, night_steps}
use Rattle.night_stream.proofs.Shown.{batch_shown}
use Rattle.night_stream.proofs.laws.nights_go_on.Goals as goal

pub returns-clause-starts : goal.returns-clause-starts
returns-clause-starts c = night_starts

pub returns-clause-steps : goal.returns-clause-steps
returns-clause-steps c = λ before batch behind setup at old new xs chain so_far done.
    night_steps before batch behind setup at old new xs chain so_far done

pub returns-clause-ends : goal.returns-clause-ends
returns-clause-ends c = system_io

pub returns-clause-shown : goal.returns-clause-shown
returns-clause-shown c = λ batch setup at base old index w written read. batch_shown batch setup at base old index w written read
