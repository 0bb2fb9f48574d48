-- Own: what a night is worked on by.
use Rattle.std.specs.Prelude.{◌≤◌}
use Rattle.night_stream.specs.declared.crew.Crew.{Crew}

-- 1 to 64 workers, and pieces that aren't empty
pub record IsReady {R G : Type 0} (crew : Crew R G) : Type 0 where
  pub some : 1 ≤ crew.workers
  pub few : crew.workers ≤ 64
  pub piece : 1 ≤ crew.piece
