use Rattle.files_law.proofs.TableRows.{rows_of_sets}
use Rattle.files_law.proofs.track_laws.rows_are_of_sets.Goals as goal

pub returns : goal.returns
returns c = rows_of_sets
