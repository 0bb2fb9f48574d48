use Rattle.night_law.proofs.PlainReferences.{plain_quoted}
use Rattle.night_law.proofs.laws.plain_references_are_quoted.Goals as goal

pub returns : goal.returns
returns c = plain_quoted
