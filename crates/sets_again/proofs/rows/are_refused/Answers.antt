use Rattle.std.proofs.Common.{◌∙◌}
use Rattle.csv.specs.Records.{fields_of}
use Rattle.sets_again.specs.Rows.{is_refused}
use Rattle.sets_again.proofs.Walking.{any_mapped}
use Rattle.sets_again.proofs.rows.are_refused.Goals as goal

pub returns : goal.returns
returns c = c.is_some_refused.ensures ∙ any_mapped is_refused fields_of c.args.all.now
