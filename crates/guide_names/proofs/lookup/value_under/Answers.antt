use Rattle.std.proofs.Common.{◌≡◌, sym}
use Rattle.guide_names.proofs.NoKey.{no_key}
use Rattle.guide_names.proofs.lookup.value_under.Goals as goal

pub returns-in-Err : goal.returns-in-Err
returns-in-Err c = sym (no_key c.args.key.now c.args.table.now.entries c.in-Err.ensures.cases.0)
