use Rattle.std.proofs.Common.{refl, sym, ◌∙◌}
use Rattle.env_index.specs.Words.{places_of}
use Rattle.work_core.specs.Core.{was_recorded}
use Rattle.number_register.proofs.Fullness.{not_all}
use Rattle.number_register.proofs.records.Records.finish.Goals as goal

pub returns-else-is_full-clause-err : goal.returns-else-is_full-clause-err
returns-else-is_full-clause-err c =
    (refl, not_all (was_recorded c.args.self.recorded) (places_of c.args.self.index) (sym c.is_full.ensures ∙ c.if-is_full.false))
