use Rattle.night_entries.proofs.Asking.{no_table}
use Rattle.night_entries.proofs.again.again_keys.Goals as goal

pub returns-in-Err-clause-refused : goal.returns-in-Err-clause-refused
returns-in-Err-clause-refused c =
    rw (c.fault_of.ensures) (no_table c.args.bytes.now c.in-Err.fault c.in-Err.ensures.refused)
