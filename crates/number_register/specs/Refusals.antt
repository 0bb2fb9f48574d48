-- The refusals of a record of a number (own): their numbers.
use Rattle.std.specs.Prelude.{ℕ}
use Rattle.number_register.specs.declared.fault.RecordFault.{RecordFault}
use Rattle.number_register.specs.declared.fault.RecordFault.TheVariants.{NoMemory, Already}

abbrev pub record_fault_number : RecordFault → ℕ
record_fault_number NoMemory = 1
record_fault_number Already = 2
