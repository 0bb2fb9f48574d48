-- The faults of a run (own): their numbers.
use Rattle.std.specs.Prelude.{ℕ}
use Rattle.hub_run.specs.declared.run_fault.RunFault.{RunFault}
use Rattle.hub_run.specs.declared.run_fault.RunFault.TheVariants.{InputTooLong, NoMemory, NoThread, Read}
use Rattle.job_pool.specs.declared.task.PoolFault.{PoolFault}
use Rattle.job_pool.specs.declared.task.PoolFault.TheVariants as pool
use Rattle.night_stream.specs.declared.stopped.Stopped.{Stopped}
use Rattle.night_stream.specs.declared.stopped.Stopped.TheVariants.{Pool, Stream}
use Rattle.stream_read.specs.declared.held.StreamFault.TheVariants as stream

abbrev pub run_fault_number : RunFault → ℕ
run_fault_number InputTooLong = 1
run_fault_number NoMemory = 2
run_fault_number NoThread = 3
run_fault_number Read = 4

-- what a pool refuses
abbrev pub pool_refused : PoolFault → RunFault
pool_refused pool.NoMemory = NoMemory
pool_refused pool.NoThread = NoThread

-- what a stream is stopped by
abbrev pub stopped_by : Stopped → RunFault
stopped_by (Stream stream.InputTooLong) = InputTooLong
stopped_by (Stream stream.NoMemory) = NoMemory
stopped_by (Stream stream.Read) = Read
stopped_by (Pool fault) = pool_refused fault
