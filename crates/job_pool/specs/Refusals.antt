-- The refusals of a pool of workers (own): their numbers.
use Rattle.std.specs.Prelude.{ℕ}
use Rattle.job_pool.specs.declared.task.PoolFault.{PoolFault}
use Rattle.job_pool.specs.declared.task.PoolFault.TheVariants.{NoMemory, NoThread}

abbrev pub pool_fault_number : PoolFault → ℕ
pool_fault_number NoMemory = 1
pool_fault_number NoThread = 2
