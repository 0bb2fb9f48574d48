-- Private. What a fault stops a night by: out of memory is never a refusal of a file.
use Rattle.std.specs.Prelude.{ℕ}
use Rattle.guide_toml.specs.declared.fault.GuideFileFault.{GuideFileFault}
use Rattle.guide_toml.specs.declared.fault.GuideFileFault.TheVariants as fault
use Rattle.guide_tree.specs.declared.fault.GuideFault.{GuideFault}
use Rattle.guide_tree.specs.declared.fault.GuideFault.TheVariants as own
use Rattle.hub_run.specs.declared.run_fault.RunFault.{RunFault}
use Rattle.hub_run.specs.declared.run_fault.RunFault.TheVariants as run
use Rattle.toml_keys.specs.declared.file_fault.FileFault.{FileFault}
use Rattle.toml_keys.specs.declared.file_fault.FileFault.TheVariants as file
use Rattle.hub_tonight.specs.declared.stopped.Stopped.{Stopped}
use Rattle.hub_tonight.specs.declared.stopped.Stopped.TheVariants as stopped

abbrev pub own_stopped : (place : ℕ) → GuideFault → Stopped
own_stopped place own.NoMemory = stopped.Memory
own_stopped place own.TooDeep = stopped.Guide place (fault.Guide own.TooDeep)
own_stopped place own.TooMany = stopped.Guide place (fault.Guide own.TooMany)
own_stopped place (own.BadBounds slot) = stopped.Guide place (fault.Guide (own.BadBounds slot))
own_stopped place (own.BadTrigger slot) = stopped.Guide place (fault.Guide (own.BadTrigger slot))
own_stopped place (own.Ambiguous a b) = stopped.Guide place (fault.Guide (own.Ambiguous a b))
own_stopped place (own.BadCondition slot) = stopped.Guide place (fault.Guide (own.BadCondition slot))

abbrev pub guide_stopped : (place : ℕ) → GuideFileFault → Stopped
guide_stopped place fault.NotToml = stopped.Guide place fault.NotToml
guide_stopped place (fault.Missing key slot) = stopped.Guide place (fault.Missing key slot)
guide_stopped place (fault.WrongKind key slot) = stopped.Guide place (fault.WrongKind key slot)
guide_stopped place (fault.Unknown key slot) = stopped.Guide place (fault.Unknown key slot)
guide_stopped place (fault.Guide refused) = own_stopped place refused
guide_stopped place fault.NoMemory = stopped.Memory

abbrev pub setup_stopped : FileFault → Stopped
setup_stopped file.NoMemory = stopped.Memory
setup_stopped file.NotToml = stopped.SetupFile file.NotToml
setup_stopped (file.Missing key) = stopped.SetupFile (file.Missing key)
setup_stopped (file.WrongKind key) = stopped.SetupFile (file.WrongKind key)
setup_stopped (file.Unknown key) = stopped.SetupFile (file.Unknown key)

abbrev pub first_stopped : FileFault → Stopped
first_stopped file.NoMemory = stopped.Memory
first_stopped file.NotToml = stopped.FirstCounters file.NotToml
first_stopped (file.Missing key) = stopped.FirstCounters (file.Missing key)
first_stopped (file.WrongKind key) = stopped.FirstCounters (file.WrongKind key)
first_stopped (file.Unknown key) = stopped.FirstCounters (file.Unknown key)

-- what a run is stopped by; one of a text in memory has no reader that could fail
abbrev pub run_stopped : RunFault → Stopped
run_stopped run.InputTooLong = stopped.InputTooLong
run_stopped run.NoMemory = stopped.Memory
run_stopped run.NoThread = stopped.Thread
run_stopped run.Read = stopped.Memory
