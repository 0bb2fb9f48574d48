-- Own: which refusals of a stream's night come from those who work on it.
use Rattle.night_stream.specs.declared.stopped.Stopped.{Stopped}
use Rattle.night_stream.specs.declared.stopped.Stopped.TheVariants.{Pool, Stream}

abbrev pub IsOfPool : Stopped → Type 0
IsOfPool (Pool fault) = Unit {0}
IsOfPool (Stream fault) = ⊥
