-- Own: an index for where a name is wanted and none is picked. Private.
use Rattle.std.specs.Prelude.{[]}
use Rattle.env_index.specs.Words.{IndexValue}

abbrev pub no_index : IndexValue
no_index = record { text = []; entries = []; outside = 0 }
