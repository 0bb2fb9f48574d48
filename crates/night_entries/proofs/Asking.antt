-- Why the sets that a night was asked for again aren't read.
use Rattle.std.proofs.Common.{◌≢◌, ℕ, List, [], ◌∷◌, refl}
use Rattle.night_record.specs.Again.{again_columns}
use Rattle.night_record.specs.Again as table
use Rattle.night_record.specs.Tables.{HasNoColumns}
use Rattle.night_record.specs.declared.fault.TableFault.{TableFault}
use Rattle.night_record.specs.declared.fault.TableFault.TheVariants as fault
use Rattle.night_entries.specs.Again.{IsNoTable}
use Rattle.night_entries.specs.ReadFault.{IsAgainFault, again_fault}

no_columns : (bytes : List ℕ) → bytes ≢ [] → HasNoColumns again_columns bytes → IsNoTable bytes
no_columns bytes some none [] is = some is
no_columns bytes some none (s ∷ ss) is = none _ is

pub no_table : (bytes : List ℕ) (f : TableFault) → table.IsAgainFault bytes f → IsAgainFault bytes (again_fault f)
no_table bytes fault.Memory is = tt
no_table bytes fault.Columns is = (refl, no_columns bytes is.0 is.1)
no_table bytes fault.Rows is = (refl, is.1)
no_table bytes fault.Order is = absurd is
