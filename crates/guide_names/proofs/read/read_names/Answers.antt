use Rattle.std.proofs.Common.{◌≡◌, ◌∙◌, None, Some, Ok, Err, IfErr, IfOk, Result, ℕ, List, sym, ap, refl}
use Rattle.toml.specs.Data.{Members}
use Rattle.toml.specs.Parse.{parse_document}
use Rattle.toml.specs.View.{table_view}
use Rattle.guide_names.specs.Names.{Words, words_of}
use Rattle.guide_names.specs.Refusals as refusals
use Rattle.guide_names.specs.declared.fault.NamesFault.{NamesFault}
use Rattle.guide_names.specs.declared.fault.NamesFault.TheVariants as fault
use Rattle.guide_names.proofs.Written.{none_written, written}
use Rattle.guide_names.proofs.read.read_names.Goals as goal

taken : (bytes : List ℕ) (table : Members) (result : Result Words NamesFault) → refusals.written_table bytes ≡ Some table
    → IfOk result (λ words. words ≡ words_of table) → IfOk result (λ words. refusals.refused_in table ≡ None)
    → IfOk result (refusals.AreNamesOf bytes)
taken bytes table (Ok words) is words_are known =
    record { table = table; written = is; known = known; words_are = words_are }
taken bytes table (Err f) is words_are known = tt

fault_is : (bytes : List ℕ) (table : Members) (f : NamesFault) → refusals.written_table bytes ≡ Some table → refusals.IsFaultOf table f
    → refusals.IsNamesFaultOf bytes f
fault_is bytes table fault.NotToml is h = absurd h
fault_is bytes table (fault.Key refused) is h = record { table = table; written = is; first = h }
fault_is bytes table fault.NoMemory is h = tt

refused : (bytes : List ℕ) (table : Members) (result : Result Words NamesFault) → refusals.written_table bytes ≡ Some table
    → IfErr result (refusals.IsFaultOf table) → IfErr result (refusals.IsNamesFaultOf bytes)
refused bytes table (Ok words) is h = tt
refused bytes table (Err f) is h = fault_is bytes table f is h

pub returns-in_default-clause-refused : goal.returns-in_default-clause-refused
returns-in_default-clause-refused c = none_written c.args.bytes.now c.in_default.ensures.cases.0

pub returns-in-Ok-table_from_str-clause-names : goal.returns-in-Ok-table_from_str-clause-names
returns-in-Ok-table_from_str-clause-names c =
    taken c.args.bytes.now (table_view c.in-Ok-table_from_str.table) c.names_of.result
    (written c.args.bytes.now c.in-Ok.ensures.cases.1 ∙ ap parse_document (sym c.in-Ok.ensures.cases.0) ∙ c.in-Ok-table_from_str.ensures.ok)
    c.names_of.ensures.names c.names_of.ensures.known

pub returns-in-Ok-table_from_str-clause-refused : goal.returns-in-Ok-table_from_str-clause-refused
returns-in-Ok-table_from_str-clause-refused c =
    refused c.args.bytes.now (table_view c.in-Ok-table_from_str.table) c.names_of.result
    (written c.args.bytes.now c.in-Ok.ensures.cases.1 ∙ ap parse_document (sym c.in-Ok.ensures.cases.0) ∙ c.in-Ok-table_from_str.ensures.ok)
    c.names_of.ensures.refused
