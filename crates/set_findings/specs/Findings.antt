-- X12.5, interchange; X12.6, functional group and transaction set: what was found out at the places of a text's index (own).
use Rattle.std.specs.Prelude.{◌≡◌, List, map, Option}
use Rattle.std.specs.List.{AllZip}
use Rattle.hub_kinds.specs.declared.interchange.InterchangeFault.{InterchangeFault}
use Rattle.hub_kinds.specs.declared.place.Place.{Place}
use Rattle.env_index.specs.Words.{IndexValue, with_faults}
use Rattle.partner_setup.specs.Setup.{SetupValue}
use Rattle.set_answers.specs.Asked.{IsFound, asked_of}
use Rattle.set_check.specs.declared.finding.Finding.{Finding}
use Rattle.worker_pool.specs.Jobs.{job_of}
use Rattle.set_findings.specs.Alone.{AreSettledBy, entries_alone, index_alone}
use Rattle.set_findings.specs.Flags.{IsToldBy}
use Rattle.set_findings.specs.Jobs.{jobs_of}

abbrev pub found_place : Finding → Place
found_place f = f.place

-- what was found out at a place, once it is also said whether an earlier place has the place's number
pub record IsFindingOf (index : IndexValue) (faults : List (Option InterchangeFault)) (old new : Finding) : Type 0 where
  pub checked : new.checked ≡ old.checked
  pub earlier : IsToldBy index faults old.place new.earlier

-- with these faults 1 to 9 of its interchanges, each place of an index was done, and this was found out at each
pub record AreWorkedOut (setup : SetupValue) (index : IndexValue) (faults : List (Option InterchangeFault)) (results : List Finding)
    (findings : List Finding) : Type 0 where
  pub settled : AreSettledBy setup index.entries faults
  pub done : map job_of results ≡ jobs_of index.text setup (entries_alone setup index.entries)
  pub found : AllZip (IsFindingOf (index_alone setup index) faults) results findings

-- all is found out that is asked before the text is answered, where its interchanges have these faults
abbrev pub AreFound : SetupValue → IndexValue → List (Option InterchangeFault) → List Finding → Type 0
AreFound setup index faults findings = AllZip IsFound (asked_of index.text setup (with_faults index.entries faults)) findings
