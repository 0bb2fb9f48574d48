-- The files that a night is made of, and those that it gives (own).
use Rattle.std.specs.Prelude.{◌≡◌, ℕ, List, [], ◌∷◌, ◌++◌, Some, codes}
use Rattle.std.specs.List.{AllZip}
use Rattle.guide_toml.specs.FileBytes.{IsGuideOf}
use Rattle.guide_tree.specs.declared.rows.GuideRows.{GuideRows}
use Rattle.hub_kinds.specs.declared.counters.Counters.{Counters}
use Rattle.night_command.specs.Outbox.{File}
use Rattle.night_entries.specs.Entry.{AreCounters}
use Rattle.night_record.specs.declared.addresses.AddressNext.{AddressNext}
use Rattle.night_shelf.specs.declared.night.NightFile.{NightFile}
use Rattle.partner_setup.specs.declared.partner.Partner.{Partner}
use Rattle.partner_setup.specs.declared.rows.CounterRow.{CounterRow}

abbrev pub bytes_of : NightFile → List ℕ
bytes_of file = file.bytes

-- the guides of guide files, in their order
abbrev pub AreGuides : List NightFile → List GuideRows → Type 0
AreGuides files guides = AllZip (λ (file : NightFile) guide. IsGuideOf (Some file.bytes) guide) files guides

-- the rows of a first counters file; no bytes mean that there is none
abbrev pub AreFirst : (bytes : List ℕ) → List CounterRow → Type 0
AreFirst [] rows = rows ≡ []
AreFirst (byte ∷ bytes) rows = AreCounters (byte ∷ bytes) rows

-- a file of the run, in the folder of what a night gives
abbrev pub out_file : File → NightFile
out_file file = record { name = codes "out/" ++ file.0; bytes = file.1 }

-- what comes next for the address of each partner
abbrev pub next_rows : List Partner → List Counters → List AddressNext
next_rows [] next = []
next_rows (p ∷ ps) [] = []
next_rows (p ∷ ps) (c ∷ next) = record { qualifier = p.qualifier; id = p.id; next = c } ∷ next_rows ps next
