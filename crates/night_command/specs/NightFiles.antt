-- The files of a night (own): for each partner its acknowledgments and its mailbox, then the report and the next counters.
use Rattle.std.specs.Prelude.{◌≡◌, ℕ, List, [], ◌∷◌, ◌++◌, codes, length}
use Rattle.night_batches.specs.declared.night.Night.{Night}
use Rattle.partner_setup.specs.CountersText.{counters_text}
use Rattle.partner_setup.specs.Setup.{SetupValue}
use Rattle.partner_setup.specs.declared.partner.Partner.{Partner}
use Rattle.night_command.specs.Outbox.{File}

-- a partner's files
abbrev pub files_of : Partner → (ack box : List ℕ) → List File
files_of partner ack box = (partner.name ++ codes ".ack", ack) ∷ (partner.name ++ codes ".box", box) ∷ []

-- partner by partner
abbrev pub partner_files : List Partner → (acks boxes : List (List ℕ)) → List File
partner_files [] acks boxes = []
partner_files (p ∷ ps) [] boxes = []
partner_files (p ∷ ps) (a ∷ acks) [] = []
partner_files (p ∷ ps) (a ∷ acks) (b ∷ boxes) = files_of p a b ++ partner_files ps acks boxes

-- the files of the complete night
abbrev pub last_files : (report counters : List ℕ) → List File
last_files report counters = (codes "report.txt", report) ∷ (codes "counters.toml", counters) ∷ []

abbrev pub night_files : SetupValue → Night → List File
night_files setup night =
    partner_files setup.partners night.acks night.boxes ++ last_files night.report (counters_text setup night.next)

-- the night has texts and counters for each partner of the setup
pub record IsForPartners (setup : SetupValue) (night : Night) : Type 0 where
  pub acks : length night.acks ≡ length setup.partners
  pub boxes : length night.boxes ≡ length setup.partners
  pub next : length night.next ≡ length setup.partners
