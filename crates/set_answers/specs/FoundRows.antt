-- X12.5, interchange sender; X12.6, functional group and transaction set: what is found out about interchanges before they are answered
-- (own).
use Rattle.std.specs.Prelude.{◌≡◌, ℕ, List}
use Rattle.std.specs.List.{AllZip}
use Rattle.env_index.specs.Words.{IndexEntry}
use Rattle.partner_setup.specs.Setup.{SetupValue}
use Rattle.set_answers.specs.Asked.{IsFound, asked_of}
use Rattle.set_answers.specs.Settled.{senders_of}
use Rattle.set_answers.specs.declared.rows.FoundRows.{FoundRows}

-- the sender of each, and what is asked at each of their places
pub record AreFoundRows (text : List ℕ) (setup : SetupValue) (es : List IndexEntry) (rows : FoundRows) : Type 0 where
  pub senders : rows.senders.items ≡ senders_of setup es
  pub findings : AllZip IsFound (asked_of text setup es) rows.findings.items
