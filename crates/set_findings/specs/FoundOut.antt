-- X12.5, interchange; X12.6, functional group and transaction set: what is found out about a text before it is answered (own).
use Rattle.std.specs.Prelude.{◌≡◌, ◌++◌, ℕ, List}
use Rattle.env_index.specs.Words.{IndexValue, IsIndex, settled}
use Rattle.partner_setup.specs.Setup.{SetupValue}
use Rattle.set_answers.specs.FoundRows.{AreFoundRows}
use Rattle.number_register.specs.SeenNumbers.{HaveSeen}
use Rattle.number_register.specs.declared.seen.Seen.{Seen}
use Rattle.set_answers.specs.Settled.{faults_with, kept_keys, settled_faults}
use Rattle.set_findings.specs.declared.found.FoundText.{FoundText}
use Rattle.set_findings.specs.declared.found.FoundAfter.{FoundAfter}

-- the settled index of a whole text, the senders of its interchanges, and all that is asked of its places
pub record IsFoundOut (text : List ℕ) (setup : SetupValue) (out : FoundText) : Type 0 where
  pub plain : IndexValue
  pub read : IsIndex text plain
  pub index : out.index ≡ settled plain (settled_faults setup plain.entries)
  pub rows : AreFoundRows text setup out.index.entries out.rows

-- the same of a text after interchanges of which these numbers were seen, and the numbers after it
pub record IsFoundAfter (text : List ℕ) (setup : SetupValue) (old : Seen) (out : FoundAfter) : Type 0 where
  pub plain : IndexValue
  pub read : IsIndex text plain
  pub index : (before : List (List ℕ)) → HaveSeen old before → out.index ≡ settled plain (faults_with setup before plain.entries)
  pub rows : AreFoundRows text setup out.index.entries out.rows
  pub seen : (before : List (List ℕ)) → HaveSeen old before → HaveSeen out.numbers (before ++ kept_keys setup plain.entries)
