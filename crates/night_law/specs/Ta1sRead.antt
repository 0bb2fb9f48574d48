-- X12.5, interchange acknowledgment (TA1): what a partner reads in the acknowledgments of a night is a TA1 for each of its interchanges
-- that is answered, and no other.
use Rattle.std.specs.Prelude.{◌≡◌, ℕ, List, [], ◌∷◌, Option, Some, None, filter}
use Rattle.std.specs.List.{flat_map}
use Rattle.x12_bytes.specs.Header.{field_of}
pub use Rattle.ack_read.specs.Ta1s.{Ta1, ta1s_of, ta1s_among, ta1s_in}
use Rattle.hub_kinds.specs.Words.{acknowledgment_code}
use Rattle.env_index.specs.Words.{IndexEntry, IndexValue, IsIndex}
use Rattle.partner_setup.specs.declared.partner.Partner.{Partner}
use Rattle.partner_setup.specs.Setup.{SetupValue}
use Rattle.set_answers.specs.Pairs.{AreAllPairs}
use Rattle.set_answers.specs.Settled.{settled_entries}
use Rattle.night_law.specs.Quotable.{AreQuotable}
use Rattle.night_law.specs.Told.{is_from, note_to}

-- that of an interchange with this header, if it is answered with a note: ISA13, ISA09 and ISA10, the code of the note, and the note
abbrev pub ta1s_by : (header : List ℕ) → (note : Option (List ℕ)) → List Ta1
ta1s_by header None = []
ta1s_by header (Some note) = record {
  control = field_of header 13;
  date = field_of header 9;
  time = field_of header 10;
  code = acknowledgment_code note;
  note = note;
} ∷ []

abbrev pub ta1s_to : SetupValue → IndexEntry → List Ta1
ta1s_to setup e = ta1s_by e.interchange.header (note_to setup e)

-- those of all interchanges that a partner sent, in their order
abbrev pub ta1s_told_to : SetupValue → (place : ℕ) → List IndexEntry → List Ta1
ta1s_told_to setup place entries = flat_map (ta1s_to setup) (filter (is_from setup place) entries)

-- a partner's acknowledgments, read by its delimiters, have just these
abbrev pub AreTa1sOf : SetupValue → List IndexEntry → (place : ℕ) → Partner → (acknowledgments : List ℕ) → Type 0
AreTa1sOf setup entries place partner acknowledgments = ta1s_in partner.delims acknowledgments ≡ ta1s_told_to setup place entries

-- so it is where the reference numbers of its guides can be quoted
abbrev pub AreTa1sReadBackBy : (text : List ℕ) → SetupValue → List IndexEntry → (place : ℕ) → Partner → (acknowledgments : List ℕ) → Type 0
AreTa1sReadBackBy text setup entries place partner acknowledgments =
    AreQuotable text setup place partner entries → AreTa1sOf setup entries place partner acknowledgments

-- each partner reads its own so
pub record AreTa1sReadBack (text : List ℕ) (setup : SetupValue) (acknowledgments : List (List ℕ)) : Type 0 where
  pub index : IndexValue
  pub read : IsIndex text index
  pub each : AreAllPairs
      (λ place partner told.
      AreTa1sReadBackBy text setup (settled_entries setup index.entries) place partner told)
      setup.partners acknowledgments
