-- What workers found out of a batch is what is written of it.
use Rattle.std.proofs.Common.{◌∙◌, ℕ, ◌+◌, ◌≤◌, List, length, sym, ap, subst}
use Rattle.std.specs.List.{All}
use Rattle.hub_kinds.specs.declared.limits.TheConstants.{LONGEST_TEXT}
use Rattle.env_index.specs.Words.{HasSpans, IndexEntry, IndexValue, with_faults}
use Rattle.partner_setup.specs.Setup.{SetupValue}
use Rattle.set_answers.proofs.ForAbove.{settled_spans}
use Rattle.set_answers.specs.FoundRows.{AreFoundRows}
use Rattle.number_register.specs.SeenNumbers.{HaveSeen}
use Rattle.set_answers.specs.Settled.{faults_with}
use Rattle.number_register.specs.declared.seen.Seen.{Seen}
use Rattle.set_findings.specs.FoundOut.{IsFoundAfter}
use Rattle.set_findings.specs.declared.found.FoundAfter.{FoundAfter}
use Rattle.night_batches.specs.Writing.{HasRoomFor, IsBatchWritten, WritingValue}
use Rattle.night_stream.proofs.Bounds.{room_for}
use Rattle.night_stream.specs.Carried.{CanGoOn}

-- each set stands in its span
pub found_spans : (batch : List ℕ) (setup : SetupValue) (seen : Seen) (numbers : List (List ℕ)) (found : FoundAfter)
    → IsFoundAfter batch setup seen found → HaveSeen seen numbers
    → All (λ (e : IndexEntry). HasSpans found.index.text e.interchange) found.index.entries
found_spans batch setup seen numbers found is known =
    settled_spans batch is.plain found.index (faults_with setup numbers is.plain.entries) is.read (is.index numbers known)

-- all that is asked is found
pub found_asked : (batch : List ℕ) (setup : SetupValue) (seen : Seen) (numbers : List (List ℕ)) (found : FoundAfter)
    → IsFoundAfter batch setup seen found → HaveSeen seen numbers
    → AreFoundRows found.index.text setup found.index.entries found.rows
found_asked batch setup seen numbers found is known =
    subst (λ (t : List ℕ). AreFoundRows t setup found.index.entries found.rows)
    (sym (ap (λ (i : IndexValue). i.text) (is.index numbers known) ∙ is.read.same)) is.rows

-- there is room for it
pub found_room : (setup : SetupValue) (at : List ℕ) (base : ℕ) (w : WritingValue) (batch : List ℕ) (seen : Seen)
    (numbers : List (List ℕ)) (found : FoundAfter) → CanGoOn setup at base w → base + length batch ≤ LONGEST_TEXT
    → IsFoundAfter batch setup seen found → HaveSeen seen numbers
    → HasRoomFor setup at (length found.index.entries) found.index.outside w
found_room setup at base w batch seen numbers found can few is known =
    room_for setup at base w batch is.plain found.index (faults_with setup numbers is.plain.entries) can few is.read
    (is.index numbers known)

-- what is written of it is that of its index, settled by the numbers seen so far
pub found_written : (setup : SetupValue) (at : List ℕ) (base : ℕ) (old new : WritingValue) (batch : List ℕ) (seen : Seen)
    (numbers : List (List ℕ)) (found : FoundAfter) (is : IsFoundAfter batch setup seen found) → HaveSeen seen numbers
    → IsBatchWritten found.index.text setup at base found.index.entries found.index.outside old new
    → IsBatchWritten batch setup at base (with_faults is.plain.entries (faults_with setup numbers is.plain.entries)) is.plain.outside
    old new
found_written setup at base old new batch seen numbers found is known written =
    subst (λ (t : List ℕ). IsBatchWritten t setup at base (with_faults is.plain.entries (faults_with setup numbers is.plain.entries))
    is.plain.outside old new) is.read.same
    (subst (λ (i : IndexValue). IsBatchWritten i.text setup at base i.entries i.outside old new) (is.index numbers known) written)
