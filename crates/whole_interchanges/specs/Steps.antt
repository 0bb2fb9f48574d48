-- X12.5, interchange: what is known of its end, part by part. Private.
use Rattle.std.specs.Prelude.{◌≡◌, ℕ, ◌<◌, ◌≤◌, List, length, Some, None}
use Rattle.x12_bytes.specs.declared.delims.Delims.{Delims}
use Rattle.whole_interchanges.specs.Batches.{end_from}
use Rattle.whole_interchanges.specs.Open.{GoesOn, IsOpen, IsShort}
use Rattle.whole_interchanges.specs.Passing.{AreSearched}
use Rattle.whole_interchanges.specs.declared.following.OpenPart.{OpenPart}
use Rattle.whole_interchanges.specs.declared.following.Step.{Step}
use Rattle.whole_interchanges.specs.declared.following.Step.TheVariants as step
use Rattle.whole_interchanges.specs.declared.following.Walked.{Walked}
use Rattle.whole_interchanges.specs.declared.following.Walked.TheVariants as walked

-- a part that is looked at, after which the end isn't known
pub record Waits (read : List ℕ) (d : Delims) (at : ℕ) (o : OpenPart) : Type 0 where
  pub same : o.at ≡ at
  pub open_part : IsOpen read d.terminator o.at o.lead o.seen
  pub unknown : end_from read d at ≡ None
  pub short : IsShort read o.lead o.seen

abbrev pub Steps : List ℕ → Delims → ℕ → Step → Type 0
Steps read d at (step.On next) = (at < next) × (next ≤ length read) × GoesOn read d at next
Steps read d at (step.End end) = end_from read d at ≡ Some end
Steps read d at (step.Wait o) = Waits read d at o

-- where the last part of it that is looked at begins, its end is asked as from the first on, whatever follows
pub record WaitsBehind (read : List ℕ) (d : Delims) (at : ℕ) (o : OpenPart) : Type 0 where
  pub later : at ≤ o.at
  pub goes_on : GoesOn read d at o.at
  pub open_part : IsOpen read d.terminator o.at o.lead o.seen
  pub unknown : end_from read d o.at ≡ None
  pub short : IsShort read o.lead o.seen

abbrev pub Walks : List ℕ → Delims → ℕ → Walked → Type 0
Walks read d at (walked.End end searched) = (end_from read d at ≡ Some end) × AreSearched read searched
Walks read d at (walked.Wait o) = WaitsBehind read d at o
