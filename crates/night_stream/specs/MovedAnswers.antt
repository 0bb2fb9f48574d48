-- X12.5, interchange: what is answered to an interchange of a batch, in the whole text.
use Rattle.std.specs.Prelude.{ℕ}
use Rattle.whole_interchanges.specs.Moved.{moved_entry}
use Rattle.set_answers.specs.CheckedText.{CheckedInterchange}

-- the same interchange where this many bytes are before the batch
abbrev pub moved_answered : (by : ℕ) → CheckedInterchange → CheckedInterchange
moved_answered by x = record { entry = moved_entry by x.entry; sender = x.sender; groups = x.groups }
