-- Parts of a batch that are answered side by side (own). Private.
use Rattle.std.specs.Prelude.{◌≡◌, List, ◌++◌, map}
use Rattle.answered_sets.specs.Judged.{JudgedValue}
use Rattle.set_answers.specs.CheckedText.{SentValues}
use Rattle.set_answers.specs.Counted.{AreCountedAfter, without_text}
use Rattle.set_answers.specs.SentAfter.{AreAnsweredAfter, CanAnswer}
use Rattle.set_answers.specs.declared.halving.Part.{Part}

-- a part can be answered
abbrev pub IsReady : Part → Type 0
IsReady part =
    CanAnswer part.batch.now.text.now part.batch.now.setup.now part.entries.now part.senders.now part.found.items part.sent.items

-- a part of a batch is cut in two; the second half begins with the numbers that come after the first
pub record AreHalves (part first second : Part) : Type 0 where
  pub first_batch : first.batch ≡ part.batch
  pub second_batch : second.batch ≡ part.batch
  pub whole : first.entries.now ++ second.entries.now ≡ part.entries.now
  pub sent : first.sent.items ≡ part.sent.items
  pub start : AreCountedAfter part.batch.now.setup.now first.entries.now (map without_text part.sent.items) second.sent.items
  pub first_ready : IsReady first
  pub second_ready : IsReady second

abbrev pub IsPartAnswered : Part → List JudgedValue → List SentValues → Type 0
IsPartAnswered part judgements new =
    AreAnsweredAfter part.batch.now.text.now part.batch.now.setup.now part.batch.now.at.now part.entries.now judgements
    part.sent.items new
