-- own: samples that break a rule of a guide, and what is answered to them.
use Rattle.std.specs.Prelude.{◌≡◌, ◌≤◌, ℕ, ◌+◌, List, [], ◌∷◌, ◌++◌, length, map, if◌then◌else◌}
use Rattle.std.specs.List.{All}
use Rattle.night_definition.specs.Header.{is_head}
use Rattle.ack_read.specs.Reading.{first_delims}
use Rattle.ack_read.specs.Told.{told_in}
use Rattle.ack_lines.specs.Lines.{fault_lines}
use Rattle.guide_names.specs.Names.{Words}
use Rattle.guide_page.specs.declared.page.Answer.{Answer}
use Rattle.guide_tree.specs.Words.{GuideTree}
use Rattle.guide_samples.specs.Samples.{BreaksRule}
use Rattle.guide_samples.specs.declared.rule.Rule.{Rule}
use Rattle.sample_folder.specs.Names.{file_name}

-- the number of the rule that it breaks, from 0; its text; and what the 999 says of it
pub record Sample : Type 0 where
  pub number : ℕ
  pub text : List ℕ
  pub lines : List ℕ

abbrev pub IsBreaking : GuideTree → List Rule → Sample → Type 0
IsBreaking guide rules s = BreaksRule guide rules s.number s.text s.lines

-- their numbers rise, from one that is at least `from` to one below `to`
abbrev pub AreRising : (from to : ℕ) → List Sample → Type 0
AreRising from to [] = from ≤ to
AreRising from to (s ∷ ss) = (from ≤ s.number) × AreRising (s.number + 1) to ss

-- samples for rules with such numbers: for each rule at most one, which breaks it alone
pub record AreBreaking (guide : GuideTree) (rules : List Rule) (from to : ℕ) (samples : List Sample) : Type 0 where
  pub each : All (IsBreaking guide rules) samples
  pub rising : AreRising from to samples

-- what the lines of a 999 on a sample say of segments and elements, read by the delimiters of the sample's header
abbrev pub words_said : Words → (sample lines : List ℕ) → List ℕ
words_said words sample lines =
    if is_head sample 0 then fault_lines words (told_in (first_delims sample) lines) else []

-- the answer to a sample, as the page shows it
abbrev pub answer_of : Words → Sample → Answer
answer_of words s = record { name = file_name s.number; words = words_said words s.text s.lines; lines = s.lines }

-- private: answers to samples for rules with these numbers are added
pub record AddsAnswers (words : Words) (guide : GuideTree) (rules : List Rule) (from to : ℕ) (old new : List Answer) : Type 0 where
  pub samples : List Sample
  pub breaking : AreBreaking guide rules from to samples
  pub added : new ≡ old ++ map (answer_of words) samples

-- answers to samples that break a rule of the guide, with words for it
pub record AreAnswers (words : Words) (guide : GuideTree) (answers : List Answer) : Type 0 where
  pub rules : List Rule
  pub samples : List Sample
  pub breaking : AreBreaking guide rules 0 (length rules) samples
  pub answers_are : answers ≡ map (answer_of words) samples
