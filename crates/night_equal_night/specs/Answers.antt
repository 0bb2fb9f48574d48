-- What is answered to the groups and sets of an interchange is the same.
use Rattle.std.specs.Prelude.{◌≡◌, List, [], map, Option}
use Rattle.env_index.specs.Words.{GroupEntry}
use Rattle.set_answers.specs.Answers.{SentValue, AreGroupAnswers}
use Rattle.set_answers.specs.declared.answered.AnsweredGroup as then
use Rattle.night_definition.specs.Envelopes.{Group}
use Rattle.night_definition.specs.Answers.{groups_after}
use Rattle.night_equal_text.specs.LookedUp.{seen_setup}
use Rattle.night_equal_text.specs.Kept.{AreGroupsKept}
use Rattle.night_equal_text.specs.Spanned.{AreGroupsIn}
use Rattle.night_equal_writing.specs.Acknowledgments.{answered_group}

-- each group after those before it, with its sets, each after those before it in the group
abbrev pub AnswersAreOne : Type 0
AnswersAreOne = (sent : SentValue) (gs : List Group) (es : List GroupEntry) (os : List (Option then.AnsweredGroup))
    → AreGroupsKept gs es → AreGroupsIn sent.text sent.delims gs es → AreGroupAnswers sent es os
    → map answered_group (groups_after (seen_setup sent.setup) sent.sender sent.delims [] gs) ≡ os
