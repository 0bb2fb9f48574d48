-- What is known of a text by the layers is what the definition answers to it.
use Rattle.std.specs.Prelude.{ℕ, List}
use Rattle.std.specs.List.{All, AllZip}
use Rattle.partner_setup.specs.Setup.{SetupValue}
use Rattle.answered_sets.specs.Judged.{PlacedValue}
use Rattle.set_answers.specs.CheckedText.{CheckedInterchange}
use Rattle.night_batches.specs.Night.{IsKnown, judgements, sets_to}
use Rattle.night_definition.specs.Answers.{AnsweredGroup}
use Rattle.night_definition.specs.Deliveries.{Sent}
use Rattle.night_definition.specs.Night.{answered_text}
use Rattle.night_equal_text.specs.LookedUp.{seen_setup}
use Rattle.night_equal_writing.specs.Answers.{IsAnswered}
use Rattle.night_equal_writing.specs.Deliveries.{IsPlain, IsSeenIn, all_sent, open_sets}

pub record IsKnownAs (text : List ℕ) (setup : SetupValue) (known : List CheckedInterchange) : Type 0 where
  -- interchange by interchange, what is acknowledged
  pub answers : AllZip IsAnswered known (answered_text text (seen_setup setup))
  -- set by set of the interchanges that aren't refused, what may be delivered
  pub sets : AllZip (λ (p : PlacedValue) (x : AnsweredGroup × Sent). IsSeenIn p x.0 x.1) (open_sets (judgements text known))
      (all_sent (answered_text text (seen_setup setup)))
  -- each delivered set begins with ST, whose letters divide nothing in it
  pub plain : (place : ℕ) → All IsPlain (sets_to text setup known place)

abbrev pub KnownTextsAreOne : Type 0
KnownTextsAreOne = (text : List ℕ) (setup : SetupValue) (known : List CheckedInterchange) (outside : ℕ)
    → IsKnown text setup known outside → IsKnownAs text setup known
