-- The definition's night is the night of the layers.
use Rattle.std.proofs.Common.{◌≡◌, ℕ, List, sym, ap, subst, ◌∙◌}
use Rattle.hub_kinds.specs.declared.counters.Counters.{Counters}
use Rattle.night_batches.specs.Night.{IsNight}
use Rattle.night_batches.specs.declared.night.Night.{Night}
use Rattle.night_law.proofs.ForAbove.{whole_night}
use Rattle.night_definition.specs.Night as room
use Rattle.night_equal_text.specs.LookedUp.{seen_setup}
use Rattle.night_equal_night.specs.Night.{IsThatNight, NightsAreOne}
use Rattle.night_equal_read.specs.Read.{WholeNightsAreOne, seen_night}
use Rattle.layers_exist.specs.Laws.{EachTextHasANight}
use Rattle.layers_exist.specs.Follow.{LayersFollow, NightsAreTheDefinitions}

abbrev made : List (List ℕ) → List (List ℕ) → List ℕ → List Counters → Night
made acks boxes report next = record { acks = acks; boxes = boxes; report = report; next = next }

same_night : (a b : Night) (is : room.Night) → IsThatNight a is → IsThatNight b is → a ≡ b
same_night a b is one two =
    ap (λ (x : List (List ℕ)). made x a.boxes a.report a.next) (one.acks ∙ sym two.acks)
    ∙ ap (λ (x : List (List ℕ)). made b.acks x a.report a.next) (one.boxes ∙ sym two.boxes)
    ∙ ap (λ (x : List ℕ). made b.acks b.boxes x a.next) (one.report ∙ sym two.report)
    ∙ ap (made b.acks b.boxes b.report) (one.next ∙ sym two.next)

-- a text has a night of the layers, which is the definition's: so what is the definition's is that night
pub layers : EachTextHasANight → NightsAreOne → LayersFollow
layers nights one text setup at night sound accepted is =
    let there = nights text setup at accepted in
    subst (IsNight text setup at)
    (same_night there.0 night (room.night_of text (seen_setup setup) at) (one text setup at there.0 sound there.1) is) there.1

that_night : (night : Night) (is : room.Night) → seen_night night ≡ is → IsThatNight night is
that_night night is e = record {
  acks = ap (λ (x : room.Night). x.acks) e;
  boxes = ap (λ (x : room.Night). x.boxes) e;
  report = ap (λ (x : room.Night). x.report) e;
  next = ap (λ (x : room.Night). x.next) e;
}

pub definitions : LayersFollow → WholeNightsAreOne → NightsAreTheDefinitions
definitions follow one text setup at night sound accepted moment = (
  (λ whole. one text setup at night sound moment whole),
  (λ is. whole_night text setup at night sound moment
      (follow text setup at night sound accepted (that_night night (room.night_of text (seen_setup setup) at) is.is))),
)
