-- The nights of a hub before a run (own): all that it had are there, and they are what their records say.
use Rattle.std.specs.Prelude.{ℕ, List}
use Rattle.night_marks.specs.declared.mark.NightMark.{NightMark}
use Rattle.night_review.specs.Nights.{AreNights}
use Rattle.nights_intact.specs.Intact.{AreIntact, nights_in}

pub record AreIntactAt (hub : List ℕ) : Type 0 where
  pub marks : List NightMark
  pub nights_are : AreNights (nights_in hub) marks
  pub intact : AreIntact hub marks
