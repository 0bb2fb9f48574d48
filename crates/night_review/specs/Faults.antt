-- Why nights aren't looked at (own). Out of memory says nothing of the folder and the clock.
use Rattle.night_review.specs.declared.fault.ReviewFault.{ReviewFault}
use Rattle.night_review.specs.declared.fault.ReviewFault.TheVariants as fault

-- the clock, or memory
abbrev pub IsOfClock : ReviewFault → Type 0
IsOfClock fault.Unlisted = ⊥
IsOfClock fault.Clock = Unit {0}
IsOfClock fault.Memory = Unit {0}

-- the folder, or memory
abbrev pub IsOfFolder : ReviewFault → Type 0
IsOfFolder fault.Unlisted = Unit {0}
IsOfFolder fault.Clock = ⊥
IsOfFolder fault.Memory = Unit {0}
