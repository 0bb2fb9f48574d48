-- The guide file (own): the numbers by which its refusals are named.
use Rattle.std.specs.Prelude.{ℕ}
use Rattle.guide_toml.specs.declared.fault.GuideFileFault.{GuideFileFault}
use Rattle.guide_toml.specs.declared.fault.GuideFileFault.TheVariants as fault

abbrev pub refusal_number : GuideFileFault → ℕ
refusal_number fault.NotToml = 1
refusal_number (fault.Missing key slot) = 2
refusal_number (fault.WrongKind key slot) = 3
refusal_number (fault.Unknown key slot) = 4
refusal_number (fault.Guide refused) = 5
refusal_number fault.NoMemory = 6

-- the same refusal in the node of a number
abbrev pub placed_at : ℕ → GuideFileFault → GuideFileFault
placed_at slot fault.NotToml = fault.NotToml
placed_at slot (fault.Missing key other) = fault.Missing key slot
placed_at slot (fault.WrongKind key other) = fault.WrongKind key slot
placed_at slot (fault.Unknown key other) = fault.Unknown key slot
placed_at slot (fault.Guide refused) = fault.Guide refused
placed_at slot fault.NoMemory = fault.NoMemory
