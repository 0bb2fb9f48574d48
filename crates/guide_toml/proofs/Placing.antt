-- A refusal of a table, in the node that the table writes.
use Rattle.std.proofs.Common.{ℕ, ap, Result}
use Rattle.toml_keys.specs.Meanings.{FailsAs}
use Rattle.toml_keys.specs.Refusals.{Refusal}
use Rattle.guide_toml.specs.Answers.{FailsAt, meaning_of}
use Rattle.guide_toml.specs.Refusals.{placed_at}
use Rattle.guide_toml.specs.Refused.{at_slot}
use Rattle.guide_toml.specs.declared.fault.GuideFileFault.{GuideFileFault}
use Rattle.guide_toml.specs.declared.fault.GuideFileFault.TheVariants as fault

pub fails_at : {A : Type 0} (slot : ℕ) (f : GuideFileFault) (read : Result A Refusal) → FailsAs (meaning_of f) read
    → FailsAt (placed_at slot f) (at_slot slot read)
fails_at slot fault.NotToml read h = h
fails_at slot (fault.Missing key other) read h = ap (at_slot slot) h
fails_at slot (fault.WrongKind key other) read h = ap (at_slot slot) h
fails_at slot (fault.Unknown key other) read h = ap (at_slot slot) h
fails_at slot (fault.Guide refused) read h = h
fails_at slot fault.NoMemory read h = h
