-- X12.6, transaction set: the one set of a text, and the span in which it is checked. Private.
use Rattle.std.specs.Prelude.{◌≡◌, ◌≢◌, ℕ, List, [], ◌∷◌, None}
use Rattle.x12_segs.specs.Words.{IsSetSpan}
use Rattle.x12_segs.specs.declared.set_span.SetSpan.{SetSpan}
use Rattle.set_check.specs.SetParts.{set_parts}
use Rattle.night_definition.specs.Envelopes.{Set}
use Rattle.night_equal_text.specs.Spanned.{IsSetOf}
use Rattle.hub_kinds.specs.declared.codes.SegmentCode.TheVariants.{ElementErrors}
use Rattle.hub_kinds.specs.declared.fault.Fault.{Fault}
use Rattle.night_equal_writing.specs.Acknowledgments.{HasItsCode}
use Rattle.guide_samples.specs.Samples.{HasOneSet}

-- the text's one set has the parts that are read in the span
pub record IsOnlySpan (text : List ℕ) (span : SetSpan) : Type 0 where
  pub span_of_set : IsSetSpan text span
  pub set : Set
  pub only : HasOneSet text span.delims set
  pub same : IsSetOf set (set_parts text span)

-- a set has one fault, which is such a one, and is reported under its own code
pub record IsFaultAlone (IsSuch : Fault → Type 0) (faults : List Fault) : Type 0 where
  pub fault : Fault
  pub alone : faults ≡ fault ∷ []
  pub such : IsSuch fault
  pub has : HasItsCode fault
  pub own : fault.elem ≡ None → fault.code ≢ ElementErrors
