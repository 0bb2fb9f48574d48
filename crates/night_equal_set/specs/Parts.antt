-- A set as the definition reads it, and as the layers do.
use Rattle.std.specs.Prelude.{◌≡◌, Option, option_map}
use Rattle.x12_bytes.specs.declared.delims.Delims.{Delims}
use Rattle.x12_segs.specs.Words.{SegValue, elements_of}
use Rattle.set_check.specs.SetParts.{SetParts}
use Rattle.night_definition.specs.Segments.{Segment}
use Rattle.night_definition.specs.Envelopes.{Set}
use Rattle.night_definition.specs.Sets.{body_of}

-- they have the same elements, segment by segment
pub record IsThatSet (d : Delims) (set : Set) (parts : SetParts) : Type 0 where
  pub delims : parts.delims ≡ d
  pub header_delims : parts.header.delims ≡ d
  pub header : elements_of parts.header ≡ set.header.elements
  pub body : parts.body ≡ body_of set
  pub trailer : option_map elements_of parts.trailer ≡ option_map (λ (s : Segment). s.elements) set.trailer
