-- X12.5, interchange control header: the headers that partners' acknowledgments begin with, so far as they are made. Private.
use Rattle.std.specs.Prelude.{◌≡◌, ℕ, List, length, Option, Some, slice_get}
use Rattle.x12_write.specs.Outbound.{AreHeaderEnds, HeaderEnds}
use Rattle.partner_setup.specs.declared.partner.Partner.{Partner}
use Rattle.partner_setup.specs.Envelopes.{envelope_to}
use Rattle.partner_setup.specs.Setup.{SetupValue}

-- a header is that of this partner and moment
abbrev pub IsHeaderTo : SetupValue → (at : List ℕ) → (place : ℕ) → HeaderEnds → Type 0
IsHeaderTo setup at place h = (p : Partner) → slice_get setup.partners place ≡ Some p → AreHeaderEnds (envelope_to setup p) at h

-- for each partner of the setup one or none yet
pub record AreHeadersTo (setup : SetupValue) (at : List ℕ) (headers : List (Option HeaderEnds)) : Type 0 where
  pub count : length headers ≡ length setup.partners
  pub each : (place : ℕ) (h : HeaderEnds) → slice_get headers place ≡ Some (Some h) → IsHeaderTo setup at place h

-- this partner's is made
abbrev pub HasHeaderTo : (place : ℕ) → List (Option HeaderEnds) → Type 0
HasHeaderTo place headers = (h : HeaderEnds) × (slice_get headers place ≡ Some (Some h))
