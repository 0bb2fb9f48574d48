-- The setup (own): what is known of every setup that is built, whatever its rows were.
use Rattle.std.specs.Prelude.{ℕ, ◌<◌, ◌≤◌, ◌≢◌, Bool, false, IsTrue, List, length, All}
use Rattle.std.specs.List.{AllPairs}
use Rattle.std.specs.Option.{option_map_or}
use Rattle.hub_kinds.specs.Words.{is_word}
use Rattle.hub_kinds.specs.declared.counters.Counters.{Counters}
use Rattle.x12_bytes.specs.declared.delims.Delims.{Delims}
use Rattle.x12_write.specs.Undivided.{CanDivide}
use Rattle.partner_setup.specs.declared.partner.Partner.{Partner}
use Rattle.partner_setup.specs.declared.partner.Route.{Route}
use Rattle.partner_setup.specs.Setup.{SetupValue}
use Rattle.partner_setup.specs.SetupFaults.{are_delimiters, are_ids}

-- counters from 1 to 999,999,999
abbrev pub AreCounters : Counters → Type 0
AreCounters c =
    (1 ≤ c.interchange) × (c.interchange ≤ 999999999) × (1 ≤ c.group) × (c.group ≤ 999999999)
    × (1 ≤ c.set) × (c.set ≤ 999999999)

-- all four are there, are allowed, and differ
abbrev pub has_delimiters : Delims → Bool
has_delimiters d = option_map_or (λ (r : ℕ). are_delimiters d.element d.component r d.terminator) d.repetition false

-- a partner of a setup with that many guides
pub record IsSoundPartner (guide_count : ℕ) (p : Partner) : Type 0 where
  pub cap_least : 1 ≤ p.cap
  pub cap_most : p.cap ≤ 99999
  pub counters : AreCounters p.counters
  pub delims : IsTrue (has_delimiters p.delims)
  pub divides : CanDivide p.delims
  pub name : IsTrue (is_word 1 20 p.name)
  pub ids : IsTrue (are_ids p.qualifier p.id p.code)
  pub guides : All (λ (g : ℕ). g < guide_count) p.guides

-- places of partners, of that many
abbrev pub AreWithin : (count : ℕ) → List ℕ → Type 0
AreWithin count places = All (λ (q : ℕ). q < count) places

-- no place appears twice
abbrev pub AreApart : List ℕ → Type 0
AreApart places = AllPairs (λ (p q : ℕ). p ≢ q) places

pub record IsSoundSetup (s : SetupValue) : Type 0 where
  pub hub : IsTrue (are_ids s.hub.qualifier s.hub.id s.hub.code)
  pub partners : All (IsSoundPartner (length s.guides)) s.partners
  pub routes : All (λ (r : Route). AreWithin (length s.partners) r.to) s.routes
  pub apart : All (λ (r : Route). AreApart r.to) s.routes
