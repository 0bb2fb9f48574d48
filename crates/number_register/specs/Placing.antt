-- Own: what is at a place of an index, by its numbers, and the key of its number. Private.
use Rattle.std.specs.Prelude.{◌≡◌, ◌-◌, ◌<◌, ◌≤◌, List, Some, map, length, slice_get}
use Rattle.hub_kinds.specs.declared.place.Place.{Place}
use Rattle.env_index.specs.Words.{IndexEntry}
use Rattle.number_register.specs.declared.key.Key.{Key}
use Rattle.number_register.specs.declared.key.Key.TheVariants.{OfInterchange, OfGroup, OfSet}
use Rattle.number_register.specs.Slots.{code_in, group_code, groups_of, interchange_code, set_control, sets_of}

-- an interchange, a group of one, or a set of one is there
pub record IsPlaced (es : List IndexEntry) (p : Place) : Type 0 where
  pub isa : 1 ≤ p.isa
  pub alone : p.gs ≡ 0 → (p.st ≡ 0) × (p.isa - 1 < length es)
  pub group : 1 ≤ p.gs → p.st ≡ 0 → p.gs - 1 < length (groups_of es (p.isa - 1))
  pub set : 1 ≤ p.gs → 1 ≤ p.st → p.st - 1 < length (sets_of es (p.isa - 1) (p.gs - 1))

-- a key is that of the number at a place
abbrev pub IsKeyAt : List IndexEntry → Place → Key → Type 0
IsKeyAt es p (OfInterchange key) =
    (1 ≤ p.isa) × (p.gs ≡ 0) × (p.st ≡ 0) × (slice_get (map interchange_code es) (p.isa - 1) ≡ Some (code_in key))
IsKeyAt es p (OfGroup code) =
    (1 ≤ p.isa) × (1 ≤ p.gs) × (p.st ≡ 0) × (slice_get (map group_code (groups_of es (p.isa - 1))) (p.gs - 1) ≡ Some code)
IsKeyAt es p (OfSet control) =
    (1 ≤ p.isa) × (1 ≤ p.gs) × (1 ≤ p.st)
    × (slice_get (map set_control (sets_of es (p.isa - 1) (p.gs - 1))) (p.st - 1) ≡ Some control.now)
