-- X12.5, interchange control number, and X12.6, group and set control numbers: what is reported of an earlier use of a number (fault 9, and
-- the codes 19 and 23) is reported exactly where the first use of the place's number, by the order of places, is an earlier place.
use Rattle.std.specs.Prelude.{◌≡◌, ◌↔◌, ℕ, ◌+◌, Bool, true, List, map, take, Some, None, is_some, slice_get}
use Rattle.hub_kinds.specs.declared.interchange.InterchangeFault.TheVariants.{Duplicate}
use Rattle.hub_kinds.specs.declared.place.Place.{Place}
use Rattle.env_index.specs.Words.{IndexEntry, IsEarlier, place_at, GroupEntry}
use Rattle.env_index.specs.declared.entry.SetEnvelope.{SetEnvelope}
use Rattle.partner_setup.specs.Setup.{SetupValue, sender_of}
use Rattle.set_check.specs.Codes.{control_of}
use Rattle.set_answers.specs.Answers.{controls_of, has_number_among}
use Rattle.set_answers.specs.Seen.{is_among}
use Rattle.set_answers.specs.Settled.{fault_alone, settled_faults}

-- a partner of the setup is the sender
abbrev pub knows : SetupValue → (header : List ℕ) → Bool
knows setup header = is_some (sender_of setup header)

-- the first use of a place's number is an earlier place
abbrev pub IsUsedEarlier : SetupValue → List IndexEntry → Place → Type 0
IsUsedEarlier setup es p = (q : Place) × IsEarlier (knows setup) (map (λ e. e.interchange) es) p q

-- fault 9 of the interchanges of a text, of which each is counted
abbrev pub IsDuplicateByPlace : SetupValue → List IndexEntry → Type 0
IsDuplicateByPlace setup es =
    (n : ℕ) (e : IndexEntry) → slice_get es n ≡ Some e
    → (slice_get (settled_faults setup es) n ≡ Some (Some Duplicate)) ↔ IsUsedEarlier setup es (place_at (1 + n) 0 0)

-- of the groups and sets of an interchange that has none of the faults 1 to 8
pub record AreNumbersByPlace (setup : SetupValue) (es : List IndexEntry) (n : ℕ) (groups : List GroupEntry) : Type 0 where
  -- an earlier group of it has the GS06 of a group
  pub groups_told : (k : ℕ) (group : GroupEntry) → slice_get groups k ≡ Some group
      → (has_number_among (take k groups) group ≡ true) ↔ IsUsedEarlier setup es (place_at (1 + n) (1 + k) 0)
  -- an earlier set of its group has the ST02 of a set
  pub sets_told : (k : ℕ) (group : GroupEntry) (j : ℕ) (set : SetEnvelope) → slice_get groups k ≡ Some group
      → slice_get group.sets j ≡ Some set
      → (is_among (control_of set.header) (controls_of (take j group.sets)) ≡ true)
      ↔ IsUsedEarlier setup es (place_at (1 + n) (1 + k) (1 + j))

-- what is reported of earlier numbers follows from the first uses of numbers
pub record AreToldByFirstUse (setup : SetupValue) (es : List IndexEntry) : Type 0 where
  pub duplicates : IsDuplicateByPlace setup es
  pub within : (n : ℕ) (e : IndexEntry) → slice_get es n ≡ Some e → fault_alone setup e ≡ None
      → AreNumbersByPlace setup es n e.interchange.content.groups
