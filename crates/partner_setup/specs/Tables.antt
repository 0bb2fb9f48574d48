-- Own: tables of the first places of keys, by which partners and routes are looked up. Private.
use Rattle.std.specs.Prelude.{◌≡◌, ℕ, List, ◌++◌, Vec}
use Rattle.std.specs.BTreeMap.{BTreeMap, get_by}
use Rattle.std.specs.Cmp.Lexicographic.{slice_cmp}
use Rattle.std.specs.Ordering.{nat_cmp}
use Rattle.std.specs.declared.alloc.Global.{Global}
use Rattle.std.specs.declared.cmp.Ordering.{Ordering}
use Rattle.partner_setup.specs.Names.{place_from}
use Rattle.partner_setup.specs.declared.partner.Partner.{Partner}
use Rattle.partner_setup.specs.declared.partner.Route.{Route}

-- a key asked for, beside one that is kept
abbrev pub by_bytes : List ℕ → Vec ℕ Global → Ordering
by_bytes asked kept = slice_cmp nat_cmp asked kept.items

-- the table has the first place of each key, the first of which has this place, and no other key
abbrev pub KeepsPlaces : BTreeMap (Vec ℕ Global) ℕ → (first : ℕ) → List (List ℕ) → Type 0
KeepsPlaces table first keys = (asked : List ℕ) → get_by (by_bytes asked) table ≡ place_from first keys asked

-- a qualifier has two bytes, so that what follows can't be taken for a part of it
abbrev pub sender_key : Partner → List ℕ
sender_key p = p.qualifier ++ p.id

abbrev pub route_key : Route → List ℕ
route_key r = r.code
