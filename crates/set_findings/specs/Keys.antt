-- X12.6, functional group header and transaction set header: what guides are looked up by (own). Private.
use Rattle.std.specs.Prelude.{◌≡◌, ◌⊎◌, ℕ, List, [], map, ◌++◌, Option, Some, None, MatchOption, slice_get}
use Rattle.std.specs.BTreeMap.{BTreeMap}
use Rattle.std.specs.Prelude.{Vec}
use Rattle.std.specs.declared.alloc.Global.{Global}
use Rattle.guide_tree.specs.declared.rows.GuideRows.{GuideRows}
use Rattle.partner_setup.specs.Names.{place_of}
use Rattle.partner_setup.specs.Tables.{KeepsPlaces}
use Rattle.partner_setup.specs.declared.partner.Partner.{Partner}

-- GS01, GS08 and ST01, one after the other
abbrev pub joined : (group version set : List ℕ) → List ℕ
joined group version set = (group ++ version) ++ set

abbrev pub guide_key : GuideRows → List ℕ
guide_key g = joined g.head.group g.head.version g.head.set

-- nothing of what isn't there
abbrev pub key_by : Option GuideRows → List ℕ
key_by None = []
key_by (Some g) = guide_key g

abbrev pub key_at : List GuideRows → (place : ℕ) → List ℕ
key_at guides place = key_by (slice_get guides place)

-- the table has the first of a partner's guides for each key, by its number among them
abbrev pub KeepsGuides : List GuideRows → Partner → BTreeMap (Vec ℕ Global) ℕ → Type 0
KeepsGuides guides p table = KeepsPlaces table 0 (map (key_at guides) p.guides)

-- before this number no key is this one; none if there is no number at all
abbrev pub IsStart : (keys : List (List ℕ)) → (key : List ℕ) → Option ℕ → Type 0
IsStart keys key start = MatchOption start (place_of keys key ≡ None) (λ j. (j ≡ 0) ⊎ (place_of keys key ≡ Some j))
