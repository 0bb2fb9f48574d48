-- The tables of partners have the first places of their guides.
use Rattle.std.proofs.Common.{◌≡◌, ℕ, zero, suc, ◌+◌, ◌<◌, List, [], ◌∷◌, Option, Some, None, Vec, length, map, drop}
use Rattle.std.proofs.Common.{get_or, refl, sym, subst}
use Rattle.std.specs.Prelude.{IfSome, option_map, slice_get}
use Rattle.std.specs.BTreeMap.{BTreeMap, UpdatesBy}
use Rattle.std.specs.Cmp.Lexicographic.{slice_cmp}
use Rattle.std.specs.List.{AllZip}
use Rattle.std.specs.Option.{option_map_or}
use Rattle.std.specs.Ordering.{nat_cmp}
use Rattle.std.specs.declared.alloc.Global.{Global}
use Rattle.std.specs.declared.cmp.Ordering.{Ordering}
use Rattle.std.proofs.lemmas.List.{get_or_default}
use Rattle.std.proofs.lemmas.Option.{none-some}
use Rattle.guide_tree.specs.declared.rows.GuideRows.{GuideRows}
use Rattle.partner_setup.proofs.ForAbove.{more_kept}
use Rattle.partner_setup.specs.Setup.{SetupValue, places_of}
use Rattle.partner_setup.specs.Tables.{KeepsPlaces}
use Rattle.partner_setup.specs.declared.partner.Partner.{Partner}
use Rattle.set_findings.specs.Keys.{KeepsGuides, key_at}
use denote.Ref.{Bor}

abbrev pub by_items : Vec ℕ Global → Vec ℕ Global → Ordering
by_items a b = slice_cmp nat_cmp a.items b.items

-- one more guide in front
pub one_kept : (guides : List GuideRows) (places : List ℕ) (old new : BTreeMap (Vec ℕ Global) ℕ) (key : Vec ℕ Global) (i d : ℕ)
    → i < length places → key.items ≡ key_at guides (get_or places i d) → UpdatesBy by_items (by_items key) old new (Some i)
    → KeepsPlaces old (i + 1) (map (key_at guides) (drop (i + 1) places)) → KeepsPlaces new i (map (key_at guides) (drop i places))
one_kept guides places old new key i d within keyed added keeps =
    more_kept (key_at guides) places old new key i (get_or places i d) within (get_or_default places i d (get_or places i d) within) keyed
    added keeps

there_kept : (guides : List GuideRows) (ps : List Partner) (ts : List (BTreeMap (Vec ℕ Global) ℕ)) (k : ℕ) (t : BTreeMap (Vec ℕ Global) ℕ)
    → AllZip (KeepsGuides guides) ps ts → slice_get ts k ≡ Some t
    → (p : Partner) × (slice_get ps k ≡ Some p) × KeepsGuides guides p t
there_kept guides [] [] k t h is = absurd (none-some t is)
there_kept guides [] (u ∷ ts) k t h is = absurd h
there_kept guides (p ∷ ps) [] k t h is = absurd h
there_kept guides (p ∷ ps) (u ∷ ts) zero t h is =
    let same : u ≡ t = cc in (p, refl, subst (KeepsGuides guides p) same h.0)
there_kept guides (p ∷ ps) (u ∷ ts) (suc k) t h is = there_kept guides ps ts k t h.1 is

-- a partner's table is that of its guides
pub table_kept : (setup : SetupValue) (ts : List (BTreeMap (Vec ℕ Global) ℕ)) (k : ℕ) (t : BTreeMap (Vec ℕ Global) ℕ)
    → AllZip (KeepsGuides setup.guides) setup.partners ts → slice_get ts k ≡ Some t
    → KeepsPlaces t 0 (map (key_at setup.guides) (places_of setup k))
table_kept setup ts k t h is =
    let there = there_kept setup.guides setup.partners ts k t h is in
    subst (λ (o : Option Partner). KeepsPlaces t 0 (map (key_at setup.guides) (option_map_or (λ (p : Partner). p.guides) o [])))
    (sym there.1) there.2

pub some_kept : (setup : SetupValue) (ts : List (BTreeMap (Vec ℕ Global) ℕ)) (k : ℕ) (o : Option (Bor (BTreeMap (Vec ℕ Global) ℕ)))
    → AllZip (KeepsGuides setup.guides) setup.partners ts → option_map (λ t. t.now) o ≡ slice_get ts k
    → IfSome o (λ t. KeepsPlaces t.now 0 (map (key_at setup.guides) (places_of setup k)))
some_kept setup ts k None h is = tt
some_kept setup ts k (Some t) h is = table_kept setup ts k t.now h (sym is)
