-- Names, their places and their counters are looked up alike.
use Rattle.std.proofs.Common.{◌≡◌, ℕ, suc, ◌+◌, List, [], ◌∷◌, map, Bool, true, false, cond, ◌&&◌, ◌||◌, Option, Some, None}
use Rattle.std.proofs.Common.{option_map, option_and_then, is_some, bytes_eq, find, slice_get, refl, sym, ap, ◌∙◌, add-one}
use Rattle.std.proofs.lemmas.Iterator.Adapters.{position_from-zero}
use Rattle.std.proofs.lemmas.Option.{option_and_then_some}
use Rattle.std.specs.List.{list_all, position_from}
use Rattle.std.specs.Option.{option_map_or}
use Rattle.toml.specs.Data.{Data, Items, no_items, item, as_array, as_str}
use Rattle.hub_kinds.specs.declared.counters.Counters.{Counters}
use Rattle.hub_kinds.specs.Words.{contains_text}
use Rattle.guide_tree.specs.declared.rows.GuideRows.{GuideRows}
use Rattle.guide_tree.specs.Words.{guide_of}
use Rattle.toml_keys.specs.Tables.{each_item, list_in}
use Rattle.partner_setup.specs.declared.rows.CounterRow.{CounterRow}
use Rattle.partner_setup.specs.Names.{and_some, place_from, places_of_texts}
use Rattle.partner_setup.specs.Names as then_names
use Rattle.partner_setup.specs.Setup.{first_counters, row_of}
use Rattle.partner_setup.specs.Setup as then
use Rattle.partner_setup.specs.SetupFaults.{guide_name}
use Rattle.night_definition.specs.Tables.{each, texts}
use Rattle.night_definition.specs.SetupFile.{counters_of, place_of}
use Rattle.night_equal_guides.proofs.ForAbove.{first_if, turned}

place_from_is : (n : ℕ) (texts : List (List ℕ)) (name : List ℕ) → position_from (bytes_eq name) n texts ≡ place_from n texts name
place_from_is n [] name = refl
place_from_is n (t ∷ ts) name = first_if n _ _ _ _ (turned name t) (place_from_is (n + 1) ts name)

pub place_is : (texts : List (List ℕ)) (name : List ℕ) → place_of texts name ≡ then_names.place_of texts name
place_is texts name = position_from-zero (bytes_eq name) texts ∙ place_from_is 0 texts name

-- a name that is among texts has a place there
pub has_place : (n : ℕ) (texts : List (List ℕ)) (name : List ℕ) → is_some (place_from n texts name) ≡ contains_text texts name
has_place n [] name = refl
has_place n (t ∷ ts) name = by (bytes_eq t name) (has_place (n + 1) ts name)
  where
    by : (b : Bool) → is_some (place_from (n + 1) ts name) ≡ contains_text ts name
        → is_some (cond b (Some n) (place_from (n + 1) ts name)) ≡ (b || contains_text ts name)
    by true e = refl
    by false e = e

pub both : (s t : Bool) → (s && t) ≡ true → (s ≡ true) × (t ≡ true)
both true t e = (refl, e)
both false t e = let no : false ≡ true = e in cc

-- the places of names that are all there
one_place : (o : Option ℕ) (more : List ℕ) → is_some o ≡ true
    → option_and_then (λ p. option_map (λ (ps : List ℕ). p ∷ ps) (Some more)) o ≡ Some (and_some o more)
one_place (Some p) more e = refl
one_place None more e = let no : false ≡ true = e in cc

of_map : {A B P : Type 0} (f : A → B) (o : Option A) (y : B) → option_map f o ≡ Some y → ((x : A) → o ≡ Some x → f x ≡ y → P) → P
of_map f None y e k = let no : None ≡ Some y = e in cc
of_map f (Some x) y e k = k x refl (let is : Some (f x) ≡ Some y = e in cc)

abbrev placed : List (List ℕ) → Data → Option ℕ
placed texts e = option_and_then (place_of texts) (as_str e)

abbrev onto : Option ℕ → Option (List ℕ) → Option (List ℕ)
onto o more = option_and_then (λ p. option_map (λ (ps : List ℕ). p ∷ ps) more) o

all_placed : (there : List (List ℕ)) (ds : Items) (names : List (List ℕ)) → each_item as_str ds ≡ Some names
    → list_all (contains_text there) names ≡ true → each (placed there) ds ≡ Some (places_of_texts there names)
all_placed there no_items names e all =
    let none : Some [] ≡ Some names = e in
    let same : [] ≡ names = cc in ap (λ (ns : List (List ℕ)). Some (places_of_texts there ns)) same
all_placed there (item d ds) names e all =
    option_and_then_some _ (as_str d) names e (λ t is_t e1.
    of_map (λ (ts : List (List ℕ)). t ∷ ts) (each_item as_str ds) names e1 (λ more is_more same.
    let known = both (contains_text there t) (list_all (contains_text there) more)
    (ap (list_all (contains_text there)) same ∙ all) in
    ap (λ o. onto (option_and_then (place_of there) o) (each (placed there) ds)) is_t
    ∙ ap (λ o. onto o (each (placed there) ds)) (place_is there t)
    ∙ ap (onto (then_names.place_of there t)) (all_placed there ds more is_more known.1)
    ∙ one_place (then_names.place_of there t) (places_of_texts there more) (has_place 0 there t ∙ known.0)
    ∙ ap (λ (ns : List (List ℕ)). Some (places_of_texts there ns)) same))

pub list_placed : (there : List (List ℕ)) (d : Data) (names : List (List ℕ)) → list_in as_str d ≡ Some names
    → list_all (contains_text there) names ≡ true → texts (place_of there) d ≡ Some (places_of_texts there names)
list_placed there d names e all =
    option_and_then_some _ (as_array d) names e (λ ds is_ds e1.
    ap (option_and_then (each (placed there))) is_ds ∙ all_placed there ds names e1 all)

-- the names of guides
pub guide_names : (guides : List GuideRows) → map (λ g. g.head.name) (map guide_of guides) ≡ map guide_name guides
guide_names [] = refl
guide_names (g ∷ gs) = ap (λ (ns : List (List ℕ)). g.head.name ∷ ns) (guide_names gs)

-- counters
abbrev pub named_counters : CounterRow → List ℕ × Counters
named_counters c = (c.partner, c.counters)

shifted : (n : ℕ) (texts : List (List ℕ)) (name : List ℕ) → place_from (n + 1) texts name ≡ option_map suc (place_from n texts name)
shifted n [] name = refl
shifted n (t ∷ ts) name = by (bytes_eq t name) (shifted (n + 1) ts name)
  where
    by : (b : Bool) → place_from (n + 1 + 1) ts name ≡ option_map suc (place_from (n + 1) ts name)
        → cond b (Some (n + 1)) (place_from (n + 1 + 1) ts name) ≡ option_map suc (cond b (Some n) (place_from (n + 1) ts name))
    by true e = ap Some (add-one n)
    by false e = e

later_row : (r : CounterRow) (rows : List CounterRow) (o : Option ℕ)
    → option_and_then (slice_get (r ∷ rows)) (option_map suc o) ≡ option_and_then (slice_get rows) o
later_row r rows None = refl
later_row r rows (Some n) = refl

abbrev is_of : List ℕ → List ℕ × Counters → Bool
is_of name r = bytes_eq r.0 name

row_is : (rows : List CounterRow) (name : List ℕ)
    → find (is_of name) (map named_counters rows) ≡ option_map named_counters (row_of rows name)
row_is [] name = refl
row_is (r ∷ rows) name = by (bytes_eq r.partner name) (row_is rows name)
  where
    by : (b : Bool) → find (is_of name) (map named_counters rows) ≡ option_map named_counters (row_of rows name)
        → cond b (Some (named_counters r)) (find (is_of name) (map named_counters rows))
        ≡ option_map named_counters (option_and_then (slice_get (r ∷ rows))
        (cond b (Some 0) (place_from 1 (map (λ (c : CounterRow). c.partner) rows) name)))
    by true e = refl
    by false e =
        e ∙ ap (option_map named_counters)
        (sym (ap (option_and_then (slice_get (r ∷ rows))) (shifted 0 (map (λ (c : CounterRow). c.partner) rows) name)
        ∙ later_row r rows (place_from 0 (map (λ (c : CounterRow). c.partner) rows) name)))

pub counters_are : (rows : List CounterRow) (name : List ℕ) → counters_of (map named_counters rows) name ≡ then.counters_of rows name
counters_are rows name =
    ap (λ (o : Option (List ℕ × Counters)). option_map_or (λ (r : List ℕ × Counters). r.1) o first_counters) (row_is rows name)
    ∙ by (row_of rows name)
  where
    by : (o : Option CounterRow)
        → option_map_or (λ (r : List ℕ × Counters). r.1) (option_map named_counters o) first_counters
        ≡ option_map_or (λ (c : CounterRow). c.counters) o first_counters
    by None = refl
    by (Some c) = refl
