-- The places of an index are listed one by one.
use Rattle.std.proofs.Common.{◌≡◌, ℕ, ◌+◌, ◌<◌, List, [], ◌∷◌, ◌++◌, length, map, drop, get_or, zero, suc, Some}
use Rattle.std.proofs.Common.{refl, sym, ap, ◌∙◌, append_assoc, arith}
use Rattle.std.specs.Prelude.{slice_get, is_none}
use Rattle.std.proofs.lemmas.List.{drop_more, map-append}
use Rattle.std.proofs.lemmas.Option.{get_or_from_slice_get, slice_get_within}
use Rattle.hub_kinds.specs.declared.place.Place.{Place}
use Rattle.env_index.specs.declared.entry.SetEnvelope.{SetEnvelope}
use Rattle.env_index.specs.Index.{IndexEntry}
use Rattle.env_index.specs.Numbers.{group_numbers_from, kept_places, place_at, set_numbers_from}
use Rattle.env_index.specs.Placed.{place_in, places_behind}
use Rattle.env_index.specs.Summary.{GroupEntry}

-- what comes first of the rest is listed
pub one_more : (old new front here more all : List Place) → new ≡ old ++ front → here ≡ front ++ more → old ++ here ≡ all
    → new ++ more ≡ all
one_more old new front here more all is split before =
    ap (λ (l : List Place). l ++ more) is ∙ append_assoc old front more ∙ ap (λ (l : List Place). old ++ l) (sym split) ∙ before

pub sets_at : (isa gs n i next : ℕ) (sets : List SetEnvelope) → i < length sets → next ≡ i + 1
    → map place_in (set_numbers_from isa gs n (drop i sets)) ≡ place_at isa gs n ∷ map place_in (set_numbers_from isa gs (n + 1)
    (drop next sets))
sets_at isa gs n i next [] inside is = absurd (omega (arith, inside))
sets_at isa gs n i zero (set ∷ sets) inside is = absurd (omega (arith, is))
sets_at isa gs n zero (suc zero) (set ∷ sets) inside is = refl
sets_at isa gs n zero (suc (suc next)) (set ∷ sets) inside is = absurd (omega (arith, is))
sets_at isa gs n (suc i) (suc next) (set ∷ sets) inside is = sets_at isa gs n i next sets (omega (arith, inside)) (omega (arith, is))

abbrev pub group_places : (isa gs : ℕ) → GroupEntry → List Place
group_places isa gs group = place_at isa gs 0 ∷ map place_in (set_numbers_from isa gs 1 group.sets)

pub groups_at : (isa n i : ℕ) (groups : List GroupEntry) (group : GroupEntry) → slice_get groups i ≡ Some group
    → map place_in (group_numbers_from isa n (drop i groups))
    ≡ group_places isa n group ++ map place_in (group_numbers_from isa (n + 1) (drop (i + 1) groups))
groups_at isa n i groups group is =
    let here : drop i groups ≡ group ∷ drop (i + 1) groups
    = drop_more groups i group (slice_get_within groups i group is)
    ∙ ap (λ (x : GroupEntry). x ∷ drop (i + 1) groups) (get_or_from_slice_get groups i group group is) in
    ap (λ (l : List GroupEntry). map place_in (group_numbers_from isa n l)) here
    ∙ ap (λ (l : List Place). place_at isa n 0 ∷ l)
    (map-append place_in (set_numbers_from isa n 1 group.sets) (group_numbers_from isa (n + 1) (drop (i + 1) groups)))

pub entries_at : (n i : ℕ) (es : List IndexEntry) (d : IndexEntry) → i < length es
    → map place_in (places_behind n (drop i es))
    ≡ map place_in (kept_places (is_none (get_or es i d).fault) n (get_or es i d).interchange)
    ++ map place_in (places_behind (n + 1) (drop (i + 1) es))
entries_at n i es d inside =
    ap (λ (l : List IndexEntry). map place_in (places_behind n l)) (drop_more es i d inside)
    ∙ map-append place_in (kept_places (is_none (get_or es i d).fault) n (get_or es i d).interchange)
    (places_behind (n + 1) (drop (i + 1) es))
