-- The sets of interchanges that are left, a set, a group and an interchange on.
use Rattle.std.proofs.Common.{◌≡◌, ℕ, zero, suc, ◌+◌, ◌≤◌, List, [], ◌∷◌, ◌++◌, Option, Some, length, drop, refl, sym, ap, ◌∙◌, arith}
use Rattle.std.specs.Prelude.{slice_get}
use Rattle.std.proofs.lemmas.List.{drop_all, drop_more}
use Rattle.std.proofs.lemmas.Option.{slice_get_past}
use Rattle.env_index.specs.declared.entry.SetEnvelope.{SetEnvelope}
use Rattle.env_index.specs.Words.{GroupEntry}
use Rattle.answered_sets.specs.Judged.{JudgedValue, PlacedValue, all_sets, sets_from, sets_of_groups_from, standing_at}
use Rattle.answered_sets.specs.Placed.{IsPlace, group_at, groups_in, no_group, no_set, placed_at, sets_left, sets_left_in, sets_left_of}

-- one set on
pub set_on : (x : JudgedValue) (group set : ℕ) → IsPlace x group set
    → sets_left_in x group set ≡ placed_at x group set ∷ sets_left_in x group (set + 1)
set_on x group set place =
    let g : GroupEntry = group_at (groups_in x) group in
    ap (λ (sets : List SetEnvelope). sets_from x g (standing_at x.standings group) set sets
    ++ sets_of_groups_from x (group + 1) (drop (group + 1) (groups_in x)))
    (drop_more g.sets set no_set place.1)

-- groups begin with the sets of the first
groups_begin : (x : JudgedValue) (k n m : ℕ) (groups : List GroupEntry) → n + 1 ≡ m → sets_of_groups_from x k (drop n groups)
    ≡ sets_from x (group_at groups n) (standing_at x.standings k) 0 (group_at groups n).sets
    ++ sets_of_groups_from x (k + 1) (drop m groups)
groups_begin x k n zero groups next = absurd (omega (arith, next))
groups_begin x k zero (suc m) [] next = refl
groups_begin x k (suc n) (suc m) [] next = refl
groups_begin x k zero (suc zero) (g ∷ groups) next = refl
groups_begin x k zero (suc (suc m)) (g ∷ groups) next = absurd (omega (arith, next))
groups_begin x k (suc n) (suc m) (g ∷ groups) next = groups_begin x k n m groups (omega (arith, next))

pub begin : (x : JudgedValue) (n : ℕ) → sets_of_groups_from x n (drop n (groups_in x)) ≡ sets_left_in x n 0
begin x n = groups_begin x n n (n + 1) (groups_in x) refl

-- one group on, where no set of this one is left
pub group_on : (x : JudgedValue) (group set : ℕ) → length (group_at (groups_in x) group).sets ≤ set
    → sets_left_in x group set ≡ sets_left_in x (group + 1) 0
group_on x group set past =
    let g : GroupEntry = group_at (groups_in x) group in
    ap (λ (sets : List SetEnvelope). sets_from x g (standing_at x.standings group) set sets
    ++ sets_of_groups_from x (group + 1) (drop (group + 1) (groups_in x)))
    (drop_all set g.sets past)
    ∙ begin x (group + 1)

is_none : (n : ℕ) (groups : List GroupEntry) → length groups ≤ n → group_at groups n ≡ no_group
is_none zero [] past = refl
is_none (suc n) [] past = refl
is_none zero (g ∷ groups) past = absurd (omega (arith, past))
is_none (suc n) (g ∷ groups) past = is_none n groups (omega (arith, past))

-- nothing is left after the groups
pub none_left : (x : JudgedValue) (group set : ℕ) → length (groups_in x) ≤ group → sets_left_in x group set ≡ []
none_left x group set past =
    ap (λ (g : GroupEntry). sets_from x g (standing_at x.standings group) set (drop set g.sets)
    ++ sets_of_groups_from x (group + 1) (drop (group + 1) (groups_in x))) (is_none group (groups_in x) past)
    ∙ ap (λ (sets : List SetEnvelope). sets_from x no_group (standing_at x.standings group) set sets
    ++ sets_of_groups_from x (group + 1) (drop (group + 1) (groups_in x))) (drop_all set no_group.sets (omega arith))
    ∙ ap (sets_of_groups_from x (group + 1)) (drop_all (group + 1) (groups_in x) (omega (arith, past)))

-- interchanges begin with the sets of the first
interchanges_begin : (n m : ℕ) (xs : List JudgedValue) → n + 1 ≡ m
    → all_sets (drop n xs) ≡ sets_left_of (slice_get xs n) 0 0 ++ all_sets (drop m xs)
interchanges_begin n zero xs next = absurd (omega (arith, next))
interchanges_begin zero (suc m) [] next = refl
interchanges_begin (suc n) (suc m) [] next = refl
interchanges_begin zero (suc zero) (x ∷ xs) next = ap (λ (sets : List PlacedValue). sets ++ all_sets xs) (begin x 0)
interchanges_begin zero (suc (suc m)) (x ∷ xs) next = absurd (omega (arith, next))
interchanges_begin (suc n) (suc m) (x ∷ xs) next = interchanges_begin n m xs (omega (arith, next))

pub all_begin : (n : ℕ) (xs : List JudgedValue) → all_sets (drop n xs) ≡ sets_left xs n 0 0
all_begin n xs = interchanges_begin n (n + 1) xs refl

-- one interchange on, where no set of this one is left
pub interchange_on : (xs : List JudgedValue) (at group set : ℕ) (x : JudgedValue) → slice_get xs at ≡ Some x
    → sets_left_in x group set ≡ [] → sets_left xs at group set ≡ sets_left xs (at + 1) 0 0
interchange_on xs at group set x there none =
    ap (λ (y : Option JudgedValue). sets_left_of y group set ++ all_sets (drop (at + 1) xs)) there
    ∙ ap (λ (sets : List PlacedValue). sets ++ all_sets (drop (at + 1) xs)) none ∙ all_begin (at + 1) xs

-- nothing is left after the interchanges
pub all_left : (xs : List JudgedValue) (at group set : ℕ) → length xs ≤ at → sets_left xs at group set ≡ []
all_left xs at group set past =
    ap (λ (y : Option JudgedValue). sets_left_of y group set ++ all_sets (drop (at + 1) xs)) (slice_get_past xs at past)
    ∙ ap all_sets (drop_all (at + 1) xs (omega (arith, past)))

-- the same with the place in an interchange in other words
pub place_as : (xs : List JudgedValue) (at group set g s : ℕ) (x : JudgedValue) → slice_get xs at ≡ Some x
    → sets_left_in x group set ≡ placed_at x g s ∷ sets_left_in x g (s + 1)
    → sets_left xs at group set ≡ placed_at x g s ∷ sets_left xs at g (s + 1)
place_as xs at group set g s x there same =
    ap (λ (y : Option JudgedValue). sets_left_of y group set ++ all_sets (drop (at + 1) xs)) there
    ∙ ap (λ (sets : List PlacedValue). sets ++ all_sets (drop (at + 1) xs)) same
    ∙ sym (ap (λ (y : Option JudgedValue). placed_at x g s ∷ (sets_left_of y g (s + 1) ++ all_sets (drop (at + 1) xs))) there)
