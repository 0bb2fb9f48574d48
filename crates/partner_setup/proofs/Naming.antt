-- The map of first places, with one more name in front.
use Rattle.std.proofs.Common.{◌≡◌, ◌<◌, ℕ, ◌+◌, Bool, true, false, ◌||◌, List, [], ◌∷◌, ◌++◌, map, drop, length}
use Rattle.std.proofs.Common.{get_or, cond, refl, sym, ap, subst, ◌∙◌}
use Rattle.std.proofs.Common.{Option, Some, None}
use Rattle.std.specs.Prelude.{is_some}
use Rattle.std.specs.BTreeMap.{BTreeMap, get}
use Rattle.std.specs.Ordering.{is_eq}
use Rattle.std.specs.Str.{bytes_eq}
use Rattle.std.proofs.lemmas.List.{append-nil, append_assoc, drop_more}
use Rattle.std.proofs.lemmas.Map.Text.{is_eq-slice_cmp}
use Rattle.hub_kinds.specs.Words.{contains_text, by_text}
use Rattle.partner_setup.specs.Known.{KnowsPlaces}
use Rattle.partner_setup.specs.Names.{and_some, place_from, place_of}
use denote.Ref.{Bor}

one_more : (old new : BTreeMap (Bor (List ℕ)) ℕ) (name : Bor (List ℕ)) (i : ℕ) (x : List ℕ) (rest : List (List ℕ)) → name.now ≡ x
    → ((q : Bor (List ℕ)) → get by_text new q ≡ cond (is_eq (by_text name q)) (Some i) (get by_text old q))
    → KnowsPlaces old (i + 1) rest → KnowsPlaces new i (x ∷ rest)
one_more old new name i x rest is added knows = λ q.
    added q
    ∙ ap (λ (b : Bool). cond b (Some i) (get by_text old q)) (is_eq-slice_cmp name.now q.now)
    ∙ ap (cond (bytes_eq name.now q.now) (Some i)) (knows q)
    ∙ ap (λ (m : List ℕ). cond (bytes_eq m q.now) (Some i) (place_from (i + 1) rest q.now)) is

pub more_behind : {A : Type 0} (f : A → List ℕ) (rows : List A) (old new : BTreeMap (Bor (List ℕ)) ℕ) (name : Bor (List ℕ))
    (i : ℕ) (row : A) → i < length rows → row ≡ get_or rows i row → name.now ≡ f row
    → ((q : Bor (List ℕ)) → get by_text new q ≡ cond (is_eq (by_text name q)) (Some i) (get by_text old q))
    → KnowsPlaces old (i + 1) (map f (drop (i + 1) rows)) → KnowsPlaces new i (map f (drop i rows))
more_behind f rows old new name i row within is named added knows =
    subst (λ (xs : List (List ℕ)). KnowsPlaces new i xs) (sym (ap (λ l. map f l) (drop_more rows i row within)))
    (one_more old new name i (f (get_or rows i row)) (map f (drop (i + 1) rows)) (named ∙ ap f is) added knows)

found_by : (b : Bool) (n : ℕ) (o : Option ℕ) (c : Bool) → is_some o ≡ c → is_some (cond b (Some n) o) ≡ (b || c)
found_by true n o c e = refl
found_by false n o c e = e

found_from : (n : ℕ) (names : List (List ℕ)) (text : List ℕ) → is_some (place_from n names text) ≡ contains_text names text
found_from n [] text = refl
found_from n (x ∷ xs) text =
    found_by (bytes_eq x text) n (place_from (n + 1) xs text) (contains_text xs text) (found_from (n + 1) xs text)

pub found_name : (names : List (List ℕ)) (text : List ℕ) → is_some (place_of names text) ≡ contains_text names text
found_name names text = found_from 0 names text

-- what is added at the end, before what is still to come
pub some_between : {A : Type 0} (front new rest : List A) (o : Option A) → new ≡ front ++ and_some o []
    → new ++ rest ≡ front ++ and_some o rest
some_between front new rest None e = ap (λ l. l ++ rest) (e ∙ append-nil front)
some_between front new rest (Some x) e = ap (λ l. l ++ rest) e ∙ append_assoc front (x ∷ []) rest

pub keys_between : {A : Type 0} (f : A → List ℕ) (front new : List (List ℕ)) (rest : List A) (o : Option A)
    → new ≡ front ++ map f (and_some o []) → new ++ map f rest ≡ front ++ map f (and_some o rest)
keys_between f front new rest None e = ap (λ l. l ++ map f rest) (e ∙ append-nil front)
keys_between f front new rest (Some x) e = ap (λ l. l ++ map f rest) e ∙ append_assoc front (f x ∷ []) (map f rest)
