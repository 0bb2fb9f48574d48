-- The first places of names with one more name after them, and the warnings of the partners that are reported so far.
use Rattle.std.proofs.Common.{◌≡◌, ◌<◌, ℕ, ◌+◌, suc, Bool, true, false, cond, List, [], ◌∷◌, ◌++◌, length, map, take, drop, get_or}
use Rattle.std.proofs.Common.{Option, Some, None, refl, sym, ap, subst, ◌∙◌, append_assoc, arith}
use Rattle.std.specs.Prelude.{is_some}
use Rattle.std.specs.BTreeMap.{BTreeMap, get}
use Rattle.std.specs.Cmp.Lexicographic.{bytes_decides}
use Rattle.std.specs.Option.{option_or}
use Rattle.std.specs.Ordering.{is_eq}
use Rattle.std.specs.Str.{bytes_eq}
use Rattle.std.proofs.lemmas.List.{drop_more, get_or-map, take-map, take_more}
use Rattle.std.proofs.lemmas.Map.Text.{is_eq-slice_cmp}
use Rattle.hub_kinds.specs.Words.{by_text}
use Rattle.partner_setup.specs.Known.{KnowsPlaces}
use Rattle.partner_setup.specs.Names.{place_from, place_of}
use Rattle.partner_setup.specs.declared.rows.PartnerRow.{PartnerRow}
use Rattle.setup_errors.specs.NamedAlike.{alike_from, alike_warning, alike_warnings, earlier_alike, earlier_said, small_name}
use denote.Ref.{Bor}

one_behind : (b : Bool) (n : ℕ) (o p q : Option ℕ) → o ≡ option_or p q → cond b (Some n) o ≡ option_or (cond b (Some n) p) q
one_behind true n o p q e = refl
one_behind false n o p q e = e

place_behind : (n : ℕ) (names : List (List ℕ)) (name q : List ℕ)
    → place_from n (names ++ name ∷ []) q ≡ option_or (place_from n names q) (cond (bytes_eq name q) (Some (n + length names)) None)
place_behind n [] name q =
    let e : n ≡ n + 0 = omega arith in ap (λ (k : ℕ). cond (bytes_eq name q) (Some k) None) e
place_behind n (x ∷ xs) name q =
    let e : n + 1 + length xs ≡ n + suc (length xs) = omega arith in
    one_behind (bytes_eq x q) n (place_from (n + 1) (xs ++ name ∷ []) q) (place_from (n + 1) xs q)
    (cond (bytes_eq name q) (Some (n + suc (length xs))) None)
    (place_behind (n + 1) xs name q
    ∙ ap (λ (k : ℕ). option_or (place_from (n + 1) xs q) (cond (bytes_eq name q) (Some k) None)) e)

added : (b : Bool) (o found : Option ℕ) (place count : ℕ) → (b ≡ true → found ≡ None) → place ≡ count → o ≡ found
    → cond b (Some place) o ≡ option_or found (cond b (Some count) None)
added true o found place count none e same = ap Some e ∙ sym (ap (λ (f : Option ℕ). option_or f (Some count)) (none refl))
added false o None place count none e same = same
added false o (Some x) place count none e same = same

kept : (b : Bool) (found : Option ℕ) (count : ℕ) → (b ≡ true → is_some found ≡ true)
    → found ≡ option_or found (cond b (Some count) None)
kept b (Some x) count some = refl
kept true None count some = let e = some refl in cc
kept false None count some = refl

no_place : (o : Option ℕ) → is_some o ≡ false → o ≡ None
no_place None e = refl
no_place (Some x) e = cc

-- where a text is the name, its place is what the map has of the name
same_place : (places : BTreeMap (Bor (List ℕ)) ℕ) (names : List (List ℕ)) (name : Bor (List ℕ)) (q : List ℕ) → KnowsPlaces places 0 names
    → bytes_eq name.now q ≡ true → place_of names q ≡ get by_text places name
same_place places names name q knows e = sym (knows name ∙ ap (place_of names) ((bytes_decides name.now q).0 e))

pub place_added : (old new : BTreeMap (Bor (List ℕ)) ℕ) (name : Bor (List ℕ)) (place : ℕ) (names : List (List ℕ))
    → is_some (get by_text old name) ≡ false
    → ((q : Bor (List ℕ)) → get by_text new q ≡ cond (is_eq (by_text name q)) (Some place) (get by_text old q))
    → KnowsPlaces old 0 names → place ≡ length names → KnowsPlaces new 0 (names ++ name.now ∷ [])
place_added old new name place names none changed knows is = λ q.
    changed q
    ∙ ap (λ (b : Bool). cond b (Some place) (get by_text old q)) (is_eq-slice_cmp name.now q.now)
    ∙ added (bytes_eq name.now q.now) (get by_text old q) (place_of names q.now) place (0 + length names)
    (λ e. same_place old names name q.now knows e ∙ no_place (get by_text old name) none) (omega (arith, is)) (knows q)
    ∙ sym (place_behind 0 names name.now q.now)

pub place_kept : (places : BTreeMap (Bor (List ℕ)) ℕ) (name : Bor (List ℕ)) (names : List (List ℕ))
    → is_some (get by_text places name) ≡ true → KnowsPlaces places 0 names → KnowsPlaces places 0 (names ++ name.now ∷ [])
place_kept places name names some knows = λ q.
    knows q
    ∙ kept (bytes_eq name.now q.now) (place_of names q.now) (0 + length names)
    (λ e. ap (λ (o : Option ℕ). is_some o) (same_place places names name q.now knows e) ∙ some)
    ∙ sym (place_behind 0 names name.now q.now)

pub known_more : (places : BTreeMap (Bor (List ℕ)) ℕ) (names : List (List ℕ)) (i : ℕ) (name : List ℕ) → i < length names
    → name ≡ get_or names i name → KnowsPlaces places 0 (take i names ++ name ∷ []) → KnowsPlaces places 0 (take (i + 1) names)
known_more places names i name within is known =
    subst (λ (l : List (List ℕ)). KnowsPlaces places 0 l)
    (ap (λ (n : List ℕ). take i names ++ n ∷ []) is ∙ sym (take_more names i name within)) known

pub named_at : (partners : List PartnerRow) (names : List (List ℕ)) (i : ℕ) (name : List ℕ) (p : PartnerRow)
    → names ≡ map small_name partners → i < length partners → name ≡ get_or names i name → p ≡ get_or partners i p
    → name ≡ small_name p
named_at partners names i name p same within is row =
    is ∙ ap (λ (ns : List (List ℕ)). get_or ns i name) same
    ∙ get_or-map small_name partners i p name within ∙ ap small_name (sym row)

pub first_earlier : (partners : List PartnerRow) (names : List (List ℕ)) (i : ℕ) (name : List ℕ) (p : PartnerRow) (earlier : Option ℕ)
    → names ≡ map small_name partners → name ≡ small_name p → earlier ≡ place_of (take i names) name
    → earlier ≡ earlier_alike partners i p
first_earlier partners names i name p earlier same named told =
    told ∙ ap (λ (ns : List (List ℕ)). place_of (take i ns) name) same
    ∙ ap (λ (l : List (List ℕ)). place_of l name) (take-map small_name i partners)
    ∙ ap (place_of (map small_name (take i partners))) named

pub told_more : (front so_far new : List (List ℕ)) (all : List PartnerRow) (i : ℕ) (p : PartnerRow) (earlier : Option ℕ)
    → i < length all → p ≡ get_or all i p → earlier ≡ earlier_alike all i p → new ≡ so_far ++ earlier_said all (i + 1) p earlier
    → so_far ++ alike_from all i (drop i all) ≡ front ++ alike_warnings all
    → new ++ alike_from all (i + 1) (drop (i + 1) all) ≡ front ++ alike_warnings all
told_more front so_far new all i p earlier within is first told before =
    let rest : List (List ℕ) = alike_from all (i + 1) (drop (i + 1) all) in
    ap (λ (l : List (List ℕ)). l ++ rest) (told ∙ ap (λ (o : Option ℕ). so_far ++ earlier_said all (i + 1) p o) first)
    ∙ append_assoc so_far (alike_warning all i p) rest
    ∙ ap (λ (q : PartnerRow). so_far ++ (alike_warning all i q ++ rest)) is
    ∙ ap (λ (l : List PartnerRow). so_far ++ alike_from all i l) (sym (drop_more all i p within))
    ∙ before
