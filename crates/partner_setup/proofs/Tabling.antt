-- The table of first places, with one more key in front; and what is looked up by it.
use Rattle.std.proofs.Common.{◌≡◌, ◌≢◌, ◌⊎◌, inl, inr, ◌<◌, ◌≤◌, ◌-◌, ℕ, ◌+◌, Bool, true, false, ◌&&◌, nat_le, List, [], ◌∷◌, ◌++◌}
use Rattle.std.proofs.Common.{map, drop, length, All}
use Rattle.std.proofs.Common.{get_or, cond, add-one, refl, sym, ap, subst, ◌∙◌, ⊎_elim, suc, arith, Vec}
use Rattle.std.proofs.Common.{Option, Some, None, slice_get, option_and_then, option_map}
use Rattle.std.specs.BTreeMap.{BTreeMap, get_by, UpdatesBy}
use Rattle.std.specs.Map.{lookup, IsKeyTest, AreApart, KeepsOthers}
use Rattle.std.specs.Ordering.{is_eq, nat_cmp}
use Rattle.std.specs.Option.{option_map_or}
use Rattle.std.specs.Bool.{nat_eq}
use Rattle.std.specs.Char.{is_ascii_alphanumeric}
use Rattle.std.specs.List.{list_all, position, position_from}
use Rattle.std.specs.Prelude.{slice_index}
use Rattle.std.specs.Cmp.{eq_by_cmp_equiv}
use Rattle.std.specs.Cmp.Lexicographic.{slice_cmp}
use Rattle.std.specs.Str.{bytes_eq}
use Rattle.std.specs.declared.alloc.Global.{Global}
use Rattle.std.specs.declared.cmp.Ordering.{Ordering}
use Rattle.std.proofs.lemmas.Bool.{and_parts, cases_Bool, cond-true, cond-false, false_from_ne_true, leb-true}
use Rattle.std.proofs.lemmas.Cmp.{nat_list_cmp_total, nat_list_eq_equiv}
use Rattle.std.proofs.lemmas.List.{drop_more}
use Rattle.std.proofs.lemmas.List.Elements.{All-head, All-tail}
use Rattle.std.proofs.lemmas.Iterator.Adapters.{position_from-zero}
use Rattle.std.proofs.lemmas.Map.Text.{is_eq-slice_cmp}
use Rattle.std.proofs.lemmas.Slice.Eq.{bytes_eq-Decides}
use Rattle.partner_setup.specs.Names.{place_from, place_of}
use Rattle.hub_kinds.specs.Words.{is_word}
use Rattle.partner_setup.specs.Setup.{has_qualifier_and_id, targets_in}
use Rattle.partner_setup.specs.SetupFaults.{are_ids, is_id, is_inner, is_outer}
use Rattle.partner_setup.specs.Sound.{IsSoundPartner}
use Rattle.partner_setup.specs.Tables.{KeepsPlaces, by_bytes, route_key, sender_key}
use Rattle.partner_setup.specs.declared.partner.Partner.{Partner}
use Rattle.partner_setup.specs.declared.partner.Route.{Route}

abbrev by_items : Vec ℕ Global → Vec ℕ Global → Ordering
by_items a b = slice_cmp nat_cmp a.items b.items

apart : (bs cs ks : List ℕ) → bytes_eq bs cs ≡ false → bytes_eq bs ks ≡ true → bytes_eq cs ks ≡ false
apart bs cs ks n y = nat_list_eq_equiv.symm cs ks ∙ sym (nat_list_eq_equiv.congr bs ks cs y) ∙ n

apart_in_order : (bs cs ks : List ℕ) → bytes_eq bs cs ≡ false → is_eq (slice_cmp nat_cmp bs ks) ≡ true
    → is_eq (slice_cmp nat_cmp cs ks) ≡ false
apart_in_order bs cs ks n y = is_eq-slice_cmp cs ks ∙ apart bs cs ks n (sym (is_eq-slice_cmp bs ks) ∙ y)

module _ {K : Type 0} (eq : K → K → Bool) (test : K → Bool) where
  other_entries : {X : Type 0} (old new : List (K × X)) → KeepsOthers eq test old new → (other : K → Bool) → IsKeyTest eq other
      → AreApart test other → lookup other new ≡ lookup other old
  unfolding KeepsOthers
  other_entries old new h = h

-- what a new key changes, at the key and at others
updated : (old new : BTreeMap (Vec ℕ Global) ℕ) (key : Vec ℕ Global) (w : Option ℕ) → UpdatesBy by_items (by_items key) old new w
    → (asked : List ℕ) → get_by (by_bytes asked) new ≡ cond (bytes_eq key.items asked) w (get_by (by_bytes asked) old)
updated old new key w h asked = ⊎_elim
    (λ y. subst (λ l. get_by (by_bytes l) new ≡ w) ((bytes_eq-Decides key.items asked).0 y) h.1
    ∙ sym (cond-true (bytes_eq key.items asked) w (get_by (by_bytes asked) old) y))
    (λ n. other_entries _ _ _ _ h.3 _ (λ x y. (eq_by_cmp_equiv nat_list_cmp_total).congr asked x.items y.items)
    (λ k. apart_in_order key.items asked k.items n)
    ∙ sym (cond-false (bytes_eq key.items asked) w (get_by (by_bytes asked) old) n))
    (cases_Bool (bytes_eq key.items asked))

one_more : (old new : BTreeMap (Vec ℕ Global) ℕ) (key : Vec ℕ Global) (i : ℕ) (x : List ℕ) (rest : List (List ℕ)) → key.items ≡ x
    → UpdatesBy by_items (by_items key) old new (Some i) → KeepsPlaces old (i + 1) rest → KeepsPlaces new i (x ∷ rest)
one_more old new key i x rest is added keeps = λ asked.
    updated old new key (Some i) added asked
    ∙ ap (cond (bytes_eq key.items asked) (Some i)) (keeps asked)
    ∙ ap (λ (m : List ℕ). cond (bytes_eq m asked) (Some i) (place_from (i + 1) rest asked)) is

pub more_kept : {A : Type 0} (f : A → List ℕ) (rows : List A) (old new : BTreeMap (Vec ℕ Global) ℕ) (key : Vec ℕ Global)
    (i : ℕ) (row : A) → i < length rows → row ≡ get_or rows i row → key.items ≡ f row
    → UpdatesBy by_items (by_items key) old new (Some i)
    → KeepsPlaces old (i + 1) (map f (drop (i + 1) rows)) → KeepsPlaces new i (map f (drop i rows))
more_kept f rows old new key i row within is keyed added keeps =
    subst (λ (xs : List (List ℕ)). KeepsPlaces new i xs) (sym (ap (λ l. map f l) (drop_more rows i row within)))
    (one_more old new key i (f (get_or rows i row)) (map f (drop (i + 1) rows)) (keyed ∙ ap f is) added keeps)

-- routes
later_place : (n : ℕ) (names : List (List ℕ)) (text : List ℕ) → place_from (n + 1) names text ≡ option_map suc (place_from n names text)
later_place n [] text = refl
later_place n (x ∷ xs) text = later_by (bytes_eq x text) n (place_from (n + 1 + 1) xs text) (place_from (n + 1) xs text)
    (later_place (n + 1) xs text)
  where
    later_by : (b : Bool) (k : ℕ) (o q : Option ℕ) → o ≡ option_map suc q → cond b (Some (k + 1)) o ≡ option_map suc (cond b (Some k) q)
    later_by true k o q e = ap (λ (m : ℕ). Some m) (add-one k)
    later_by false k o q e = e

abbrev pub targets_at : List Route → Option ℕ → List ℕ
targets_at routes place = option_map_or (λ (r : Route). r.to) (option_and_then (slice_get routes) place) []

behind_first : (r : Route) (routes : List Route) (o : Option ℕ) → targets_at (r ∷ routes) (option_map suc o) ≡ targets_at routes o
behind_first r routes None = refl
behind_first r routes (Some k) = refl

chosen : (b : Bool) (r : Route) (routes : List Route) (o : Option ℕ)
    → targets_at (r ∷ routes) (cond b (Some 0) (option_map suc o)) ≡ cond b r.to (targets_at routes o)
chosen true r routes o = refl
chosen false r routes o = behind_first r routes o

-- the targets at the first place of a code are those for it
pub targets_found : (routes : List Route) (code : List ℕ)
    → targets_at routes (place_of (map route_key routes) code) ≡ targets_in routes code
targets_found [] code = refl
targets_found (r ∷ routes) code =
    ap (λ (o : Option ℕ). targets_at (r ∷ routes) (cond (bytes_eq r.code code) (Some 0) o)) (later_place 0 (map route_key routes) code)
    ∙ chosen (bytes_eq r.code code) r routes (place_of (map route_key routes) code)
    ∙ ap (cond (bytes_eq r.code code) r.to) (targets_found routes code)

-- senders
and_assoc : (a b c : Bool) → (a && b && c) ≡ (a && (b && c))
and_assoc true b c = refl
and_assoc false b c = refl

key_parts : (a b r s : List ℕ) → length a ≡ length b → bytes_eq (a ++ r) (b ++ s) ≡ (bytes_eq a b && bytes_eq r s)
key_parts [] [] r s e = refl
key_parts [] (y ∷ b) r s e = absurd (omega arith)
key_parts (x ∷ a) [] r s e = absurd (omega arith)
key_parts (x ∷ a) (y ∷ b) r s e =
    ap (λ (t : Bool). nat_eq x y && t) (key_parts a b r s (omega arith)) ∙ sym (and_assoc (nat_eq x y) (bytes_eq a b) (bytes_eq r s))

two : (p : Partner) → are_ids p.qualifier p.id p.code ≡ true → length p.qualifier ≡ 2
two p h =
    let parts = and_parts (is_word 2 2 p.qualifier && is_id 1 15 p.id) (is_id 2 15 p.code) h in
    let word = (and_parts (is_word 2 2 p.qualifier) (is_id 1 15 p.id) parts.0).0 in
    let lengths = (and_parts (nat_le 2 (length p.qualifier) && nat_le (length p.qualifier) 2)
    (list_all is_ascii_alphanumeric p.qualifier) word).0 in
    let ends = and_parts (nat_le 2 (length p.qualifier)) (nat_le (length p.qualifier) 2) lengths in
    omega (arith, leb-true 2 (length p.qualifier) ends.0, leb-true (length p.qualifier) 2 ends.1)

short : (s : List ℕ) → is_id 1 15 s ≡ true → length s ≤ 15
short s h =
    let a = nat_le 1 (length s) in
    let b = nat_le (length s) 15 in
    let c = list_all is_inner s in
    let d = is_outer (slice_index s 0) in
    let e = is_outer (slice_index s (length s - 1)) in
    let abcd = (and_parts (a && b && c && d) e h).0 in
    let abc = (and_parts (a && b && c) d abcd).0 in
    let ab = (and_parts (a && b) c abc).0 in
    leb-true (length s) 15 (and_parts a b ab).1

fifteen : (p : Partner) → are_ids p.qualifier p.id p.code ≡ true → length p.id ≤ 15
fifteen p h =
    let parts = and_parts (is_word 2 2 p.qualifier && is_id 1 15 p.id) (is_id 2 15 p.code) h in
    short p.id (and_parts (is_word 2 2 p.qualifier) (is_id 1 15 p.id) parts.0).1

found_from : (n count : ℕ) (ps : List Partner) (qualifier id : List ℕ) → All (IsSoundPartner count) ps → length qualifier ≡ 2
    → position_from (λ (p : Partner). has_qualifier_and_id p qualifier id) n ps ≡ place_from n (map sender_key ps) (qualifier ++ id)
found_from n count [] qualifier id h e = refl
found_from n count (p ∷ ps) qualifier id h e =
    let l = two p (All-head (IsSoundPartner count) p ps h).ids in
    ap (λ (b : Bool). cond b (Some n) (position_from (λ (x : Partner). has_qualifier_and_id x qualifier id) (n + 1) ps))
    (sym (key_parts p.qualifier qualifier p.id id (l ∙ sym e)))
    ∙ ap (cond (bytes_eq (sender_key p) (qualifier ++ id)) (Some n))
    (found_from (n + 1) count ps qualifier id (All-tail (IsSoundPartner count) p ps h) e)

-- the first place of the key is that of the qualifier and the id
pub sender_found : (count : ℕ) (ps : List Partner) (qualifier id : List ℕ) → All (IsSoundPartner count) ps → length qualifier ≡ 2
    → place_of (map sender_key ps) (qualifier ++ id) ≡ position (λ (p : Partner). has_qualifier_and_id p qualifier id) ps
sender_found count ps qualifier id h e =
    sym (position_from-zero (λ (p : Partner). has_qualifier_and_id p qualifier id) ps ∙ found_from 0 count ps qualifier id h e)

foreign : (p : Partner) (qualifier id : List ℕ) → are_ids p.qualifier p.id p.code ≡ true → (length qualifier ≢ 2) ⊎ (15 < length id)
    → has_qualifier_and_id p qualifier id ≡ true → ⊥
foreign p qualifier id h (inl n) t =
    let q = (bytes_eq-Decides p.qualifier qualifier).0 (and_parts (bytes_eq p.qualifier qualifier) (bytes_eq p.id id) t).0 in
    n (sym (ap length q) ∙ two p h)
foreign p qualifier id h (inr n) t =
    let i : length p.id ≡ length id
    = ap length ((bytes_eq-Decides p.id id).0 (and_parts (bytes_eq p.qualifier qualifier) (bytes_eq p.id id) t).1) in
    let l = fifteen p h in
    omega (arith, i, l, n)

none_from : (n count : ℕ) (ps : List Partner) (qualifier id : List ℕ) → All (IsSoundPartner count) ps
    → (length qualifier ≢ 2) ⊎ (15 < length id) → position_from (λ (p : Partner). has_qualifier_and_id p qualifier id) n ps ≡ None
none_from n count [] qualifier id h e = refl
none_from n count (p ∷ ps) qualifier id h e =
    ap (λ (b : Bool). cond b (Some n) (position_from (λ (x : Partner). has_qualifier_and_id x qualifier id) (n + 1) ps))
    (false_from_ne_true (has_qualifier_and_id p qualifier id) (foreign p qualifier id (All-head (IsSoundPartner count) p ps h).ids e))
    ∙ none_from (n + 1) count ps qualifier id (All-tail (IsSoundPartner count) p ps h) e

-- no partner's qualifier has another length, and no partner's id is longer
pub none_found : (count : ℕ) (ps : List Partner) (qualifier id : List ℕ) → All (IsSoundPartner count) ps
    → (length qualifier ≢ 2) ⊎ (15 < length id) → position (λ (p : Partner). has_qualifier_and_id p qualifier id) ps ≡ None
none_found count ps qualifier id h e =
    position_from-zero (λ (p : Partner). has_qualifier_and_id p qualifier id) ps ∙ none_from 0 count ps qualifier id h e
