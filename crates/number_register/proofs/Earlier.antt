-- What a book of recorded numbers answers is the first use of a place's number.
use Rattle.std.proofs.Common.{◌≡◌, ℕ, ◌+◌, ◌-◌, ◌<◌, ◌≤◌, Bool, true, false, List, []}
use Rattle.std.proofs.Common.{map, get_or, cond, ltb, Option, Some, None, refl, sym, ap, subst, ◌∙◌}
use Rattle.std.specs.Prelude.{Contains, option_map, slice_get}
use Rattle.std.specs.Ordering.{nat_cmp}
use Rattle.std.proofs.lemmas.Bool.{ltb-true}
use Rattle.std.proofs.lemmas.Option.{none-some}
use Rattle.hub_kinds.specs.Words.{by_text}
use Rattle.hub_kinds.specs.declared.place.Place.{Place}
use Rattle.number_register.specs.Books.{book_at}
use Rattle.number_register.specs.First.{first_of, where_before}
use Rattle.work_core.specs.Core.{was_recorded}
use Rattle.env_index.specs.Words.{IndexValue, OfGroup, OfSet, places_of}
use Rattle.number_register.specs.Recording.{IsEarlierIn}
use Rattle.number_register.specs.Slots.{AreHeld, InterchangeKey, code_in, group_code, group_place, groups_of, interchange_code}
use Rattle.number_register.specs.Slots.{interchange_place}
use Rattle.number_register.specs.Slots.{same_code, set_control, set_place, sets_of, text_of}
use Rattle.number_register.proofs.Comparing.{by_code, code_equal, code_same, codes_equal, codes_same, lent_equal, lent_same}
use Rattle.number_register.proofs.Families.{group_uses, interchange_by, interchange_uses, number_by, set_uses}
use Rattle.number_register.proofs.Firsts.{first_before, key_there}
use Rattle.number_register.proofs.Places.{placed}
use Rattle.number_register.proofs.Standing.{at_group, at_interchange, at_set, item}
use Rattle.number_register.proofs.Uses.{is_earlier}
use denote.Ref.{Bor}

low_by : (b : Bool) (at m : ℕ) (o : ℕ) → ltb o at ≡ b → cond b (Some o) None ≡ Some m → m < at
low_by true at m o e h = let s : o ≡ m = cc in subst (λ (x : ℕ). x < at) s (ltb-true o at e)
low_by false at m o e h = absurd (none-some m h)

-- what is before a position is less
pub where_low : (at m : ℕ) (o : Option ℕ) → where_before at o ≡ Some m → m < at
where_low at m None h = absurd (none-some m h)
where_low at m (Some o) h = low_by (ltb o at) at m o refl h

module _ (index : IndexValue) (recorded : List Place) (inter : List (Option (InterchangeKey))) (group : List (List (Option ℕ)))
    (set : List (List (List (Option (Bor (List ℕ)))))) (held : AreHeld index.entries recorded inter group set)
    (listed : (q : Place) → was_recorded recorded q ≡ true → Contains (places_of index) q)
    (full : (q : Place) → Contains (places_of index) q → was_recorded recorded q ≡ true) (p : Place)
    (there : Contains (places_of index) p)
  where
    pub interchange_key : p.gs ≡ 0
        → (key : InterchangeKey) × (slice_get inter (p.isa - 1) ≡ Some (Some key))
        × (code_in key ≡ get_or (map interchange_code index.entries) (p.isa - 1) (0, []))
    interchange_key gs =
        let at = placed index p there in
        let alone = at.alone gs in
        key_there (by_code) code_in (map interchange_code index.entries) interchange_place recorded inter held.interchanges
        (p.isa - 1)
        (get_or (map interchange_code index.entries) (p.isa - 1) (0, [])) (item interchange_code index.entries (p.isa - 1) (0, []) alone.1)
        (ap (was_recorded recorded) (sym (at_interchange p at.isa gs alone.0)) ∙ full p there)

    pub interchange_earlier : p.gs ≡ 0 → (result : Option ℕ)
        → ((key : InterchangeKey) → slice_get inter (p.isa - 1) ≡ Some (Some key)
        → result ≡ where_before (p.isa - 1) (first_of (by_code) inter key))
        → (found : Option Place) → found ≡ option_map interchange_place result → IsEarlierIn index p found
    interchange_earlier gs result answers found is =
        let at = placed index p there in
        let alone = at.alone gs in
        let place = at_interchange p at.isa gs alone.0 in
        let key = interchange_key gs in
        let numbers = map interchange_code index.entries in
        let v = get_or numbers (p.isa - 1) (0, []) in
        let own = item interchange_code index.entries (p.isa - 1) (0, []) alone.1 in
        let first = first_before (by_code) code_in numbers interchange_place recorded inter held.interchanges codes_same
        codes_equal (p.isa - 1) v key.0 own key.2 result (answers key.0 key.1) in
        subst (λ (q : Place). IsEarlierIn index q found) (sym place)
        (is_earlier index interchange_place interchange_by numbers (interchange_uses index) recorded listed full (p.isa - 1) v own
        (subst (λ (q : Place). Contains (places_of index) q) place there) result first found is)

    pub group_key_there : 1 ≤ p.gs → p.st ≡ 0
        → (key : ℕ) × (slice_get (book_at group (p.isa - 1)) (p.gs - 1) ≡ Some (Some key))
        × (same_code key ≡ get_or (map group_code (groups_of index.entries (p.isa - 1))) (p.gs - 1) 0)
    group_key_there gs st =
        let at = placed index p there in
        let groups = groups_of index.entries (p.isa - 1) in
        key_there nat_cmp same_code (map group_code groups) (group_place (p.isa - 1)) recorded (book_at group (p.isa - 1))
        (held.groups (p.isa - 1)) (p.gs - 1)
        (get_or (map group_code groups) (p.gs - 1) 0) (item group_code groups (p.gs - 1) 0 (at.group gs st))
        (ap (was_recorded recorded) (sym (at_group p at.isa gs st)) ∙ full p there)

    pub group_earlier : 1 ≤ p.gs → p.st ≡ 0 → (result : Option ℕ)
        → ((key : ℕ) → slice_get (book_at group (p.isa - 1)) (p.gs - 1) ≡ Some (Some key)
        → result ≡ where_before (p.gs - 1) (first_of nat_cmp (book_at group (p.isa - 1)) key))
        → (found : Option Place) → found ≡ option_map (group_place (p.isa - 1)) result → IsEarlierIn index p found
    group_earlier gs st result answers found is =
        let at = placed index p there in
        let place = at_group p at.isa gs st in
        let key = group_key_there gs st in
        let groups = groups_of index.entries (p.isa - 1) in
        let numbers = map group_code groups in
        let v = get_or numbers (p.gs - 1) 0 in
        let own = item group_code groups (p.gs - 1) 0 (at.group gs st) in
        let first = first_before nat_cmp same_code numbers (group_place (p.isa - 1)) recorded (book_at group (p.isa - 1))
        (held.groups (p.isa - 1)) code_same code_equal (p.gs - 1) v key.0 own key.2 result (answers key.0 key.1) in
        subst (λ (q : Place). IsEarlierIn index q found) (sym place)
        (is_earlier index (group_place (p.isa - 1)) (λ c. OfGroup (p.isa - 1 + 1) (number_by c)) numbers
        (group_uses index (p.isa - 1)) recorded listed full (p.gs - 1) v own
        (subst (λ (q : Place). Contains (places_of index) q) place there) result first found is)

    pub set_key_there : 1 ≤ p.gs → 1 ≤ p.st
        → (key : Bor (List ℕ)) × (slice_get (book_at (get_or set (p.isa - 1) []) (p.gs - 1)) (p.st - 1) ≡ Some (Some key))
        × (text_of key ≡ get_or (map set_control (sets_of index.entries (p.isa - 1) (p.gs - 1))) (p.st - 1) [])
    set_key_there gs st =
        let at = placed index p there in
        let sets = sets_of index.entries (p.isa - 1) (p.gs - 1) in
        key_there by_text text_of (map set_control sets) (set_place (p.isa - 1) (p.gs - 1)) recorded
        (book_at (get_or set (p.isa - 1) []) (p.gs - 1)) (held.sets (p.isa - 1) (p.gs - 1)) (p.st - 1)
        (get_or (map set_control sets) (p.st - 1) []) (item set_control sets (p.st - 1) [] (at.set gs st))
        (ap (was_recorded recorded) (sym (at_set p at.isa gs st)) ∙ full p there)

    pub set_earlier : 1 ≤ p.gs → 1 ≤ p.st → (result : Option ℕ)
        → ((key : Bor (List ℕ)) → slice_get (book_at (get_or set (p.isa - 1) []) (p.gs - 1)) (p.st - 1) ≡ Some (Some key)
        → result ≡ where_before (p.st - 1) (first_of by_text (book_at (get_or set (p.isa - 1) []) (p.gs - 1)) key))
        → (found : Option Place) → found ≡ option_map (set_place (p.isa - 1) (p.gs - 1)) result → IsEarlierIn index p found
    set_earlier gs st result answers found is =
        let at = placed index p there in
        let place = at_set p at.isa gs st in
        let key = set_key_there gs st in
        let sets = sets_of index.entries (p.isa - 1) (p.gs - 1) in
        let numbers = map set_control sets in
        let v = get_or numbers (p.st - 1) [] in
        let own = item set_control sets (p.st - 1) [] (at.set gs st) in
        let first = first_before by_text text_of numbers (set_place (p.isa - 1) (p.gs - 1)) recorded
        (book_at (get_or set (p.isa - 1) []) (p.gs - 1)) (held.sets (p.isa - 1) (p.gs - 1)) lent_same lent_equal (p.st - 1) v key.0
        own key.2
        result (answers key.0 key.1) in
        subst (λ (q : Place). IsEarlierIn index q found) (sym place)
        (is_earlier index (set_place (p.isa - 1) (p.gs - 1)) (OfSet (p.isa - 1 + 1) (p.gs - 1 + 1)) numbers
        (set_uses index (p.isa - 1) (p.gs - 1)) recorded listed full (p.st - 1) v own
        (subst (λ (q : Place). Contains (places_of index) q) place there) result first found is)
