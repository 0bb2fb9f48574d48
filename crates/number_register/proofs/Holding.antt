-- The books of an index: without a key at first, and with one more at each record.
use Rattle.std.proofs.Common.{◌≡◌, ◌≢◌, ℕ, zero, suc, ◌<◌, ◌⊎◌, inl, inr, false, List, [], ◌∷◌, ◌++◌, length}
use Rattle.std.proofs.Common.{map, get_or, set, replicate, Option, Some, None, refl, sym, ap, subst, ◌∙◌, arith}
use Rattle.std.specs.Prelude.{slice_get, slice_set, option_map}
use Rattle.std.proofs.lemmas.Bool.{cases_eq}
use Rattle.std.proofs.lemmas.List.{get_or-set_same, get_or-set_other}
use Rattle.std.proofs.lemmas.Option.{none-some, slice_get-get_or}
use Rattle.hub_kinds.specs.declared.place.Place.{Place}
use Rattle.number_register.specs.Books.{book_at}
use Rattle.work_core.specs.Core.{was_recorded}
use Rattle.env_index.specs.Words.{IndexEntry, GroupEntry}
use Rattle.number_register.specs.Fresh.{fresh_books, fresh_groups, fresh_sets}
use Rattle.number_register.specs.Slots.{AreHeld, AreSlots, InterchangeKey, code_in, group_code, group_place, groups_of}
use Rattle.number_register.specs.Slots.{interchange_code, interchange_place}
use Rattle.number_register.specs.Slots.{same_code, set_control, set_place, sets_at, sets_of, text_of}
use Rattle.number_register.proofs.Fill.{absent_at}
use Rattle.number_register.proofs.Slotting.{apart, apart_too, other_gs, other_isa, other_st, slot_absent, slots_more, slots_stay, up}
use denote.Ref.{Bor}

group_book : (es : List IndexEntry) (n : ℕ) → book_at (map fresh_groups es) n ≡ replicate (length (groups_of es n)) None
group_book [] n = refl
group_book (e ∷ es) zero = refl
group_book (e ∷ es) (suc n) = group_book es n

set_books : (es : List IndexEntry) (n : ℕ) → get_or (map fresh_books es) n [] ≡ map fresh_sets (groups_of es n)
set_books [] n = refl
set_books (e ∷ es) zero = refl
set_books (e ∷ es) (suc n) = set_books es n

set_book : (gs : List GroupEntry) (k : ℕ) → book_at (map fresh_sets gs) k ≡ replicate (length (sets_at (slice_get gs k))) None
set_book [] k = refl
set_book (g ∷ gs) zero = refl
set_book (g ∷ gs) (suc k) = set_book gs k

pub fresh_held : (es : List IndexEntry) → AreHeld es [] (replicate (length es) None) (map fresh_groups es) (map fresh_books es)
fresh_held es = record {
  interchanges = λ j v is. ap (option_map (option_map code_in)) (absent_at interchange_code es j v is);
  groups = λ n j v is. ap (λ (b : List (Option ℕ)). option_map (option_map same_code) (slice_get b j)) (group_book es n)
      ∙ ap (option_map (option_map same_code)) (absent_at group_code (groups_of es n) j v is);
  sets = λ n k j v is.
      ap (λ (b : List (List (Option (Bor (List ℕ))))). option_map (option_map text_of) (slice_get (book_at b k) j)) (set_books es n)
      ∙ ap (λ (b : List (Option (Bor (List ℕ)))). option_map (option_map text_of) (slice_get b j)) (set_book (groups_of es n) k)
      ∙ ap (option_map (option_map text_of)) (absent_at set_control (sets_of es n k) j v is);
}

-- what has an item is there
pub within_lists : {A : Type 0} (xs : List (List A)) (n j : ℕ) (x : A) → slice_get (get_or xs n []) j ≡ Some x → n < length xs
within_lists [] n j x is = absurd (none-some x is)
within_lists (l ∷ xs) zero j x is = omega arith
within_lists (l ∷ xs) (suc n) j x is = let r = within_lists xs n j x is in omega arith

pub within_books : {A : Type 0} (xs : List (List (List A))) (n k j : ℕ) (x : A) → slice_get (get_or (get_or xs n []) k []) j ≡ Some x
    → n < length xs
within_books xs n k j x is =
    within_lists xs n k (get_or (get_or xs n []) k [])
    (slice_get-get_or (get_or xs n []) k [] (within_lists (get_or xs n []) k j x is))

abbrev pub with_set : List (List (List (Option (Bor (List ℕ))))) → (n k j : ℕ) → Bor (List ℕ) → List (List (Option (Bor (List ℕ))))
with_set set n k j key = slice_set (get_or set n []) k (slice_set (book_at (get_or set n []) k) j (Some key))

abbrev AreFor : List IndexEntry → List Place → (m i : ℕ) → List (List (Option (Bor (List ℕ)))) → Type 0
AreFor es recorded m i bs = AreSlots text_of (map set_control (sets_of es m i)) (set_place m i) recorded (book_at bs i)

module _ (es : List IndexEntry) (recorded : List Place) (inter : List (Option (InterchangeKey))) (group : List (List (Option ℕ)))
    (set : List (List (List (Option (Bor (List ℕ)))))) (held : AreHeld es recorded inter group set) where
  pub interchange_more : (n : ℕ) (key : InterchangeKey) → slice_get (map interchange_code es) n ≡ Some (code_in key)
      → was_recorded recorded (interchange_place n) ≡ false
      → AreHeld es (recorded ++ interchange_place n ∷ []) (slice_set inter n (Some key)) group set
  interchange_more n key is fresh = record {
    interchanges = slots_more code_in (map interchange_code es) interchange_place recorded inter n key (code_in key)
        (slot_absent code_in (map interchange_code es) interchange_place recorded inter n (code_in key) held.interchanges is fresh)
        is refl (λ j e. other_isa (interchange_place j) (interchange_place n) (up j n e)) held.interchanges;
    groups = λ m. slots_stay same_code (map group_code (groups_of es m)) (group_place m) recorded (interchange_place n) (book_at group m)
        (λ k. other_gs (group_place m k) (interchange_place n) (apart k)) (held.groups m);
    sets = λ m i. slots_stay text_of (map set_control (sets_of es m i)) (set_place m i) recorded (interchange_place n)
        (book_at (get_or set m []) i) (λ j. other_gs (set_place m i j) (interchange_place n) (apart i)) (held.sets m i);
  }

  pub group_absent : (n k : ℕ) (key : ℕ) → slice_get (map group_code (groups_of es n)) k ≡ Some key
      → was_recorded recorded (group_place n k) ≡ false → slice_get (book_at group n) k ≡ Some None
  group_absent n k key is fresh =
      slot_absent same_code (map group_code (groups_of es n)) (group_place n) recorded (book_at group n) k key (held.groups n) is fresh

  pub set_absent : (n k j : ℕ) (key : List ℕ) → slice_get (map set_control (sets_of es n k)) j ≡ Some key
      → was_recorded recorded (set_place n k j) ≡ false → slice_get (book_at (get_or set n []) k) j ≡ Some None
  set_absent n k j key is fresh =
      slot_absent text_of (map set_control (sets_of es n k)) (set_place n k) recorded (book_at (get_or set n []) k) j key
      (held.sets n k) is fresh

  pub interchange_absent : (n : ℕ) (key : ℕ × List (List ℕ)) → slice_get (map interchange_code es) n ≡ Some key
      → was_recorded recorded (interchange_place n) ≡ false → slice_get inter n ≡ Some None
  interchange_absent n key is fresh =
      slot_absent code_in (map interchange_code es) interchange_place recorded inter n key held.interchanges is fresh

  pub group_more : (n k : ℕ) (key : ℕ) → slice_get (map group_code (groups_of es n)) k ≡ Some key
      → was_recorded recorded (group_place n k) ≡ false
      → AreHeld es (recorded ++ group_place n k ∷ []) inter (slice_set group n (slice_set (book_at group n) k (Some key))) set
  group_more n k key is fresh = record {
    interchanges = slots_stay code_in (map interchange_code es) interchange_place recorded (group_place n k) inter
        (λ j. other_gs (interchange_place j) (group_place n k) (apart_too k)) held.interchanges;
    groups = λ m. at_group m (cases_eq m n);
    sets = λ m i. slots_stay text_of (map set_control (sets_of es m i)) (set_place m i) recorded (group_place n k)
        (book_at (get_or set m []) i) (λ j. other_st (set_place m i j) (group_place n k) (apart j)) (held.sets m i);
  } where
    absent : slice_get (book_at group n) k ≡ Some None
    absent = group_absent n k key is fresh

    at_group : (m : ℕ) → (m ≡ n) ⊎ (m ≢ n) → AreSlots same_code (map group_code (groups_of es m)) (group_place m)
        (recorded ++ group_place n k ∷ []) (book_at (slice_set group n (slice_set (book_at group n) k (Some key))) m)
    at_group m (inl e) =
        subst (λ (x : ℕ). AreSlots same_code (map group_code (groups_of es x)) (group_place x) (recorded ++ group_place n k ∷ [])
        (book_at (slice_set group n (slice_set (book_at group n) k (Some key))) x)) (sym e)
        (subst (λ (b : List (Option ℕ)). AreSlots same_code (map group_code (groups_of es n)) (group_place n)
        (recorded ++ group_place n k ∷ []) b)
        (sym (get_or-set_same group n (slice_set (book_at group n) k (Some key)) [] (within_lists group n k None absent)))
        (slots_more same_code (map group_code (groups_of es n)) (group_place n) recorded (book_at group n) k key key absent is refl
        (λ j d. other_gs (group_place n j) (group_place n k) (up j k d)) (held.groups n)))
    at_group m (inr d) =
        subst (λ (b : List (Option ℕ)). AreSlots same_code (map group_code (groups_of es m)) (group_place m)
        (recorded ++ group_place n k ∷ []) b)
        (sym (get_or-set_other group n m (slice_set (book_at group n) k (Some key)) [] d))
        (slots_stay same_code (map group_code (groups_of es m)) (group_place m) recorded (group_place n k) (book_at group m)
        (λ j. other_isa (group_place m j) (group_place n k) (up m n d)) (held.groups m))

  pub set_more : (n k j : ℕ) (key : Bor (List ℕ)) → slice_get (map set_control (sets_of es n k)) j ≡ Some key.now
      → was_recorded recorded (set_place n k j) ≡ false
      → AreHeld es (recorded ++ set_place n k j ∷ []) inter group
      (slice_set set n (with_set set n k j key))
  set_more n k j key is fresh = record {
    interchanges = slots_stay code_in (map interchange_code es) interchange_place recorded (set_place n k j) inter
        (λ m. other_gs (interchange_place m) (set_place n k j) (apart_too k)) held.interchanges;
    groups = λ m. slots_stay same_code (map group_code (groups_of es m)) (group_place m) recorded (set_place n k j) (book_at group m)
        (λ i. other_st (group_place m i) (set_place n k j) (apart_too j)) (held.groups m);
    sets = λ m i. at_set m i (cases_eq m n) (cases_eq i k);
  } where
    absent : slice_get (book_at (get_or set n []) k) j ≡ Some None
    absent = set_absent n k j key.now is fresh

    own : AreFor es (recorded ++ set_place n k j ∷ []) n k (with_set set n k j key)
    own =
        subst (λ (b : List (Option (Bor (List ℕ)))). AreSlots text_of (map set_control (sets_of es n k)) (set_place n k)
        (recorded ++ set_place n k j ∷ []) b)
        (sym (get_or-set_same (get_or set n []) k (slice_set (book_at (get_or set n []) k) j (Some key)) [] (within_lists
        (get_or set n []) k j None absent)))
        (slots_more text_of (map set_control (sets_of es n k)) (set_place n k) recorded (book_at (get_or set n []) k) j key key.now absent
        is refl (λ l d. other_st (set_place n k l) (set_place n k j) (up l j d)) (held.sets n k))

    beside : (i : ℕ) → i ≢ k → AreFor es (recorded ++ set_place n k j ∷ []) n i (with_set set n k j key)
    beside i d =
        subst (λ (b : List (Option (Bor (List ℕ)))). AreSlots text_of (map set_control (sets_of es n i)) (set_place n i)
        (recorded ++ set_place n k j ∷ []) b)
        (sym (get_or-set_other (get_or set n []) k i (slice_set (book_at (get_or set n []) k) j (Some key)) [] d))
        (slots_stay text_of (map set_control (sets_of es n i)) (set_place n i) recorded (set_place n k j) (book_at (get_or set n []) i)
        (λ l. other_gs (set_place n i l) (set_place n k j) (up i k d)) (held.sets n i))

    here : (i : ℕ) → (i ≡ k) ⊎ (i ≢ k) → AreFor es (recorded ++ set_place n k j ∷ []) n i (with_set set n k j key)
    here i (inl e) = subst (λ (x : ℕ). AreFor es (recorded ++ set_place n k j ∷ []) n x (with_set set n k j key)) (sym e) own
    here i (inr d) = beside i d

    at_set : (m i : ℕ) → (m ≡ n) ⊎ (m ≢ n) → (i ≡ k) ⊎ (i ≢ k) → AreFor es (recorded ++ set_place n k j ∷ []) m i (get_or
        (slice_set set n (with_set set n k j key)) m [])
    at_set m i (inl e) h =
        subst (λ (x : ℕ). AreFor es (recorded ++ set_place n k j ∷ []) x i (get_or (slice_set set n (with_set set n k j key)) x [])) (sym e)
        (subst (λ (bs : List (List (Option (Bor (List ℕ))))). AreFor es (recorded ++ set_place n k j ∷ []) n i bs)
        (sym (get_or-set_same set n (with_set set n k j key) [] (within_books set n k j None absent))) (here i h))
    at_set m i (inr d) h =
        subst (λ (bs : List (List (Option (Bor (List ℕ))))). AreFor es (recorded ++ set_place n k j ∷ []) m i bs) (sym
        (get_or-set_other set n m (with_set set n k j key) [] d))
        (slots_stay text_of (map set_control (sets_of es m i)) (set_place m i) recorded (set_place n k j) (book_at (get_or set m []) i)
        (λ l. other_isa (set_place m i l) (set_place n k j) (up m n d)) (held.sets m i))
