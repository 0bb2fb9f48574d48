-- Nothing is broken exactly if nights are sound.
use Rattle.std.proofs.Common.{◌≡◌, ◌≢◌, ℕ, suc, Bool, true, false, not, ◌&&◌, ◌||◌, ◌==◌, cond, List, [], ◌∷◌, ◌++◌, length}
use Rattle.std.proofs.Common.{Option, Some, None, IfSome, refl, sym, subst, ap, ◌∙◌, arith, true≢false}
use Rattle.std.specs.Prelude.{◌↔◌}
use Rattle.std.specs.List.{AllByRecursion}
use Rattle.std.specs.Str.{bytes_eq}
use Rattle.std.specs.Cmp.Lexicographic.{bytes_decides}
use Rattle.std.proofs.lemmas.Bool.{eqb-true, eq-eqb, false_from_ne_true}
use Rattle.std.proofs.lemmas.List.Folds.{list_any-append}
use Rattle.hub_kinds.specs.declared.counters.Counters.{Counters}
use Rattle.hub_kinds.specs.Words.{contains_text}
use Rattle.hub_ledger.specs.declared.entry.AddressNumbers.{AddressNumbers}
use Rattle.hub_ledger.specs.declared.entry.FileSum.{FileSum}
use Rattle.hub_ledger.specs.declared.entry.NightEntry.{NightEntry}
use Rattle.hub_ledger.specs.Entries.{BeginsWhereLeft, KnownRow, fresh_keys, keys_of, last_known}
use Rattle.night_breaches.specs.declared.breach.Breach.{Breach}
use Rattle.night_breaches.specs.declared.breach.FileFault.{FileFault}
use Rattle.night_breaches.specs.declared.breach.FileFault.TheVariants as fault
use Rattle.night_breaches.specs.Breaches.{breaches_after, breaches_on, file_fault, is_before, late_moment, moment_back, newest}
use Rattle.night_breaches.specs.Breaches.{night_with, number_break, number_breaks, same_numbers, second_deliveries, second_delivery}
use Rattle.night_breaches.specs.Breaches.{wrong_file, wrong_files}
use Rattle.night_breaches.specs.Sound.{AreSound, IsAsListed, IsSound}

left_none : {X : Type 0} (xs ys : List X) → xs ++ ys ≡ [] → xs ≡ []
left_none [] ys e = refl
left_none (x ∷ xs) ys e = absurd (cc)

right_none : {X : Type 0} (xs ys : List X) → xs ++ ys ≡ [] → ys ≡ []
right_none [] ys e = e
right_none (x ∷ xs) ys e = absurd (cc)

both_none : {X : Type 0} (xs ys : List X) → xs ≡ [] → ys ≡ [] → xs ++ ys ≡ []
both_none xs ys a b = ap (λ (l : List _). l ++ ys) a ∙ b

neither : (b c : Bool) → (b || c) ≡ false → (b ≡ false) × (c ≡ false)
neither true c e = absurd (true≢false e)
neither false c e = (refl, e)

-- keys
without : (key : List ℕ) (older : List NightEntry) → night_with key older ≡ None → contains_text (keys_of older) key ≡ false
without key [] none = refl
without key (night ∷ older) none =
    list_any-append (λ t. bytes_eq t key) night.delivered (keys_of older)
    ∙ here (contains_text night.delivered key) (contains_text (keys_of older) key) (night_with key older) none (without key older)
  where
    here : (b c : Bool) (o : Option (List ℕ)) → cond b (Some night.name) o ≡ None → (o ≡ None → c ≡ false) → (b || c) ≡ false
    here true c o e rest = absurd (cc)
    here false c o e rest = rest e

with_none : (key : List ℕ) (older : List NightEntry) → contains_text (keys_of older) key ≡ false → night_with key older ≡ None
with_none key [] none = refl
with_none key (night ∷ older) none =
    let parts = neither (contains_text night.delivered key) (contains_text (keys_of older) key)
    (sym (list_any-append (λ t. bytes_eq t key) night.delivered (keys_of older)) ∙ none) in
    ap (λ (b : Bool). cond b (Some night.name) (night_with key older)) parts.0 ∙ with_none key older parts.1

no_delivery : (night key : List ℕ) (o : Option (List ℕ)) → second_delivery night key o ≡ [] → o ≡ None
no_delivery night key None e = refl
no_delivery night key (Some x) e = absurd (cc)

keys_new : (older : List NightEntry) (name : List ℕ) (keys : List (List ℕ)) → second_deliveries (λ key. night_with key older) name keys ≡ []
    → (key : List ℕ) → contains_text keys key ≡ true → contains_text (keys_of older) key ≡ false
keys_new older name [] none key has = absurd (true≢false (sym has))
keys_new older name (k ∷ keys) none key has =
    let now = second_delivery name k (night_with k older) in
    let later = second_deliveries (λ key. night_with key older) name keys in
    first_or_later (bytes_eq k key) refl has
    (without k older (no_delivery name k (night_with k older) (left_none now later none)))
    (keys_new older name keys (right_none now later none) key)
  where
    first_or_later : (b : Bool) → bytes_eq k key ≡ b → (b || contains_text keys key) ≡ true → contains_text (keys_of older) k ≡ false
        → (contains_text keys key ≡ true → contains_text (keys_of older) key ≡ false) → contains_text (keys_of older) key ≡ false
    first_or_later true same e first later = ap (contains_text (keys_of older)) (sym ((bytes_decides k key).0 same)) ∙ first
    first_or_later false same e first later = later e

same_bytes : (xs : List ℕ) → bytes_eq xs xs ≡ true
same_bytes xs = (bytes_decides xs xs).1 refl

none_new : (older : List NightEntry) (name : List ℕ) (keys : List (List ℕ))
    → ((key : List ℕ) → contains_text keys key ≡ true → contains_text (keys_of older) key ≡ false)
    → second_deliveries (λ key. night_with key older) name keys ≡ []
none_new older name [] new = refl
none_new older name (k ∷ keys) new =
    both_none (second_delivery name k (night_with k older)) (second_deliveries (λ key. night_with key older) name keys)
    (ap (second_delivery name k) (with_none k older (new k (ap (λ (b : Bool). b || contains_text keys k) (same_bytes k)))))
    (none_new older name keys (λ key has. new key (later (bytes_eq k key) has)))
  where
    later : {c : Bool} (b : Bool) → c ≡ true → (b || c) ≡ true
    later true e = refl
    later false e = e

-- numbers
and_parts : (x y : Bool) → (x && y) ≡ true → (x ≡ true) × (y ≡ true)
and_parts true y e = (refl, e)
and_parts false y e = absurd (true≢false (sym e))

abbrev numbers : (interchange group set : ℕ) → Counters
numbers interchange group set = record { interchange = interchange; group = group; set = set }

same_are : (a b : Counters) → same_numbers a b ≡ true → a ≡ b
same_are a b e =
    let one = and_parts (a.interchange == b.interchange) ((a.group == b.group) && (a.set == b.set)) e in
    let two = and_parts (a.group == b.group) (a.set == b.set) one.1 in
    let p : a.interchange ≡ b.interchange = eqb-true a.interchange b.interchange one.0 in
    let q : a.group ≡ b.group = eqb-true a.group b.group two.0 in
    let r : a.set ≡ b.set = eqb-true a.set b.set two.1 in
    ap (λ (n : ℕ). numbers n a.group a.set) p ∙ ap (λ (n : ℕ). numbers b.interchange n a.set) q
    ∙ ap (λ (n : ℕ). numbers b.interchange b.group n) r

pub are_same : (a b : Counters) → a ≡ b → same_numbers a b ≡ true
are_same a b e = subst (λ (x : Counters). same_numbers a x ≡ true) e
    (ap (λ (x : Bool). x && ((a.group == a.group) && (a.set == a.set))) (eq-eqb a.interchange a.interchange refl)
    ∙ ap (λ (x : Bool). x && (a.set == a.set)) (eq-eqb a.group a.group refl) ∙ eq-eqb a.set a.set refl)

abbrev Begins : AddressNumbers → Option KnownRow → Type 0
Begins row known = IfSome known (λ k. row.begun ≡ k.row.left)

if_none : {X : Type 0} (b : Bool) (x : X) → cond b [] (x ∷ []) ≡ [] → b ≡ true
if_none true x e = refl
if_none false x e = absurd (cc)

none_if : {X : Type 0} (b : Bool) (x : X) → b ≡ true → cond b [] (x ∷ []) ≡ []
none_if true x e = refl
none_if false x e = absurd (true≢false (sym e))

begins : (night : List ℕ) (row : AddressNumbers) (known : Option KnownRow) → number_break night row known ≡ [] → Begins row known
begins night row None e = tt
begins night row (Some known) e =
    same_are row.begun known.row.left (if_none (same_numbers row.begun known.row.left) _ e)

no_break : (night : List ℕ) (row : AddressNumbers) (known : Option KnownRow) → Begins row known → number_break night row known ≡ []
no_break night row None e = refl
no_break night row (Some known) e =
    none_if (same_numbers row.begun known.row.left) _ (are_same row.begun known.row.left e)

all_begin : (older : List NightEntry) (name : List ℕ) (rows : List AddressNumbers)
    → number_breaks (λ address. last_known address older) name rows ≡ [] → AllByRecursion (BeginsWhereLeft older) rows
all_begin older name [] none = tt
all_begin older name (row ∷ rows) none =
    let now = number_break name row (last_known row.address older) in
    let later = number_breaks (λ address. last_known address older) name rows in
    (begins name row (last_known row.address older) (left_none now later none), all_begin older name rows (right_none now later none))

none_breaks : (older : List NightEntry) (name : List ℕ) (rows : List AddressNumbers) → AllByRecursion (BeginsWhereLeft older) rows
    → number_breaks (λ address. last_known address older) name rows ≡ []
none_breaks older name [] all = refl
none_breaks older name (row ∷ rows) all =
    both_none (number_break name row (last_known row.address older)) (number_breaks (λ address. last_known address older) name rows)
    (no_break name row (last_known row.address older) all.0) (none_breaks older name rows all.1)

-- files
abbrev FaultBy : (given none same : Bool) → Option FileFault
FaultBy given none same =
    cond (not given) (Some fault.OfNoPartner) (cond none (Some fault.NotListed) (cond same None (Some fault.Changed)))

not_empty : (xs : List ℕ) → (length xs == 0) ≡ false → xs ≢ []
not_empty [] e is = true≢false e
not_empty (x ∷ xs) e is = absurd (cc)

not_zero : (n : ℕ) → (suc n == 0) ≡ false
not_zero n = false_from_ne_true (suc n == 0) (λ e. absurd (omega (arith, eqb-true (suc n) 0 e)))

filled : (xs : List ℕ) → xs ≢ [] → (length xs == 0) ≡ false
filled [] some = absurd (some refl)
filled (x ∷ xs) some = not_zero (length xs)

all_three : (given none same : Bool) → FaultBy given none same ≡ None → (given ≡ true) × (none ≡ false) × (same ≡ true)
all_three false none same e = absurd (cc)
all_three true true same e = absurd (cc)
all_three true false false e = absurd (cc)
all_three true false true e = (refl, refl, refl)

no_file : (night file : List ℕ) (o : Option FileFault) → wrong_file night file o ≡ [] → o ≡ None
no_file night file None e = refl
no_file night file (Some x) e = absurd (cc)

listed : (file : FileSum) → file_fault file ≡ None → IsAsListed file
listed file e =
    let parts = all_three file.is_given (length file.listed == 0) (bytes_eq file.listed file.sum) e in
    record {
      given = parts.0;
      listed = not_empty file.listed parts.1;
      same = (bytes_decides file.listed file.sum).0 parts.2;
    }

no_fault : (file : FileSum) → IsAsListed file → file_fault file ≡ None
no_fault file is =
    ap (λ (b : Bool). FaultBy b (length file.listed == 0) (bytes_eq file.listed file.sum)) is.given
    ∙ ap (λ (b : Bool). FaultBy true b (bytes_eq file.listed file.sum)) (filled file.listed is.listed)
    ∙ ap (FaultBy true false) ((bytes_decides file.listed file.sum).1 is.same)

all_listed : (name : List ℕ) (files : List FileSum) → wrong_files name files ≡ [] → AllByRecursion IsAsListed files
all_listed name [] none = tt
all_listed name (file ∷ files) none =
    let now = wrong_file name file.name (file_fault file) in (
      listed file (no_file name file.name (file_fault file) (left_none now (wrong_files name files) none)),
      all_listed name files (right_none now (wrong_files name files) none),
    )

none_wrong : (name : List ℕ) (files : List FileSum) → AllByRecursion IsAsListed files → wrong_files name files ≡ []
none_wrong name [] all = refl
none_wrong name (file ∷ files) all =
    both_none (wrong_file name file.name (file_fault file)) (wrong_files name files)
    (ap (wrong_file name file.name) (no_fault file all.0)) (none_wrong name files all.1)

-- moments
unless : {X : Type 0} (b : Bool) (x : X) → cond b (x ∷ []) [] ≡ [] → b ≡ false
unless true x e = absurd (cc)
unless false x e = refl

not_if : {X : Type 0} (b : Bool) (x : X) → b ≡ false → cond b (x ∷ []) [] ≡ []
not_if true x e = absurd (true≢false e)
not_if false x e = refl

not_back : (o : Option NightEntry) (night : NightEntry) → moment_back o night ≡ []
    → IfSome o (λ before. is_before night.moment before.moment ≡ false)
not_back None night e = tt
not_back (Some before) night e = unless (is_before night.moment before.moment) _ e

none_back : (o : Option NightEntry) (night : NightEntry) → IfSome o (λ before. is_before night.moment before.moment ≡ false)
    → moment_back o night ≡ []
none_back None night is = refl
none_back (Some before) night is = not_if (is_before night.moment before.moment) _ is

-- a night, and nights
sound_of : (limit : List ℕ) (older : List NightEntry) (night : NightEntry) → breaches_on limit older night ≡ [] → IsSound limit older night
sound_of limit older night none =
    let second = second_deliveries (λ key. night_with key older) night.name (fresh_keys night) in
    let broken = number_breaks (λ address. last_known address older) night.name night.addresses in
    let wrong = wrong_files night.name night.files in
    let back = moment_back (newest older) night in
    let late = late_moment limit night in
    let after_second : broken ++ (wrong ++ (back ++ late)) ≡ [] = right_none second _ none in
    let after_broken : wrong ++ (back ++ late) ≡ [] = right_none broken _ after_second in
    let after_wrong : back ++ late ≡ [] = right_none wrong _ after_broken in
    record {
      goes_on = record {
        keys = keys_new older night.name (fresh_keys night) (left_none second _ none);
        numbers = all_begin older night.name night.addresses (left_none broken _ after_second);
      };
      files = all_listed night.name night.files (left_none wrong _ after_broken);
      not_back = not_back (newest older) night (left_none back _ after_wrong);
      not_late = unless (is_before limit night.moment) _ (right_none back late after_wrong);
    }

none_of : (limit : List ℕ) (older : List NightEntry) (night : NightEntry) → IsSound limit older night → breaches_on limit older night ≡ []
none_of limit older night sound =
    let second = second_deliveries (λ key. night_with key older) night.name (fresh_keys night) in
    let broken = number_breaks (λ address. last_known address older) night.name night.addresses in
    let wrong = wrong_files night.name night.files in
    let back = moment_back (newest older) night in
    let late = late_moment limit night in
    both_none second (broken ++ (wrong ++ (back ++ late))) (none_new older night.name (fresh_keys night) sound.goes_on.keys)
    (both_none broken (wrong ++ (back ++ late)) (none_breaks older night.name night.addresses sound.goes_on.numbers)
    (both_none wrong (back ++ late) (none_wrong night.name night.files sound.files)
    (both_none back late (none_back (newest older) night sound.not_back) (not_if (is_before limit night.moment) _ sound.not_late))))

sound_after : (limit : List ℕ) (older nights : List NightEntry) → breaches_after limit older nights ≡ [] → AreSound limit older nights
sound_after limit older [] none = tt
sound_after limit older (night ∷ nights) none =
    let now = breaches_on limit older night in
    let later = breaches_after limit (night ∷ older) nights in
    (sound_of limit older night (left_none now later none), sound_after limit (night ∷ older) nights (right_none now later none))

none_after : (limit : List ℕ) (older nights : List NightEntry) → AreSound limit older nights → breaches_after limit older nights ≡ []
none_after limit older [] sound = refl
none_after limit older (night ∷ nights) sound =
    both_none (breaches_on limit older night) (breaches_after limit (night ∷ older) nights) (none_of limit older night sound.0)
    (none_after limit (night ∷ older) nights sound.1)

pub nothing_broken : (limit : List ℕ) (nights : List NightEntry) (found : List Breach) → found ≡ breaches_after limit [] nights
    → (found ≡ []) ↔ AreSound limit [] nights
nothing_broken limit nights found is =
    (λ none. sound_after limit [] nights (sym is ∙ none), λ sound. is ∙ none_after limit [] nights sound)
