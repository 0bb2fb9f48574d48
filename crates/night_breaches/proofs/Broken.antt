-- What is found is broken.
use Rattle.std.proofs.Common.{◌≡◌, ◌≢◌, ℕ, zero, suc, Bool, true, false, not, ◌||◌, ◌==◌, cond, List, [], ◌∷◌, ◌++◌, length}
use Rattle.std.proofs.Common.{Contains, Option, Some, None, refl, sym, subst, ap, ◌∙◌, arith, true≢false, append_assoc}
use Rattle.std.specs.Prelude.{reverse}
use Rattle.std.specs.List.{AllByRecursion, flat_map}
use Rattle.std.specs.Str.{bytes_eq}
use Rattle.std.specs.Cmp.Lexicographic.{bytes_decides}
use Rattle.std.proofs.lemmas.Bool.{eqb-true}
use Rattle.std.proofs.lemmas.List.{reverse-append}
use Rattle.hub_kinds.specs.Words.{contains_text}
use Rattle.hub_ledger.specs.declared.entry.AddressNumbers.{AddressNumbers}
use Rattle.hub_ledger.specs.declared.entry.FileSum.{FileSum}
use Rattle.hub_ledger.specs.declared.entry.NightEntry.{NightEntry}
use Rattle.hub_ledger.specs.Entries.{KnownRow, fresh_keys, last_known}
use Rattle.night_breaches.specs.declared.breach.Breach.{Breach}
use Rattle.night_breaches.specs.declared.breach.Breach.TheVariants as breach
use Rattle.night_breaches.specs.declared.breach.FileFault.{FileFault}
use Rattle.night_breaches.specs.declared.breach.FileFault.TheVariants as fault
use Rattle.night_breaches.specs.Breaches.{breaches_after, breaches_on, file_fault, is_before, late_moment, moment_back, newest}
use Rattle.night_breaches.specs.Breaches.{night_with, number_break, same_numbers, second_delivery}
use Rattle.night_breaches.specs.Breaches.{wrong_file}
use Rattle.night_breaches.specs.Broken.{HasFault, IsBreachOf, IsBroken}
use Rattle.night_breaches.proofs.Nothing.{are_same}

contains_here : {X : Type 0} (x : X) (xs : List X) → Contains (x ∷ xs) x
contains_here x xs = (0, omega (arith), refl)

contains_later : {X : Type 0} (y : X) (xs : List X) (x : X) → Contains xs x → Contains (y ∷ xs) x
contains_later y xs x h = (suc h.0, omega (arith, h.1), h.2)

both : {X : Type 0} (P : X → Type 0) (xs ys : List X) → AllByRecursion P xs → AllByRecursion P ys → AllByRecursion P (xs ++ ys)
both P [] ys a b = b
both P (x ∷ xs) ys a b = (a.0, both P xs ys a.1 b)

flat : {X Y : Type 0} (P : Y → Type 0) (f : X → List Y) (xs : List X) → ((x : X) → Contains xs x → AllByRecursion P (f x))
    → AllByRecursion P (flat_map f xs)
flat P f [] all = tt
flat P f (x ∷ xs) all =
    both P (f x) (flat_map f xs) (all x (contains_here x xs)) (flat P f xs (λ y has. all y (contains_later x xs y has)))

weaker : {X : Type 0} (P Q : X → Type 0) (xs : List X) → ((x : X) → P x → Q x) → AllByRecursion P xs → AllByRecursion Q xs
weaker P Q [] turn all = tt
weaker P Q (x ∷ xs) turn all = (turn x all.0, weaker P Q xs turn all.1)

is_there : (keys : List (List ℕ)) (key : List ℕ) → Contains keys key → contains_text keys key ≡ true
is_there [] key h = absurd (omega (arith, h.1))
is_there (k ∷ keys) key (zero, low, is) = ap (λ (b : Bool). b || contains_text keys key) ((bytes_decides k key).1 is)
is_there (k ∷ keys) key (suc n, low, is) = later (bytes_eq k key) (is_there keys key (n, omega (arith, low), is))
  where
    later : {c : Bool} (b : Bool) → c ≡ true → (b || c) ≡ true
    later true e = refl
    later false e = e

-- the night that is found delivered the set
record Delivered (key : List ℕ) (older : List NightEntry) (name : List ℕ) : Type 0 where
  pub before : NightEntry
  pub older_night : Contains older before
  pub name_is : name ≡ before.name
  pub delivered : contains_text before.delivered key ≡ true

delivered_by : (key : List ℕ) (older : List NightEntry) (name : List ℕ) → night_with key older ≡ Some name → Delivered key older name
delivered_by key [] name is = absurd (cc)
delivered_by key (night ∷ older) name is = first_or_later (contains_text night.delivered key) refl is (delivered_by key older name)
  where
    first_or_later : (b : Bool) → contains_text night.delivered key ≡ b → cond b (Some night.name) (night_with key older) ≡ Some name
        → (night_with key older ≡ Some name → Delivered key older name) → Delivered key (night ∷ older) name
    first_or_later true has e later =
        record { before = night; older_night = contains_here night older; name_is = cc; delivered = has }
    first_or_later false has e later =
        let found = later e in
        record {
          before = found.before;
          older_night = contains_later night older found.before found.older_night;
          name_is = found.name_is;
          delivered = found.delivered;
        }

second_broken : (limit : List ℕ) (older : List NightEntry) (night : NightEntry) (key : List ℕ) → Contains (fresh_keys night) key
    → (o : Option (List ℕ)) → night_with key older ≡ o → AllByRecursion (IsBroken limit older night) (second_delivery night.name key o)
second_broken limit older night key has None is = tt
second_broken limit older night key has (Some earlier) is =
    let found = delivered_by key older earlier is in (
      record {
        night_is = refl;
        delivered = is_there (fresh_keys night) key has;
        before = found.before;
        older_night = found.older_night;
        earlier_is = found.name_is;
        delivered_before = found.delivered;
      },
      tt,
    )

number_broken : (limit : List ℕ) (older : List NightEntry) (night : NightEntry) (row : AddressNumbers) → Contains night.addresses row
    → (o : Option KnownRow) → last_known row.address older ≡ o → AllByRecursion (IsBroken limit older night) (number_break night.name row o)
number_broken limit older night row has None is = tt
number_broken limit older night row has (Some known) is = here (same_numbers row.begun known.row.left) refl
  where
    here : (b : Bool) → same_numbers row.begun known.row.left ≡ b
        → AllByRecursion (IsBroken limit older night) (cond b [] (breach.NumbersBreak (record {
          night = night.name;
          partner = row.partner;
          address = row.address;
          begun = row.begun;
          earlier = known.night.name;
          was = known.row.partner;
          left = known.row.left;
        }) ∷ []))
    here true same = tt
    here false same = (
      record {
        night_is = refl;
        row = row;
        row_of_night = has;
        partner_is = refl;
        address_is = refl;
        begun_is = refl;
        known = known;
        last = is;
        earlier_is = refl;
        was_is = refl;
        left_is = refl;
        differ = λ e. true≢false (sym (are_same row.begun known.row.left e) ∙ same);
      },
      tt,
    )

has_fault : (file : FileSum) (given none same : Bool) → file.is_given ≡ given → (length file.listed == 0) ≡ none
    → bytes_eq file.listed file.sum ≡ same → (x : FileFault)
    → cond (not given) (Some fault.OfNoPartner) (cond none (Some fault.NotListed) (cond same None (Some fault.Changed))) ≡ Some x
    → HasFault file x
has_fault file false none same g n s x e = let is : fault.OfNoPartner ≡ x = cc in subst (HasFault file) is g
has_fault file true true same g n s x e = let is : fault.NotListed ≡ x = cc in subst (HasFault file) is (empty file.listed n)
  where
    empty : (xs : List ℕ) → (length xs == 0) ≡ true → xs ≡ []
    empty [] e = refl
    empty (x ∷ xs) e = absurd (omega (arith, eqb-true (length (x ∷ xs)) 0 e))
has_fault file true false true g n s x e = absurd (cc)
has_fault file true false false g n s x e =
    let differ : file.listed ≢ file.sum = λ is. true≢false (sym ((bytes_decides file.listed file.sum).1 is) ∙ s) in
    let is : fault.Changed ≡ x = cc in
    subst (HasFault file) is differ

file_broken : (limit : List ℕ) (older : List NightEntry) (night : NightEntry) (file : FileSum) → Contains night.files file
    → (o : Option FileFault) → file_fault file ≡ o → AllByRecursion (IsBroken limit older night) (wrong_file night.name file.name o)
file_broken limit older night file has None is = tt
file_broken limit older night file has (Some x) is = (
  record {
    night_is = refl;
    file = file;
    file_of_night = has;
    file_is = refl;
    has_fault = has_fault file file.is_given (length file.listed == 0) (bytes_eq file.listed file.sum) refl refl refl x is;
  },
  tt,
)

back_broken : (limit : List ℕ) (older : List NightEntry) (night : NightEntry) (o : Option NightEntry) → newest older ≡ o
    → AllByRecursion (IsBroken limit older night) (moment_back o night)
back_broken limit older night None is = tt
back_broken limit older night (Some before) is = here (is_before night.moment before.moment) refl
  where
    here : (b : Bool) → is_before night.moment before.moment ≡ b
        → AllByRecursion (IsBroken limit older night) (cond b (breach.MomentBack (record {
          night = night.name;
          moment = night.moment;
          earlier = before.name;
          was = before.moment;
        }) ∷ []) [])
    here true back = (
      record {
        night_is = refl;
        moment_is = refl;
        before = before;
        night_before = is;
        earlier_is = refl;
        was_is = refl;
        back = back;
      },
      tt,
    )
    here false back = tt

late_broken : (limit : List ℕ) (older : List NightEntry) (night : NightEntry)
    → AllByRecursion (IsBroken limit older night) (late_moment limit night)
late_broken limit older night = here (is_before limit night.moment) refl
  where
    here : (b : Bool) → is_before limit night.moment ≡ b → AllByRecursion (IsBroken limit older night)
        (cond b (breach.LateMoment (record { night = night.name; moment = night.moment }) ∷ []) [])
    here true late = (record { night_is = refl; moment_is = refl; late = late }, tt)
    here false late = tt

night_broken : (limit : List ℕ) (older : List NightEntry) (night : NightEntry)
    → AllByRecursion (IsBroken limit older night) (breaches_on limit older night)
night_broken limit older night =
    let P : Breach → Type 0 = IsBroken limit older night in
    both P _ _ (flat P (λ key. second_delivery night.name key (night_with key older)) (fresh_keys night)
    (λ key has. second_broken limit older night key has (night_with key older) refl))
    (both P _ _ (flat P (λ (row : AddressNumbers). number_break night.name row (last_known row.address older)) night.addresses
    (λ row has. number_broken limit older night row has (last_known row.address older) refl))
    (both P _ _ (flat P (λ (file : FileSum). wrong_file night.name file.name (file_fault file)) night.files
    (λ file has. file_broken limit older night file has (file_fault file) refl))
    (both P _ _ (back_broken limit older night (newest older) refl) (late_broken limit older night))))

moved : (all older : List NightEntry) (night : NightEntry) (nights : List NightEntry) → all ≡ reverse older ++ night ∷ nights
    → all ≡ reverse (night ∷ older) ++ nights
moved all older night nights is =
    is
    ∙ sym (ap (λ (l : List NightEntry). l ++ nights) (reverse-append (night ∷ []) older)
    ∙ append_assoc (reverse older) (night ∷ []) nights)

broken_after : (limit : List ℕ) (all older nights : List NightEntry) → all ≡ reverse older ++ nights
    → AllByRecursion (IsBreachOf limit all) (breaches_after limit older nights)
broken_after limit all older [] is = tt
broken_after limit all older (night ∷ nights) is =
    both (IsBreachOf limit all) (breaches_on limit older night) (breaches_after limit (night ∷ older) nights)
    (weaker (IsBroken limit older night) (IsBreachOf limit all) (breaches_on limit older night)
    (λ b broken. record { older = older; night = night; later = nights; stands = is; broken = broken }) (night_broken limit older night))
    (broken_after limit all (night ∷ older) nights (moved all older night nights is))

pub all_broken : (limit : List ℕ) (nights : List NightEntry) (found : List Breach) → found ≡ breaches_after limit [] nights
    → AllByRecursion (IsBreachOf limit nights) found
all_broken limit nights found is = subst (AllByRecursion (IsBreachOf limit nights)) (sym is) (broken_after limit nights [] nights refl)
