-- What a loop over nights has found, one night further.
use Rattle.std.proofs.Common.{◌≡◌, ℕ, List, [], ◌∷◌, ◌++◌, Option, refl, sym, ap, ◌∙◌, ◌+◌, ◌<◌, length, take, drop, append_assoc}
use Rattle.std.proofs.Common.{◌-◌, ◌≤◌, Some, append-nil, arith, get_or, suc}
use Rattle.std.specs.Prelude.{slice_get}
use Rattle.std.specs.Prelude.{reverse}
use Rattle.std.proofs.lemmas.List.{drop_all, drop_more, reverse-append, take_more}
use Rattle.hub_ledger.specs.declared.entry.AddressNumbers.{AddressNumbers}
use Rattle.hub_ledger.specs.declared.entry.NightEntry.{NightEntry}
use Rattle.hub_ledger.specs.Entries.{KnownRow, fresh_keys, last_known}
use Rattle.night_breaches.specs.declared.breach.Breach.{Breach}
use Rattle.night_breaches.specs.declared.known.Known.{Known}
use Rattle.night_breaches.specs.Breaches.{breaches_after, breaches_by, breaches_on, last_name, late_moment, moment_back}
use Rattle.night_breaches.specs.Breaches.{night_with, number_break, number_breaks, second_deliveries, second_delivery, wrong_files}
use Rattle.night_breaches.specs.Known.{Knows, night_before, night_in, row_in}

seconds_same : (f g : List ℕ → Option (List ℕ)) → ((q : List ℕ) → f q ≡ g q) → (night : List ℕ) (keys : List (List ℕ))
    → second_deliveries f night keys ≡ second_deliveries g night keys
seconds_same f g same night [] = refl
seconds_same f g same night (key ∷ keys) =
    ap (λ (o : Option (List ℕ)). second_delivery night key o ++ second_deliveries f night keys) (same key)
    ∙ ap (λ (l : List Breach). second_delivery night key (g key) ++ l) (seconds_same f g same night keys)

breaks_same : (f g : List ℕ → Option KnownRow) → ((q : List ℕ) → f q ≡ g q) → (night : List ℕ) (rows : List AddressNumbers)
    → number_breaks f night rows ≡ number_breaks g night rows
breaks_same f g same night [] = refl
breaks_same f g same night (row ∷ rows) =
    ap (λ (o : Option KnownRow). number_break night row o ++ number_breaks f night rows) (same row.address)
    ∙ ap (λ (l : List Breach). number_break night row (g row.address) ++ l) (breaks_same f g same night rows)

by_known : (known : Known) (older : List NightEntry) (limit : List ℕ) (night : NightEntry) → Knows known older
    → breaches_by (night_in known.nights) (row_in known.rows) (night_before known.before) limit night ≡ breaches_on limit older night
by_known known older limit night knows =
    ap (λ (l : List Breach). l ++ (number_breaks (row_in known.rows) night.name night.addresses
    ++ (wrong_files night.name night.files ++ (moment_back (night_before known.before) night ++ late_moment limit night))))
    (seconds_same (night_in known.nights) (λ key. night_with key older) knows.nights night.name (fresh_keys night))
    ∙ ap (λ (l : List Breach). second_deliveries (λ key. night_with key older) night.name (fresh_keys night)
    ++ (l ++ (wrong_files night.name night.files ++ (moment_back (night_before known.before) night ++ late_moment limit night))))
    (breaks_same (row_in known.rows) (λ address. last_known address older) knows.rows night.name night.addresses)
    ∙ ap (λ (o : Option NightEntry). second_deliveries (λ key. night_with key older) night.name (fresh_keys night)
    ++ (number_breaks (λ address. last_known address older) night.name night.addresses
    ++ (wrong_files night.name night.files ++ (moment_back o night ++ late_moment limit night)))) knows.before

pub older_more : (nights : List NightEntry) (i : ℕ) (night : NightEntry) → i < length nights → night ≡ get_or nights i night
    → reverse (take (i + 1) nights) ≡ night ∷ reverse (take i nights)
older_more nights i night low is =
    ap reverse (take_more nights i night low ∙ ap (λ (n : NightEntry). take i nights ++ n ∷ []) (sym is))
    ∙ reverse-append (take i nights) (night ∷ [])

pub found_more : (limit : List ℕ) (nights : List NightEntry) (i : ℕ) (night : NightEntry) (known : Known) (all found more : List Breach)
    → i < length nights → night ≡ get_or nights i night → Knows known (reverse (take i nights))
    → found ++ breaches_after limit (reverse (take i nights)) (drop i nights) ≡ all
    → more ≡ found ++ breaches_by (night_in known.nights) (row_in known.rows) (night_before known.before) limit night
    → more ++ breaches_after limit (reverse (take (i + 1) nights)) (drop (i + 1) nights) ≡ all
found_more limit nights i night known all found more low is knows so_far adds =
    let older : List NightEntry = reverse (take i nights) in
    let left : drop i nights ≡ night ∷ drop (i + 1) nights =
    drop_more nights i night low ∙ ap (λ (n : NightEntry). n ∷ drop (i + 1) nights) (sym is) in
    ap (λ (o : List NightEntry). more ++ breaches_after limit o (drop (i + 1) nights)) (older_more nights i night low is)
    ∙ ap (λ (l : List Breach). l ++ breaches_after limit (night ∷ older) (drop (i + 1) nights))
    (adds ∙ ap (λ (l : List Breach). found ++ l) (by_known known older limit night knows))
    ∙ append_assoc found (breaches_on limit older night) (breaches_after limit (night ∷ older) (drop (i + 1) nights))
    ∙ ap (λ (ns : List NightEntry). found ++ breaches_after limit older ns) (sym left)
    ∙ so_far

pub found_all : (limit : List ℕ) (older nights : List NightEntry) (i : ℕ) (all found : List Breach) → length nights ≤ i
    → found ++ breaches_after limit older (drop i nights) ≡ all → found ≡ all
found_all limit older nights i all found past is =
    sym (append-nil found) ∙ ap (λ (ns : List NightEntry). found ++ breaches_after limit older ns) (sym (drop_all i nights past)) ∙ is

pub last_get : (nights : List NightEntry) (night : NightEntry) → Some night ≡ slice_get nights (length nights - 1)
    → night.name ≡ last_name nights
last_get [] night is = absurd (cc)
last_get (x ∷ []) night is = let same : night ≡ x = cc in ap (λ (n : NightEntry). n.name) same
last_get (x ∷ y ∷ nights) night is =
    let one : length (x ∷ y ∷ nights) - 1 ≡ suc (length nights) = omega (arith) in
    let two : length nights ≡ length (y ∷ nights) - 1 = omega (arith) in
    last_get (y ∷ nights) night (is ∙ ap (slice_get (x ∷ y ∷ nights)) one ∙ ap (slice_get (y ∷ nights)) two)
