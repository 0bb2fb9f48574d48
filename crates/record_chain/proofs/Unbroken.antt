-- A chain has no break exactly if the nights are chained.
use Rattle.std.proofs.Common.{◌≡◌, ◌∙◌, ℕ, ◌+◌, ◌==◌, Bool, true, false, cond, List, [], ◌∷◌, ◌++◌, Option, Some, None, refl, sym, ap}
use Rattle.std.proofs.Common.{inl, inr, is_some, true≢false}
use Rattle.std.specs.Prelude.{◌↔◌, ◌⊎◌, IsSome}
use Rattle.std.specs.List.{AllByRecursion}
use Rattle.std.specs.Str.{bytes_eq}
use Rattle.std.specs.Cmp.Lexicographic.{bytes_decides}
use Rattle.std.proofs.lemmas.Bool.{eq-eqb, eqb-true}
use Rattle.hub_kinds.specs.Words.{contains_text}
use Rattle.night_record.specs.declared.record.SummedFile.{SummedFile}
use Rattle.record_chain.specs.Breaks.{beside, breaks_after, breaks_on, file_breaks, file_named, found_breaks, found_fault, is_sum}
use Rattle.record_chain.specs.Breaks.{link_breaks, listed, listed_breaks, listed_fault, number_of, other_record, sum_of, wrong_file}
use Rattle.record_chain.specs.Chained.{AreChained, IsChained, IsListed, IsThere}
use Rattle.record_chain.specs.declared.breaks.ChainBreak.{ChainBreak}
use Rattle.record_chain.specs.declared.breaks.FileFault.{FileFault}
use Rattle.record_chain.specs.declared.breaks.FileFault.TheVariants as fault
use Rattle.record_chain.specs.declared.night.ReadNight.{ReadNight}

left_none : {X : Type 0} (xs ys : List X) → xs ++ ys ≡ [] → xs ≡ []
left_none [] ys e = refl
left_none (x ∷ xs) ys e = absurd (cc)

right_none : {X : Type 0} (xs ys : List X) → xs ++ ys ≡ [] → ys ≡ []
right_none [] ys e = e
right_none (x ∷ xs) ys e = absurd (cc)

both_none : {X : Type 0} (xs ys : List X) → xs ≡ [] → ys ≡ [] → xs ++ ys ≡ []
both_none xs ys a b = ap (λ (l : List _). l ++ ys) a ∙ b

-- the link to the night before
if_none : {X : Type 0} (b : Bool) (x : X) (rest : List X) → cond b rest (x ∷ []) ≡ [] → (b ≡ true) × (rest ≡ [])
if_none true x rest e = (refl, e)
if_none false x rest e = absurd (cc)

none_if : {X : Type 0} (b : Bool) (x : X) (rest : List X) → b ≡ true → rest ≡ [] → cond b rest (x ∷ []) ≡ []
none_if true x rest e none = none
none_if false x rest e none = absurd (true≢false (sym e))

sums_are : (named is : Option (List ℕ)) → is_sum named is ≡ true → named ≡ is
sums_are None None e = refl
sums_are None (Some sum) e = absurd (true≢false (sym e))
sums_are (Some named) None e = absurd (true≢false (sym e))
sums_are (Some named) (Some sum) e = ap Some ((bytes_decides named sum).0 e)

own_sum : (sum : Option (List ℕ)) → is_sum sum sum ≡ true
own_sum None = refl
own_sum (Some sum) = (bytes_decides sum sum).1 refl

-- files that are listed
no_file : (night : ReadNight) (file : List ℕ) (o : Option FileFault) → wrong_file night file o ≡ [] → o ≡ None
no_file night file None e = refl
no_file night file (Some x) e = absurd (cc)

there : (found : List SummedFile) (file : SummedFile) (o : Option SummedFile) → file_named found file.name ≡ o → listed_fault file o ≡ None
    → IsThere found file
there found file None is e = absurd (cc)
there found file (Some same) is e = record {
  same = same;
  found_is = is;
  sum = (bytes_decides file.sum same.sum).0 (unchanged (bytes_eq file.sum same.sum) e);
}
  where
    unchanged : (b : Bool) → cond b None (Some fault.Changed) ≡ None → b ≡ true
    unchanged true e = refl
    unchanged false e = absurd (cc)

no_listed_fault : (found : List SummedFile) (file : SummedFile) → IsThere found file → listed_fault file (file_named found file.name) ≡ None
no_listed_fault found file is =
    ap (listed_fault file) is.found_is
    ∙ ap (λ (b : Bool). cond b None (Some fault.Changed)) ((bytes_decides file.sum is.same.sum).1 is.sum)

all_there : (night : ReadNight) (files : List SummedFile) → listed_breaks (file_named night.found) night files ≡ []
    → AllByRecursion (IsThere night.found) files
all_there night [] none = tt
all_there night (file ∷ files) none =
    let o = file_named night.found file.name in
    let now = wrong_file night file.name (listed_fault file o) in
    let later = listed_breaks (file_named night.found) night files in (
      there night.found file o refl (no_file night file.name (listed_fault file o) (left_none now later none)),
      all_there night files (right_none now later none),
    )

none_gone : (night : ReadNight) (files : List SummedFile) → AllByRecursion (IsThere night.found) files
    → listed_breaks (file_named night.found) night files ≡ []
none_gone night [] all = refl
none_gone night (file ∷ files) all =
    both_none (wrong_file night file.name (listed_fault file (file_named night.found file.name)))
    (listed_breaks (file_named night.found) night files) (ap (wrong_file night file.name) (no_listed_fault night.found file all.0))
    (none_gone night files all.1)

-- files that were found
is_listed : (files : List SummedFile) (file : SummedFile) (o : Option SummedFile) → file_named files file.name ≡ o
    → found_fault file.name o ≡ None → IsListed files file
is_listed files file (Some same) is e = inl (ap is_some is)
is_listed files file None is e = inr (beside_it (contains_text beside file.name) e)
  where
    beside_it : (b : Bool) → cond b None (Some fault.NotListed) ≡ None → b ≡ true
    beside_it true e = refl
    beside_it false e = absurd (cc)

no_found_fault : (file : SummedFile) (o : Option SummedFile) → IsSome o ⊎ (contains_text beside file.name ≡ true)
    → found_fault file.name o ≡ None
no_found_fault file (Some same) is = refl
no_found_fault file None (inl some) = absurd (true≢false (sym some))
no_found_fault file None (inr is) = ap (λ (b : Bool). cond b None (Some fault.NotListed)) is

all_listed : (of files : List SummedFile) (night : ReadNight) → found_breaks (file_named of) night files ≡ []
    → AllByRecursion (IsListed of) files
all_listed of [] night none = tt
all_listed of (file ∷ files) night none =
    let o = file_named of file.name in
    let now = wrong_file night file.name (found_fault file.name o) in
    let later = found_breaks (file_named of) night files in (
      is_listed of file o refl (no_file night file.name (found_fault file.name o) (left_none now later none)),
      all_listed of files night (right_none now later none),
    )

none_unlisted : (of files : List SummedFile) (night : ReadNight) → AllByRecursion (IsListed of) files
    → found_breaks (file_named of) night files ≡ []
none_unlisted of [] night all = refl
none_unlisted of (file ∷ files) night all =
    both_none (wrong_file night file.name (found_fault file.name (file_named of file.name))) (found_breaks (file_named of) night files)
    (ap (wrong_file night file.name) (no_found_fault file (file_named of file.name) all.0)) (none_unlisted of files night all.1)

-- a night, and nights
chained_of : (before : Option ReadNight) (night : ReadNight) → breaks_on before night ≡ [] → IsChained before night
chained_of before night none =
    let link = if_none (night.record.number == number_of before + 1) _ (other_record before night)
    (left_none (link_breaks before night) (file_breaks night) none) in
    let files = right_none (link_breaks before night) (file_breaks night) none in
    let first = listed_breaks (file_named night.found) night (listed night.record) in
    let second = found_breaks (file_named (listed night.record)) night night.found in
    record {
      number = eqb-true night.record.number (number_of before + 1) link.0;
      before_is = sums_are night.record.before (sum_of before) (if_none (is_sum night.record.before (sum_of before)) _ [] link.1).0;
      there = all_there night (listed night.record) (left_none first second files);
      listed_each = all_listed (listed night.record) night.found night (right_none first second files);
    }

none_of : (before : Option ReadNight) (night : ReadNight) → IsChained before night → breaks_on before night ≡ []
none_of before night is =
    both_none (link_breaks before night) (file_breaks night)
    (none_if (night.record.number == number_of before + 1) _ (other_record before night) (eq-eqb night.record.number _ is.number)
    (none_if (is_sum night.record.before (sum_of before)) _ []
    (ap (λ sum. is_sum sum (sum_of before)) is.before_is ∙ own_sum (sum_of before)) refl))
    (both_none (listed_breaks (file_named night.found) night (listed night.record))
    (found_breaks (file_named (listed night.record)) night night.found) (none_gone night (listed night.record) is.there)
    (none_unlisted (listed night.record) night.found night is.listed_each))

chained_after : (before : Option ReadNight) (nights : List ReadNight) → breaks_after before nights ≡ [] → AreChained before nights
chained_after before [] none = tt
chained_after before (night ∷ nights) none =
    let now = breaks_on before night in
    let later = breaks_after (Some night) nights in
    (chained_of before night (left_none now later none), chained_after (Some night) nights (right_none now later none))

none_after : (before : Option ReadNight) (nights : List ReadNight) → AreChained before nights → breaks_after before nights ≡ []
none_after before [] chained = refl
none_after before (night ∷ nights) chained =
    both_none (breaks_on before night) (breaks_after (Some night) nights) (none_of before night chained.0)
    (none_after (Some night) nights chained.1)

pub unbroken : (before : Option ReadNight) (nights : List ReadNight) (found : List ChainBreak) → found ≡ breaks_after before nights
    → (found ≡ []) ↔ AreChained before nights
unbroken before nights found is =
    (λ none. chained_after before nights (sym is ∙ none), λ chained. is ∙ none_after before nights chained)
