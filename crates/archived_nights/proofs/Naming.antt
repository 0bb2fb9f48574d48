-- The last of nights, of which the oldest comes first, is the newest of them.
use Rattle.std.proofs.Common.{◌≡◌, ◌∙◌, ◌-◌, List, [], ◌∷◌, ◌++◌, Some, ap, arith, length, refl, subst, suc, sym}
use Rattle.std.specs.Prelude.{slice_get}
use Rattle.std.proofs.lemmas.List.{reverse-append}
use Rattle.hub_ledger.specs.declared.entry.NightEntry.{NightEntry}
use Rattle.archived_nights.specs.Archive.{last_moment, last_name, newest_first}
use Rattle.archived_nights.specs.Archived.{IsNamedAsNewest}

pub name_get : (nights : List NightEntry) (night : NightEntry) → Some night ≡ slice_get nights (length nights - 1)
    → night.name ≡ last_name nights
name_get [] night is = absurd (cc)
name_get (x ∷ []) night is = let same : night ≡ x = cc in ap (λ (n : NightEntry). n.name) same
name_get (x ∷ y ∷ nights) night is =
    let one : length (x ∷ y ∷ nights) - 1 ≡ suc (length nights) = omega (arith) in
    let two : length nights ≡ length (y ∷ nights) - 1 = omega (arith) in
    name_get (y ∷ nights) night (is ∙ ap (slice_get (x ∷ y ∷ nights)) one ∙ ap (slice_get (y ∷ nights)) two)

pub moment_get : (nights : List NightEntry) (night : NightEntry) → Some night ≡ slice_get nights (length nights - 1)
    → night.moment ≡ last_moment nights
moment_get [] night is = absurd (cc)
moment_get (x ∷ []) night is = let same : night ≡ x = cc in ap (λ (n : NightEntry). n.moment) same
moment_get (x ∷ y ∷ nights) night is =
    let one : length (x ∷ y ∷ nights) - 1 ≡ suc (length nights) = omega (arith) in
    let two : length nights ≡ length (y ∷ nights) - 1 = omega (arith) in
    moment_get (y ∷ nights) night (is ∙ ap (slice_get (x ∷ y ∷ nights)) one ∙ ap (slice_get (y ∷ nights)) two)

-- nights, the last of which is apart
record Ends (nights : List NightEntry) : Type 0 where
  pub front : List NightEntry
  pub last : NightEntry
  pub nights_are : nights ≡ front ++ last ∷ []
  pub name : last_name nights ≡ last.name
  pub moment : last_moment nights ≡ last.moment

ends : (x : NightEntry) (nights : List NightEntry) → Ends (x ∷ nights)
ends x [] = record { front = []; last = x; nights_are = refl; name = refl; moment = refl }
ends x (y ∷ nights) =
    let e = ends y nights in
    record {
      front = x ∷ e.front;
      last = e.last;
      nights_are = ap (λ (l : List NightEntry). x ∷ l) e.nights_are;
      name = e.name;
      moment = e.moment;
    }

pub named : (nights : List NightEntry) (entry : NightEntry) → entry.name ≡ last_name nights → entry.moment ≡ last_moment nights
    → IsNamedAsNewest (newest_first nights) entry
named [] entry name moment = tt
named (x ∷ nights) entry name moment =
    let e = ends x nights in
    subst (λ (l : List NightEntry). IsNamedAsNewest (newest_first l) entry) (sym e.nights_are)
    (subst (λ (l : List NightEntry). IsNamedAsNewest l entry) (sym (reverse-append e.front (e.last ∷ [])))
    (name ∙ e.name, moment ∙ e.moment))
