-- Interchanges that are shown alike have the same sets.
use Rattle.std.proofs.Common.{◌≡◌, ℕ, ◌+◌, List, [], ◌∷◌, ◌++◌, map, Bool, true, false, not, refl, sym, ap, ◌∙◌, subst}
use Rattle.std.specs.Prelude.{filter, flat_map, if◌then◌else◌}
use Rattle.std.specs.List.{AllZip}
use Rattle.std.proofs.lemmas.List.Elements.{filter-append}
use Rattle.env_index.specs.Words.{GroupEntry}
use Rattle.env_index.specs.declared.entry.SetEnvelope.{SetEnvelope}
use Rattle.answered_sets.specs.Judged.{JudgedValue, PlacedValue, all_sets, is_refused, sets_from, sets_of, sets_of_groups_from, standing_at}
use Rattle.answered_sets.specs.declared.standing.GroupStanding.{GroupStanding}
use Rattle.night_report.specs.Report.{shown_from}
use Rattle.night_definition.specs.Elements.{numbered}
use Rattle.night_definition.specs.Answers.{Answer, AnsweredGroup, Answered}
use Rattle.night_definition.specs.Deliveries.{Sent, sent}
use Rattle.night_equal_writing.specs.Deliveries.{IsSeenIn, all_sent, open_sets}
use Rattle.night_equal_writing.specs.Report.{IsSet, IsShown, IsTold}

abbrev pub Seen : PlacedValue → AnsweredGroup × Sent → Type 0
Seen p s = IsSeenIn p s.0 s.1

append_zip : {A B : Type 0} (R : A → B → Type 0) (ls ns : List A) (ms os : List B) → AllZip R ls ms → AllZip R ns os
    → AllZip R (ls ++ ns) (ms ++ os)
append_zip R [] ns [] os zip more = more
append_zip R (a ∷ ls) ns [] os zip more = absurd zip
append_zip R [] ns (b ∷ ms) os zip more = absurd zip
append_zip R (a ∷ ls) ns (b ∷ ms) os zip more = (zip.0, append_zip R ls ns ms os zip.1 more)

abbrev is_open : PlacedValue → Bool
is_open p = not (is_refused p.interchange)

-- an interchange's sets are kept all or none
module _ (j : JudgedValue) where
  sets_kept : (b : Bool) → is_refused j ≡ b → (g : GroupEntry) (standing : GroupStanding) (n : ℕ) (sets : List SetEnvelope)
      → filter is_open (sets_from j g standing n sets) ≡ (if b then [] else sets_from j g standing n sets)
  sets_kept true is g standing n [] = refl
  sets_kept false is g standing n [] = refl
  sets_kept true is g standing n (set ∷ sets) =
      ap (λ b. if not b then record { interchange = j; group = g; standing = standing; index = n; set = set }
      ∷ filter is_open (sets_from j g standing (n + 1) sets) else filter is_open (sets_from j g standing (n + 1) sets)) is
      ∙ sets_kept true is g standing (n + 1) sets
  sets_kept false is g standing n (set ∷ sets) =
      let p : PlacedValue = record { interchange = j; group = g; standing = standing; index = n; set = set } in
      ap (λ b. if not b then p ∷ filter is_open (sets_from j g standing (n + 1) sets)
      else filter is_open (sets_from j g standing (n + 1) sets)) is
      ∙ ap (λ l. p ∷ l) (sets_kept false is g standing (n + 1) sets)

  groups_kept : (b : Bool) → is_refused j ≡ b → (n : ℕ) (gs : List GroupEntry)
      → filter is_open (sets_of_groups_from j n gs) ≡ (if b then [] else sets_of_groups_from j n gs)
  groups_kept true is n [] = refl
  groups_kept false is n [] = refl
  groups_kept true is n (g ∷ gs) =
      filter-append is_open (sets_from j g (standing_at j.standings n) 0 g.sets) (sets_of_groups_from j (n + 1) gs)
      ∙ ap (λ l. l ++ filter is_open (sets_of_groups_from j (n + 1) gs)) (sets_kept true is g (standing_at j.standings n) 0 g.sets)
      ∙ groups_kept true is (n + 1) gs
  groups_kept false is n (g ∷ gs) =
      let front : List PlacedValue = sets_from j g (standing_at j.standings n) 0 g.sets in
      filter-append is_open front (sets_of_groups_from j (n + 1) gs)
      ∙ ap (λ l. l ++ filter is_open (sets_of_groups_from j (n + 1) gs)) (sets_kept false is g (standing_at j.standings n) 0 g.sets)
      ∙ ap (λ l. front ++ l) (groups_kept false is (n + 1) gs)

abbrev sent_in : Answered → AnsweredGroup → List (AnsweredGroup × Sent)
sent_in x g = map (λ (a : Answer). (g, sent x g a)) g.answers

sets_seen : (x : Answered) (g : AnsweredGroup) (n : ℕ) (ps : List PlacedValue) (answers : List Answer)
    → AllZip (IsSet x g) ps (numbered n answers) → AllZip Seen ps (map (λ (a : Answer). (g, sent x g a)) answers)
sets_seen x g n [] [] zip = tt
sets_seen x g n [] (a ∷ answers) zip = absurd zip
sets_seen x g n (p ∷ ps) [] zip = absurd zip
sets_seen x g n (p ∷ ps) (a ∷ answers) zip = (zip.0.set, sets_seen x g (n + 1) ps answers zip.1)

groups_seen : (j : JudgedValue) (x : Answered) (n : ℕ) (es : List GroupEntry) (gs : List AnsweredGroup)
    → AllZip (IsShown x) (shown_from j n es) gs → AllZip Seen (sets_of_groups_from j n es) (flat_map (sent_in x) gs)
groups_seen j x n [] [] zip = tt
groups_seen j x n [] (g ∷ gs) zip = absurd zip
groups_seen j x n (e ∷ es) [] zip = absurd zip
groups_seen j x n (e ∷ es) (g ∷ gs) zip =
    append_zip Seen (sets_from j e (standing_at j.standings n) 0 e.sets) (sets_of_groups_from j (n + 1) es) (sent_in x g)
    (flat_map (sent_in x) gs)
    (sets_seen x g 1 (sets_from j e (standing_at j.standings n) 0 e.sets) g.answers zip.0.sets) (groups_seen j x (n + 1) es gs zip.1)

no_groups : (x : Answered) (gs : List AnsweredGroup) → AllZip (IsShown x) [] gs → AllZip Seen [] (flat_map (sent_in x) gs)
no_groups x [] zip = tt
no_groups x (g ∷ gs) zip = absurd zip

one_seen : (j : JudgedValue) (x : Answered) → IsTold j x → AllZip Seen (filter is_open (sets_of j)) (flat_map (sent_in x) x.groups)
one_seen j x told = by (is_refused j) refl told.groups
  where
    by : (b : Bool) → is_refused j ≡ b
        → AllZip (IsShown x) (if b then [] else shown_from j 0 j.interchange.content.groups) x.groups
        → AllZip Seen (filter is_open (sets_of j)) (flat_map (sent_in x) x.groups)
    by true is zip =
        subst (λ l. AllZip Seen l (flat_map (sent_in x) x.groups)) (sym (groups_kept j true is 0 j.interchange.content.groups))
        (no_groups x x.groups zip)
    by false is zip =
        subst (λ l. AllZip Seen l (flat_map (sent_in x) x.groups)) (sym (groups_kept j false is 0 j.interchange.content.groups))
        (groups_seen j x 0 j.interchange.content.groups x.groups zip)

pub all_seen : (js : List JudgedValue) (xs : List Answered) → AllZip IsTold js xs → AllZip Seen (open_sets js) (all_sent xs)
all_seen [] [] zip = tt
all_seen [] (x ∷ xs) zip = absurd zip
all_seen (j ∷ js) [] zip = absurd zip
all_seen (j ∷ js) (x ∷ xs) zip =
    subst (λ l. AllZip Seen l (flat_map (sent_in x) x.groups ++ all_sent xs)) (sym (filter-append is_open (sets_of j) (all_sets js)))
    (append_zip Seen (filter is_open (sets_of j)) (open_sets js) (flat_map (sent_in x) x.groups) (all_sent xs) (one_seen j x zip.0)
    (all_seen js xs zip.1))
