-- What was done at the places of an index is what is asked of them.
use Rattle.std.proofs.Common.{◌≡◌, ◌⊎◌, inl, inr, ℕ, zero, suc, ◌+◌, ◌≤◌, List, [], ◌∷◌, Bool, true, false, Option, Some, None}
use Rattle.std.proofs.Common.{length, map, option_map, refl, sym, ap, ◌∙◌, subst, arith}
use Rattle.std.specs.Prelude.{◌↔◌, is_none}
use Rattle.std.specs.List.{All, AllByRecursion, AllZip}
use Rattle.std.proofs.lemmas.List.Elements.{recursion_from_All}
use Rattle.hub_kinds.specs.declared.interchange.InterchangeFault.{InterchangeFault}
use Rattle.hub_kinds.specs.declared.place.Place.{Place}
use Rattle.env_index.specs.Words.{IndexEntry, IndexValue, IsEntryOf, IsIndex, Numbered, group_numbers_from, place_in, places_behind}
use Rattle.env_index.specs.Words.{with_fault, with_faults}
use Rattle.partner_setup.specs.Setup.{SetupValue, sender_of}
use Rattle.set_answers.specs.Asked.{Asked, IsCheckedAs, IsFound, asked_of, entry_asked_by, groups_asked, has_places}
use Rattle.set_answers.specs.CheckedText.{sent_by}
use Rattle.set_check.specs.declared.finding.Finding.{Finding}
use Rattle.set_answers.specs.Settled.{fault_alone, fault_with_sender}
use Rattle.set_check.specs.Checked.{Checked, SetAsked, asked_by}
use Rattle.worker_pool.specs.Jobs.{JobValue, job_of}
use Rattle.set_findings.specs.Alone.{AreSettledBy, entries_alone, index_alone}
use Rattle.set_findings.specs.Findings.{AreFound, AreWorkedOut, IsFindingOf, found_place}
use Rattle.set_findings.specs.Flags.{IsToldBy}
use Rattle.set_findings.specs.Jobs.{entry_jobs_by, jobs_at, jobs_behind}
use Rattle.set_findings.proofs.Asking.{IsAskedBy, all_asked, differs, groups_long, has_is}
use Rattle.set_findings.proofs.Placing.{alone_places, done_map, job_place}
use Rattle.set_findings.proofs.Zipped.{zip_append}

abbrev pub IsSame : JobValue → Asked → Type 0
IsSame job asked = job.set ≡ asked.set

jobs_same : (ns : List Numbered) (asked : List Asked) → length ns ≡ length asked → AllZip IsSame (jobs_at ns asked) asked
jobs_same [] [] same = tt
jobs_same [] (a ∷ asked) same = absurd (omega (arith, same))
jobs_same (n ∷ ns) [] same = absurd (omega (arith, same))
jobs_same (n ∷ ns) (a ∷ asked) same = (refl, jobs_same ns asked (omega (arith, same)))

entry_same : (text : List ℕ) (setup : SetupValue) (isa : ℕ) (e : IndexEntry) (f g : Option InterchangeFault)
    (fault : Option InterchangeFault) (sender : Option ℕ)
    → AllZip IsSame (entry_jobs_by text setup isa (with_fault e g) (fault_with_sender fault sender) sender)
    (entry_asked_by text setup (with_fault e f) (is_none (fault_with_sender fault sender)) sender)
entry_same text setup isa e f g (Some x) sender = tt
entry_same text setup isa e f g None None = tt
entry_same text setup isa e f g None (Some s) = (
  refl,
  jobs_same (group_numbers_from isa 1 e.interchange.content.groups)
      (groups_asked (sent_by text setup s e) [] e.interchange.content.groups)
      (groups_long isa 1 (sent_by text setup s e) [] e.interchange.content.groups),
)

entries_same : (text : List ℕ) (setup : SetupValue) (isa : ℕ) (es : List IndexEntry) (fs : List (Option InterchangeFault))
    → AllByRecursion (IsEntryOf text) es → AreSettledBy setup es fs
    → AllZip IsSame (jobs_behind text setup isa (entries_alone setup es)) (asked_of text setup (with_faults es fs))
entries_same text setup isa [] fs all by = tt
entries_same text setup isa (e ∷ es) [] all by = absurd by
entries_same text setup isa (e ∷ es) (f ∷ fs) all by =
    let sender : Option ℕ = sender_of setup e.interchange.header in
    let alone : Option InterchangeFault = fault_alone setup e in
    let jobs : List JobValue = entry_jobs_by text setup isa (with_fault e alone) alone sender in
    let hf : has_places f ≡ is_none alone = ap has_places by.0.1 ∙ has_is e.fault sender by.0.0 (differs text e all.0) in
    zip_append IsSame jobs (jobs_behind text setup (isa + 1) (entries_alone setup es))
    (entry_asked_by text setup (with_fault e f) (has_places f) sender) (asked_of text setup (with_faults es fs))
    (subst (λ (b : Bool). AllZip IsSame jobs (entry_asked_by text setup (with_fault e f) b sender)) (sym hf)
    (entry_same text setup isa e f alone e.fault sender))
    (entries_same text setup (isa + 1) es fs all.1 by.1)

one_meaning : (a b : Bool) (X : Type 0) → ((a ≡ true) ↔ X) → ((b ≡ true) ↔ X) → b ≡ a
one_meaning true b X h k = k.1 (h.0 refl)
one_meaning false true X h k = sym (h.1 (k.0 refl))
one_meaning false false X h k = refl

by_kind : (gs : ℕ) → (gs ≡ 0) ⊎ (1 ≤ gs)
by_kind zero = inl refl
by_kind (suc gs) = inr (omega arith)

own_set : (found : Option Checked) → IsCheckedAs (option_map asked_by found) found
own_set None = tt
own_set (Some found) = (refl, refl, refl)

set_found : (found : Option Checked) (asked : Option SetAsked) → option_map asked_by found ≡ asked → IsCheckedAs asked found
set_found found asked is = subst (λ (a : Option SetAsked). IsCheckedAs a found) is (own_set found)

module _ (index : IndexValue) (faults : List (Option InterchangeFault)) where
  abbrev places : List Numbered
  places = places_behind 1 index.entries

  flag_is : (n : Numbered) (asked : Asked) (flag : Bool) → IsAskedBy places faults n asked → IsToldBy index faults n.place flag
      → flag ≡ asked.earlier
  flag_is n asked flag ask told = elim (by_kind n.place.gs) [
    | inl none ↦ told.interchange none ∙ sym (ask.interchange none)
    | inr some ↦ one_meaning asked.earlier flag _ (ask.within some) (told.within some)
  ]

  found_all : (ns : List Numbered) (asked : List Asked) (ds : List Finding) (fs : List Finding)
      → AllZip (IsAskedBy places faults) ns asked → AllZip IsSame (map job_of ds) asked
      → map found_place ds ≡ map place_in ns → AllZip (IsFindingOf index faults) ds fs → AllZip IsFound asked fs
  found_all [] [] [] [] ask same at found = tt
  found_all [] [] [] (f ∷ fs) ask same at found = absurd found
  found_all [] [] (d ∷ ds) fs ask same at found = absurd same
  found_all [] (a ∷ asked) ds fs ask same at found = absurd ask
  found_all (n ∷ ns) [] ds fs ask same at found = absurd ask
  found_all (n ∷ ns) (a ∷ asked) [] fs ask same at found = absurd same
  found_all (n ∷ ns) (a ∷ asked) (d ∷ ds) [] ask same at found = absurd found
  found_all (n ∷ ns) (a ∷ asked) (d ∷ ds) (f ∷ fs) ask same at found =
      let here : d.place ≡ n.place = cc in
      let rest : map found_place ds ≡ map place_in ns = cc in
      let told : IsToldBy index faults n.place f.earlier = subst (λ (p : Place). IsToldBy index faults p f.earlier) here found.0.earlier in
      let check : IsCheckedAs a.set f.checked
      = subst (λ (c : Option Checked). IsCheckedAs a.set c) (sym found.0.checked) (set_found d.checked a.set same.0) in
      (record { earlier = flag_is n a f.earlier ask.0 told; set = check }, found_all ns asked ds fs ask.1 same.1 rest found.1)

pub all_found : (text : List ℕ) (setup : SetupValue) (index : IndexValue) (faults : List (Option InterchangeFault))
    (results : List Finding) (findings : List Finding) → IsIndex text index → AreWorkedOut setup index faults results findings
    → AreFound setup index faults findings
all_found text setup index faults results findings is out =
    let es : List IndexEntry = index.entries in
    let all = subst (λ (t : List ℕ). All (IsEntryOf t) es) (sym is.same) is.entries in
    let asked : List Asked = asked_of index.text setup (with_faults es faults) in
    found_all (index_alone setup index) faults (places_behind 1 (entries_alone setup es)) asked results findings
    (all_asked index.text setup es faults all out.settled)
    (subst (λ (l : List JobValue). AllZip IsSame l asked) (sym out.done)
    (entries_same index.text setup 1 es faults (recursion_from_All (IsEntryOf index.text) es all) out.settled))
    (done_map results ∙ ap (map job_place) out.done ∙ alone_places index.text setup 1 es)
    out.found
