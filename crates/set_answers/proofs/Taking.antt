-- What was found out about places, taken one after another.
use Rattle.std.proofs.Common.{◌≡◌, ℕ, suc, ◌+◌, ◌≤◌, Bool, true, List, [], ◌∷◌, ◌++◌, Option, Some, take, drop, length, get_or}
use Rattle.std.proofs.Common.{sym, ap, subst, ◌∙◌, arith, append_assoc, drop-cons}
use Rattle.std.proofs.lemmas.List.{drop_all, length-append}
use Rattle.std.proofs.lemmas.Slice.Zip.{AllZip-long}
use Rattle.std.specs.Prelude.{slice_get}
use Rattle.std.specs.List.{AllZip}
use Rattle.std.proofs.lemmas.Option.{get_or_from_slice_get, slice_get_within}
use Rattle.hub_kinds.specs.declared.interchange.InterchangeFault.{InterchangeFault}
use Rattle.x12_segs.specs.Words.{SegValue}
use Rattle.env_index.specs.Words.{IndexEntry, GroupEntry}
use Rattle.env_index.specs.declared.entry.SetEnvelope.{SetEnvelope}
use Rattle.partner_setup.specs.Setup.{SetupValue}
use Rattle.set_answers.specs.Answers.{SentValue}
use Rattle.set_answers.specs.Asked.{Asked, IsFound, entry_asked_by, group_asked, groups_asked, has_places, interchange_asked, set_asked}
use Rattle.set_answers.specs.Asked.{sets_asked}
use Rattle.set_answers.specs.CheckedText.{sent_by}
use Rattle.set_check.specs.declared.finding.Finding.{Finding}
use Rattle.set_answers.proofs.Growing.{take_one_more}
use Rattle.set_answers.proofs.Zipping.{zip_back}

-- what is left of a list from a place on
pub drop_one_more : {A : Type 0} (xs : List A) (i : ℕ) (x : A) → slice_get xs i ≡ Some x → drop i xs ≡ x ∷ drop (i + 1) xs
drop_one_more {A} xs i x is = drop-cons xs i x (slice_get_within xs i x is)
    ∙ ap (λ (n : ℕ). get_or xs i x ∷ drop n xs) (let e : suc i ≡ i + 1 = omega arith in e)
    ∙ ap (λ (y : A). y ∷ drop (i + 1) xs) (get_or_from_slice_get xs i x x is)

pub first_is : (a : Asked) (bs : List Asked) (fs : List Finding) (f : Finding) (more : List Finding) → AllZip IsFound (a ∷ bs) fs
    → fs ≡ f ∷ more → IsFound a f × AllZip IsFound bs more
first_is a bs fs f more h e = subst (λ (l : List Finding). AllZip IsFound (a ∷ bs) l) e h

-- of the sets of a group, one after another
pub sets_step : (sent : SentValue) (gs : SegValue) (sets : List SetEnvelope) (i : ℕ) (set : SetEnvelope) → slice_get sets i ≡ Some set
    → sets_asked sent gs (take i sets) (drop i sets)
    ≡ set_asked sent gs (take i sets) set ∷ sets_asked sent gs (take (i + 1) sets) (drop (i + 1) sets)
sets_step sent gs sets i set is =
    ap (λ (l : List SetEnvelope). sets_asked sent gs (take i sets) l) (drop_one_more sets i set is)
    ∙ ap (λ (l : List SetEnvelope). set_asked sent gs (take i sets) set ∷ sets_asked sent gs l (drop (i + 1) sets))
    (sym (take_one_more sets i set is))

-- of the groups of an interchange, one after another
pub groups_step : (sent : SentValue) (groups : List GroupEntry) (i : ℕ) (group : GroupEntry) → slice_get groups i ≡ Some group
    → groups_asked sent (take i groups) (drop i groups) ≡ groups_asked sent (take i groups) (group ∷ drop (i + 1) groups)
groups_step sent groups i group is =
    ap (λ (l : List GroupEntry). groups_asked sent (take i groups) l) (drop_one_more groups i group is)

-- the sets of the first group, and then what is after it
pub own_sets : (sent : SentValue) (before : List GroupEntry) (group : GroupEntry) (groups : List GroupEntry) (more : List Asked)
    → groups_asked sent before (group ∷ groups) ++ more
    ≡ group_asked before group ∷ (sets_asked sent group.header [] group.sets ++ (groups_asked sent (before ++ group ∷ []) groups ++ more))
own_sets sent before group groups more =
    ap (λ (l : List Asked). group_asked before group ∷ l)
    (append_assoc (sets_asked sent group.header [] group.sets) (groups_asked sent (before ++ group ∷ []) groups) more)

pub moved_asked : (bs cs : List Asked) (fs : List Finding) → bs ≡ cs → AllZip IsFound bs fs → AllZip IsFound cs fs
moved_asked bs cs fs e h = subst (λ (l : List Asked). AllZip IsFound l fs) e h

-- the next set of a group, and what is after it
pub next_set : (sent : SentValue) (gs : SegValue) (sets : List SetEnvelope) (i : ℕ) (set : SetEnvelope) (more : List Asked)
    (fs : List Finding) → slice_get sets i ≡ Some set
    → AllZip IsFound (sets_asked sent gs (take i sets) (drop i sets) ++ more) fs
    → AllZip IsFound (set_asked sent gs (take i sets) set ∷ (sets_asked sent gs (take (i + 1) sets) (drop (i + 1) sets) ++ more)) fs
next_set sent gs sets i set more fs is h =
    moved_asked _ _ fs (ap (λ (l : List Asked). l ++ more) (sets_step sent gs sets i set is)) h

-- no set is left
pub no_set : (sent : SentValue) (gs : SegValue) (sets : List SetEnvelope) (i : ℕ) (more : List Asked) (fs : List Finding)
    → length sets ≤ i → AllZip IsFound (sets_asked sent gs (take i sets) (drop i sets) ++ more) fs → AllZip IsFound more fs
no_set sent gs sets i more fs past h =
    moved_asked _ _ fs (ap (λ (l : List SetEnvelope). sets_asked sent gs (take i sets) l ++ more) (drop_all i sets past)) h

-- the next group of an interchange
pub next_group : (sent : SentValue) (groups : List GroupEntry) (i : ℕ) (group : GroupEntry) (more : List Asked) (fs : List Finding)
    → slice_get groups i ≡ Some group → AllZip IsFound (groups_asked sent (take i groups) (drop i groups) ++ more) fs
    → AllZip IsFound (groups_asked sent (take i groups) (group ∷ drop (i + 1) groups) ++ more) fs
next_group sent groups i group more fs is h =
    moved_asked _ _ fs (ap (λ (l : List Asked). l ++ more) (groups_step sent groups i group is)) h

-- the groups after it
pub behind_group : (sent : SentValue) (groups : List GroupEntry) (i : ℕ) (group : GroupEntry) (more : List Asked) (fs : List Finding)
    → slice_get groups i ≡ Some group
    → AllZip IsFound (groups_asked sent (take i groups ++ group ∷ []) (drop (i + 1) groups) ++ more) fs
    → AllZip IsFound (groups_asked sent (take (i + 1) groups) (drop (i + 1) groups) ++ more) fs
behind_group sent groups i group more fs is h =
    moved_asked _ _ fs
    (ap (λ (l : List GroupEntry). groups_asked sent l (drop (i + 1) groups) ++ more) (sym (take_one_more groups i group is))) h

-- no group is left
pub no_group : (sent : SentValue) (groups : List GroupEntry) (i : ℕ) (more : List Asked) (fs : List Finding)
    → length groups ≤ i → AllZip IsFound (groups_asked sent (take i groups) (drop i groups) ++ more) fs → AllZip IsFound more fs
no_group sent groups i more fs past h =
    moved_asked _ _ fs (ap (λ (l : List GroupEntry). groups_asked sent (take i groups) l ++ more) (drop_all i groups past)) h

-- a group's own, then its sets, then what is after it
pub first_group : (sent : SentValue) (before : List GroupEntry) (group : GroupEntry) (groups : List GroupEntry) (more : List Asked)
    (fs : List Finding) → AllZip IsFound (groups_asked sent before (group ∷ groups) ++ more) fs
    → AllZip IsFound (group_asked before group
    ∷ (sets_asked sent group.header [] group.sets ++ (groups_asked sent (before ++ group ∷ []) groups ++ more))) fs
first_group sent before group groups more fs h = moved_asked _ _ fs (own_sets sent before group groups more) h

-- after the first
pub behind_first : (a : Asked) (bs : List Asked) (fs : List Finding) (f : Finding) (more : List Finding) → AllZip IsFound (a ∷ bs) fs
    → fs ≡ f ∷ more → AllZip IsFound bs more
behind_first a bs fs f more h e = (first_is a bs fs f more h e).1

-- as many are left as are asked first
pub enough : (bs more : List Asked) (fs : List Finding) → AllZip IsFound (bs ++ more) fs → length bs ≤ length fs
enough bs more fs h = omega (arith, AllZip-long IsFound (bs ++ more) fs h, length-append bs more)

-- after so many
pub behind : (n : ℕ) (bs more : List Asked) (fs rest : List Finding) → n ≡ length bs → rest ≡ drop n fs
    → AllZip IsFound (bs ++ more) fs → AllZip IsFound more rest
behind n bs more fs rest counted passed h =
    subst (λ (l : List Finding). AllZip IsFound more l) (sym (passed ∙ ap (λ (k : ℕ). drop k fs) counted)) (zip_back IsFound bs more fs h)

-- of an interchange that has places, after its own
pub behind_own : (text : List ℕ) (setup : SetupValue) (e : IndexEntry) (fault : Option InterchangeFault) (sender : Option ℕ) (s : ℕ)
    (more : List Asked) (fs : List Finding) (f : Finding) (rest : List Finding) → fault ≡ e.fault → has_places fault ≡ true
    → sender ≡ Some s → fs ≡ f ∷ rest → AllZip IsFound (entry_asked_by text setup e (has_places e.fault) sender ++ more) fs
    → AllZip IsFound (groups_asked (sent_by text setup s e) [] e.interchange.content.groups ++ more) rest
behind_own text setup e fault sender s more fs f rest faulty has known split h =
    let with_places = subst (λ (b : Bool). AllZip IsFound (entry_asked_by text setup e b sender ++ more) fs)
    (ap has_places (sym faulty) ∙ has) h in
    let by_sender = subst (λ (o : Option ℕ). AllZip IsFound (entry_asked_by text setup e true o ++ more) fs) known with_places in
    behind_first (interchange_asked e) (groups_asked (sent_by text setup s e) [] e.interchange.content.groups ++ more) fs f rest by_sender
    split
