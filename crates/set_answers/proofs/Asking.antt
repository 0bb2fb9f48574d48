-- What is asked of sets, groups and interchanges, with one more of them; and how much is asked.
use Rattle.std.proofs.Common.{◌≡◌, ℕ, suc, ◌+◌, Bool, true, false, List, [], ◌∷◌, ◌++◌, Option, Some, None, length, take, refl, sym, ap}
use Rattle.std.proofs.Common.{◌∙◌, arith, append_assoc}
use Rattle.std.specs.Prelude.{slice_get}
use Rattle.std.proofs.lemmas.List.{append-nil, length-append}
use Rattle.x12_segs.specs.Words.{SegValue}
use Rattle.env_index.specs.Words.{IndexEntry, GroupEntry}
use Rattle.env_index.specs.declared.entry.SetEnvelope.{SetEnvelope}
use Rattle.partner_setup.specs.Setup.{SetupValue, sender_of}
use Rattle.set_answers.specs.Answers.{SentValue}
use Rattle.set_answers.specs.Asked.{Asked, asked_of, entry_asked, entry_asked_by, group_asked, groups_asked, has_places, set_asked}
use Rattle.set_answers.specs.Asked.{sets_asked}
use Rattle.set_answers.specs.CheckedText.{sent_by}
use Rattle.set_answers.specs.Counted.{asked_count_by, asked_count_of, asked_in_groups}
use Rattle.set_answers.proofs.Growing.{take_one_more}

sets_more : (sent : SentValue) (gs : SegValue) (before sets : List SetEnvelope) (set : SetEnvelope)
    → sets_asked sent gs before (sets ++ set ∷ []) ≡ sets_asked sent gs before sets ++ set_asked sent gs (before ++ sets) set ∷ []
sets_more sent gs before [] set = ap (λ (l : List SetEnvelope). set_asked sent gs l set ∷ []) (sym (append-nil before))
sets_more sent gs before (first ∷ sets) set =
    ap (λ (l : List Asked). set_asked sent gs before first ∷ l) (sets_more sent gs (before ++ first ∷ []) sets set)
    ∙ ap (λ (l : List SetEnvelope). set_asked sent gs before first
    ∷ (sets_asked sent gs (before ++ first ∷ []) sets ++ set_asked sent gs l set ∷ [])) (append_assoc before (first ∷ []) sets)

-- the sets of a group up to one of them
pub sets_up_to : (sent : SentValue) (gs : SegValue) (sets : List SetEnvelope) (i : ℕ) (set : SetEnvelope) → slice_get sets i ≡ Some set
    → sets_asked sent gs [] (take i sets) ++ set_asked sent gs (take i sets) set ∷ [] ≡ sets_asked sent gs [] (take (i + 1) sets)
sets_up_to sent gs sets i set there = sym (sets_more sent gs [] (take i sets) set)
    ∙ ap (sets_asked sent gs []) (sym (take_one_more sets i set there))

groups_more : (sent : SentValue) (before groups : List GroupEntry) (group : GroupEntry)
    → groups_asked sent before (groups ++ group ∷ [])
    ≡ groups_asked sent before groups ++ group_asked (before ++ groups) group ∷ sets_asked sent group.header [] group.sets
groups_more sent before [] group =
    ap (λ (l : List Asked). group_asked before group ∷ l) (append-nil (sets_asked sent group.header [] group.sets))
    ∙ ap (λ (l : List GroupEntry). group_asked l group ∷ sets_asked sent group.header [] group.sets) (sym (append-nil before))
groups_more sent before (first ∷ groups) group =
    ap (λ (l : List Asked). group_asked before first ∷ (own ++ l)) (groups_more sent (before ++ first ∷ []) groups group)
    ∙ ap (λ (l : List GroupEntry). group_asked before first ∷ (own ++ (groups_asked sent (before ++ first ∷ []) groups
    ++ group_asked l group ∷ last))) (append_assoc before (first ∷ []) groups)
    ∙ ap (λ (l : List Asked). group_asked before first ∷ l)
    (sym (append_assoc own (groups_asked sent (before ++ first ∷ []) groups) (group_asked (before ++ first ∷ groups) group ∷ last)))
  where
    own : List Asked
    own = sets_asked sent first.header [] first.sets

    last : List Asked
    last = sets_asked sent group.header [] group.sets

-- the groups of an interchange up to one of them
pub groups_up_to : (sent : SentValue) (groups : List GroupEntry) (i : ℕ) (group : GroupEntry) → slice_get groups i ≡ Some group
    → groups_asked sent [] (take i groups) ++ group_asked (take i groups) group ∷ sets_asked sent group.header [] group.sets
    ≡ groups_asked sent [] (take (i + 1) groups)
groups_up_to sent groups i group there = sym (groups_more sent [] (take i groups) group)
    ∙ ap (groups_asked sent []) (sym (take_one_more groups i group there))

pub asked_append : (text : List ℕ) (setup : SetupValue) (es fs : List IndexEntry)
    → asked_of text setup (es ++ fs) ≡ asked_of text setup es ++ asked_of text setup fs
asked_append text setup [] fs = refl
asked_append text setup (e ∷ es) fs = ap (λ (l : List Asked). entry_asked text setup e ++ l) (asked_append text setup es fs)
    ∙ sym (append_assoc (entry_asked text setup e) (asked_of text setup es) (asked_of text setup fs))

-- the interchanges up to one of them
pub entries_up_to : (text : List ℕ) (setup : SetupValue) (es : List IndexEntry) (i : ℕ) (e : IndexEntry) → slice_get es i ≡ Some e
    → asked_of text setup (take i es) ++ entry_asked text setup e ≡ asked_of text setup (take (i + 1) es)
entries_up_to text setup es i e there =
    ap (λ (l : List Asked). asked_of text setup (take i es) ++ l) (sym (append-nil (entry_asked text setup e)))
    ∙ sym (asked_append text setup (take i es) (e ∷ []))
    ∙ ap (asked_of text setup) (sym (take_one_more es i e there))

pub sets_count : (sent : SentValue) (gs : SegValue) (before sets : List SetEnvelope) → length (sets_asked sent gs before sets) ≡ length sets
sets_count sent gs before [] = refl
sets_count sent gs before (set ∷ sets) = ap suc (sets_count sent gs (before ++ set ∷ []) sets)

pub groups_count : (sent : SentValue) (before groups : List GroupEntry)
    → length (groups_asked sent before groups) ≡ asked_in_groups groups
groups_count sent before [] = refl
groups_count sent before (group ∷ groups) =
    omega (
      arith,
      length-append (sets_asked sent group.header [] group.sets) (groups_asked sent (before ++ group ∷ []) groups),
      sets_count sent group.header [] group.sets,
      groups_count sent (before ++ group ∷ []) groups,
    )

entry_count : (text : List ℕ) (setup : SetupValue) (e : IndexEntry) (b : Bool) (sender : Option ℕ)
    → length (entry_asked_by text setup e b sender) ≡ asked_count_by b sender e.interchange.content.groups
entry_count text setup e false sender = refl
entry_count text setup e true None = refl
entry_count text setup e true (Some sender) =
    omega (arith, groups_count (sent_by text setup sender e) [] e.interchange.content.groups)

pub asked_count : (text : List ℕ) (setup : SetupValue) (es : List IndexEntry)
    → length (asked_of text setup es) ≡ asked_count_of setup es
asked_count text setup [] = refl
asked_count text setup (e ∷ es) =
    omega (
      arith,
      length-append (entry_asked text setup e) (asked_of text setup es),
      entry_count text setup e (has_places e.fault) (sender_of setup e.interchange.header),
      asked_count text setup es,
    )
