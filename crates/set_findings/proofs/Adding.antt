-- The jobs of an index are added one by one, in the order of its places.
use Rattle.std.proofs.Common.{◌≡◌, ℕ, ◌+◌, List, [], ◌∷◌, ◌++◌, length, map, drop, take, None, Some, refl, sym, ap, ◌∙◌, append_assoc}
use Rattle.std.proofs.Common.{◌≤◌, arith}
use Rattle.std.specs.Prelude.{slice_get}
use Rattle.std.proofs.lemmas.List.{append-nil, drop_all, drop_more, map-append, take_more}
use Rattle.std.proofs.lemmas.Option.{get_or_from_slice_get, slice_get_within}
use Rattle.x12_segs.specs.Words.{SegValue, element_of}
use Rattle.env_index.specs.Words.{IndexEntry, GroupEntry, Numbered, group_numbers_from, place_at, set_numbers_from}
use Rattle.env_index.specs.declared.entry.SetEnvelope.{SetEnvelope}
use Rattle.partner_setup.specs.Setup.{SetupValue}
use Rattle.set_answers.specs.Answers.{SentValue}
use Rattle.set_answers.specs.Asked.{Asked, groups_asked, sets_asked}
use Rattle.worker_pool.specs.Jobs.{JobValue, job_value}
use Rattle.worker_pool.specs.declared.job.CheckJob.{CheckJob}
use Rattle.set_findings.specs.Jobs.{entry_jobs, jobs_at, jobs_behind, set_job}
use Rattle.set_findings.proofs.Asking.{sets_long}

-- what comes first of the rest is there
pub one_more : {A : Type 0} (old new front here more all : List A) → new ≡ old ++ front → here ≡ front ++ more → old ++ here ≡ all
    → new ++ more ≡ all
one_more old new front here more all is split before =
    ap (λ l. l ++ more) is ∙ append_assoc old front more ∙ ap (λ l. old ++ l) (sym split) ∙ before

pub drop_at : {A : Type 0} (xs : List A) (i : ℕ) (x : A) → slice_get xs i ≡ Some x → drop i xs ≡ x ∷ drop (i + 1) xs
drop_at xs i x is =
    drop_more xs i x (slice_get_within xs i x is) ∙ ap (λ a. a ∷ drop (i + 1) xs) (get_or_from_slice_get xs i x x is)

-- one job more
pub pushed : (old new : List CheckJob) (job : CheckJob) (value : JobValue) → new ≡ old ++ job ∷ [] → job_value job ≡ value
    → map job_value new ≡ map job_value old ++ value ∷ []
pushed old new job value is valued =
    ap (λ (l : List CheckJob). map job_value l) is ∙ map-append job_value old (job ∷ [])
    ∙ ap (λ (v : JobValue). map job_value old ++ v ∷ []) valued

taken : {A : Type 0} (xs : List A) (i : ℕ) (x : A) → slice_get xs i ≡ Some x → take i xs ++ x ∷ [] ≡ take (i + 1) xs
taken xs i x is =
    ap (λ a. take i xs ++ a ∷ []) (sym (get_or_from_slice_get xs i x x is)) ∙ sym (take_more xs i x (slice_get_within xs i x is))

-- what is done at some places, and after them at others
pub jobs_append : (ns ms : List Numbered) (asked bs : List Asked) → length ns ≡ length asked
    → jobs_at (ns ++ ms) (asked ++ bs) ≡ jobs_at ns asked ++ jobs_at ms bs
jobs_append [] ms [] bs same = refl
jobs_append [] ms (a ∷ asked) bs same = absurd (omega (arith, same))
jobs_append (n ∷ ns) ms [] bs same = absurd (omega (arith, same))
jobs_append (n ∷ ns) ms (a ∷ asked) bs same =
    ap (λ (l : List JobValue). record { place = n.place; set = a.set } ∷ l) (jobs_append ns ms asked bs (omega (arith, same)))

abbrev set_jobs_at : SentValue → (isa gs n : ℕ) → SegValue → (before sets : List SetEnvelope) → List JobValue
set_jobs_at sent isa gs n header before sets = jobs_at (set_numbers_from isa gs n sets) (sets_asked sent header before sets)

pub sets_at : (sent : SentValue) (isa gs n i : ℕ) (header : SegValue) (sets : List SetEnvelope) (set : SetEnvelope)
    → slice_get sets i ≡ Some set
    → jobs_at (set_numbers_from isa gs n (drop i sets)) (sets_asked sent header (take i sets) (drop i sets))
    ≡ set_job sent (place_at isa gs n) (element_of header 1) (element_of header 8) set
    ∷ jobs_at (set_numbers_from isa gs (n + 1) (drop (i + 1) sets)) (sets_asked sent header (take (i + 1) sets) (drop (i + 1) sets))
sets_at sent isa gs n i header sets set is =
    ap (λ (l : List SetEnvelope). set_jobs_at sent isa gs n header (take i sets) l) (drop_at sets i set is)
    ∙ ap (λ (l : List SetEnvelope). set_job sent (place_at isa gs n) (element_of header 1) (element_of header 8) set
    ∷ set_jobs_at sent isa gs (n + 1) header l (drop (i + 1) sets)) (taken sets i set is)

abbrev group_jobs_at : SentValue → (isa n : ℕ) → (before groups : List GroupEntry) → List JobValue
group_jobs_at sent isa n before groups = jobs_at (group_numbers_from isa n groups) (groups_asked sent before groups)

pub groups_at : (sent : SentValue) (isa n i : ℕ) (groups : List GroupEntry) (group : GroupEntry) → slice_get groups i ≡ Some group
    → jobs_at (group_numbers_from isa n (drop i groups)) (groups_asked sent (take i groups) (drop i groups))
    ≡ (record { place = place_at isa n 0; set = None }
    ∷ jobs_at (set_numbers_from isa n 1 group.sets) (sets_asked sent group.header [] group.sets))
    ++ jobs_at (group_numbers_from isa (n + 1) (drop (i + 1) groups)) (groups_asked sent (take (i + 1) groups) (drop (i + 1) groups))
groups_at sent isa n i groups group is =
    let place : JobValue = record { place = place_at isa n 0; set = None } in
    let own : List JobValue = set_jobs_at sent isa n 1 group.header [] group.sets in
    ap (λ (l : List GroupEntry). group_jobs_at sent isa n (take i groups) l) (drop_at groups i group is)
    ∙ ap (λ (l : List JobValue). place ∷ l)
    (jobs_append (set_numbers_from isa n 1 group.sets) (group_numbers_from isa (n + 1) (drop (i + 1) groups))
    (sets_asked sent group.header [] group.sets) (groups_asked sent (take i groups ++ group ∷ []) (drop (i + 1) groups))
    (sets_long isa n 1 sent group.header [] group.sets))
    ∙ ap (λ (l : List GroupEntry). place ∷ (own ++ group_jobs_at sent isa (n + 1) l (drop (i + 1) groups))) (taken groups i group is)

pub entries_at : (text : List ℕ) (setup : SetupValue) (n i : ℕ) (es : List IndexEntry) (e : IndexEntry) → slice_get es i ≡ Some e
    → jobs_behind text setup n (drop i es) ≡ entry_jobs text setup n e ++ jobs_behind text setup (n + 1) (drop (i + 1) es)
entries_at text setup n i es e is = ap (λ (l : List IndexEntry). jobs_behind text setup n l) (drop_at es i e is)

-- after the last entry no job is left
pub jobs_all : (text : List ℕ) (setup : SetupValue) (es : List IndexEntry) (i n : ℕ) (jobs : List CheckJob) (all : List JobValue)
    → length es ≤ i → map job_value jobs ++ jobs_behind text setup n (drop i es) ≡ all → map job_value jobs ≡ all
jobs_all text setup es i n jobs all end before =
    sym (append-nil (map job_value jobs))
    ∙ sym (ap (λ (l : List IndexEntry). map job_value jobs ++ jobs_behind text setup n l) (drop_all i es end)) ∙ before

-- the jobs of some entries, and after them those of more
pub jobs_joined : (text : List ℕ) (setup : SetupValue) (n : ℕ) (xs ys : List IndexEntry)
    → jobs_behind text setup n (xs ++ ys) ≡ jobs_behind text setup n xs ++ jobs_behind text setup (n + length xs) ys
jobs_joined text setup n [] ys = ap (λ (k : ℕ). jobs_behind text setup k ys) (let same : n ≡ n + 0 = omega arith in same)
jobs_joined text setup n (x ∷ xs) ys =
    let here : List JobValue = entry_jobs text setup n x in
    let low : List JobValue = jobs_behind text setup (n + 1) xs in
    let same : n + 1 + length xs ≡ n + length (x ∷ xs) = omega arith in
    ap (λ (l : List JobValue). here ++ l) (jobs_joined text setup (n + 1) xs ys)
    ∙ ap (λ (k : ℕ). here ++ (low ++ jobs_behind text setup k ys)) same
    ∙ sym (append_assoc here low (jobs_behind text setup (n + length (x ∷ xs)) ys))
