-- The jobs of an index are at its places, and their sets stand in their spans.
use Rattle.std.proofs.Common.{◌≡◌, ℕ, ◌+◌, List, [], ◌∷◌, ◌++◌, length, map, Option, Some, None, option_map, refl, sym, ap, ◌∙◌, subst}
use Rattle.std.proofs.Common.{arith}
use Rattle.std.specs.Prelude.{Contains, is_none}
use Rattle.std.specs.List.{All, AllByRecursion}
use Rattle.std.proofs.lemmas.List.{map-append}
use Rattle.std.proofs.lemmas.List.Elements.{All-from_recursion, Contains-append_right, recursion_from_All}
use Rattle.hub_kinds.specs.declared.interchange.InterchangeFault.{InterchangeFault}
use Rattle.hub_kinds.specs.declared.place.Place.{Place}
use Rattle.x12_bytes.specs.Header.{header_delims}
use Rattle.x12_segs.specs.Words.{IsSetSpan, SegValue}
use Rattle.env_index.specs.Words.{HasSpans, IndexEntry, IndexValue, GroupEntry, group_numbers_from, kept_places, place_at, place_in}
use Rattle.env_index.specs.Words.{Numbered, places_behind, places_of, span_of, with_fault}
use Rattle.env_index.specs.declared.entry.SetEnvelope.{SetEnvelope}
use Rattle.partner_setup.specs.Setup.{SetupValue, sender_of}
use Rattle.set_answers.specs.Answers.{SentValue}
use Rattle.set_answers.specs.Asked.{Asked, groups_asked, sets_asked}
use Rattle.set_answers.specs.CheckedText.{sent_by}
use Rattle.set_answers.specs.Settled.{fault_alone, fault_with_sender}
use Rattle.worker_pool.specs.Jobs.{JobValue, job_of, job_value, place_of, set_asked}
use Rattle.worker_pool.specs.Spans.{AreSpans, IsJobSpan, IsSpanOf}
use Rattle.worker_pool.specs.declared.job.CheckJob.{CheckJob}
use Rattle.worker_pool.specs.declared.job.SetJob.{SetJob}
use Rattle.set_check.specs.Checked.{SetAsked}
use Rattle.set_check.specs.declared.finding.Finding.{Finding}
use Rattle.set_findings.specs.Alone.{entries_alone}
use Rattle.set_findings.specs.Findings.{found_place}
use Rattle.set_findings.specs.Jobs.{entry_jobs, entry_jobs_by, jobs_at, jobs_behind, jobs_of}
use Rattle.set_findings.proofs.Asking.{groups_long}

abbrev pub job_place : JobValue → Place
job_place job = job.place

places_at : (ns : List Numbered) (asked : List Asked) → length ns ≡ length asked → map job_place (jobs_at ns asked) ≡ map place_in ns
places_at [] asked same = refl
places_at (n ∷ ns) [] same = absurd (omega (arith, same))
places_at (n ∷ ns) (a ∷ asked) same = ap (λ (l : List Place). n.place ∷ l) (places_at ns asked (omega (arith, same)))

-- where an interchange has none of the faults 1 to 8 its sender is known
entry_places : (text : List ℕ) (setup : SetupValue) (n : ℕ) (e : IndexEntry) (fault : Option InterchangeFault) (sender : Option ℕ)
    → map job_place (entry_jobs_by text setup n e (fault_with_sender fault sender) sender)
    ≡ map place_in (kept_places (is_none (fault_with_sender fault sender)) n e.interchange)
entry_places text setup n e (Some fault) sender = refl
entry_places text setup n e None None = refl
entry_places text setup n e None (Some sender) =
    ap (λ (l : List Place). place_at n 0 0 ∷ l)
    (places_at (group_numbers_from n 1 e.interchange.content.groups)
    (groups_asked (sent_by text setup sender e) [] e.interchange.content.groups)
    (groups_long n 1 (sent_by text setup sender e) [] e.interchange.content.groups))

pub alone_places : (text : List ℕ) (setup : SetupValue) (n : ℕ) (es : List IndexEntry)
    → map job_place (jobs_behind text setup n (entries_alone setup es)) ≡ map place_in (places_behind n (entries_alone setup es))
alone_places text setup n [] = refl
alone_places text setup n (e ∷ es) =
    let sender = sender_of setup e.interchange.header in
    let settled = with_fault e (fault_alone setup e) in
    let here = entry_jobs text setup n settled in
    let more = jobs_behind text setup (n + 1) (entries_alone setup es) in
    let kept = kept_places (is_none (fault_alone setup e)) n e.interchange in
    let rest = places_behind (n + 1) (entries_alone setup es) in
    map-append job_place here more
    ∙ ap (λ (l : List Place). l ++ map job_place more) (entry_places text setup n settled e.fault sender)
    ∙ ap (λ (l : List Place). map place_in kept ++ l) (alone_places text setup (n + 1) es)
    ∙ sym (map-append place_in kept rest)

places_map : (jobs : List CheckJob) → map (λ (j : CheckJob). j.place) jobs ≡ map job_place (map job_value jobs)
places_map [] = refl
places_map (j ∷ jobs) = ap (λ (l : List Place). j.place ∷ l) (places_map jobs)

pub done_map : (ds : List Finding) → map found_place ds ≡ map job_place (map job_of ds)
done_map [] = refl
done_map (d ∷ ds) = ap (λ (l : List Place). d.place ∷ l) (done_map ds)

pub found_places : (jobs : List CheckJob) (ds : List Finding) → map job_of ds ≡ map job_value jobs
    → map found_place ds ≡ map place_of jobs
found_places jobs ds is = done_map ds ∙ ap (map job_place) is ∙ sym (places_map jobs)

pub inside : (before after all : List Finding) (d : Finding) (places : List Place) → all ≡ before ++ d ∷ after
    → map found_place all ≡ places → Contains places d.place
inside before after all d places is at =
    subst (λ (l : List Place). Contains l d.place)
    (sym (map-append found_place before (d ∷ after)) ∙ sym (ap (map found_place) is) ∙ at)
    (Contains-append_right (map found_place before) (d.place ∷ map found_place after) d.place (0, omega arith, refl))

pub places_are : (setup : SetupValue) (index : IndexValue) (jobs : List CheckJob)
    → map job_value jobs ≡ jobs_of index.text setup index.entries
    → (es : List IndexEntry) → index.entries ≡ entries_alone setup es → map (λ (j : CheckJob). j.place) jobs ≡ places_of index
places_are setup index jobs is es settled =
    places_map jobs ∙ ap (map job_place) is
    ∙ ap (λ (l : List IndexEntry). map job_place (jobs_of index.text setup l)) settled
    ∙ alone_places index.text setup 1 es
    ∙ ap (λ (l : List IndexEntry). map place_in (places_behind 1 l)) (sym settled)

-- a job's set stands in its span
abbrev pub IsAskedSpan : Option SetAsked → Type 0
IsAskedSpan None = Unit {0}
IsAskedSpan (Some s) = IsSetSpan s.text s.span

abbrev pub IsValueSpan : JobValue → Type 0
IsValueSpan job = IsAskedSpan job.set

each_append : {A : Type 0} (P : A → Type 0) (xs ys : List A) → AllByRecursion P xs → AllByRecursion P ys → AllByRecursion P (xs ++ ys)
each_append P [] ys h k = k
each_append P (x ∷ xs) ys h k = (h.0, each_append P xs ys h.1 k)

abbrev pub StandsInItsSpan : Asked → Type 0
StandsInItsSpan asked = IsAskedSpan asked.set

spans_at : (ns : List Numbered) (asked : List Asked) → AllByRecursion StandsInItsSpan asked → AllByRecursion IsValueSpan (jobs_at ns asked)
spans_at [] asked h = tt
spans_at (n ∷ ns) [] h = tt
spans_at (n ∷ ns) (a ∷ asked) h = (h.0, spans_at ns asked h.1)

set_spans : (sent : SentValue) (header : SegValue) (before sets : List SetEnvelope)
    → AllByRecursion (λ (set : SetEnvelope). IsSetSpan sent.text (span_of sent.delims set)) sets
    → AllByRecursion StandsInItsSpan (sets_asked sent header before sets)
set_spans sent header before [] h = tt
set_spans sent header before (set ∷ sets) h = (h.0, set_spans sent header (before ++ set ∷ []) sets h.1)

group_spans : (sent : SentValue) (before groups : List GroupEntry)
    → AllByRecursion (λ (group : GroupEntry). All (λ (set : SetEnvelope). IsSetSpan sent.text (span_of sent.delims set)) group.sets) groups
    → AllByRecursion StandsInItsSpan (groups_asked sent before groups)
group_spans sent before [] h = tt
group_spans sent before (group ∷ groups) h = (
  tt,
  each_append StandsInItsSpan (sets_asked sent group.header [] group.sets) (groups_asked sent (before ++ group ∷ []) groups)
      (set_spans sent group.header [] group.sets
      (recursion_from_All (λ (set : SetEnvelope). IsSetSpan sent.text (span_of sent.delims set)) group.sets h.0))
      (group_spans sent (before ++ group ∷ []) groups h.1),
)

entry_spans : (text : List ℕ) (setup : SetupValue) (n : ℕ) (e : IndexEntry) (fault : Option InterchangeFault) (sender : Option ℕ)
    → HasSpans text e.interchange → AllByRecursion IsValueSpan (entry_jobs_by text setup n e fault sender)
entry_spans text setup n e (Some fault) sender h = tt
entry_spans text setup n e None None h = tt
entry_spans text setup n e None (Some sender) h = (
  tt,
  spans_at (group_numbers_from n 1 e.interchange.content.groups)
      (groups_asked (sent_by text setup sender e) [] e.interchange.content.groups)
      (group_spans (sent_by text setup sender e) [] e.interchange.content.groups
      (recursion_from_All (λ (group : GroupEntry).
      All (λ (set : SetEnvelope). IsSetSpan text (span_of (header_delims e.interchange.header) set)) group.sets)
      e.interchange.content.groups h)),
)

all_spans : (text : List ℕ) (setup : SetupValue) (n : ℕ) (es : List IndexEntry)
    → AllByRecursion (λ (e : IndexEntry). HasSpans text e.interchange) es → AllByRecursion IsValueSpan (jobs_behind text setup n es)
all_spans text setup n [] h = tt
all_spans text setup n (e ∷ es) h =
    each_append IsValueSpan (entry_jobs text setup n e) (jobs_behind text setup (n + 1) es)
    (entry_spans text setup n e e.fault (sender_of setup e.interchange.header) h.0) (all_spans text setup (n + 1) es h.1)

job_span : (set : Option SetJob) → IsAskedSpan (option_map set_asked set) → IsSpanOf set
job_span None h = tt
job_span (Some s) h = h

job_spans : (jobs : List CheckJob) → AllByRecursion IsValueSpan (map job_value jobs) → AllByRecursion IsJobSpan jobs
job_spans [] h = tt
job_spans (j ∷ jobs) h = (job_span j.set h.0, job_spans jobs h.1)

pub spans_are : (text : List ℕ) (setup : SetupValue) (es : List IndexEntry) (jobs : List CheckJob)
    → map job_value jobs ≡ jobs_of text setup es → All (λ (e : IndexEntry). HasSpans text e.interchange) es → AreSpans jobs
spans_are text setup es jobs is h =
    All-from_recursion IsJobSpan jobs (job_spans jobs (subst (AllByRecursion IsValueSpan) (sym is)
    (all_spans text setup 1 es (recursion_from_All (λ (e : IndexEntry). HasSpans text e.interchange) es h))))
