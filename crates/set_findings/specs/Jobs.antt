-- X12.5, interchange, and X12.6, functional group and transaction set: what is done at each place of a settled index: a set is checked by
-- its sender's guide for it (own).
use Rattle.std.specs.Prelude.{ℕ, ◌+◌, ◌≤◌, List, [], ◌∷◌, ◌++◌, Option, Some, is_none, length}
use Rattle.std.specs.List.{All}
use Rattle.hub_kinds.specs.declared.limits.TheConstants.{LONGEST_TEXT}
use Rattle.hub_kinds.specs.declared.interchange.InterchangeFault.{InterchangeFault}
use Rattle.hub_kinds.specs.declared.place.Place.{Place}
use Rattle.x12_segs.specs.Words.{element_of}
use Rattle.env_index.specs.Words.{IndexEntry, Numbered, kept_places, span_of}
use Rattle.env_index.specs.declared.entry.SetEnvelope.{SetEnvelope}
use Rattle.partner_setup.specs.Setup.{SetupValue, guide_for_set, sender_of}
use Rattle.set_answers.specs.Answers.{SentValue}
use Rattle.set_answers.specs.Asked.{Asked, entry_asked_by}
use Rattle.worker_pool.specs.Jobs.{JobValue}

-- what is done at places, by what is asked there: of a set its check, nothing else
abbrev pub jobs_at : List Numbered → List Asked → List JobValue
jobs_at [] asked = []
jobs_at (n ∷ places) [] = []
jobs_at (n ∷ places) (a ∷ asked) = record { place = n.place; set = a.set } ∷ jobs_at places asked

-- an interchange with a fault has no job
abbrev pub entry_jobs_by : (text : List ℕ) → SetupValue → (isa : ℕ) → IndexEntry → Option InterchangeFault → (sender : Option ℕ)
    → List JobValue
entry_jobs_by text setup isa e fault sender =
    jobs_at (kept_places (is_none fault) isa e.interchange) (entry_asked_by text setup e (is_none fault) sender)

abbrev pub entry_jobs : (text : List ℕ) → SetupValue → (isa : ℕ) → IndexEntry → List JobValue
entry_jobs text setup isa e = entry_jobs_by text setup isa e e.fault (sender_of setup e.interchange.header)

-- the interchanges that are left; each is counted, also one with a fault
abbrev pub jobs_behind : (text : List ℕ) → SetupValue → (isa : ℕ) → List IndexEntry → List JobValue
jobs_behind text setup isa [] = []
jobs_behind text setup isa (e ∷ es) = entry_jobs text setup isa e ++ jobs_behind text setup (isa + 1) es

-- a set of a group with this GS01 and GS08
abbrev pub set_job : SentValue → Place → (group version : List ℕ) → SetEnvelope → JobValue
set_job sent place group version set = record {
  place = place;
  set = Some (record {
    text = sent.text;
    span = span_of sent.delims set;
    guide = guide_for_set sent.setup sent.sender group version (element_of set.header 1);
  });
}

-- the sets of each of its groups can be counted in 32 bits
abbrev pub HasFewSets : IndexEntry → Type 0
HasFewSets e = All (λ group. length group.sets ≤ LONGEST_TEXT) e.interchange.content.groups

abbrev pub jobs_of : (text : List ℕ) → SetupValue → List IndexEntry → List JobValue
jobs_of text setup es = jobs_behind text setup 1 es
