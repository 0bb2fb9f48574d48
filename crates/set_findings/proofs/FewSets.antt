-- What is known of the sets of a text's index, however it is settled.
use Rattle.std.proofs.Common.{ℕ, ◌≤◌, List, [], ◌∷◌, length, subst, sym}
use Rattle.std.specs.List.{All, AllByRecursion}
use Rattle.std.proofs.lemmas.List.Elements.{All-from_recursion, recursion_from_All}
use Rattle.hub_kinds.specs.declared.limits.TheConstants.{LONGEST_TEXT}
use Rattle.env_index.specs.Words.{ChainFrom, HasSpans, IndexEntry, IndexValue, IsEntryOf, IsIndex, extents_of}
use Rattle.env_index.proofs.ForAbove.{are_few}
use Rattle.partner_setup.specs.Setup.{SetupValue}
use Rattle.set_findings.specs.Alone.{entries_alone}
use Rattle.set_findings.specs.Jobs.{HasFewSets}

few_each : (text : List ℕ) (setup : SetupValue) (from : ℕ) (es : List IndexEntry) → length text ≤ LONGEST_TEXT
    → ChainFrom text from (extents_of es) → AllByRecursion (IsEntryOf text) es → AllByRecursion HasFewSets (entries_alone setup es)
few_each text setup from [] limit chain all = tt
few_each text setup from (e ∷ es) limit chain all = (
  (are_few text e.interchange all.0.read chain.0.head limit).sets,
  few_each text setup e.interchange.end es limit chain.2 all.1,
)

pub few_sets : (text : List ℕ) (setup : SetupValue) (index : IndexValue) → IsIndex text index → length text ≤ LONGEST_TEXT
    → All HasFewSets (entries_alone setup index.entries)
few_sets text setup index is limit =
    All-from_recursion HasFewSets (entries_alone setup index.entries)
    (few_each text setup 0 index.entries limit is.chain (recursion_from_All (IsEntryOf text) index.entries is.entries))

abbrev pub HasItsSpans : List ℕ → IndexEntry → Type 0
HasItsSpans text e = HasSpans text e.interchange

spans_each : (text : List ℕ) (setup : SetupValue) (es : List IndexEntry) → AllByRecursion (IsEntryOf text) es
    → AllByRecursion (HasItsSpans text) (entries_alone setup es)
spans_each text setup [] all = tt
spans_each text setup (e ∷ es) all = (all.0.read.spans, spans_each text setup es all.1)

pub spans_alone : (text : List ℕ) (setup : SetupValue) (index : IndexValue) → IsIndex text index
    → All (HasItsSpans index.text) (entries_alone setup index.entries)
spans_alone text setup index is =
    subst (λ (t : List ℕ). All (HasItsSpans t) (entries_alone setup index.entries)) (sym is.same)
    (All-from_recursion (HasItsSpans text) (entries_alone setup index.entries)
    (spans_each text setup index.entries (recursion_from_All (IsEntryOf text) index.entries is.entries)))
