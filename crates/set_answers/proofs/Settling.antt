-- A settled index: the same interchanges, each with its fault.
use Rattle.std.proofs.Common.{◌≡◌, ℕ, suc, List, [], ◌∷◌, ◌++◌, Option, length, refl, sym, ap, subst}
use Rattle.std.specs.List.{All}
use Rattle.std.proofs.lemmas.List.Elements.{All-cons, All-head, All-nil, All-tail}
use Rattle.hub_kinds.specs.declared.interchange.InterchangeFault.{InterchangeFault}
use Rattle.env_index.specs.Words.{IndexEntry, IndexValue, IsEntryOf, IsIndex, settled, with_faults, HasSpans}
use Rattle.partner_setup.specs.Setup.{SetupValue}
use Rattle.set_answers.specs.Settled.{faults_from}

pub faults_length : (setup : SetupValue) (before es : List IndexEntry) → length (faults_from setup before es) ≡ length es
faults_length setup before [] = refl
faults_length setup before (e ∷ es) = ap suc (faults_length setup (before ++ e ∷ []) es)

spans_kept : (text : List ℕ) (es : List IndexEntry) (faults : List (Option InterchangeFault)) → All (λ e. HasSpans text e.interchange) es
    → All (λ e. HasSpans text e.interchange) (with_faults es faults)
spans_kept text [] faults all = All-nil (λ e. HasSpans text e.interchange)
spans_kept text (e ∷ es) [] all = all
spans_kept text (e ∷ es) (f ∷ fs) all =
    All-cons (λ e. HasSpans text e.interchange) _ _ (All-head (λ e. HasSpans text e.interchange) e es all)
    (spans_kept text es fs (All-tail (λ e. HasSpans text e.interchange) e es all))

read_spans : (text : List ℕ) (es : List IndexEntry) → All (IsEntryOf text) es → All (λ e. HasSpans text e.interchange) es
read_spans text [] all = All-nil (λ e. HasSpans text e.interchange)
read_spans text (e ∷ es) all =
    All-cons (λ e. HasSpans text e.interchange) e es (All-head (IsEntryOf text) e es all).read.spans
    (read_spans text es (All-tail (IsEntryOf text) e es all))

-- the sets of a settled index stand in their spans
pub settled_spans : (text : List ℕ) (index new : IndexValue) (faults : List (Option InterchangeFault)) → IsIndex text index
    → new ≡ settled index faults → All (λ e. HasSpans new.text e.interchange) new.entries
settled_spans text index new faults is e =
    subst (λ (i : IndexValue). All (λ e. HasSpans i.text e.interchange) i.entries) (sym e)
    (subst (λ (t : List ℕ). All (λ e. HasSpans t e.interchange) (with_faults index.entries faults)) (sym is.same)
    (spans_kept text index.entries faults (read_spans text index.entries is.entries)))
