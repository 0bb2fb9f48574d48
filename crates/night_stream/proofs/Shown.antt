-- What a batch has to show is shown by what was written of it.
use Rattle.std.proofs.Common.{◌≡◌, ℕ, suc, List, [], ◌∷◌, length, refl, sym, subst, arith}
use Rattle.std.specs.List.{All}
use Rattle.std.proofs.lemmas.List.Elements.{All-cons, All-head, All-nil, All-tail}
use Rattle.env_index.specs.Words.{HasSpans, IndexEntry, IndexValue, IsIndex, with_faults}
use Rattle.partner_setup.specs.Setup.{SetupValue}
use Rattle.set_answers.specs.CheckedText.{AreCheckedAs, CheckedInterchange}
use Rattle.set_answers.specs.Settled.{faults_with, kept_keys}
use Rattle.night_stream.proofs.Going.{HasTheSpans, spans_read, spans_settled}
use Rattle.night_stream.specs.UpTo.{IsBatchDone, IsBatchOf, NightSoFar, behind_batch}
use Rattle.night_batches.specs.Writing.{WritingValue}

abbrev HasItsSpans : List ℕ → CheckedInterchange → Type 0
HasItsSpans text x = HasSpans text x.entry.interchange

spans_known : (text : List ℕ) (setup : SetupValue) (es : List IndexEntry) (xs : List CheckedInterchange)
    → AreCheckedAs text setup es xs → All (HasTheSpans text) es → All (HasItsSpans text) xs
spans_known text setup es [] are all = All-nil (HasItsSpans text)
spans_known text setup [] (x ∷ xs) are all = absurd (let count : suc (length xs) ≡ 0 = are.count in omega (arith, count))
spans_known text setup (e ∷ es) (x ∷ xs) are all =
    All-cons (HasItsSpans text) x xs
    (subst (HasTheSpans text) (sym (are.each 0 e x refl refl).entry) (All-head (HasTheSpans text) e es all))
    (spans_known text setup es xs
    (record {
      count = (let count : suc (length xs) ≡ suc (length es) = are.count in omega (arith, count));
      each = λ n a b is_a is_b. are.each (suc n) a b is_a is_b;
    })
    (All-tail (HasTheSpans text) e es all))

pub batch_shown : (batch : List ℕ) (setup : SetupValue) (at : List ℕ) (base : ℕ) (old : NightSoFar) (index : IndexValue)
    (w : WritingValue) (written : IsBatchOf batch setup at base old index w) → IsIndex batch index
    → IsBatchDone batch setup at base old (behind_batch base old index written.known w)
batch_shown batch setup at base old index w written read =
    let es : List IndexEntry = with_faults index.entries (faults_with setup (kept_keys setup old.entries) index.entries) in
    record {
      index = index;
      read = read;
      written = written;
      spans = spans_known batch setup es written.known written.answered
          (spans_settled batch index.entries (faults_with setup (kept_keys setup old.entries) index.entries)
          (spans_read batch index.entries read.entries));
      entries = refl;
      all_known = refl;
    }
