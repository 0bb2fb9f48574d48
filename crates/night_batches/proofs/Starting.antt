-- A writing that begins, and one that has one batch.
use Rattle.std.proofs.Common.{◌≡◌, ℕ, zero, suc, ◌+◌, ◌<◌, List, [], Some, length, refl, sym, ap, subst, ◌∙◌, arith}
use Rattle.std.specs.Prelude.{replicate, slice_get}
use Rattle.std.proofs.lemmas.List.{length-replicate}
use Rattle.std.proofs.lemmas.Option.{slice_get_within}
use Rattle.env_index.specs.Words.{IndexEntry}
use Rattle.partner_setup.specs.Setup.{SetupValue}
use Rattle.answered_sets.specs.Judged.{JudgedValue}
use Rattle.night_report.proofs.ForAbove.{none_with}
use Rattle.night_report.specs.Report.{report_totals}
use Rattle.night_report.specs.Told.{ToldValue, nothing_told, told_behind}
use Rattle.set_answers.specs.CheckedText.{AreAcknowledgments, nothing_sent}
use Rattle.night_batches.specs.Night.{judgements}
use Rattle.night_batches.specs.Writing.{IsBatchWritten, IsWrittenOf, WritingValue, nothing_written}

replicate_at : {A : Type 0} (n : ℕ) (x : A) (place : ℕ) → place < n → slice_get (replicate n x) place ≡ Some x
replicate_at zero x place lt = absurd (omega (arith, lt))
replicate_at (suc n) x zero lt = refl
replicate_at (suc n) x (suc place) lt = replicate_at n x place (omega (arith, lt))

pub nothing_acknowledged : (setup : SetupValue) (at : List ℕ)
    → AreAcknowledgments setup at [] (replicate (length setup.partners) nothing_sent)
nothing_acknowledged setup at = record {
  count = length-replicate (length setup.partners) nothing_sent;
  each = λ place partner there. replicate_at (length setup.partners) nothing_sent place
      (slice_get_within setup.partners place partner there);
}

-- nothing yet
pub nothing_is_written : (text : List ℕ) (setup : SetupValue) (at : List ℕ) → IsWrittenOf text setup at [] (nothing_written setup)
nothing_is_written text setup at = record {
  files = nothing_acknowledged setup at;
  told = record { lines = refl; totals = refl; count = refl };
  boxes = record {
    count = length-replicate (length setup.partners) [];
    each = λ place partner there. replicate_at (length setup.partners) [] place (slice_get_within setup.partners place partner there);
  };
}

-- the first batch
pub first_written : (text : List ℕ) (setup : SetupValue) (at : List ℕ) (entries : List IndexEntry) (others : ℕ) (first w : WritingValue)
    → first ≡ nothing_written setup → (batch : IsBatchWritten text setup at 0 entries others first w)
    → IsWrittenOf text setup at batch.known w
first_written text setup at entries others first w nothing batch =
    let js : List JudgedValue = judgements text batch.known in
    let is_told : w.told ≡ told_behind setup 0 nothing_told js =
    batch.told ∙ ap (λ (o : WritingValue). told_behind setup 0 o.told js) nothing in
    record {
      files = batch.files [] (subst (λ (o : WritingValue). AreAcknowledgments setup at [] o.files) (sym nothing)
          (nothing_acknowledged setup at));
      told = record {
        lines = ap (λ (t : ToldValue). t.lines) is_told;
        totals = ap (λ (t : ToldValue). t.totals) is_told ∙ none_with (report_totals setup js);
        count = ap (λ (t : ToldValue). t.count) is_told ∙ (let z : 0 + length js ≡ length js = omega arith in z);
      };
      boxes = record {
        count = batch.boxes.count ∙ ap (λ (o : WritingValue). length o.boxes) nothing ∙ length-replicate (length setup.partners) [];
        each = λ place partner there. batch.boxes.each place partner [] there
            (ap (λ (o : WritingValue). slice_get o.boxes place) nothing
            ∙ replicate_at (length setup.partners) [] place (slice_get_within setup.partners place partner there));
      };
    }
