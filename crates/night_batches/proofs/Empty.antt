-- A batch without interchanges.
use Rattle.std.proofs.Common.{◌≡◌, ℕ, ◌+◌, List, [], ◌∷◌, ◌++◌, Some, length, refl, sym, ap, subst, ◌∙◌, append-nil, arith}
use Rattle.env_index.specs.Words.{IndexEntry}
use Rattle.partner_setup.specs.Setup.{SetupValue}
use Rattle.mailbox.specs.Rendered.{RenderedValue}
use Rattle.night_report.proofs.ForAbove.{with_none}
use Rattle.night_report.specs.Told.{ToldValue, told_behind}
use Rattle.night_report.specs.declared.totals.Totals.{Totals}
use Rattle.set_answers.proofs.ForAbove.{no_pairs}
use Rattle.set_answers.specs.CheckedText.{AreAcknowledgments, CheckedInterchange, IsCheckedAs}
use Rattle.night_batches.specs.Writing.{IsBatchWritten, WritingValue, with_outside}

-- nothing is reported of none
told_same : (setup : SetupValue) (base : ℕ) (told : ToldValue) → told ≡ told_behind setup base told []
told_same setup base told =
    ap (λ (l : List ℕ). let t : ToldValue = record { lines = l; totals = told.totals; count = told.count } in t)
    (sym (append-nil told.lines))
    ∙ ap (λ (n : Totals). let t : ToldValue = record { lines = told.lines ++ []; totals = n; count = told.count } in t)
    (with_none told.totals)
    ∙ ap (λ (n : ℕ). let t : ToldValue = record {
      lines = told.lines ++ [];
      totals = (told_behind setup base told []).totals;
      count = n;
    } in t) (let z : told.count ≡ told.count + 0 = omega arith in z)

none_written : (text : List ℕ) (setup : SetupValue) (at : List ℕ) (base others : ℕ) (w : WritingValue)
    → IsBatchWritten text setup at base [] others w (with_outside w others)
none_written text setup at base others w = record {
  known = [];
  answered = record { count = refl; each = no_pairs (λ n e x. IsCheckedAs text setup e x) [] };
  outside = refl;
  files = λ before are. subst (λ (l : List CheckedInterchange). AreAcknowledgments setup at l w.files) (sym (append-nil before)) are;
  told = told_same setup base w.told;
  boxes = record {
    count = refl;
    each = λ place partner sets at_p its. its ∙ ap (λ (l : List RenderedValue). Some l) (sym (append-nil sets));
  };
}

no_entries : (entries : List IndexEntry) → length entries ≡ 0 → entries ≡ []
no_entries [] none = refl
no_entries (e ∷ es) none = absurd (omega (arith, none))

-- where there are no entries, the bytes outside are all
pub empty_written : (text : List ℕ) (setup : SetupValue) (at : List ℕ) (base : ℕ) (entries : List IndexEntry) (others : ℕ)
    (w : WritingValue) → length entries ≡ 0 → IsBatchWritten text setup at base entries others w (with_outside w others)
empty_written text setup at base entries others w none =
    subst (λ (es : List IndexEntry). IsBatchWritten text setup at base es others w (with_outside w others)) (sym (no_entries entries none))
    (none_written text setup at base others w)
