-- The night of what workers found out of a text.
use Rattle.std.proofs.Common.{◌∙◌, ℕ, List, ap, refl, subst, sym}
use Rattle.std.specs.List.{All}
use Rattle.env_index.specs.Words.{HasSpans, IndexEntry, IndexValue, settled}
use Rattle.partner_setup.specs.Setup.{SetupValue}
use Rattle.set_answers.proofs.ForAbove.{settled_spans}
use Rattle.set_answers.specs.CheckedText.{AreCheckedAs}
use Rattle.set_answers.specs.FoundRows.{AreFoundRows}
use Rattle.set_answers.specs.Settled.{settled_faults}
use Rattle.set_findings.specs.FoundOut.{IsFoundOut}
use Rattle.set_findings.specs.declared.found.FoundText.{FoundText}
use Rattle.night_batches.specs.Night.{IsNight, IsNightIn, IsNightOf}
use Rattle.night_batches.specs.declared.night.Night.{Night}

-- each set stands in its span
pub found_spans : (text : List ℕ) (setup : SetupValue) (found : FoundText) → IsFoundOut text setup found
    → All (λ (e : IndexEntry). HasSpans found.index.text e.interchange) found.index.entries
found_spans text setup found is =
    settled_spans text is.plain found.index (settled_faults setup is.plain.entries) is.read is.index

-- all that is asked is found
pub found_asked : (text : List ℕ) (setup : SetupValue) (found : FoundText) → IsFoundOut text setup found
    → AreFoundRows found.index.text setup found.index.entries found.rows
found_asked text setup found is =
    subst (λ (t : List ℕ). AreFoundRows t setup found.index.entries found.rows)
    (sym (ap (λ (i : IndexValue). i.text) is.index ∙ is.read.same)) is.rows

-- the night of the index is that of the text
pub night_found : (text : List ℕ) (setup : SetupValue) (at : List ℕ) (found : FoundText) (night : Night) → IsFoundOut text setup found
    → IsNightIn found.index setup at night → IsNight text setup at night
night_found text setup at found night is in_index =
    let index : IndexValue = settled is.plain (settled_faults setup is.plain.entries) in
    let here : IsNightIn index setup at night = subst (λ (i : IndexValue). IsNightIn i setup at night) is.index in_index in
    record {
      known = here.known;
      outside = is.plain.outside;
      is_known = record {
        index = is.plain;
        read = is.read;
        answered = subst (λ (t : List ℕ). AreCheckedAs t setup index.entries here.known) is.read.same here.answered;
        counted = refl;
      };
      is = subst (λ (t : List ℕ). IsNightOf t setup at here.known is.plain.outside night) is.read.same here.is;
    }
