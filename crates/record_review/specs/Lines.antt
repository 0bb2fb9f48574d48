-- What is printed of the records of nights (own): a line for each that is none, a line for each break of their chain, and a total.
use Rattle.std.specs.Prelude.{ℕ, ◌+◌, ◌==◌, List, [], ◌∷◌, ◌++◌, codes, decimal, length, if◌then◌else◌}
use Rattle.std.specs.List.{flat_map}
use Rattle.file_names.specs.Shown.{shown}
use Rattle.record_chain.specs.Lines.{break_lines}
use Rattle.record_chain.specs.declared.breaks.ChainBreak.{ChainBreak}
use Rattle.record_chain.specs.declared.night.ReadNight.{ReadNight}
use Rattle.record_review.specs.declared.read.BadRecord.{BadRecord}
use Rattle.record_review.specs.declared.read.RecordState.{RecordState}
use Rattle.record_review.specs.declared.read.RecordState.TheVariants as state

abbrev pub state_words : RecordState → List ℕ
state_words state.Unread = codes ": night.toml can't be read"
state_words state.NoRecord = codes ": night.toml isn't the record of a night"

-- names have any bytes, and each line is one line
abbrev pub bad_line : BadRecord → List ℕ
bad_line bad = shown (codes "night " ++ (bad.night ++ state_words bad.state)) ++ codes "\n"

abbrev pub bad_lines : List BadRecord → List ℕ
bad_lines bad = flat_map bad_line bad

-- the sum of the last record; none if there is none
abbrev pub last_sum : List ReadNight → List ℕ
last_sum [] = []
last_sum (night ∷ []) = night.sum
last_sum (night ∷ (next ∷ nights)) = last_sum (next ∷ nights)

-- the end of the total: the sum of the last record, or how much is amiss
abbrev pub ending : (amiss : ℕ) → List ReadNight → List ℕ
ending amiss nights =
    if amiss == 0 then codes "each goes on, the last is record " ++ last_sum nights
    else decimal amiss ++ codes " amiss"

abbrev pub total_line : (amiss : ℕ) → List ReadNight → List ℕ
total_line amiss nights =
    codes "records " ++ (decimal (length nights) ++ (codes ": " ++ (ending amiss nights ++ codes "\n")))

-- all that is printed
abbrev pub records_text : List BadRecord → List ReadNight → List ChainBreak → List ℕ
records_text bad nights breaks =
    bad_lines bad ++ (break_lines breaks ++ total_line (length bad + length breaks) nights)
