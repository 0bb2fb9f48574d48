-- What is printed of a night and of a hub (own).
use Rattle.std.specs.Prelude.{ℕ, List, [], ◌∷◌, ◌++◌, codes, decimal}
use Rattle.file_names.specs.Shown.{shown}
use Rattle.hub_command.specs.declared.ready.Ready.{Ready}

-- words and a text after them
abbrev pub worded : (words text : List ℕ) → List ℕ
worded words text = words ++ text

-- the same, and the end of a line
abbrev pub ended : (words text : List ℕ) → List ℕ
ended words text = (words ++ text) ++ 10 ∷ []

-- which night
abbrev pub night_words : Ready → List ℕ
night_words ready = worded (codes "night ") (decimal ready.number) ++ worded (codes " (") ready.name.now

-- where it may be sent from
abbrev pub place_words : Ready → List ℕ
place_words ready = worded (codes ") is ready: ") (shown ready.hub.now) ++ worded (codes "/nights/") ready.folder.now

-- a line for each file, the last line of its report, which night it is, where it may be sent from, and the sum of its record
abbrev pub ready_text : Ready → List ℕ
ready_text ready =
    ready.lines.now ++ (ready.total.now ++ (night_words ready ++ (place_words ready ++ ended (codes "/out, record ") ready.record_sum.now)))

-- a folder was made a hub
abbrev pub init_text : (hub : List ℕ) → List ℕ
init_text hub = shown hub ++ codes " is a hub of no night\n"

-- what was under way is removed
abbrev pub cleared_text : (hub : List ℕ) → List ℕ
cleared_text hub = shown hub ++ codes ": nothing is under way\n"

-- the last night is moved aside
abbrev pub given_up_text : (hub name : List ℕ) → List ℕ
given_up_text hub name =
    worded (codes "night ") name ++ (worded (codes " is given up: ") (shown hub) ++ ended (codes "/given-up/") name)
