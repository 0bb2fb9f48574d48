-- Own: what the value of a key must be, in a guide file, and in a setup file or a counters file, by the tables of `src/wanted.rt`.
use Rattle.std.specs.Prelude.{ℕ, List}
use Rattle.key_errors.specs.Rows.{words_by}
use Rattle.key_errors.specs.declared.wanted.TheConstants.{GUIDE_OTHER, GUIDE_WANTED, ITEM_OTHER, ITEM_WANTED, SETUP_OTHER, SETUP_WANTED}

abbrev pub guide_wanted : (key : List ℕ) → List ℕ
guide_wanted key = words_by (λ row. row.0.now) (λ row. row.1.now) GUIDE_WANTED GUIDE_OTHER.now key

-- of a table of a setup or of counters
abbrev pub setup_wanted : (key : List ℕ) → List ℕ
setup_wanted key = words_by (λ row. row.0.now) (λ row. row.1.now) SETUP_WANTED SETUP_OTHER.now key

-- of the values of the list at a key
abbrev pub item_wanted : (key : List ℕ) → List ℕ
item_wanted key = words_by (λ row. row.0.now) (λ row. row.1.now) ITEM_WANTED ITEM_OTHER.now key
