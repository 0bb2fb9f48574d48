-- The files of a night (own): those that it gives by the partners of its setup, those that its sums list, and those that were found.
use Rattle.std.specs.Prelude.{ℕ, not, ◌&&◌, List, [], ◌∷◌, ◌++◌, Option, Some, None, codes, filter, is_some, map}
use Rattle.std.specs.List.{flat_map}
use Rattle.hub_ledger.specs.declared.entry.AddressNumbers.{AddressNumbers}
use Rattle.hub_ledger.specs.declared.entry.FileSum.{FileSum}
use Rattle.night_entries.specs.Named.{named}
use Rattle.night_entries.specs.declared.files.NamedSum.{NamedSum}

-- a line that sha256sum prints
abbrev pub sum_line : NamedSum → List ℕ
sum_line sum = sum.sum ++ (codes "  " ++ (sum.name ++ 10 ∷ []))

-- the names of the files that a night gives: two for each partner, and three
abbrev pub partner_files : (name : List ℕ) → List (List ℕ)
partner_files name = (codes "out/" ++ (name ++ codes ".ack")) ∷ (codes "out/" ++ (name ++ codes ".box")) ∷ []

abbrev pub given_names : List AddressNumbers → List (List ℕ)
given_names rows =
    flat_map (λ (row : AddressNumbers). partner_files row.partner) rows
    ++ (codes "out/report.txt" ∷ codes "out/counters.toml" ∷ codes "total" ∷ [])

abbrev pub sum_or_none : Option NamedSum → List ℕ
sum_or_none None = []
sum_or_none (Some sum) = sum.sum

-- a file by its name
abbrev pub file_by : (given : List ℕ → Option (List ℕ)) → (listed found : List ℕ → Option NamedSum) → (name : List ℕ) → FileSum
file_by given listed found name = record {
  name = name;
  is_given = is_some (given name);
  listed = sum_or_none (listed name);
  sum = sum_or_none (found name);
}

abbrev pub name_in : List (List ℕ) → (name : List ℕ) → Option (List ℕ)
name_in names name = named (λ (text : List ℕ). text) name names

abbrev pub sum_in : List NamedSum → (name : List ℕ) → Option NamedSum
sum_in sums name = named (λ (sum : NamedSum). sum.name) name sums

-- the names that aren't given, and those that are neither given nor listed
abbrev pub only_listed : (given : List ℕ → Option (List ℕ)) → List NamedSum → List (List ℕ)
only_listed given sums = filter (λ name. not (is_some (given name))) (map (λ (sum : NamedSum). sum.name) sums)

abbrev pub only_found : (given : List ℕ → Option (List ℕ)) → (listed : List ℕ → Option NamedSum) → List NamedSum → List (List ℕ)
only_found given listed sums =
    filter (λ name. not (is_some (given name)) && not (is_some (listed name))) (map (λ (sum : NamedSum). sum.name) sums)

-- each name once that is given, listed or found
abbrev pub file_names : (given : List (List ℕ)) → (listed found : List NamedSum) → List (List ℕ)
file_names given listed found =
    given ++ (only_listed (name_in given) listed ++ only_found (name_in given) (sum_in listed) found)

abbrev pub files_of : (given : List (List ℕ)) → (listed found : List NamedSum) → List FileSum
files_of given listed found = map (file_by (name_in given) (sum_in listed) (sum_in found)) (file_names given listed found)
