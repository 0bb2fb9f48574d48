-- own: what a sample file is called, and why a file isn't in a folder.
use Rattle.std.specs.Prelude.{ℕ, ◌≡◌, ◌+◌, nat_lt, List, [], ◌++◌, codes, decimal, if◌then◌else◌}
use Rattle.sample_folder.specs.declared.folder.NotPut.{NotPut}
use Rattle.sample_folder.specs.declared.folder.NotPut.TheVariants as not_put

-- up to four digits
abbrev pub zeros : ℕ → List ℕ
zeros n =
    if nat_lt n 10 then codes "000" else if nat_lt n 100 then codes "00" else if nat_lt n 1000 then codes "0" else []

-- a file's name: its number, from 1
abbrev pub file_name : (number : ℕ) → List ℕ
file_name number = zeros (number + 1) ++ (decimal (number + 1) ++ codes ".x12")

-- the file with this name isn't put, or memory was refused
abbrev pub IsNotPut : (name : List ℕ) → NotPut → Type 0
IsNotPut name (not_put.File text) = text ≡ name
IsNotPut name not_put.Memory = Unit {0}
