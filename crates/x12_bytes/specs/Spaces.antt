-- X12.5, interchange sender and receiver IDs (ISA06, ISA08): they are filled with spaces at their end.
use Rattle.std.specs.Prelude.{ℕ, ◌-◌, ◌==◌, List, length, take}
use Rattle.std.specs.List.{suffix_len}

-- a text without the spaces at its end
abbrev pub without_trailing_spaces : List ℕ → List ℕ
without_trailing_spaces text = take (length text - suffix_len (λ b. b == 32) text) text
