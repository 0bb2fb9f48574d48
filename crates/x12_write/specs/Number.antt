-- X12.6, data element types N0 and AN: a number in at least that many digits, a text in at least that many characters.
use Rattle.std.specs.Prelude.{ℕ, ◌-◌, List, ◌++◌, length, decimal, replicate}

-- with leading zeros
abbrev pub padded_number : ℕ → ℕ → List ℕ
padded_number least n = replicate (least - length (decimal n)) 48 ++ decimal n

-- ST02 and SE02: the control number of a transaction set
abbrev pub set_number : ℕ → List ℕ
set_number n = padded_number 4 n

-- with trailing spaces
abbrev pub padded_text : ℕ → List ℕ → List ℕ
padded_text least text = text ++ replicate (least - length text) 32
