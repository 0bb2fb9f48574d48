-- Private. Groups that are numbered from a first number on, and an interchange of them, as they are written.
use Rattle.std.specs.Prelude.{ℕ, ◌+◌, ◌≤◌, List, [], ◌∷◌, ◌++◌, length}
use Rattle.count_numbers.specs.Num.{num}
use Rattle.partner_setup.specs.declared.partner.Partner.{Partner}
use Rattle.partner_setup.specs.Setup.{SetupValue}
use Rattle.partner_setup.specs.Envelopes.{envelope_to}
use Rattle.x12_write.specs.Header.{header_text}
use Rattle.x12_write.specs.Trailer.{trailer_text}
use Rattle.mailbox.specs.Rendered.{RenderedValue, group_of, groups_of}

-- a control number
abbrev pub IsNumber : ℕ → Type 0
IsNumber n = (1 ≤ n) × (n ≤ 999999999)

-- groups, the first of them with the number k after `first`
abbrev pub groups_behind : SetupValue → Partner → (at : List ℕ) → (first k : ℕ) → List (List RenderedValue) → List ℕ
groups_behind setup partner at first k [] = []
groups_behind setup partner at first k (group ∷ groups) =
    group_of setup partner at (num first k) group ++ groups_behind setup partner at first (k + 1) groups

-- a delivered interchange whose first group has the number `first`
abbrev pub numbered_interchange : SetupValue → Partner → (at : List ℕ) → (number first : ℕ) → List RenderedValue → List ℕ
numbered_interchange setup partner at number first sets =
    header_text (envelope_to setup partner) at number
    ++ groups_behind setup partner at first 0 (groups_of sets)
    ++ trailer_text partner.delims (length (groups_of sets)) number
