-- The counters file, version 2 (own): the text that is written of a setup's next counters.
use Rattle.std.specs.Prelude.{ℕ, List, [], ◌∷◌, ◌++◌, codes, decimal}
use Rattle.hub_kinds.specs.declared.counters.Counters.{Counters}
use Rattle.partner_setup.specs.declared.partner.Partner.{Partner}
use Rattle.partner_setup.specs.Setup.{SetupValue}

abbrev pub line_end : List ℕ
line_end = 10 ∷ []

-- `KEY = NUMBER`
abbrev pub number_line : (key : List ℕ) → ℕ → List ℕ
number_line key n = key ++ (codes " = " ++ (decimal n ++ line_end))

-- an empty line and the first two lines of a partner
abbrev pub name_lines : (name : List ℕ) → List ℕ
name_lines name = codes "\n[[counter]]\npartner = \"" ++ (name ++ codes "\"\n")

-- the three numbers of a partner
abbrev pub number_lines : Counters → List ℕ
number_lines c =
    number_line (codes "interchange") c.interchange
    ++ (number_line (codes "group") c.group ++ number_line (codes "set") c.set)

-- an empty line and the five lines of a partner
abbrev pub counter_lines : (name : List ℕ) → Counters → List ℕ
counter_lines name c = name_lines name ++ number_lines c

-- partner by partner
abbrev pub counters_lines : List Partner → List Counters → List ℕ
counters_lines [] next = []
counters_lines (p ∷ ps) [] = []
counters_lines (p ∷ ps) (c ∷ next) = counter_lines p.name c ++ counters_lines ps next

abbrev pub counters_text : SetupValue → List Counters → List ℕ
counters_text setup next = codes "version = 2\n" ++ counters_lines setup.partners next
