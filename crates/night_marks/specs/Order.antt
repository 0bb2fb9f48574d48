-- In which order nights went on from one another (own): each names the one before it; where none does, the earliest comes next.
use Rattle.std.specs.Prelude.{ℕ, zero, suc, not, List, [], ◌∷◌, Option, Some, None, filter, if◌then◌else◌}
use Rattle.std.specs.Cmp.Lexicographic.{slice_cmp}
use Rattle.std.specs.List.{fold}
use Rattle.std.specs.Option.{option_or}
use Rattle.std.specs.Ordering.{is_lt, nat_cmp}
use Rattle.std.specs.Str.{bytes_eq}
use Rattle.night_marks.specs.declared.mark.NightMark.{NightMark}

-- the first night that names `last` as the one before it
abbrev pub naming : (last : List ℕ) → List NightMark → Option NightMark
naming last [] = None
naming last (night ∷ nights) = if bytes_eq night.before last then Some night else naming last nights

-- moments of twelve digits are in the order of their bytes
abbrev pub earlier : NightMark → NightMark → NightMark
earlier a b = if is_lt (slice_cmp nat_cmp b.moment a.moment) then b else a

-- the first night of the least moment
abbrev pub earliest : List NightMark → Option NightMark
earliest [] = None
earliest (night ∷ nights) = Some (fold earlier night nights)

abbrev pub next_night : (last : List ℕ) → List NightMark → Option NightMark
next_night last nights = option_or (naming last nights) (earliest nights)

abbrev pub others : (name : List ℕ) → List NightMark → List NightMark
others name nights = filter (λ (night : NightMark). not (bytes_eq night.name name)) nights

abbrev pub with_first : (rest : NightMark → List NightMark) → Option NightMark → List NightMark
with_first rest None = []
with_first rest (Some night) = night ∷ rest night

-- at most `count` nights of these, after the one of the name `last`
abbrev pub in_order : (count : ℕ) → (last : List ℕ) → List NightMark → List NightMark
in_order zero last nights = []
in_order (suc count) last nights = with_first (λ night. in_order count night.name (others night.name nights)) (next_night last nights)
