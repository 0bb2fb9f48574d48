-- Nights that don't name the night before them (own).
use Rattle.std.specs.Prelude.{ℕ, List, [], ◌∷◌, ◌++◌, if◌then◌else◌}
use Rattle.std.specs.Str.{bytes_eq}
use Rattle.night_marks.specs.declared.link.BrokenLink.{BrokenLink}
use Rattle.night_marks.specs.declared.mark.NightMark.{NightMark}

abbrev pub broken_link : (before : List ℕ) → NightMark → List BrokenLink
broken_link before night =
    if bytes_eq night.before before then []
    else (record { night = night.name; named = night.before; before = before }) ∷ []

-- nights one after another, after the one of the name `before`; the first night names none
abbrev pub broken_links : (before : List ℕ) → List NightMark → List BrokenLink
broken_links before [] = []
broken_links before (night ∷ nights) = broken_link before night ++ broken_links night.name nights
