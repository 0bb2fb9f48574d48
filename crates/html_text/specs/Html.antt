-- HTML (WHATWG), character references: a text that others chose, as a page shows it between tags or in a quoted value.
use Rattle.std.specs.Prelude.{ℕ, ◌==◌, ◌||◌, Bool, List, [], ◌∷◌, codes, if◌then◌else◌}
use Rattle.std.specs.List.{flat_map}
use Rattle.file_names.specs.Shown.{shown}

-- a byte by which markup or a quoted value begins or ends: " ' < >
abbrev pub is_markup : ℕ → Bool
is_markup b = b == 34 || (b == 39 || (b == 60 || b == 62))

-- such a byte, and the ampersand by which references begin, by its reference; any other as it is
abbrev pub html_byte : ℕ → List ℕ
html_byte b =
    if b == 38 then codes "&amp;" else if b == 60 then codes "&lt;" else if b == 62 then codes "&gt;"
    else if b == 34 then codes "&quot;" else if b == 39 then codes "&#39;" else b ∷ []

abbrev pub html_bytes : List ℕ → List ℕ
html_bytes text = flat_map html_byte text

-- a byte that controls a terminal is shown by its number first
abbrev pub html_text : List ℕ → List ℕ
html_text text = html_bytes (shown text)
