-- What a page says of refused interchanges in which further headers begin (own): nothing was read of what these begin.
use Rattle.std.specs.Prelude.{ℕ, List, [], ◌∷◌, ◌++◌, codes, decimal, length}
use Rattle.std.specs.List.{flat_map}
use Rattle.night_page.specs.Tags.{item}

-- how many such interchanges there are, and the line on each
abbrev pub inner_list : (lines : List (List ℕ)) → List ℕ
inner_list lines =
    codes "<details class=\"todo\"><summary>Refused interchanges that took the headers after them: ask for what these began ("
    ++ (decimal (length lines) ++ (codes ")</summary>\n<ul>\n" ++ (flat_map item lines ++ codes "</ul></details>\n")))

abbrev pub inner_part : (lines : List (List ℕ)) → List ℕ
inner_part [] = []
inner_part (line ∷ lines) = inner_list (line ∷ lines)
