-- Own: a line for each difference of two guides, and a last line of totals.
use Rattle.std.specs.Prelude.{ℕ, ◌+◌, ◌==◌, nat_lt, List, [], ◌∷◌, ◌++◌, codes, decimal, Bool, true, false, if◌then◌else◌}
use Rattle.std.specs.List.{flat_map}
use Rattle.file_names.specs.Shown.{shown}
use Rattle.guide_tree.specs.Words.{GuideTree}
use Rattle.guide_widening.specs.Differences.{differences}
use Rattle.guide_widening.specs.declared.difference.At.{At}
use Rattle.guide_widening.specs.declared.difference.Change.{Change}
use Rattle.guide_widening.specs.declared.difference.Change.TheVariants.{Narrower, Wider, Other}
use Rattle.guide_widening.specs.declared.difference.Difference.{Difference}
use Rattle.guide_widening.specs.declared.difference.Key.{Key}
use Rattle.guide_widening.specs.declared.difference.Key.TheVariants as key
use Rattle.guide_widening.specs.declared.difference.Value.{Value}
use Rattle.guide_widening.specs.declared.difference.Value.TheVariants as value
use Rattle.diff_lines.specs.Paths.{path_at, paths_of}
use Rattle.diff_lines.specs.Words.{change_text, key_text, value_text}

-- a position of two digits or more after a hyphen; none for 0
abbrev pub position_text : (position : ℕ) → List ℕ
position_text position =
    if position == 0 then [] else (codes "-" ++ (if nat_lt position 10 then codes "0" ++ decimal position else decimal position))

-- `PATH-ELEMENT-COMPONENT (NUMBER): `
abbrev pub place_words : (paths : List (List ℕ)) → At → List ℕ
place_words paths at =
    path_at paths at.node ++ (position_text at.element ++ (position_text at.component
    ++ (codes " (" ++ (decimal at.node ++ codes "): "))))

-- what isn't of a node has no place
abbrev pub place_text : (paths : List (List ℕ)) → At → List ℕ
place_text paths at = if at.node == 0 then [] else place_words paths at

-- the new guide has the node no more
abbrev pub is_gone_node : Key → (new : Value) → Bool
is_gone_node key.Node value.Nothing = true
is_gone_node key new = false

-- what the new guide says, and what the old one said
abbrev pub values_text : Difference → List ℕ
values_text d = key_text d.key ++ (value_text d.key d.new ++ (codes ", was " ++ value_text d.key d.old))

-- of guides whose nodes have these paths
abbrev pub difference_text : (old new : List (List ℕ)) → Difference → List ℕ
difference_text old new d =
    change_text d.change ++ (place_text (if is_gone_node d.key d.new then old else new) d.at ++ values_text d)

abbrev pub difference_line : (old new : List (List ℕ)) → Difference → List ℕ
difference_line old new d = shown (difference_text old new d) ++ codes "\n"

abbrev pub is_change : Change → Change → Bool
is_change Narrower Narrower = true
is_change Wider Wider = true
is_change Other Other = true
is_change _ _ = false

-- how many differences are of a kind
abbrev pub count_of : Change → List Difference → ℕ
count_of change [] = 0
count_of change (d ∷ ds) = (if is_change change d.change then 1 else 0) + count_of change ds

abbrev pub totals_line : List Difference → List ℕ
totals_line ds =
    decimal (count_of Narrower ds) ++ (codes " narrower, " ++ (decimal (count_of Wider ds) ++ (codes " wider, "
    ++ (decimal (count_of Other ds) ++ codes " other\n"))))

-- all that is printed of two guides
abbrev pub diff_text : (old new : GuideTree) → List ℕ
diff_text old new =
    flat_map (difference_line (paths_of old.nodes) (paths_of new.nodes)) (differences old new) ++ totals_line (differences old new)
