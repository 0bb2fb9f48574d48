-- What a guide says of itself and of a set as a whole (own words): its head, levels, dependencies, and errors that it tolerates.
use Rattle.std.specs.Prelude.{ℕ, Bool, true, false, Option, None, Some, List, [], ◌∷◌, ◌++◌, codes, map}
use Rattle.hub_kinds.specs.Codes.{element_code_text, segment_code_text}
use Rattle.hub_kinds.specs.declared.codes.ElementCode.{ElementCode}
use Rattle.hub_kinds.specs.declared.codes.SegmentCode.{SegmentCode}
use Rattle.guide_tree.specs.declared.rows.Dependency.{Dependency}
use Rattle.guide_tree.specs.declared.rows.GuideHead.{GuideHead}
use Rattle.guide_tree.specs.declared.rows.HlPair.{HlPair}
use Rattle.guide_tree.specs.declared.rows.HlRule.{HlRule}
use Rattle.guide_page.specs.Conditions.{dependency_item}
use Rattle.guide_page.specs.Tags.{code_part, codes_part, tagged, whole_list}
use Rattle.std.specs.List.{flat_map}

abbrev pub title_part : (name set : List ℕ) → List ℕ
title_part name set =
    tagged (codes "<title>") name (codes "</title>\n</head>\n<body>\n<h1>")
    ++ (tagged [] name (codes ": transaction set ") ++ tagged [] set (codes "</h1>\n"))

abbrev pub convention_part : Option (List ℕ) → List ℕ
convention_part None = codes "</p>\n"
convention_part (Some text) = codes "Convention (ST03) " ++ (code_part text ++ codes "</p>\n")

-- segments that are known beside those of the guide
abbrev pub known_part : (ids : List (List ℕ)) → List ℕ
known_part ids = codes "<p>Known, and not in this set: " ++ (codes_part ids ++ codes "</p>\n")

abbrev pub dictionary_part : List (List ℕ) → List ℕ
dictionary_part [] = []
dictionary_part (id ∷ ids) = known_part (id ∷ ids)

abbrev pub head_part : GuideHead → List ℕ
head_part h =
    codes "<p>Group (GS01) "
    ++ (code_part h.group ++ (codes "<br>\nVersion (GS08) " ++ (code_part h.version ++ convention_part h.convention)))

abbrev pub parent_part : Option (List ℕ) → List ℕ
parent_part None = codes "at the top</li>\n"
parent_part (Some level) = codes "under " ++ (code_part level ++ codes "</li>\n")

abbrev pub pair_item : HlPair → List ℕ
pair_item p = codes "<li>" ++ (code_part p.child ++ parent_part p.parent)

abbrev pub sequential_part : Bool → List ℕ
sequential_part true = codes "<p>HL01 counts 1, 2, 3 and so on.</p>\n"
sequential_part false = []

-- HL03: a level, and the level above it
abbrev pub rule_part : HlRule → List ℕ
rule_part rule = codes "<h2>Levels (HL)</h2>\n" ++ (whole_list pair_item rule.pairs ++ sequential_part rule.sequential)

abbrev pub levels_part : Option HlRule → List ℕ
levels_part None = []
levels_part (Some rule) = rule_part rule

abbrev pub dependencies_part : List Dependency → List ℕ
dependencies_part ds = codes "<h2>Dependencies</h2>\n" ++ whole_list dependency_item ds

abbrev pub depends_part : List Dependency → List ℕ
depends_part [] = []
depends_part (d ∷ ds) = dependencies_part (d ∷ ds)

abbrev pub segment_codes : List SegmentCode → List ℕ
segment_codes list = flat_map (λ code. code_part (segment_code_text code)) list

abbrev pub element_codes : List ElementCode → List ℕ
element_codes list = flat_map (λ code. code_part (element_code_text code)) list

abbrev pub segment_words : List SegmentCode → List ℕ
segment_words [] = codes "none. "
segment_words (c ∷ cs) = segment_codes (c ∷ cs)

abbrev pub element_words : List ElementCode → List ℕ
element_words [] = codes "none. "
element_words (c ∷ cs) = element_codes (c ∷ cs)

abbrev pub tolerated_part : (segments : List SegmentCode) → (elements : List ElementCode) → List ℕ
tolerated_part segments elements =
    codes "<h2>Tolerated</h2>\n<p>A set with an error is rejected, unless each of its errors has one of these codes. In a segment (IK304): "
    ++ (segment_words segments ++ (codes "In an element (IK403): " ++ (element_words elements ++ codes "</p>\n")))
