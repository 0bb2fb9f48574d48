-- The page of a guide (own): its parts, one after another.
use Rattle.std.specs.Prelude.{ℕ, List, ◌++◌, codes}
use Rattle.std.specs.List.{flat_map}
use Rattle.html_text.specs.Html.{html_bytes}
use Rattle.guide_tree.specs.Words.{GuideTree}
use Rattle.guide_names.specs.Names.{Words}
use Rattle.guide_page.specs.Named.{set_words}
use Rattle.guide_page.specs.Nodes.{order_part, sections_part}
use Rattle.guide_page.specs.Rules.{depends_part, dictionary_part, head_part, levels_part, title_part, tolerated_part}
use Rattle.guide_page.specs.Tags.{cell, lines_cell, row_end, row_head, table_end}
use Rattle.guide_page.specs.declared.page.Answer.{Answer}
use Rattle.guide_page.specs.declared.fixed.TheConstants.{FOOT, HEAD}

abbrev pub sample_part : (sample : List ℕ) → List ℕ
sample_part sample = codes "<h2>A complete sample</h2>\n<pre>" ++ (html_bytes sample ++ codes "</pre>\n")

-- the name of a sample that breaks a rule, and what the 999 says of it, in words and as it is written
abbrev pub answer_row : Answer → List ℕ
answer_row a = row_head a.name ++ (lines_cell a.words ++ (cell a.lines ++ row_end))

abbrev pub answers_head : List ℕ
answers_head =
    codes "<h2>What is answered</h2>\n<p>Each of these samples breaks one rule alone.</p>\n<table>\n<thead><tr>"
    ++ codes "<th scope=\"col\">Sample</th><th scope=\"col\">What is wrong</th><th scope=\"col\">In the 999</th></tr></thead>\n<tbody>\n"

abbrev pub answers_part : List Answer → List ℕ
answers_part answers =
    answers_head ++ (flat_map answer_row answers ++ table_end)

-- what holds of a set as a whole
abbrev pub set_part : GuideTree → List ℕ
set_part g =
    levels_part g.hl ++ (depends_part g.depends ++ tolerated_part g.head.tolerate_segment g.head.tolerate_element)

abbrev pub front_part : Words → GuideTree → List ℕ
front_part names g =
    title_part g.head.name g.head.set
    ++ (set_words names
    ++ (head_part g.head ++ (dictionary_part g.head.dictionary ++ (order_part names g.nodes ++ set_part g))))

-- the head and the foot are the same for all guides
abbrev pub head_text : List ℕ
head_text = HEAD.now

abbrev pub foot_text : List ℕ
foot_text = FOOT.now

-- the page of a guide: with words for it, a sample that meets it, and the answers to samples that break a rule
abbrev pub page_text : Words → GuideTree → (sample : List ℕ) → List Answer → List ℕ
page_text names g sample answers =
    head_text
    ++ (front_part names g ++ (sample_part sample ++ (sections_part names g.nodes ++ (answers_part answers ++ foot_text))))
