-- The segments and loops of a guide in their order (own): a row of a table for each, and a section for each segment.
use Rattle.std.specs.Prelude.{ℕ, ◌==◌, Option, None, Some, List, [], ◌∷◌, ◌++◌, codes, decimal, if◌then◌else◌}
use Rattle.guide_tree.specs.Words.{Tree, Trees, segment, loop, no_trees, tree}
use Rattle.guide_tree.specs.declared.element.Element.{Element}
use Rattle.guide_tree.specs.declared.node.Loop.{Loop}
use Rattle.guide_tree.specs.declared.slot.Slot.{Slot}
use Rattle.guide_page.specs.Conditions.{condition_item, pick_item}
use Rattle.guide_page.specs.Elements.{element_rows, range_cell}
use Rattle.guide_names.specs.Names.{Words, label_note, segment_name}
use Rattle.guide_page.specs.Named.{name_part, paragraph_part}
use Rattle.guide_page.specs.Tags.{cell, code_part, list_part, row_end, row_head, table_end, tagged}

abbrev pub use_words : (least most : ℕ) → List ℕ
use_words least most = if most == 0 then codes "not used" else if least == 0 then codes "may" else codes "must"

-- the ids of the loops that a node is in, and its own
abbrev pub path_of : (above id : List ℕ) → List ℕ
path_of above id = above ++ id

abbrev pub path_in : (above id : List ℕ) → List ℕ
path_in above id = above ++ (id ++ codes "/")

abbrev pub use_cell : (least most : ℕ) → List ℕ
use_cell least most = cell (use_words least most)

abbrev pub loop_row : (path : List ℕ) → Loop → List ℕ
loop_row path l =
    row_head path ++ (codes "<td>loop</td>" ++ (use_cell l.min l.max ++ (range_cell l.min l.max ++ row_end)))

-- a segment's row leads to its section
abbrev pub link_part : Words → (path : List ℕ) → Slot → List ℕ
link_part names path s =
    codes "<tr><th scope=\"row\"><a href=\"#s" ++ (decimal s.number ++ (tagged (codes "\">") path (codes "</a>")
    ++ (name_part (segment_name names s.id) ++ codes "</th>")))

abbrev pub slot_row : Words → (path : List ℕ) → Slot → List ℕ
slot_row names path s =
    link_part names path s ++ (codes "<td>segment</td>" ++ (use_cell s.min s.max ++ (range_cell s.min s.max ++ row_end)))

abbrev mutual
  pub order_rows : Words → (above : List ℕ) → Tree → List ℕ
  order_rows names above (segment s) = slot_row names (path_of above s.id) s
  order_rows names above (loop l ts) = loop_row (path_of above l.id) l ++ all_order_rows names (path_in above l.id) ts

  pub all_order_rows : Words → (above : List ℕ) → Trees → List ℕ
  all_order_rows names above no_trees = []
  all_order_rows names above (tree t ts) = order_rows names above t ++ all_order_rows names above ts

abbrev pub order_head : List ℕ
order_head =
    codes "<h2>Segments in their order</h2>\n<table>\n<thead><tr><th scope=\"col\">Segment</th><th scope=\"col\">Kind</th>"
    ++ codes "<th scope=\"col\">Use</th><th scope=\"col\">Times</th></tr></thead>\n<tbody>\n"

abbrev pub order_part : Words → Trees → List ℕ
order_part names ts = order_head ++ (all_order_rows names [] ts ++ table_end)

abbrev pub section_head : Words → (path : List ℕ) → Slot → List ℕ
section_head names path s =
    codes "<h3 id=\"s" ++ (decimal s.number ++ (tagged (codes "\">") path []
    ++ (name_part (segment_name names s.id) ++ codes "</h3>\n")))

-- the name that dependencies call a segment by, and the note on it
abbrev pub named_part : Words → (label : List ℕ) → List ℕ
named_part names label =
    codes "<p>Named " ++ (code_part label ++ (codes "in dependencies.</p>\n" ++ paragraph_part (label_note names label)))

abbrev pub label_part : Words → Option (List ℕ) → List ℕ
label_part names None = []
label_part names (Some label) = named_part names label

abbrev pub element_head : List ℕ
element_head =
    codes "<table>\n<thead><tr><th scope=\"col\">Element</th><th scope=\"col\">Number</th><th scope=\"col\">Use</th>"
    ++ (codes "<th scope=\"col\">Type</th><th scope=\"col\">Length</th><th scope=\"col\">Times</th>"
    ++ codes "<th scope=\"col\">Values</th></tr></thead>\n<tbody>\n")

abbrev pub element_table : Words → (id : List ℕ) → List Element → List ℕ
element_table names id elements =
    element_head ++ (element_rows names id 1 elements ++ table_end)

-- its picks and conditions
abbrev pub rules_part : Slot → List ℕ
rules_part s = list_part (pick_item s.id) s.picks ++ list_part (condition_item s.id) s.conditions

abbrev pub section : Words → (path : List ℕ) → Slot → List ℕ
section names path s =
    section_head names path s ++ (label_part names s.label ++ (element_table names s.id s.elements ++ rules_part s))

abbrev mutual
  pub sections : Words → (above : List ℕ) → Tree → List ℕ
  sections names above (segment s) = section names (path_of above s.id) s
  sections names above (loop l ts) = all_sections names (path_in above l.id) ts

  pub all_sections : Words → (above : List ℕ) → Trees → List ℕ
  all_sections names above no_trees = []
  all_sections names above (tree t ts) = sections names above t ++ all_sections names above ts

abbrev pub sections_part : Words → Trees → List ℕ
sections_part names ts = codes "<h2>Each segment</h2>\n" ++ all_sections names [] ts
