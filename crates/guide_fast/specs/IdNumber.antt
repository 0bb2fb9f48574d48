-- X12.6, segment id (own): a number of an id of one to three bytes, by which it is distinguished from every other; of any other id 0.
use Rattle.std.specs.Prelude.{ℕ, ◌≡◌, List, map}
use Rattle.guide_tree.specs.declared.node.Node.{Node}
use Rattle.guide_tree.specs.Words.{Segment, segment_id}
use Rattle.elem_rules.specs.Flat.{code_number}
use Rattle.guide_fast.specs.Children.{begin_id}

-- an id has the number that a code of the same bytes has
abbrev pub id_number : List ℕ → ℕ
id_number id = code_number id

-- the number of a segment's id
abbrev pub HasNumber : Segment → ℕ → Type 0
HasNumber s n = n ≡ id_number (segment_id s)

-- the number of the id that a node begins with
abbrev pub begin_number : Node → ℕ
begin_number n = id_number (begin_id n)

abbrev pub begin_numbers : List Node → List ℕ
begin_numbers ns = map begin_number ns
