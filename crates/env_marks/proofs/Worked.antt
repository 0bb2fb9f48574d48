-- Marks and guesses on an order of two delimiters, cut in a header, in an id and among line ends.
use Rattle.std.specs.Prelude.{◌≡◌, ℕ, ◌++◌, List, [], ◌∷◌, Some, None, codes, refl}
use Rattle.x12_bytes.specs.HeaderTest.{is_header, has_fields}
use Rattle.x12_bytes.specs.declared.pair.Pair.{Pair}
use Rattle.x12_bytes.specs.declared.piece.Piece.{Piece}
use Rattle.isa_scan.proofs.ForAbove.{one_order, text, stars, bars}
use Rattle.env_marks.specs.declared.frag.Frag.{Frag}
use Rattle.env_marks.specs.declared.frag.Mark.{Mark}
use Rattle.env_marks.specs.Guess.{guess_in}
use Rattle.env_marks.specs.Marking.{Marking, Uncut, Cut, MarksValue, joined_marks, marks_of}

abbrev front : Frag
front = record { from = 100; to = 105; body = Some 100; separator = Some 101; id_end = Some 101 }

abbrev group_header : Mark
group_header = record { start = 106; end = 147; id_end = 108 }

abbrev set_id : Frag
set_id = record { from = 148; to = 150; body = Some 148; separator = None; id_end = None }

abbrev under : Pair → Marking → MarksValue
under pair marking = record { pair = pair; marking = marking }

-- the end of ISA, GS, and the id of ST without its separator
around_a_group_header : marks_of stars one_order 100 150 ≡ under stars (Cut front (group_header ∷ []) set_id)
around_a_group_header = refl

-- another header's terminator doesn't stand there
under_another_pair : marks_of bars one_order 100 150
    ≡ under bars (Uncut (record { from = 100; to = 150; body = Some 100; separator = None; id_end = None }))
under_another_pair = refl

-- cut after the G of GS
id_across_a_cut : joined_marks (marks_of stars one_order 100 107) (marks_of stars one_order 107 150)
    ≡ under stars (Cut front (group_header ∷ []) set_id)
id_across_a_cut = refl

segment_across_pieces : joined_marks (marks_of stars one_order 100 110)
    (joined_marks (marks_of stars one_order 110 120) (marks_of stars one_order 120 150))
    ≡ under stars (Cut front (group_header ∷ []) set_id)
segment_across_pieces = refl

-- ~ CR LF G CR LF S * ~
abbrev line_ends : List ℕ
line_ends = 126 ∷ 13 ∷ 10 ∷ 71 ∷ 13 ∷ 10 ∷ 83 ∷ 42 ∷ 126 ∷ []

abbrev empty_at : ℕ → Frag
empty_at place = record { from = place; to = place; body = None; separator = None; id_end = None }

-- CR LF before a segment are passed over, those in its id are not
among_line_ends : marks_of stars line_ends 0 9
    ≡ under stars (Cut (empty_at 0) (record { start = 3; end = 8; id_end = 7 } ∷ []) (empty_at 9))
among_line_ends = refl

cut_between_line_ends : joined_marks (marks_of stars line_ends 0 2) (marks_of stars line_ends 2 9)
    ≡ under stars (Cut (empty_at 0) (record { start = 3; end = 8; id_end = 7 } ∷ []) (empty_at 9))
cut_between_line_ends = refl

cut_within_the_id : joined_marks (marks_of stars line_ends 0 5) (marks_of stars line_ends 5 9)
    ≡ under stars (Cut (empty_at 0) (record { start = 3; end = 8; id_end = 7 } ∷ []) (empty_at 9))
cut_within_the_id = refl

-- a part of line ends alone is no segment, and a segment without a separator is all id
no_segment : marks_of stars (126 ∷ 13 ∷ 10 ∷ 126 ∷ 83 ∷ 126 ∷ []) 0 6
    ≡ under stars (Cut (empty_at 0) (record { start = 4; end = 5; id_end = 5 } ∷ []) (empty_at 6))
no_segment = refl

abbrev between : ℕ → ℕ → Piece
between from to = record { from = from; to = to }

guessed_by_the_header_before : guess_in text (between 100 150) ≡ Some stars
unfolding is_header has_fields
guessed_by_the_header_before = refl

guessed_by_the_header_at_its_start : guess_in text (between 236 289) ≡ Some bars
unfolding is_header has_fields
guessed_by_the_header_at_its_start = refl

guessed_by_the_header_before_and_not_that_within : guess_in text (between 235 289) ≡ Some stars
unfolding is_header has_fields
guessed_by_the_header_before_and_not_that_within = refl

guessed_by_the_header_within : guess_in (codes "HELLO" ++ one_order) (between 0 6) ≡ Some stars
unfolding is_header has_fields
guessed_by_the_header_within = refl

guessed_by_none : guess_in (codes "HELLO" ++ one_order) (between 0 5) ≡ None
unfolding is_header has_fields
guessed_by_none = refl
