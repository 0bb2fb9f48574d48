-- Plans of cuts on examples.
use Rattle.std.specs.Prelude.{◌≡◌, [], ◌∷◌, refl, false, true}
use Rattle.cut_plan.specs.Plan.{Plan, rises_from, all_up_to, pieces, piece_of, multiples_below}

abbrev plan : Plan
plan = record { text_len = 10; places = 0 ∷ 5 ∷ 5 ∷ [] }

-- a cut at the front, and one twice
pieces_of_ten : pieces plan ≡ piece_of 0 0 ∷ piece_of 0 5 ∷ piece_of 5 5 ∷ piece_of 5 10 ∷ []
pieces_of_ten = refl

it_rises : rises_from 0 (0 ∷ 5 ∷ 5 ∷ []) ≡ true
it_rises = refl

it_lies_inside : all_up_to 10 (0 ∷ 5 ∷ 5 ∷ []) ≡ true
it_lies_inside = refl

five_before_four : rises_from 0 (5 ∷ 4 ∷ []) ≡ false
five_before_four = refl

at_the_end : all_up_to 10 (10 ∷ []) ≡ true
at_the_end = refl

behind_the_end : all_up_to 10 (11 ∷ []) ≡ false
behind_the_end = refl

every_four_of_ten : multiples_below 10 4 ≡ 4 ∷ 8 ∷ []
every_four_of_ten = refl

-- none at the end, and none at 0
every_four_of_eight : multiples_below 8 4 ≡ 4 ∷ []
every_four_of_eight = refl

every_four_of_none : multiples_below 0 4 ≡ []
every_four_of_none = refl

every_four_of_one : multiples_below 1 4 ≡ []
every_four_of_one = refl

every_one_of_three : multiples_below 3 1 ≡ 1 ∷ 2 ∷ []
every_one_of_three = refl

abbrev uncut : Plan
uncut = record { text_len = 0; places = [] }

one_empty_piece : pieces uncut ≡ piece_of 0 0 ∷ []
one_empty_piece = refl
