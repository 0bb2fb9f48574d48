-- Where a text is cut, and the pieces that the cuts leave (own).
use Rattle.std.specs.Prelude.{ℕ, ◌-◌, ◌*◌, ◌/◌, List, [], ◌∷◌, Bool, true, nat_le, ◌&&◌, IsTrue, map, ◌≡◌, length, slice_range}
use Rattle.std.specs.List.{list_all, range_with_len, flat_map}
use Rattle.x12_bytes.specs.declared.piece.Piece.{Piece}

-- a text's length and the places where it is cut
pub record Plan : Type 0 where
  pub text_len : ℕ
  pub places : List ℕ

-- each is at or after the one before it, and the first at or after a
abbrev pub rises_from : ℕ → List ℕ → Bool
rises_from a [] = true
rises_from a (c ∷ cs) = nat_le a c && rises_from c cs

-- each place is in the text or at its end
abbrev pub all_up_to : ℕ → List ℕ → Bool
all_up_to n places = list_all (λ c. nat_le c n) places

abbrev pub piece_of : ℕ → ℕ → Piece
piece_of a b = record { from = a; to = b }

-- the pieces from a on: one ends at each place, and the last at the end
abbrev pub pieces_from : ℕ → List ℕ → ℕ → List Piece
pieces_from a [] end = piece_of a end ∷ []
pieces_from a (c ∷ cs) end = piece_of a c ∷ pieces_from c cs end

abbrev pub pieces : Plan → List Piece
pieces plan = pieces_from 0 plan.places plan.text_len

pub record IsPlan (plan : Plan) : Type 0 where
  pub rises : IsTrue (rises_from 0 plan.places)
  pub inside : IsTrue (all_up_to plan.text_len plan.places)

-- the multiples of n that lie strictly between 0 and len
abbrev pub multiples_below : ℕ → ℕ → List ℕ
multiples_below len n = map (λ k. n * k) (range_with_len 1 ((len - 1) / n))

-- the bytes of the pieces, one after another, are the text
abbrev pub PiecesAreTheText : Plan → Type 0
PiecesAreTheText plan =
    (text : List ℕ) → length text ≡ plan.text_len → flat_map (λ p. slice_range text p.from p.to) (pieces plan) ≡ text
