-- The places of a body rise: none is given after a place that comes later in the guide.
use Rattle.std.proofs.Common.{◌≡◌, ℕ, ◌+◌, inl, inr, List, [], ◌∷◌, Bool, true, false, Option, Some, None}
use Rattle.std.proofs.Common.{sym, arith}
use Rattle.std.specs.Prelude.{option_map}
use Rattle.guide_tree.specs.Tree.{Trees}
use Rattle.guide_tree.specs.Segments.{Segment}
use Rattle.guide_tree.specs.Places.{IsNext, Follows, MayCome, IsPlacing}
use Rattle.night_definition.specs.Places.{Place}
use Rattle.night_definition.specs.Structure.{is_after_use}
use Rattle.night_equal_set.specs.Placings.{pair, place}
use Rattle.night_equal_structure.proofs.Given.{given}
use Rattle.night_equal_structure.proofs.Standings.{Rises, AllRise, AreRising, after_trans, after_use, use_after, use_use}
use Rattle.night_equal_structure.proofs.Reading.{is_use_of, before_is}

next_after : (in_loop : Bool) (a b : ℕ × ℕ) → IsNext in_loop (pair a) (pair b) → is_after_use a.0 a.1 b ≡ true
next_after in_loop a b (inl n) = before_is a b (inl n.0)
next_after in_loop a b (inr n) =
    let c : b.0 ≡ a.0 = n.0 in let u : b.1 ≡ a.1 + 1 = n.1 in before_is a b (inr (sym c, omega arith))

follows_rises : (in_loop : Bool) (p q : Place) → Follows in_loop (place p) (place q) → Rises p q
follows_rises in_loop [] q f = absurd f
follows_rises in_loop (a ∷ p) [] f = absurd f
follows_rises in_loop (a ∷ p) (b ∷ q) (inl (e, f)) = inr (is_use_of a b e, follows_rises true p q f)
follows_rises in_loop (a ∷ p) (b ∷ q) (inr (n, z)) = inl (next_after in_loop a b n)

rises_trans : (p q w : Place) → Rises p q → Rises q w → Rises p w
rises_trans [] q w r s = tt
rises_trans (a ∷ p) [] w r s = absurd r
rises_trans (a ∷ p) (b ∷ q) [] r s = absurd s
rises_trans (a ∷ p) (b ∷ q) (c ∷ w) (inl x) (inl y) = inl (after_trans a.0 a.1 b c x y)
rises_trans (a ∷ p) (b ∷ q) (c ∷ w) (inl x) (inr y) = inl (after_use a.0 a.1 b c x y.0)
rises_trans (a ∷ p) (b ∷ q) (c ∷ w) (inr x) (inl y) = inl (use_after a.0 a.1 b c x.0 y)
rises_trans (a ∷ p) (b ∷ q) (c ∷ w) (inr x) (inr y) = inr (use_use a.0 a.1 b c x.0 y.0, rises_trans p q w x.1 y.1)

-- the last place that was given, or the beginning
abbrev pub last_place : Option Place → Place
last_place None = []
last_place (Some p) = p

may_rise : (last : Option Place) (q : Place) → MayCome (option_map place last) (place q) → Rises (last_place last) q
may_rise None q m = tt
may_rise (Some p) q m = follows_rises false p q m

rise_all : (p q : Place) (g : List (Option Place)) → Rises p q → AllRise q g → AllRise p g
rise_all p q [] r a = tt
rise_all p q (None ∷ g) r a = rise_all p q g r a
rise_all p q (Some w ∷ g) r a = (rises_trans p q w r a.0, rise_all p q g r a.1)

pub placing_rises : (ts : Trees) (last : Option Place) (body : List Segment) (g : List (Option Place))
    → IsPlacing ts (option_map place last) body (given g) → AllRise (last_place last) g × AreRising g
placing_rises ts last body [] pl = (tt, tt)
placing_rises ts last [] (x ∷ g) pl = absurd pl
placing_rises ts last (s ∷ body) (None ∷ g) pl = placing_rises ts last body g pl.1
placing_rises ts last (s ∷ body) (Some q ∷ g) pl =
    let more = placing_rises ts (Some q) body g pl.2 in
    let r = may_rise last q pl.0 in ((r, rise_all (last_place last) q g r more.0), more)
