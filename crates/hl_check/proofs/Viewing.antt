-- The views of HLs, one by one.
use Rattle.std.proofs.Common.{◌≡◌, ℕ, ◌+◌, ◌<◌, List, [], ◌∷◌, ◌++◌, length, get_or, take, drop, map, refl, sym, ap, ◌∙◌, arith}
use Rattle.std.proofs.Common.{Some, Bool, true, false, cond}
use Rattle.std.specs.Prelude.{option_map}
use Rattle.std.specs.List.{slice_get, filter}
use Rattle.std.proofs.lemmas.List.{take_more, drop_more, length-map}
use Rattle.std.proofs.lemmas.Option.{slice_get-map, slice_get-get_or, get_or_from_slice_get}
use Rattle.loop_match.specs.declared.placed.PlacedSeg.{PlacedSeg}
use Rattle.loop_match.specs.PlacedSegments.{PlacedSegment}
use Rattle.loop_match.specs.Viewed.{placed_view, placed_views}

kept_view : {X Y : Type 0} (b : Bool) (v : X → Y) (x : X) (xs : List X) (ys : List Y) → map v xs ≡ ys
    → map v (cond b (x ∷ xs) xs) ≡ cond b (v x ∷ ys) ys
kept_view true v x xs ys e = ap (λ l. v x ∷ l) e
kept_view false v x xs ys e = e

-- what a test keeps of a view
pub filter_view : {X Y : Type 0} (test : Y → Bool) (v : X → Y) (xs : List X) → map v (filter (λ x. test (v x)) xs) ≡ filter test (map v xs)
filter_view test v [] = refl
filter_view test v (x ∷ xs) =
    kept_view (test (v x)) v x (filter (λ y. test (v y)) xs) (filter test (map v xs)) (filter_view test v xs)

pub view_there : (hls : List PlacedSeg) (i : ℕ) (h : PlacedSeg) → h ≡ get_or hls i h → i < length hls
    → slice_get (placed_views hls) i ≡ Some (placed_view h)
view_there hls i h e l =
    slice_get-map placed_view hls i ∙ ap (option_map placed_view) (slice_get-get_or hls i h l) ∙ ap (λ x. Some (placed_view x)) (sym e)

pub take_views : (hls : List PlacedSeg) (i : ℕ) (h : PlacedSeg) → h ≡ get_or hls i h → i < length hls
    → take (i + 1) (placed_views hls) ≡ take i (placed_views hls) ++ placed_view h ∷ []
take_views hls i h e l =
    let n : length (placed_views hls) ≡ length hls = length-map hls placed_view in
    take_more (placed_views hls) i (placed_view h) (omega arith)
    ∙ ap (λ (x : PlacedSegment). take i (placed_views hls) ++ x ∷ [])
    (get_or_from_slice_get (placed_views hls) i (placed_view h) (placed_view h) (view_there hls i h e l))

pub drop_views : (hls : List PlacedSeg) (i k : ℕ) (h : PlacedSeg) → h ≡ get_or hls i h → i + 1 ≡ k → i < length hls
    → placed_views (drop i hls) ≡ placed_view h ∷ placed_views (drop k hls)
drop_views hls i k h e n l =
    ap placed_views (drop_more hls i h l)
    ∙ ap (λ (x : PlacedSeg). placed_view x ∷ placed_views (drop (i + 1) hls)) (sym e)
    ∙ ap (λ (m : ℕ). placed_view h ∷ placed_views (drop m hls)) n
