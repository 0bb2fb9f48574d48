-- The placed segments so far, with one more segment.
use Rattle.std.proofs.Common.{◌≡◌, ℕ, ◌+◌, ◌<◌, List, [], length, get_or, map, sym, ap, ◌∙◌, add-one, Option, None}
use Rattle.std.specs.Prelude.{slice_index_or}
use Rattle.std.proofs.Math.ListN.{get_or-map}
use Rattle.std.proofs.lemmas.List as texts
use Rattle.x12_segs.specs.Words.{SegValue, elements_of}
use Rattle.guide_tree.specs.Words.{Trees, Place, Candidate}
use Rattle.loop_match.specs.Given.{place_in}
use Rattle.loop_match.specs.PlacedSegments.{PlacedSegment, placed_by, with_placed, placed_among_first}

place_there : (given : List (Option Candidate)) (i : ℕ)
    → slice_index_or (map place_in given) i None ≡ place_in (slice_index_or given i None)
place_there given i = get_or-map place_in given i None

texts_there : (segs : List SegValue) (i : ℕ) (seg : SegValue) → seg ≡ get_or segs i seg → i < length segs
    → slice_index_or (map elements_of segs) i [] ≡ elements_of seg
texts_there segs i seg e l = texts.get_or-map elements_of segs i seg [] l ∙ ap elements_of (sym e)

pub next_placed : (ts : Trees) (segs : List SegValue) (given : List (Option Candidate)) (i : ℕ) (seg : SegValue) (o : Option PlacedSegment)
    → seg ≡ get_or segs i seg → i < length segs → o ≡ placed_by ts i (elements_of seg) (place_in (slice_index_or given i None))
    → placed_among_first ts (map elements_of segs) (map place_in given) (i + 1)
    ≡ with_placed (placed_among_first ts (map elements_of segs) (map place_in given) i) o
next_placed ts segs given i seg o e l is =
    let before = placed_among_first ts (map elements_of segs) (map place_in given) i in
    ap (placed_among_first ts (map elements_of segs) (map place_in given)) (add-one i)
    ∙ ap (λ (s : List (List ℕ)). with_placed before (placed_by ts i s (slice_index_or (map place_in given) i None)))
    (texts_there segs i seg e l)
    ∙ ap (λ (p : Option Place). with_placed before (placed_by ts i (elements_of seg) p)) (place_there given i)
    ∙ ap (with_placed before) (sym is)
