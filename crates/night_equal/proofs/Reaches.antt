-- Where an interchange ends, and its segments.
use Rattle.std.proofs.Common.{◌≡◌, ℕ, ◌+◌, List, [], ◌∷◌, ◌++◌, map, Bool, true, false, Option, Some, None, length, refl, sym, ap, ◌∙◌}
use Rattle.std.specs.Prelude.{if◌then◌else◌, ◌==◌, drop}
use Rattle.std.specs.List.{prefix_len}
use Rattle.x12_bytes.specs.HeaderTest as old_test
use Rattle.x12_bytes.specs.Bytes.{is_line_end}
use Rattle.x12_bytes.specs.declared.delims.Delims.{Delims}
use Rattle.x12_segs.specs.Words.{Seg, SegValue, view_of, segs_of, rest_of, without_line_ends, part_at}
use Rattle.x12_segs.specs.Kinds.{kind_of}
use Rattle.x12_segs.specs.declared.kind.Kind.{Kind}
use Rattle.x12_segs.specs.declared.kind.Kind.TheVariants as old
use Rattle.env_index.specs.Extents as then
use Rattle.night_definition.specs.Header as room
use Rattle.night_definition.specs.Segments.{Segment, segment_of}
use Rattle.night_definition.specs.Segments as words
use Rattle.night_definition.specs.Interchanges.{Reach, ends_there, with_segment, reach_after}
use Rattle.night_equal.proofs.Envelopes.{now}
use Rattle.night_equal.proofs.Headers.{heads}
use Rattle.night_equal.proofs.Summaries.{seen, same_kind}

abbrev pub seen_reach : then.Reach → Reach
seen_reach r = record { segments = map seen r.segs; end = r.end }

by_case : (head : Bool) (k : Kind) (v : SegValue) (more : then.Reach)
    → (if head then ends_there v.start else with_segment (now k) (seen v) (seen_reach more))
    ≡ seen_reach (if head then record { segs = []; end = v.start }
    else if then.ends_interchange k then record { segs = v ∷ []; end = then.behind v }
    else then.onto_reach v more)
by_case true k v more = refl
by_case false old.InterchangeTrailer v more = refl
by_case false old.GroupHeader v more = refl
by_case false old.GroupTrailer v more = refl
by_case false old.SetHeader v more = refl
by_case false old.SetTrailer v more = refl
by_case false old.Ta1 v more = refl
by_case false old.Other v more = refl

-- a segment that isn't blank, and what is behind it
one_segment : (text : List ℕ) (v : SegValue) (r : Reach) (more : then.Reach) → r ≡ seen_reach more
    → (if room.is_head text v.start then ends_there v.start else with_segment (words.kind_of (seen v).elements) (seen v) r)
    ≡ seen_reach (if old_test.is_head text v.start then record { segs = []; end = v.start }
    else if then.ends_interchange (kind_of v) then record { segs = v ∷ []; end = then.behind v }
    else then.onto_reach v more)
one_segment text v r more is =
    ap (λ b. if b then ends_there v.start else with_segment (words.kind_of (seen v).elements) (seen v) r) (heads text v.start)
    ∙ ap (λ k. if old_test.is_head text v.start then ends_there v.start else with_segment k (seen v) r) (same_kind v)
    ∙ ap (λ r. if old_test.is_head text v.start then ends_there v.start else with_segment (now (kind_of v)) (seen v) r) is
    ∙ by_case (old_test.is_head text v.start) (kind_of v) v more

abbrev then_reach : List ℕ → Delims → ℕ → List (List ℕ) → then.Reach
then_reach text d place parts = then.reach_of text (map (view_of d) (segs_of place parts)) (rest_of place parts)

pub same_reach : (text : List ℕ) (d : Delims) (place : ℕ) (part : List ℕ) (parts : List (List ℕ))
    → reach_after text d place (part ∷ parts) ≡ seen_reach (then_reach text d place (part ∷ parts))
same_reach text d place rest [] =
    ap (λ b. ends_there (if b then place + prefix_len is_line_end rest else length text))
    (heads text (place + prefix_len is_line_end rest))
same_reach text d place part (next ∷ more) = by (prefix_len is_line_end part == length part)
    (same_reach text d (place + length part + 1) next more)
  where
    by : (blank : Bool)
        → reach_after text d (place + length part + 1) (next ∷ more) ≡ seen_reach
        (then_reach text d (place + length part + 1) (next ∷ more))
        → (if blank then reach_after text d (place + length part + 1) (next ∷ more)
        else if room.is_head text (segment_of d place part).start then ends_there (segment_of d place part).start
        else with_segment (words.kind_of (segment_of d place part).elements) (segment_of d place part)
        (reach_after text d (place + length part + 1) (next ∷ more)))
        ≡ seen_reach (then.reach_of text (map (view_of d) ((if blank then [] else without_line_ends place part ∷ [])
        ++ segs_of (place + length part + 1) (next ∷ more))) (rest_of (place + length part + 1) (next ∷ more)))
    by true is = is
    by false is =
        one_segment text (view_of d (without_line_ends place part)) (reach_after text d (place + length part + 1) (next ∷ more))
        (then_reach text d (place + length part + 1) (next ∷ more)) is
