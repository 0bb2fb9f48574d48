-- Where an interchange ends, and its segments, by the definition and by the layers.
use Rattle.std.proofs.Common.{◌≡◌, ℕ, ◌+◌, List, [], ◌∷◌, map, drop, length, ◌≤◌, ap, arith}
use Rattle.std.specs.Prelude.{◌==◌}
use Rattle.std.proofs.lemmas.List.Splits.{length-slice_split}
use Rattle.x12_bytes.specs.Header.{header_at, header_delims}
use Rattle.x12_bytes.specs.declared.delims.Delims.{Delims}
use Rattle.x12_segs.specs.Words.{SegValue, elements_of, parts, rest_of, segs_of, view_of}
use Rattle.env_index.specs.Words as then
use Rattle.night_definition.specs.Segments.{Segment}
use Rattle.night_definition.specs.Interchanges.{Reach, reach_after, reach_at}
use Rattle.night_equal.proofs.ForAbove.{same_reach}

abbrev pub seen : SegValue → Segment
seen s = record { start = s.start; end = then.behind s; elements = elements_of s }

abbrev pub seen_reach : then.Reach → Reach
seen_reach r = record { segments = map seen r.segs; end = r.end }

abbrev then_reach : List ℕ → Delims → ℕ → List (List ℕ) → then.Reach
then_reach text d place ps = then.reach_of text (map (view_of d) (segs_of place ps)) (rest_of place ps)

by_parts : (text : List ℕ) (d : Delims) (place : ℕ) (ps : List (List ℕ)) → 1 ≤ length ps
    → reach_after text d place ps ≡ seen_reach (then_reach text d place ps)
by_parts text d place [] some = absurd (omega (arith, some))
by_parts text d place (part ∷ more) some = same_reach text d place part more

pub reaches : (text : List ℕ) (offset : ℕ) → reach_at text offset ≡ seen_reach (then.reach_at text offset)
reaches text offset =
    let d : Delims = header_delims (header_at text offset) in
    let behind : List ℕ = drop (offset + 106) text in
    by_parts text d (offset + 106) (parts d.terminator behind) (omega (arith, length-slice_split (λ b. b == d.terminator) behind))

pub ends : (text : List ℕ) (offset : ℕ) → (reach_at text offset).end ≡ (then.reach_at text offset).end
ends text offset = ap (λ (r : Reach). r.end) (reaches text offset)
