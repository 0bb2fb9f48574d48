-- Where an interchange ends, its segments, and what is read of them.
use Rattle.std.proofs.Common.{◌≡◌, ℕ, ◌+◌, List, [], ◌∷◌, map, drop, length, ◌≤◌, arith}
use Rattle.std.specs.Prelude.{◌==◌}
use Rattle.std.proofs.lemmas.List.Splits.{length-slice_split}
use Rattle.x12_bytes.specs.Header.{header_at, header_delims}
use Rattle.x12_bytes.specs.declared.delims.Delims.{Delims}
use Rattle.x12_segs.specs.Words.{SegValue, kind_of, parts, view_of, segs_of, rest_of}
use Rattle.env_index.specs.Words as then
use Rattle.night_definition.specs.Envelopes.{read, in_body}
use Rattle.night_definition.specs.Interchanges.{reach_at, reach_after}
use Rattle.night_equal.proofs.ForAbove.{read_is_derived}
use Rattle.night_equal.proofs.ForAbove.{same_reach}
use Rattle.night_equal.proofs.ForAbove.{same_kind}
use Rattle.night_equal_text.specs.Seen.{seen, seen_reach, content_of}

abbrev then_reach : List ℕ → Delims → ℕ → List (List ℕ) → then.Reach
then_reach text d place ps = then.reach_of text (map (view_of d) (segs_of place ps)) (rest_of place ps)

by_parts : (text : List ℕ) (d : Delims) (place : ℕ) (ps : List (List ℕ)) → 1 ≤ length ps
    → reach_after text d place ps ≡ seen_reach (then_reach text d place ps)
by_parts text d place [] some = absurd (omega (arith, some))
by_parts text d place (part ∷ more) some = same_reach text d place part more

pub reaches_are_one : (text : List ℕ) (offset : ℕ) → reach_at text offset ≡ seen_reach (then.reach_at text offset)
reaches_are_one text offset =
    let d : Delims = header_delims (header_at text offset) in
    let behind : List ℕ = drop (offset + 106) text in
    by_parts text d (offset + 106) (parts d.terminator behind) (omega (arith, length-slice_split (λ b. b == d.terminator) behind))

pub contents_are_one : (segs : List SegValue) (tree : then.Body SegValue) → then.DerivesInterchange kind_of segs tree
    → read (map seen segs) in_body ≡ content_of tree
contents_are_one segs tree d = read_is_derived kind_of seen same_kind segs tree d
