-- What the index keeps of a tree is what the definition reads of it.
use Rattle.std.proofs.Common.{◌≡◌, ℕ, ◌+◌, List, [], ◌∷◌, ◌++◌, map, Bool, true, false, ◌||◌, Option, Some, None, length, refl, sym, ap}
use Rattle.std.proofs.Common.{◌∙◌}
use Rattle.std.specs.Prelude.{option_map, if◌then◌else◌, codes, bytes_eq}
use Rattle.x12_segs.specs.Words.{SegValue, elements_of, id_of}
use Rattle.x12_segs.specs.Kinds.{kind_of, kind_by_id}
use Rattle.x12_segs.specs.declared.kind.Kind.{Kind}
use Rattle.x12_segs.specs.declared.kind.Kind.TheVariants as old
use Rattle.env_index.specs.Envelope.{Set, InGroup, ASet, OutOfGroup, Group, InBody, ATa1, AGroup, OutOfBody, Body, DerivesInterchange}
use Rattle.env_index.specs.Extents.{behind}
use Rattle.env_index.specs.Summary.{Summary, summary_of, ta1_member_count, has_misplaced, has_misplaced_in_group}
use Rattle.night_definition.specs.Segments.{Segment}
use Rattle.night_definition.specs.Segments as room
use Rattle.night_definition.specs.Envelopes.{Read, nothing, read, in_body}
use Rattle.night_equal.proofs.Envelopes.{now, with_members, closed_group, with_body, content, read_is_derived}

-- a segment as the definition has it
abbrev pub seen : SegValue → Segment
seen s = record { start = s.start; end = behind s; elements = elements_of s }

-- a kind by seven tests
by_tests : (a b c d e f : Bool)
    → (if a then room.iea else if b then room.gs else if c then room.ge else if d then room.st else if e then room.se
    else if f then room.ta1 else room.other)
    ≡ now (if a then old.InterchangeTrailer else if b then old.GroupHeader else if c then old.GroupTrailer
    else if d then old.SetHeader else if e then old.SetTrailer else if f then old.Ta1 else old.Other)
by_tests true b c d e f = refl
by_tests false true c d e f = refl
by_tests false false true d e f = refl
by_tests false false false true e f = refl
by_tests false false false false true f = refl
by_tests false false false false false true = refl
by_tests false false false false false false = refl

pub same_kind : (s : SegValue) → room.kind_of (seen s).elements ≡ now (kind_of s)
unfolding kind_of
same_kind s =
    by_tests (bytes_eq (id_of s) (codes "IEA")) (bytes_eq (id_of s) (codes "GS")) (bytes_eq (id_of s) (codes "GE"))
    (bytes_eq (id_of s) (codes "ST")) (bytes_eq (id_of s) (codes "SE")) (bytes_eq (id_of s) (codes "TA1"))

-- TA1s and what is out of place, member by member
members_keep : (ms : List (InGroup SegValue)) (r : Read)
    → ((with_members kind_of seen same_kind ms r).ta1s ≡ r.ta1s)
    × ((with_members kind_of seen same_kind ms r).misplaced ≡ (has_misplaced_in_group ms || r.misplaced))
members_keep [] r = (refl, refl)
members_keep (ASet s ∷ ms) r = members_keep ms r
members_keep (OutOfGroup x ∷ ms) r = ((members_keep ms r).0, refl)

body_tells : (ms : List (InBody SegValue)) (trailer : Option Segment)
    → ((with_body kind_of seen same_kind ms (record nothing { iea = trailer })).ta1s ≡ ta1_member_count ms)
    × ((with_body kind_of seen same_kind ms (record nothing { iea = trailer })).misplaced ≡ has_misplaced ms)
body_tells [] trailer = (refl, refl)
body_tells (ATa1 x ∷ ms) trailer = (ap (λ n. n + 1) (body_tells ms trailer).0, (body_tells ms trailer).1)
body_tells (AGroup g ∷ ms) trailer =
    let inner = members_keep g.members (closed_group kind_of seen same_kind g.trailer
    (with_body kind_of seen same_kind ms (record nothing { iea = trailer }))) in
    (inner.0 ∙ (body_tells ms trailer).0, inner.1 ∙ ap (λ b. has_misplaced_in_group g.members || b) (body_tells ms trailer).1)
body_tells (OutOfBody x ∷ ms) trailer = ((body_tells ms trailer).0, refl)

pub ta1s_and_misplaced : (segs : List SegValue) (b : Body SegValue) → DerivesInterchange kind_of segs b
    → ((read (map seen segs) in_body).ta1s ≡ (summary_of b).ta1s) × ((read (map seen segs) in_body).misplaced ≡ (summary_of b).misplaced)
ta1s_and_misplaced segs b d =
    let is = read_is_derived kind_of seen same_kind segs b d in
    let told = body_tells b.members (option_map seen b.trailer) in
    (ap (λ (r : Read). r.ta1s) is ∙ told.0, ap (λ (r : Read). r.misplaced) is ∙ told.1)
