-- Segments, envelopes and interchanges of the index as the definition has them.
use Rattle.std.specs.Prelude.{◌≡◌, ℕ, ◌+◌, List, [], ◌∷◌, map, None, option_map}
use Rattle.x12_bytes.specs.Header.{header_at, header_delims}
use Rattle.x12_segs.specs.Words.{SegValue, elements_of, kind_of}
use Rattle.env_index.specs.Words as then
use Rattle.night_definition.specs.Segments.{Segment}
use Rattle.night_definition.specs.Envelopes.{Read, nothing, with_group, with_misplaced}
use Rattle.night_definition.specs.Envelopes as room
use Rattle.night_definition.specs.Interchanges.{Reach, Interchange}

abbrev pub seen : SegValue → Segment
seen s = record { start = s.start; end = then.behind s; elements = elements_of s }

abbrev pub seen_reach : then.Reach → Reach
seen_reach r = record { segments = map seen r.segs; end = r.end }

abbrev pub set_of : then.Set SegValue → room.Set
set_of s = record { header = seen s.header; inner = map seen s.inner; trailer = option_map seen s.trailer }

-- what is read of a group, before the rest of the interchange
abbrev pub with_members : List (then.InGroup SegValue) → Read → Read
with_members [] r = r
with_members (then.ASet s ∷ ms) r = let more = with_members ms r in record more { inner = []; se = None; sets = set_of s ∷ more.sets }
with_members (then.OutOfGroup x ∷ ms) r = with_misplaced (with_members ms r)

abbrev pub with_body : List (then.InBody SegValue) → Read → Read
with_body [] r = r
with_body (then.ATa1 x ∷ ms) r = let more = with_body ms r in record more { ta1s = more.ta1s + 1 }
with_body (then.AGroup g ∷ ms) r =
    let more = with_body ms r in
    with_group (seen g.header) (with_members g.members (record more { inner = []; se = None; sets = []; ge = option_map seen g.trailer }))
with_body (then.OutOfBody x ∷ ms) r = with_misplaced (with_body ms r)

-- a tree as it is read
abbrev pub content_of : then.Body SegValue → Read
content_of b = with_body b.members (record nothing { iea = option_map seen b.trailer })

abbrev pub interchange_with : (text : List ℕ) → (start : ℕ) → then.Body SegValue → Interchange
interchange_with text start tree = record {
  header = header_at text start;
  delims = header_delims (header_at text start);
  start = start;
  end = (then.reach_at text start).end;
  content = content_of tree;
}

-- an interchange is one of the index: both are of one tree of the text
pub record IsSame (text : List ℕ) (x : Interchange) (e : then.InterchangeEntry) : Type 0 where
  pub tree : then.Body SegValue
  pub derived : then.DerivesInterchange kind_of (then.reach_at text e.start).segs tree
  pub read : e ≡ then.interchange_of text e.start tree
  pub same : x ≡ interchange_with text e.start tree

abbrev pub AreSame : (text : List ℕ) → List Interchange → List then.IndexEntry → Type 0
AreSame text [] [] = Unit {0}
AreSame text [] (e ∷ es) = ⊥
AreSame text (x ∷ xs) [] = ⊥
AreSame text (x ∷ xs) (e ∷ es) = IsSame text x e.interchange × AreSame text xs es
