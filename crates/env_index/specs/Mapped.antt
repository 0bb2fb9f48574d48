-- X12.5, interchange, and X12.6, functional group and transaction set: trees of envelopes over segments that are held in two ways.
use Rattle.std.specs.Prelude.{◌≡◌, List, [], ◌∷◌, map, option_map, true}
use Rattle.x12_segs.specs.declared.kind.Kind.{Kind}
use Rattle.env_index.specs.Envelope.{Set, InGroup, ASet, OutOfGroup, Group, InBody, ATa1, AGroup, OutOfBody, Body, DerivesInterchange}
use Rattle.env_index.specs.Extents.{ends_interchange}

-- no segment is after an IEA
abbrev pub EndsWithTrailer : {X : Type 0} → (X → Kind) → List X → Type 0
EndsWithTrailer kind [] = Unit {0}
EndsWithTrailer kind (x ∷ xs) = (ends_interchange (kind x) ≡ true → xs ≡ []) × EndsWithTrailer kind xs

-- the same tree, each of its segments held in another way
abbrev pub map_set : {X Y : Type 0} → (X → Y) → Set X → Set Y
map_set f s = record { header = f s.header; inner = map f s.inner; trailer = option_map f s.trailer }

abbrev pub map_in_group : {X Y : Type 0} → (X → Y) → InGroup X → InGroup Y
map_in_group f (ASet s) = ASet (map_set f s)
map_in_group f (OutOfGroup x) = OutOfGroup (f x)

abbrev pub map_group : {X Y : Type 0} → (X → Y) → Group X → Group Y
map_group f g = record { header = f g.header; members = map (map_in_group f) g.members; trailer = option_map f g.trailer }

abbrev pub map_in_body : {X Y : Type 0} → (X → Y) → InBody X → InBody Y
map_in_body f (ATa1 x) = ATa1 (f x)
map_in_body f (AGroup g) = AGroup (map_group f g)
map_in_body f (OutOfBody x) = OutOfBody (f x)

abbrev pub map_body : {X Y : Type 0} → (X → Y) → Body X → Body Y
map_body f b = record { members = map (map_in_body f) b.members; trailer = option_map f b.trailer }

-- a segment is of the same kind in both ways
abbrev pub KeepsKinds : {X Y : Type 0} → (X → Kind) → (Y → Kind) → (X → Y) → Type 0
KeepsKinds {X} kind other f = (x : X) → other (f x) ≡ kind x

-- then trees go over from one way to the other
abbrev pub MapsTrees : {X Y : Type 0} → (X → Kind) → (Y → Kind) → (X → Y) → Type 0
MapsTrees {X} kind other f = (segs : List X) (b : Body X) → DerivesInterchange kind segs b → DerivesInterchange other (map f segs)
    (map_body f b)

-- and back, and nothing else derives there
abbrev pub MapsTreesBack : {X Y : Type 0} → (X → Kind) → (Y → Kind) → (X → Y) → Type 0
MapsTreesBack {X} {Y} kind other f =
    (segs : List X) (c : Body Y) → DerivesInterchange other (map f segs) c → (b : Body X) × DerivesInterchange kind segs b × (map_body f b
    ≡ c)
