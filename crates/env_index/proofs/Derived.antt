-- The summary of the segments is that of each tree that they derive.
use Rattle.std.proofs.Common.{◌≡◌, ℕ, ◌+◌, List, [], ◌∷◌, ◌++◌, true, false, ◌||◌, ◌&&◌, Option, Some, None, length, refl, sym, ap, ◌∙◌}
use Rattle.std.proofs.Common.{arith, append_assoc}
use Rattle.std.specs.List.{flat_map, list_all}
use Rattle.x12_segs.specs.Words.{SegValue, kind_of, may_stand_in_set}
use Rattle.env_index.specs.Envelope.{Set, InGroup, ASet, OutOfGroup, Group, InBody, ATa1, AGroup, OutOfBody, Body, option_items}
use Rattle.env_index.specs.Envelope.{set_items, in_group_items, group_items, in_body_items, ends_set, ends_group, is_out_of_group}
use Rattle.env_index.specs.Envelope.{is_out_of_body, MayFollow, Closed, IsSet, AreMembers, IsGroup, AreBodyMembers, DerivesInterchange}
use Rattle.x12_segs.specs.declared.kind.Kind.{Kind}
use Rattle.x12_segs.specs.declared.kind.Kind.TheVariants.{InterchangeTrailer, GroupHeader, GroupTrailer, SetHeader, SetTrailer, Ta1}
use Rattle.x12_segs.specs.declared.kind.Kind.TheVariants.{Other}
use Rattle.env_index.specs.declared.entry.SetEnvelope.{SetEnvelope}
use Rattle.env_index.specs.Extents.{behind, behind_last}
use Rattle.env_index.specs.Summary.{Summary, set_entry, sets_in, group_entry, has_misplaced_in_group, summary_of}
use Rattle.env_index.proofs.Tails.{GroupTail, SetTail, Tails, left_open, cut_off, no_segments, with_ta1, with_misplaced, with_group}
use Rattle.env_index.proofs.Tails.{with_set, onto_body, onto_group, onto_set, tails, summed}

-- where a set may be left without SE, an open set ends
closes_set : (rest : List SegValue) → MayFollow kind_of ends_set rest → (tails rest).in_set ≡ cut_off (tails rest).in_group
closes_set [] h = refl
closes_set (x ∷ xs) h = by_kind (kind_of x) h
  where
    by_kind : (k : Kind) → ends_set k ≡ true → onto_set k x (tails xs) ≡ cut_off (onto_group k x (tails xs))
    by_kind InterchangeTrailer h = refl
    by_kind GroupHeader h = refl
    by_kind GroupTrailer h = refl
    by_kind SetHeader h = refl
    by_kind SetTrailer h = cc
    by_kind Ta1 h = cc
    by_kind Other h = cc

-- where a group may be left without GE, an open group ends
closes_group : (rest : List SegValue) → MayFollow kind_of ends_group rest → (tails rest).in_group ≡ left_open (tails rest).in_body
closes_group [] h = refl
closes_group (x ∷ xs) h = by_kind (kind_of x) h
  where
    by_kind : (k : Kind) → ends_group k ≡ true → onto_group k x (tails xs) ≡ left_open (onto_body k x (tails xs))
    by_kind InterchangeTrailer h = refl
    by_kind GroupHeader h = refl
    by_kind GroupTrailer h = cc
    by_kind SetHeader h = cc
    by_kind SetTrailer h = cc
    by_kind Ta1 h = cc
    by_kind Other h = cc

-- what an open set goes on with, where it goes on with these segments
abbrev told_set : Option SegValue → List SegValue → List SegValue → SetTail
told_set close rest items = record {
  count = length items;
  close = close;
  after = (tails rest).in_group;
  end = λ so_far. behind_last so_far items;
}

-- what an open set goes on with: segments inside it, and its SE where it has one
in_open_set : (inner : List SegValue) (close : Option SegValue) (rest : List SegValue) → list_all (λ x. may_stand_in_set (kind_of x)) inner
    ≡ true
    → Closed kind_of SetTrailer ends_set close rest
    → (tails (inner ++ (option_items close ++ rest))).in_set ≡ told_set close rest (inner ++ option_items close)
in_open_set [] None rest all closed = closes_set rest closed
in_open_set [] (Some x) rest all closed = by_kind (kind_of x) closed
  where
    by_kind : (k : Kind) → k ≡ SetTrailer → onto_set k x (tails rest) ≡ told_set (Some x) rest (option_items (Some x))
    by_kind k is = rw is refl
in_open_set (x ∷ xs) close rest all closed = by_kind (kind_of x) (λ others. in_open_set xs close rest others closed) all
  where
    one_more : (t : SetTail) → t ≡ told_set close rest (xs ++ option_items close)
        → (let u : SetTail = record t { count = t.count + 1; end = λ so_far. t.end (behind x) } in u)
        ≡ told_set close rest (x ∷ (xs ++ option_items close))
    one_more t is =
        let n : length (xs ++ option_items close) + 1 ≡ length (x ∷ (xs ++ option_items close)) = omega arith in
        ap (λ (u : SetTail). (let v : SetTail = record u { count = u.count + 1; end = λ so_far. u.end (behind x) } in v)) is
        ∙ ap (λ (k : ℕ). (let v : SetTail = record {
          count = k;
          close = close;
          after = (tails rest).in_group;
          end = λ so_far. behind_last (behind x) (xs ++ option_items close);
        } in v)) n

    by_kind : (k : Kind) → (list_all (λ x. may_stand_in_set (kind_of x)) xs ≡ true
        → (tails (xs ++ (option_items close ++ rest))).in_set ≡ told_set close rest (xs ++ option_items close))
        → (may_stand_in_set k && list_all (λ x. may_stand_in_set (kind_of x)) xs) ≡ true
        → onto_set k x (tails (xs ++ (option_items close ++ rest))) ≡ told_set close rest (x ∷ (xs ++ option_items close))
    by_kind InterchangeTrailer more all = cc
    by_kind GroupHeader more all = cc
    by_kind GroupTrailer more all = cc
    by_kind SetHeader more all = cc
    by_kind SetTrailer more all = cc
    by_kind Ta1 more all = one_more _ (more all)
    by_kind Other more all = one_more _ (more all)

-- a set before what an open group goes on with
set_in_front : (s : Set SegValue) (rest : List SegValue) → IsSet kind_of s rest → (tails (set_items s ++ rest)).in_group
    ≡ (let t : GroupTail = (tails rest).in_group in (let u : GroupTail = record t { sets = set_entry s ∷ t.sets } in u))
set_in_front s rest is =
    let behind : List SegValue = s.inner ++ (option_items s.trailer ++ rest) in
    let shape : (s.inner ++ option_items s.trailer) ++ rest ≡ behind = append_assoc s.inner (option_items s.trailer) rest in
    by_kind (kind_of s.header) (tails ((s.inner ++ option_items s.trailer) ++ rest)) is.header
    (ap (λ (segs : List SegValue). (tails segs).in_set) shape ∙ in_open_set s.inner s.trailer rest is.inner is.trailer)
  where
    by_kind : (k : Kind) (t : Tails) → k ≡ SetHeader → t.in_set ≡ told_set s.trailer rest (s.inner ++ option_items s.trailer)
        → onto_group k s.header t
        ≡ (let g : GroupTail = (tails rest).in_group in (let u : GroupTail = record g { sets = set_entry s ∷ g.sets } in u))
    by_kind k t header goes_on =
        let n : length (s.inner ++ option_items s.trailer) + 1 ≡ length (set_items s) = omega arith in
        rw header (ap (with_set s.header) goes_on ∙ ap (λ (k : ℕ). (let g : GroupTail = (tails rest).in_group in
        (let u : GroupTail = record g {
          sets = (let e : SetEnvelope = record {
            header = s.header;
            segments = k;
            trailer = s.trailer;
            end = behind_last 0 (set_items s);
          } in e) ∷ g.sets;
        } in u))) n)

-- members before what an open group goes on with
abbrev front_members : List (InGroup SegValue) → GroupTail → GroupTail
front_members [] t = t
front_members (ASet s ∷ ms) t = let u : GroupTail = front_members ms t in
    (let v : GroupTail = record u { sets = set_entry s ∷ u.sets } in v)
front_members (OutOfGroup x ∷ ms) t = let u : GroupTail = front_members ms t in (let v : GroupTail = record u { misplaced = true } in v)

members_in_front : (ms : List (InGroup SegValue)) (rest : List SegValue) → AreMembers kind_of ms rest
    → (tails (flat_map in_group_items ms ++ rest)).in_group ≡ front_members ms (tails rest).in_group
members_in_front [] rest are = refl
members_in_front (ASet s ∷ ms) rest are =
    let behind : List SegValue = flat_map in_group_items ms ++ rest in
    ap (λ (segs : List SegValue). (tails segs).in_group) (append_assoc (set_items s) (flat_map in_group_items ms) rest)
    ∙ set_in_front s behind are.0
    ∙ ap (λ (t : GroupTail). (let u : GroupTail = record t { sets = set_entry s ∷ t.sets } in u)) (members_in_front ms rest are.1)
members_in_front (OutOfGroup x ∷ ms) rest are = by_kind (kind_of x) are.0 (members_in_front ms rest are.1)
  where
    by_kind : (k : Kind) → is_out_of_group k ≡ true
        → (tails (flat_map in_group_items ms ++ rest)).in_group ≡ front_members ms (tails rest).in_group
        → onto_group k x (tails (flat_map in_group_items ms ++ rest)) ≡ front_members (OutOfGroup x ∷ ms) (tails rest).in_group
    by_kind InterchangeTrailer out goes_on = cc
    by_kind GroupHeader out goes_on = cc
    by_kind GroupTrailer out goes_on = cc
    by_kind SetHeader out goes_on = cc
    by_kind SetTrailer out goes_on = ap (λ (t : GroupTail). (let u : GroupTail = record t { misplaced = true } in u)) goes_on
    by_kind Ta1 out goes_on = ap (λ (t : GroupTail). (let u : GroupTail = record t { misplaced = true } in u)) goes_on
    by_kind Other out goes_on = ap (λ (t : GroupTail). (let u : GroupTail = record t { misplaced = true } in u)) goes_on

-- the end of a group
group_ends : (close : Option SegValue) (rest : List SegValue) → Closed kind_of GroupTrailer ends_group close rest
    → (tails (option_items close ++ rest)).in_group ≡ record { sets = []; close = close; misplaced = false; after = (tails rest).in_body }
group_ends None rest closed = closes_group rest closed
group_ends (Some x) rest closed = by_kind (kind_of x) closed
  where
    by_kind : (k : Kind) → k ≡ GroupTrailer
        → onto_group k x (tails rest) ≡ record { sets = []; close = Some x; misplaced = false; after = (tails rest).in_body }
    by_kind k is = rw is refl

-- members before a group's end
members_told : (ms : List (InGroup SegValue)) (close : Option SegValue) (after : Summary)
    → front_members ms (record { sets = []; close = close; misplaced = false; after = after }) ≡ record {
      sets = sets_in ms;
      close = close;
      misplaced = has_misplaced_in_group ms;
      after = after;
    }
members_told [] close after = refl
members_told (ASet s ∷ ms) close after = ap (λ (t : GroupTail). (let u : GroupTail = record t { sets = set_entry s ∷ t.sets } in u))
    (members_told ms close after)
members_told (OutOfGroup x ∷ ms) close after = ap (λ (t : GroupTail). (let u : GroupTail = record t { misplaced = true } in u))
    (members_told ms close after)

-- a group before what the interchange goes on with
abbrev front_group : Group SegValue → Summary → Summary
front_group g s = record {
  groups = group_entry g ∷ s.groups;
  ta1s = s.ta1s;
  misplaced = has_misplaced_in_group g.members || s.misplaced;
  trailer = s.trailer;
}

group_in_front : (g : Group SegValue) (rest : List SegValue) → IsGroup kind_of g rest
    → (tails (group_items g ++ rest)).in_body ≡ front_group g (tails rest).in_body
group_in_front g rest is =
    let items : List SegValue = flat_map in_group_items g.members in
    let inside : List SegValue = (items ++ option_items g.trailer) ++ rest in
    by_kind (kind_of g.header) (tails inside) is.header
    (ap (λ (segs : List SegValue). (tails segs).in_group) (append_assoc items (option_items g.trailer) rest)
    ∙ members_in_front g.members (option_items g.trailer ++ rest) is.members
    ∙ ap (front_members g.members) (group_ends g.trailer rest is.trailer)
    ∙ members_told g.members g.trailer (tails rest).in_body)
  where
    by_kind : (k : Kind) (t : Tails) → k ≡ GroupHeader
        → t.in_group ≡ record {
          sets = sets_in g.members;
          close = g.trailer;
          misplaced = has_misplaced_in_group g.members;
          after = (tails rest).in_body;
        }
        → onto_body k g.header t ≡ front_group g (tails rest).in_body
    by_kind k t header goes_on = rw header (ap (with_group g.header) goes_on)

-- what stands in the interchange, before what it goes on with
abbrev front_body : List (InBody SegValue) → Summary → Summary
front_body [] s = s
front_body (ATa1 x ∷ ms) s = with_ta1 (front_body ms s)
front_body (AGroup g ∷ ms) s = front_group g (front_body ms s)
front_body (OutOfBody x ∷ ms) s = with_misplaced (front_body ms s)

body_in_front : (ms : List (InBody SegValue)) (rest : List SegValue) → AreBodyMembers kind_of ms rest
    → (tails (flat_map in_body_items ms ++ rest)).in_body ≡ front_body ms (tails rest).in_body
body_in_front [] rest are = refl
body_in_front (ATa1 x ∷ ms) rest are = by_kind (kind_of x) are.0 (body_in_front ms rest are.1)
  where
    by_kind : (k : Kind) → k ≡ Ta1 → (tails (flat_map in_body_items ms ++ rest)).in_body ≡ front_body ms (tails rest).in_body
        → onto_body k x (tails (flat_map in_body_items ms ++ rest)) ≡ with_ta1 (front_body ms (tails rest).in_body)
    by_kind k is goes_on = rw is (ap with_ta1 goes_on)
body_in_front (AGroup g ∷ ms) rest are =
    ap (λ (segs : List SegValue). (tails segs).in_body) (append_assoc (group_items g) (flat_map in_body_items ms) rest)
    ∙ group_in_front g (flat_map in_body_items ms ++ rest) are.0
    ∙ ap (front_group g) (body_in_front ms rest are.1)
body_in_front (OutOfBody x ∷ ms) rest are = by_kind (kind_of x) are.0 (body_in_front ms rest are.1)
  where
    by_kind : (k : Kind) → is_out_of_body k ≡ true
        → (tails (flat_map in_body_items ms ++ rest)).in_body ≡ front_body ms (tails rest).in_body
        → onto_body k x (tails (flat_map in_body_items ms ++ rest)) ≡ with_misplaced (front_body ms (tails rest).in_body)
    by_kind InterchangeTrailer out goes_on = cc
    by_kind GroupHeader out goes_on = cc
    by_kind Ta1 out goes_on = cc
    by_kind GroupTrailer out goes_on = ap with_misplaced goes_on
    by_kind SetHeader out goes_on = ap with_misplaced goes_on
    by_kind SetTrailer out goes_on = ap with_misplaced goes_on
    by_kind Other out goes_on = ap with_misplaced goes_on

-- what stands in the interchange, before its end
body_told : (ms : List (InBody SegValue)) (close : Option SegValue)
    → front_body ms (record { groups = []; ta1s = 0; misplaced = false; trailer = close })
    ≡ summary_of (record { members = ms; trailer = close })
body_told [] close = refl
body_told (ATa1 x ∷ ms) close = ap with_ta1 (body_told ms close)
body_told (AGroup g ∷ ms) close = ap (front_group g) (body_told ms close)
body_told (OutOfBody x ∷ ms) close = ap with_misplaced (body_told ms close)

body_ends : (close : Option SegValue) → Closed kind_of InterchangeTrailer (λ k. false) close []
    → (tails (option_items close)).in_body ≡ record { groups = []; ta1s = 0; misplaced = false; trailer = close }
body_ends None closed = refl
body_ends (Some x) closed = by_kind (kind_of x) closed
  where
    by_kind : (k : Kind) → k ≡ InterchangeTrailer
        → onto_body k x no_segments ≡ record { groups = []; ta1s = 0; misplaced = false; trailer = Some x }
    by_kind k is = rw is refl

-- segments that derive a tree sum up to its summary
pub derived_sums : (segs : List SegValue) (b : Body SegValue) → DerivesInterchange kind_of segs b → summed segs ≡ summary_of b
derived_sums segs b derives =
    ap (λ (xs : List SegValue). (tails xs).in_body) (sym derives.0)
    ∙ body_in_front b.members (option_items b.trailer) derives.1.members
    ∙ ap (front_body b.members) (body_ends b.trailer derives.1.trailer)
    ∙ body_told b.members b.trailer
