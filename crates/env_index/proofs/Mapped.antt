-- Trees over segments that are held in two ways.
use Rattle.std.proofs.Common.{◌≡◌, List, [], ◌∷◌, ◌++◌, Bool, false, ◌&&◌, Option, Some, None, map, option_map, refl, sym, ap, subst}
use Rattle.std.proofs.Common.{◌∙◌}
use Rattle.std.specs.List.{flat_map, list_all}
use Rattle.std.proofs.lemmas.List.{map-append}
use Rattle.x12_segs.specs.Words.{may_stand_in_set}
use Rattle.x12_segs.specs.declared.kind.Kind.{Kind}
use Rattle.env_index.specs.Envelope.{Set, InGroup, ASet, OutOfGroup, Group, InBody, ATa1, AGroup, OutOfBody, Body, option_items}
use Rattle.env_index.specs.Envelope.{set_items, in_group_items, group_items, in_body_items, body_items, MayFollow, Closed, IsSet}
use Rattle.env_index.specs.Envelope.{AreMembers, IsGroup, AreBodyMembers, DerivesInterchange, ends_set, ends_group, is_out_of_group}
use Rattle.env_index.specs.Envelope.{is_out_of_body}
use Rattle.x12_segs.specs.declared.kind.Kind.TheVariants.{InterchangeTrailer, GroupTrailer, SetTrailer}
use Rattle.env_index.specs.Extents.{ends_interchange}
use Rattle.env_index.specs.Mapped.{EndsWithTrailer, map_set, map_in_group, map_group, map_in_body, map_body}
use Rattle.env_index.proofs.EndingTrees.{derived_ends}
use Rattle.env_index.proofs.OneTree.{tree_is_one}
use Rattle.env_index.proofs.Trees.{a_tree}

module _ {X Y : Type 0} (kind : X → Kind) (other : Y → Kind) (f : X → Y) (keeps : (x : X) → other (f x) ≡ kind x) where
  option_mapped : (t : Option X) → map f (option_items t) ≡ option_items (option_map f t)
  option_mapped None = refl
  option_mapped (Some x) = refl

  set_mapped : (s : Set X) → map f (set_items s) ≡ set_items (map_set f s)
  set_mapped s = ap (λ (ys : List Y). f s.header ∷ ys)
      (map-append f s.inner (option_items s.trailer) ∙ ap (λ (ys : List Y). map f s.inner ++ ys) (option_mapped s.trailer))

  member_mapped : (m : InGroup X) → map f (in_group_items m) ≡ in_group_items (map_in_group f m)
  member_mapped (ASet s) = set_mapped s
  member_mapped (OutOfGroup x) = refl

  members_mapped : (ms : List (InGroup X)) → map f (flat_map in_group_items ms) ≡ flat_map in_group_items (map (map_in_group f) ms)
  members_mapped [] = refl
  members_mapped (m ∷ ms) =
      map-append f (in_group_items m) (flat_map in_group_items ms)
      ∙ ap (λ (ys : List Y). ys ++ map f (flat_map in_group_items ms)) (member_mapped m)
      ∙ ap (λ (ys : List Y). in_group_items (map_in_group f m) ++ ys) (members_mapped ms)

  group_mapped : (g : Group X) → map f (group_items g) ≡ group_items (map_group f g)
  group_mapped g = ap (λ (ys : List Y). f g.header ∷ ys)
      (map-append f (flat_map in_group_items g.members) (option_items g.trailer)
      ∙ ap (λ (ys : List Y). ys ++ map f (option_items g.trailer)) (members_mapped g.members)
      ∙ ap (λ (ys : List Y). flat_map in_group_items (map (map_in_group f) g.members) ++ ys) (option_mapped g.trailer))

  body_member_mapped : (m : InBody X) → map f (in_body_items m) ≡ in_body_items (map_in_body f m)
  body_member_mapped (ATa1 x) = refl
  body_member_mapped (AGroup g) = group_mapped g
  body_member_mapped (OutOfBody x) = refl

  body_members_mapped : (ms : List (InBody X)) → map f (flat_map in_body_items ms) ≡ flat_map in_body_items (map (map_in_body f) ms)
  body_members_mapped [] = refl
  body_members_mapped (m ∷ ms) =
      map-append f (in_body_items m) (flat_map in_body_items ms)
      ∙ ap (λ (ys : List Y). ys ++ map f (flat_map in_body_items ms)) (body_member_mapped m)
      ∙ ap (λ (ys : List Y). in_body_items (map_in_body f m) ++ ys) (body_members_mapped ms)

  body_mapped : (b : Body X) → map f (body_items b) ≡ body_items (map_body f b)
  body_mapped b =
      map-append f (flat_map in_body_items b.members) (option_items b.trailer)
      ∙ ap (λ (ys : List Y). ys ++ map f (option_items b.trailer)) (body_members_mapped b.members)
      ∙ ap (λ (ys : List Y). flat_map in_body_items (map (map_in_body f) b.members) ++ ys) (option_mapped b.trailer)

  follows_mapped : (ends : Kind → Bool) (rest : List X) → MayFollow kind ends rest → MayFollow other ends (map f rest)
  follows_mapped ends [] may = tt
  follows_mapped ends (x ∷ xs) may = ap ends (keeps x) ∙ may

  closed_mapped : (closing : Kind) (ends : Kind → Bool) (t : Option X) (rest : List X) → Closed kind closing ends t rest
      → Closed other closing ends (option_map f t) (map f rest)
  closed_mapped closing ends None rest closed = follows_mapped ends rest closed
  closed_mapped closing ends (Some x) rest closed = keeps x ∙ closed

  inner_mapped : (xs : List X) → list_all (λ y. may_stand_in_set (other y)) (map f xs) ≡ list_all (λ x. may_stand_in_set (kind x)) xs
  inner_mapped [] = refl
  inner_mapped (x ∷ xs) =
      ap (λ (k : Kind). may_stand_in_set k && list_all (λ y. may_stand_in_set (other y)) (map f xs)) (keeps x)
      ∙ ap (λ (b : Bool). may_stand_in_set (kind x) && b) (inner_mapped xs)

  set_is_mapped : (s : Set X) (rest : List X) → IsSet kind s rest → IsSet other (map_set f s) (map f rest)
  set_is_mapped s rest is = record {
    header = keeps s.header ∙ is.header;
    inner = inner_mapped s.inner ∙ is.inner;
    trailer = closed_mapped SetTrailer ends_set s.trailer rest is.trailer;
  }

  members_are_mapped : (ms : List (InGroup X)) (rest : List X) → AreMembers kind ms rest
      → AreMembers other (map (map_in_group f) ms) (map f rest)
  members_are_mapped [] rest are = tt
  members_are_mapped (ASet s ∷ ms) rest are = (
    subst (IsSet other (map_set f s)) (map-append f (flat_map in_group_items ms) rest
        ∙ ap (λ (ys : List Y). ys ++ map f rest) (members_mapped ms)) (set_is_mapped s (flat_map in_group_items ms ++ rest) are.0),
    members_are_mapped ms rest are.1,
  )
  members_are_mapped (OutOfGroup x ∷ ms) rest are = (ap is_out_of_group (keeps x) ∙ are.0, members_are_mapped ms rest are.1)

  group_is_mapped : (g : Group X) (rest : List X) → IsGroup kind g rest → IsGroup other (map_group f g) (map f rest)
  group_is_mapped g rest is = record {
    header = keeps g.header ∙ is.header;
    members = subst (AreMembers other (map (map_in_group f) g.members)) (map-append f (option_items g.trailer) rest
        ∙ ap (λ (ys : List Y). ys ++ map f rest) (option_mapped g.trailer))
        (members_are_mapped g.members (option_items g.trailer ++ rest) is.members);
    trailer = closed_mapped GroupTrailer ends_group g.trailer rest is.trailer;
  }

  body_members_are_mapped : (ms : List (InBody X)) (rest : List X) → AreBodyMembers kind ms rest
      → AreBodyMembers other (map (map_in_body f) ms) (map f rest)
  body_members_are_mapped [] rest are = tt
  body_members_are_mapped (ATa1 x ∷ ms) rest are = (keeps x ∙ are.0, body_members_are_mapped ms rest are.1)
  body_members_are_mapped (AGroup g ∷ ms) rest are = (
    subst (IsGroup other (map_group f g)) (map-append f (flat_map in_body_items ms) rest
        ∙ ap (λ (ys : List Y). ys ++ map f rest) (body_members_mapped ms)) (group_is_mapped g (flat_map in_body_items ms ++ rest) are.0),
    body_members_are_mapped ms rest are.1,
  )
  body_members_are_mapped (OutOfBody x ∷ ms) rest are = (ap is_out_of_body (keeps x) ∙ are.0, body_members_are_mapped ms rest are.1)

  pub derives_mapped : (segs : List X) (b : Body X) → DerivesInterchange kind segs b → DerivesInterchange other (map f segs) (map_body f b)
  derives_mapped segs b derives = (
    sym (body_mapped b) ∙ ap (map f) derives.0,
    record {
      members = subst (AreBodyMembers other (map (map_in_body f) b.members)) (option_mapped b.trailer)
          (body_members_are_mapped b.members (option_items b.trailer) derives.1.members);
      trailer = closed_mapped InterchangeTrailer (λ k. false) b.trailer [] derives.1.trailer;
    },
  )

  none_mapped : (xs : List X) → map f xs ≡ [] → xs ≡ []
  none_mapped [] none = refl
  none_mapped (x ∷ xs) none = cc

  ends_before : (segs : List X) → EndsWithTrailer other (map f segs) → EndsWithTrailer kind segs
  ends_before [] ends = tt
  ends_before (x ∷ xs) ends =
      ((λ trailer. none_mapped xs (ends.0 (ap ends_interchange (keeps x) ∙ trailer))), ends_before xs ends.1)

  pub derives_before : (segs : List X) (c : Body Y) → DerivesInterchange other (map f segs) c
      → (b : Body X) × DerivesInterchange kind segs b × (map_body f b ≡ c)
  derives_before segs c derives =
      let tree = a_tree kind segs (ends_before segs (derived_ends other (map f segs) c derives)) in
      (tree.0, tree.1, tree_is_one other (map f segs) (map_body f tree.0) c (derives_mapped segs tree.0 tree.1) derives)
