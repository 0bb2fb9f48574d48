-- In segments that derive a tree nothing stands after an IEA.
use Rattle.std.proofs.Common.{◌≡◌, List, [], ◌∷◌, ◌++◌, Bool, true, false, Option, Some, None, refl, ap, subst, ◌∙◌}
use Rattle.std.specs.List.{flat_map, list_all}
use Rattle.std.proofs.lemmas.Bool.{and_parts}
use Rattle.x12_segs.specs.Words.{may_stand_in_set}
use Rattle.x12_segs.specs.declared.kind.Kind.{Kind}
use Rattle.x12_segs.specs.declared.kind.Kind.TheVariants.{InterchangeTrailer, GroupHeader, GroupTrailer, SetHeader, SetTrailer, Ta1}
use Rattle.x12_segs.specs.declared.kind.Kind.TheVariants.{Other}
use Rattle.env_index.specs.Envelope.{Set, InGroup, ASet, OutOfGroup, Group, InBody, ATa1, AGroup, OutOfBody, Body, option_items}
use Rattle.env_index.specs.Envelope.{set_items, in_group_items, group_items, in_body_items, ends_set, ends_group, is_out_of_group}
use Rattle.env_index.specs.Envelope.{is_out_of_body, Closed, IsSet, AreMembers, IsGroup, AreBodyMembers, DerivesInterchange}
use Rattle.env_index.specs.Extents.{ends_interchange}
use Rattle.env_index.specs.Mapped.{EndsWithTrailer}

inner_is_no_trailer : (k : Kind) → may_stand_in_set k ≡ true → ends_interchange k ≡ false
inner_is_no_trailer InterchangeTrailer inner = cc
inner_is_no_trailer GroupHeader inner = refl
inner_is_no_trailer GroupTrailer inner = refl
inner_is_no_trailer SetHeader inner = refl
inner_is_no_trailer SetTrailer inner = refl
inner_is_no_trailer Ta1 inner = refl
inner_is_no_trailer Other inner = refl

out_of_group_is_no_trailer : (k : Kind) → is_out_of_group k ≡ true → ends_interchange k ≡ false
out_of_group_is_no_trailer InterchangeTrailer out = cc
out_of_group_is_no_trailer GroupHeader out = refl
out_of_group_is_no_trailer GroupTrailer out = refl
out_of_group_is_no_trailer SetHeader out = refl
out_of_group_is_no_trailer SetTrailer out = refl
out_of_group_is_no_trailer Ta1 out = refl
out_of_group_is_no_trailer Other out = refl

out_of_body_is_no_trailer : (k : Kind) → is_out_of_body k ≡ true → ends_interchange k ≡ false
out_of_body_is_no_trailer InterchangeTrailer out = cc
out_of_body_is_no_trailer GroupHeader out = refl
out_of_body_is_no_trailer GroupTrailer out = refl
out_of_body_is_no_trailer SetHeader out = refl
out_of_body_is_no_trailer SetTrailer out = refl
out_of_body_is_no_trailer Ta1 out = refl
out_of_body_is_no_trailer Other out = refl

module _ {X : Type 0} (kind : X → Kind) where
  -- none of these is an IEA
  abbrev NoTrailer : List X → Type 0
  NoTrailer [] = Unit {0}
  NoTrailer (x ∷ xs) = (ends_interchange (kind x) ≡ false) × NoTrailer xs

  both_without : (xs ys : List X) → NoTrailer xs → NoTrailer ys → NoTrailer (xs ++ ys)
  both_without [] ys none more = more
  both_without (x ∷ xs) ys none more = (none.0, both_without xs ys none.1 more)

  inner_without : (xs : List X) → list_all (λ x. may_stand_in_set (kind x)) xs ≡ true → NoTrailer xs
  inner_without [] all = tt
  inner_without (x ∷ xs) all =
      let parts = and_parts (may_stand_in_set (kind x)) (list_all (λ x. may_stand_in_set (kind x)) xs) all in
      (inner_is_no_trailer (kind x) parts.0, inner_without xs parts.1)

  closing_without : (closing : Kind) (ends : Kind → Bool) (t : Option X) (rest : List X) → ends_interchange closing ≡ false
      → Closed kind closing ends t rest → NoTrailer (option_items t)
  closing_without closing ends None rest apt closed = tt
  closing_without closing ends (Some x) rest apt closed = (ap ends_interchange closed ∙ apt, tt)

  set_without : (s : Set X) (rest : List X) → IsSet kind s rest → NoTrailer (set_items s)
  set_without s rest is = (
    ap ends_interchange is.header,
    both_without s.inner (option_items s.trailer) (inner_without s.inner is.inner)
        (closing_without SetTrailer ends_set s.trailer rest refl is.trailer),
  )

  members_without : (ms : List (InGroup X)) (rest : List X) → AreMembers kind ms rest → NoTrailer (flat_map in_group_items ms)
  members_without [] rest are = tt
  members_without (ASet s ∷ ms) rest are =
      both_without (set_items s) (flat_map in_group_items ms) (set_without s (flat_map in_group_items ms ++ rest) are.0)
      (members_without ms rest are.1)
  members_without (OutOfGroup x ∷ ms) rest are = (out_of_group_is_no_trailer (kind x) are.0, members_without ms rest are.1)

  group_without : (g : Group X) (rest : List X) → IsGroup kind g rest → NoTrailer (group_items g)
  group_without g rest is = (
    ap ends_interchange is.header,
    both_without (flat_map in_group_items g.members) (option_items g.trailer)
        (members_without g.members (option_items g.trailer ++ rest) is.members)
        (closing_without GroupTrailer ends_group g.trailer rest refl is.trailer),
  )

  body_without : (ms : List (InBody X)) (rest : List X) → AreBodyMembers kind ms rest → NoTrailer (flat_map in_body_items ms)
  body_without [] rest are = tt
  body_without (ATa1 x ∷ ms) rest are = (ap ends_interchange are.0, body_without ms rest are.1)
  body_without (AGroup g ∷ ms) rest are =
      both_without (group_items g) (flat_map in_body_items ms) (group_without g (flat_map in_body_items ms ++ rest) are.0)
      (body_without ms rest are.1)
  body_without (OutOfBody x ∷ ms) rest are = (out_of_body_is_no_trailer (kind x) are.0, body_without ms rest are.1)

  trailer_last : (t : Option X) → EndsWithTrailer kind (option_items t)
  trailer_last None = tt
  trailer_last (Some x) = ((λ _. refl), tt)

  ends_behind : (xs ys : List X) → NoTrailer xs → EndsWithTrailer kind ys → EndsWithTrailer kind (xs ++ ys)
  ends_behind [] ys none ends = ends
  ends_behind (x ∷ xs) ys none ends = let no : ends_interchange (kind x) ≡ false = none.0 in
      ((λ trailer. cc), ends_behind xs ys none.1 ends)

  pub derived_ends : (segs : List X) (b : Body X) → DerivesInterchange kind segs b → EndsWithTrailer kind segs
  derived_ends segs b derives =
      subst (EndsWithTrailer kind) derives.0
      (ends_behind (flat_map in_body_items b.members) (option_items b.trailer)
      (body_without b.members (option_items b.trailer) derives.1.members) (trailer_last b.trailer))
