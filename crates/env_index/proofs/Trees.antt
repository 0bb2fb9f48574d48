-- Segments among which an IEA is the last derive a tree.
use Rattle.std.proofs.Common.{◌≡◌, List, [], ◌∷◌, ◌++◌, Bool, true, ◌&&◌, Option, Some, None, refl, sym, ap, subst, ◌∙◌, append_assoc}
use Rattle.std.specs.List.{flat_map, list_all}
use Rattle.x12_segs.specs.Words.{may_stand_in_set}
use Rattle.env_index.specs.Extents.{ends_interchange}
use Rattle.env_index.specs.Mapped.{EndsWithTrailer}
use Rattle.env_index.specs.Envelope.{Set, InGroup, ASet, OutOfGroup, Group, ATa1, AGroup, OutOfBody, Body, option_items, set_items}
use Rattle.env_index.specs.Envelope.{in_group_items, group_items, in_body_items, body_items, ends_set, ends_group, is_out_of_group}
use Rattle.env_index.specs.Envelope.{is_out_of_body, MayFollow, Closed, IsSet, AreMembers, IsGroup, IsBody, DerivesInterchange}
use Rattle.x12_segs.specs.declared.kind.Kind.{Kind}
use Rattle.x12_segs.specs.declared.kind.Kind.TheVariants.{InterchangeTrailer, GroupHeader, GroupTrailer, SetHeader, SetTrailer, Ta1}
use Rattle.x12_segs.specs.declared.kind.Kind.TheVariants.{Other}

module _ {X : Type 0} (kind : X → Kind) where
  record InBodyOf (xs : List X) : Type 0 where
    body : Body X
    items : body_items body ≡ xs
    is : IsBody kind body

  record InGroupOf (xs : List X) : Type 0 where
    members : List (InGroup X)
    trailer : Option X
    behind : List X
    items : flat_map in_group_items members ++ (option_items trailer ++ behind) ≡ xs
    are : AreMembers kind members (option_items trailer ++ behind)
    closed : Closed kind GroupTrailer ends_group trailer behind
    rest : InBodyOf behind

  record InSetOf (xs : List X) : Type 0 where
    inner : List X
    trailer : Option X
    behind : List X
    items : inner ++ (option_items trailer ++ behind) ≡ xs
    all : list_all (λ x. may_stand_in_set (kind x)) inner ≡ true
    closed : Closed kind SetTrailer ends_set trailer behind
    rest : InGroupOf behind

  record Trees (xs : List X) : Type 0 where
    in_set : InSetOf xs
    in_group : InGroupOf xs
    in_body : InBodyOf xs

  -- trees of nothing
  no_body : InBodyOf []
  no_body = record { body = record { members = []; trailer = None }; items = refl; is = record { members = tt; trailer = tt } }

  -- a group that ends without GE
  group_open : (xs : List X) → MayFollow kind ends_group xs → InBodyOf xs → InGroupOf xs
  group_open xs may b = record { members = []; trailer = None; behind = xs; items = refl; are = tt; closed = may; rest = b }

  -- a set that ends without SE
  set_open : (xs : List X) → MayFollow kind ends_set xs → InGroupOf xs → InSetOf xs
  set_open xs may g = record { inner = []; trailer = None; behind = xs; items = refl; all = refl; closed = may; rest = g }

  no_trees : Trees []
  no_trees = record { in_set = set_open [] tt (group_open [] tt no_body); in_group = group_open [] tt no_body; in_body = no_body }

  trailer_alone : (x : X) (xs : List X) → kind x ≡ InterchangeTrailer → xs ≡ [] → InBodyOf (x ∷ xs)
  trailer_alone x xs is none = record {
    body = record { members = []; trailer = Some x };
    items = ap (λ (ys : List X). x ∷ ys) (sym none);
    is = record { members = tt; trailer = is };
  }

  ta1_first : (x : X) (xs : List X) → kind x ≡ Ta1 → InBodyOf xs → InBodyOf (x ∷ xs)
  ta1_first x xs is b = record {
    body = record { members = ATa1 x ∷ b.body.members; trailer = b.body.trailer };
    items = ap (λ (ys : List X). x ∷ ys) b.items;
    is = record { members = (is, b.is.members); trailer = b.is.trailer };
  }

  out_of_body_first : (x : X) (xs : List X) → is_out_of_body (kind x) ≡ true → InBodyOf xs → InBodyOf (x ∷ xs)
  out_of_body_first x xs out b = record {
    body = record { members = OutOfBody x ∷ b.body.members; trailer = b.body.trailer };
    items = ap (λ (ys : List X). x ∷ ys) b.items;
    is = record { members = (out, b.is.members); trailer = b.is.trailer };
  }

  group_first : (x : X) (xs : List X) → kind x ≡ GroupHeader → InGroupOf xs → InBodyOf (x ∷ xs)
  group_first x xs is g =
      let group : Group X = record { header = x; members = g.members; trailer = g.trailer } in
      let b : Body X = g.rest.body in
      let inside : List X = flat_map in_group_items g.members in
      record {
        body = record { members = AGroup group ∷ b.members; trailer = b.trailer };
        items =
            append_assoc (group_items group) (flat_map in_body_items b.members) (option_items b.trailer)
            ∙ ap (λ (ys : List X). group_items group ++ ys) g.rest.items
            ∙ ap (λ (ys : List X). x ∷ ys) (append_assoc inside (option_items g.trailer) g.behind ∙ g.items);
        is = record {
          members = (
            subst (IsGroup kind group) (sym g.rest.items) (record {
              header = is;
              members = g.are;
              trailer = g.closed;
            }),
            g.rest.is.members,
          );
          trailer = g.rest.is.trailer;
        };
      }

  group_trailer_first : (x : X) (xs : List X) → kind x ≡ GroupTrailer → InBodyOf xs → InGroupOf (x ∷ xs)
  group_trailer_first x xs is b = record { members = []; trailer = Some x; behind = xs; items = refl; are = tt; closed = is; rest = b }

  out_of_group_first : (x : X) (xs : List X) → is_out_of_group (kind x) ≡ true → InGroupOf xs → InGroupOf (x ∷ xs)
  out_of_group_first x xs out g = record {
    members = OutOfGroup x ∷ g.members;
    trailer = g.trailer;
    behind = g.behind;
    items = ap (λ (ys : List X). x ∷ ys) g.items;
    are = (out, g.are);
    closed = g.closed;
    rest = g.rest;
  }

  set_first : (x : X) (xs : List X) → kind x ≡ SetHeader → InSetOf xs → InGroupOf (x ∷ xs)
  set_first x xs is s =
      let set : Set X = record { header = x; inner = s.inner; trailer = s.trailer } in
      let g : InGroupOf s.behind = s.rest in
      let tail : List X = option_items g.trailer ++ g.behind in
      record {
        members = ASet set ∷ g.members;
        trailer = g.trailer;
        behind = g.behind;
        items =
            append_assoc (set_items set) (flat_map in_group_items g.members) tail
            ∙ ap (λ (ys : List X). set_items set ++ ys) g.items
            ∙ ap (λ (ys : List X). x ∷ ys) (append_assoc s.inner (option_items s.trailer) s.behind ∙ s.items);
        are = (subst (IsSet kind set) (sym g.items) (record { header = is; inner = s.all; trailer = s.closed }), g.are);
        closed = g.closed;
        rest = g.rest;
      }

  set_trailer_first : (x : X) (xs : List X) → kind x ≡ SetTrailer → InGroupOf xs → InSetOf (x ∷ xs)
  set_trailer_first x xs is g = record { inner = []; trailer = Some x; behind = xs; items = refl; all = refl; closed = is; rest = g }

  inner_first : (x : X) (xs : List X) → may_stand_in_set (kind x) ≡ true → InSetOf xs → InSetOf (x ∷ xs)
  inner_first x xs inner s = record {
    inner = x ∷ s.inner;
    trailer = s.trailer;
    behind = s.behind;
    items = ap (λ (ys : List X). x ∷ ys) s.items;
    all = ap (λ (b : Bool). b && list_all (λ x. may_stand_in_set (kind x)) s.inner) inner ∙ s.all;
    closed = s.closed;
    rest = s.rest;
  }

  one_more : (k : Kind) (x : X) (xs : List X) → kind x ≡ k → (ends_interchange (kind x) ≡ true → xs ≡ []) → Trees xs
      → Trees (x ∷ xs)
  one_more InterchangeTrailer x xs is last t =
      let b : InBodyOf (x ∷ xs) = trailer_alone x xs is (last (ap ends_interchange is)) in
      let g : InGroupOf (x ∷ xs) = group_open (x ∷ xs) (ap ends_group is) b in
      record { in_set = set_open (x ∷ xs) (ap ends_set is) g; in_group = g; in_body = b }
  one_more GroupHeader x xs is last t =
      let b : InBodyOf (x ∷ xs) = group_first x xs is t.in_group in
      let g : InGroupOf (x ∷ xs) = group_open (x ∷ xs) (ap ends_group is) b in
      record { in_set = set_open (x ∷ xs) (ap ends_set is) g; in_group = g; in_body = b }
  one_more GroupTrailer x xs is last t =
      let g : InGroupOf (x ∷ xs) = group_trailer_first x xs is t.in_body in
      record {
        in_set = set_open (x ∷ xs) (ap ends_set is) g;
        in_group = g;
        in_body = out_of_body_first x xs (ap is_out_of_body is) t.in_body;
      }
  one_more SetHeader x xs is last t =
      let g : InGroupOf (x ∷ xs) = set_first x xs is t.in_set in
      record {
        in_set = set_open (x ∷ xs) (ap ends_set is) g;
        in_group = g;
        in_body = out_of_body_first x xs (ap is_out_of_body is) t.in_body;
      }
  one_more SetTrailer x xs is last t = record {
    in_set = set_trailer_first x xs is t.in_group;
    in_group = out_of_group_first x xs (ap is_out_of_group is) t.in_group;
    in_body = out_of_body_first x xs (ap is_out_of_body is) t.in_body;
  }
  one_more Ta1 x xs is last t = record {
    in_set = inner_first x xs (ap may_stand_in_set is) t.in_set;
    in_group = out_of_group_first x xs (ap is_out_of_group is) t.in_group;
    in_body = ta1_first x xs is t.in_body;
  }
  one_more Other x xs is last t = record {
    in_set = inner_first x xs (ap may_stand_in_set is) t.in_set;
    in_group = out_of_group_first x xs (ap is_out_of_group is) t.in_group;
    in_body = out_of_body_first x xs (ap is_out_of_body is) t.in_body;
  }

  trees : (xs : List X) → EndsWithTrailer kind xs → Trees xs
  trees [] last = no_trees
  trees (x ∷ xs) last = one_more (kind x) x xs refl last.0 (trees xs last.1)

  -- there is a tree
  pub a_tree : (xs : List X) → EndsWithTrailer kind xs → (b : Body X) × DerivesInterchange kind xs b
  a_tree xs last = let t : InBodyOf xs = (trees xs last).in_body in (t.body, (t.items, t.is))
