-- The envelopes that are read front to back are those of each tree that the segments derive.
use Rattle.std.proofs.Common.{◌≡◌, ℕ, ◌+◌, List, [], ◌∷◌, ◌++◌, map, Bool, true, false, ◌||◌, Option, Some, None, length, refl, sym, ap}
use Rattle.std.proofs.Common.{◌∙◌, append_assoc}
use Rattle.std.specs.Prelude.{option_map}
use Rattle.std.specs.List.{flat_map, list_all}
use Rattle.std.proofs.lemmas.Bool.{and_parts}
use Rattle.x12_segs.specs.Words.{may_stand_in_set}
use Rattle.x12_segs.specs.declared.kind.Kind.{Kind}
use Rattle.x12_segs.specs.declared.kind.Kind.TheVariants.{InterchangeTrailer, GroupHeader, GroupTrailer, SetHeader, SetTrailer, Ta1}
use Rattle.x12_segs.specs.declared.kind.Kind.TheVariants.{Other}
use Rattle.env_index.specs.Envelope.{Set, InGroup, ASet, OutOfGroup, Group, InBody, ATa1, AGroup, OutOfBody, Body, option_items}
use Rattle.env_index.specs.Envelope.{set_items, in_group_items, group_items, in_body_items, body_items, ends_set, ends_group}
use Rattle.env_index.specs.Envelope.{is_out_of_group}
use Rattle.env_index.specs.Envelope.{is_out_of_body, MayFollow, Closed, IsSet, AreMembers, IsGroup, AreBodyMembers, IsBody}
use Rattle.env_index.specs.Envelope.{DerivesInterchange}
use Rattle.night_definition.specs.Segments.{Segment, kind_of}
use Rattle.night_definition.specs.Segments as room
use Rattle.night_definition.specs.Envelopes.{Where, in_body, in_group, in_set, Read, nothing, read, read_one, with_misplaced, with_inner}
use Rattle.night_definition.specs.Envelopes.{with_group}
use Rattle.night_definition.specs.Envelopes as to

-- the same kind in the definition's words
abbrev pub now : Kind → room.Kind
now InterchangeTrailer = room.iea
now GroupHeader = room.gs
now GroupTrailer = room.ge
now SetHeader = room.st
now SetTrailer = room.se
now Ta1 = room.ta1
now Other = room.other

module _ {X : Type 0} (kind : X → Kind) (f : X → Segment) (same : (x : X) → kind_of (f x).elements ≡ now (kind x)) where
  step : (x : X) (ys : List Segment) (at : Where) (k : Kind) → kind x ≡ k → read (f x ∷ ys) at ≡ read_one (now k) at (f x) (read ys)
  step x ys at k e = ap (λ j. read_one j at (f x) (read ys)) (same x ∙ ap now e)

  -- what the tree says
  abbrev pub set_of : Set X → to.Set
  set_of s = record { header = f s.header; inner = map f s.inner; trailer = option_map f s.trailer }

  abbrev pub closed_set : List X → Option X → Read → Read
  closed_set inner close r = record r { inner = map f inner; se = option_map f close }

  abbrev pub with_members : List (InGroup X) → Read → Read
  with_members [] r = r
  with_members (ASet s ∷ ms) r = let more = with_members ms r in
      record more { inner = []; se = None; sets = set_of s ∷ more.sets }
  with_members (OutOfGroup x ∷ ms) r = with_misplaced (with_members ms r)

  abbrev pub closed_group : Option X → Read → Read
  closed_group close r = record r { inner = []; se = None; sets = []; ge = option_map f close }

  abbrev pub with_body : List (InBody X) → Read → Read
  with_body [] r = r
  with_body (ATa1 x ∷ ms) r = let more = with_body ms r in record more { ta1s = more.ta1s + 1 }
  with_body (AGroup g ∷ ms) r =
      let more = with_body ms r in
      with_group (f g.header) (with_members g.members (closed_group g.trailer more))
  with_body (OutOfBody x ∷ ms) r = with_misplaced (with_body ms r)

  abbrev pub content : Body X → Read
  content b = with_body b.members (record nothing { iea = option_map f b.trailer })

  set_rest : (rest : List X) → MayFollow kind ends_set rest → read (map f rest) in_set ≡ closed_set [] None (read (map f rest) in_group)
  set_rest [] h = refl
  set_rest (x ∷ xs) h = by (kind x) refl h
    where
      by : (k : Kind) → kind x ≡ k → ends_set k ≡ true
          → read (f x ∷ map f xs) in_set ≡ closed_set [] None (read (f x ∷ map f xs) in_group)
      by SetHeader e h = step x (map f xs) in_set SetHeader e ∙ sym (ap (closed_set [] None) (step x (map f xs) in_group SetHeader e))
      by GroupTrailer e h = step x (map f xs) in_set GroupTrailer e ∙ sym
          (ap (closed_set [] None) (step x (map f xs) in_group GroupTrailer e))
      by GroupHeader e h = step x (map f xs) in_set GroupHeader e ∙ sym
          (ap (closed_set [] None) (step x (map f xs) in_group GroupHeader e))
      by InterchangeTrailer e h =
          step x (map f xs) in_set InterchangeTrailer e ∙ sym (ap (closed_set [] None) (step x (map f xs) in_group InterchangeTrailer e))
      by SetTrailer e h = cc
      by Ta1 e h = cc
      by Other e h = cc

  in_open_set : (inner : List X) (close : Option X) (rest : List X) → list_all (λ x. may_stand_in_set (kind x)) inner ≡ true
      → Closed kind SetTrailer ends_set close rest
      → read (map f (inner ++ (option_items close ++ rest))) in_set ≡ closed_set inner close (read (map f rest) in_group)
  in_open_set [] None rest all closed = set_rest rest closed
  in_open_set [] (Some x) rest all closed = step x (map f rest) in_set SetTrailer closed
  in_open_set (y ∷ inner) close rest all closed =
      let parts = and_parts (may_stand_in_set (kind y)) (list_all (λ x. may_stand_in_set (kind x)) inner) all in
      by (kind y) refl parts.0 (in_open_set inner close rest parts.1 closed)
    where
      by : (k : Kind) → kind y ≡ k → may_stand_in_set k ≡ true
          → read (map f (inner ++ (option_items close ++ rest))) in_set ≡ closed_set inner close (read (map f rest) in_group)
          → read (f y ∷ map f (inner ++ (option_items close ++ rest))) in_set ≡ closed_set (y ∷ inner) close (read (map f rest) in_group)
      by Ta1 e h more = step y (map f (inner ++ (option_items close ++ rest))) in_set Ta1 e ∙ ap (with_inner (f y)) more
      by Other e h more = step y (map f (inner ++ (option_items close ++ rest))) in_set Other e ∙ ap (with_inner (f y)) more
      by SetTrailer e h more = cc
      by SetHeader e h more = cc
      by GroupTrailer e h more = cc
      by GroupHeader e h more = cc
      by InterchangeTrailer e h more = cc

  -- a set's segments, those that follow it told apart
  set_apart : (s : Set X) (more rest : List X)
      → (set_items s ++ more) ++ rest ≡ s.header ∷ (s.inner ++ (option_items s.trailer ++ (more ++ rest)))
  set_apart s more rest =
      append_assoc (set_items s) more rest ∙ ap (λ xs. s.header ∷ xs) (append_assoc s.inner (option_items s.trailer) (more ++ rest))

  out_of_group : (x : X) (xs : List X) (r : Read) → is_out_of_group (kind x) ≡ true → read (map f xs) in_group ≡ r
      → read (f x ∷ map f xs) in_group ≡ with_misplaced r
  out_of_group x xs r out more = by (kind x) refl out
    where
      by : (k : Kind) → kind x ≡ k → is_out_of_group k ≡ true → read (f x ∷ map f xs) in_group ≡ with_misplaced r
      by SetTrailer e out = step x (map f xs) in_group SetTrailer e ∙ ap with_misplaced more
      by Ta1 e out = step x (map f xs) in_group Ta1 e ∙ ap with_misplaced more
      by Other e out = step x (map f xs) in_group Other e ∙ ap with_misplaced more
      by SetHeader e out = cc
      by GroupTrailer e out = cc
      by GroupHeader e out = cc
      by InterchangeTrailer e out = cc

  members : (ms : List (InGroup X)) (rest : List X) → AreMembers kind ms rest
      → read (map f (flat_map in_group_items ms ++ rest)) in_group ≡ with_members ms (read (map f rest) in_group)
  members [] rest h = refl
  members (ASet s ∷ ms) rest h =
      let after = flat_map in_group_items ms ++ rest in
      ap (λ xs. read (map f xs) in_group) (set_apart s (flat_map in_group_items ms) rest)
      ∙ step s.header (map f (s.inner ++ (option_items s.trailer ++ after))) in_group SetHeader h.0.header
      ∙ ap (to.with_set (f s.header)) (in_open_set s.inner s.trailer after h.0.inner h.0.trailer)
      ∙ ap (λ r. to.with_set (f s.header) (closed_set s.inner s.trailer r)) (members ms rest h.1)
  members (OutOfGroup x ∷ ms) rest h = out_of_group x (flat_map in_group_items ms ++ rest)
      (with_members ms (read (map f rest) in_group)) h.0 (members ms rest h.1)

  group_rest : (rest : List X) → MayFollow kind ends_group rest → read (map f rest) in_group
      ≡ closed_group None (read (map f rest) in_body)
  group_rest [] h = refl
  group_rest (x ∷ xs) h = by (kind x) refl h
    where
      by : (k : Kind) → kind x ≡ k → ends_group k ≡ true
          → read (f x ∷ map f xs) in_group ≡ closed_group None (read (f x ∷ map f xs) in_body)
      by GroupHeader e h = step x (map f xs) in_group GroupHeader e ∙ sym
          (ap (closed_group None) (step x (map f xs) in_body GroupHeader e))
      by InterchangeTrailer e h =
          step x (map f xs) in_group InterchangeTrailer e ∙ sym (ap (closed_group None) (step x (map f xs) in_body InterchangeTrailer e))
      by GroupTrailer e h = cc
      by SetHeader e h = cc
      by SetTrailer e h = cc
      by Ta1 e h = cc
      by Other e h = cc

  in_open_group : (close : Option X) (rest : List X) → Closed kind GroupTrailer ends_group close rest
      → read (map f (option_items close ++ rest)) in_group ≡ closed_group close (read (map f rest) in_body)
  in_open_group None rest closed = group_rest rest closed
  in_open_group (Some x) rest closed = step x (map f rest) in_group GroupTrailer closed

  group_apart : (g : Group X) (more rest : List X)
      → (group_items g ++ more) ++ rest ≡ g.header ∷ (flat_map in_group_items g.members ++ (option_items g.trailer ++ (more ++ rest)))
  group_apart g more rest =
      append_assoc (group_items g) more rest
      ∙ ap (λ xs. g.header ∷ xs) (append_assoc (flat_map in_group_items g.members) (option_items g.trailer) (more ++ rest))

  out_of_body : (x : X) (xs : List X) (r : Read) → is_out_of_body (kind x) ≡ true → read (map f xs) in_body ≡ r
      → read (f x ∷ map f xs) in_body ≡ with_misplaced r
  out_of_body x xs r out more = by (kind x) refl out
    where
      by : (k : Kind) → kind x ≡ k → is_out_of_body k ≡ true → read (f x ∷ map f xs) in_body ≡ with_misplaced r
      by SetHeader e out = step x (map f xs) in_body SetHeader e ∙ ap with_misplaced more
      by SetTrailer e out = step x (map f xs) in_body SetTrailer e ∙ ap with_misplaced more
      by GroupTrailer e out = step x (map f xs) in_body GroupTrailer e ∙ ap with_misplaced more
      by Other e out = step x (map f xs) in_body Other e ∙ ap with_misplaced more
      by Ta1 e out = cc
      by GroupHeader e out = cc
      by InterchangeTrailer e out = cc

  body_members : (ms : List (InBody X)) (rest : List X) → AreBodyMembers kind ms rest
      → read (map f (flat_map in_body_items ms ++ rest)) in_body ≡ with_body ms (read (map f rest) in_body)
  body_members [] rest h = refl
  body_members (ATa1 x ∷ ms) rest h =
      step x (map f (flat_map in_body_items ms ++ rest)) in_body Ta1 h.0
      ∙ ap (λ (r : Read). record r { ta1s = r.ta1s + 1 }) (body_members ms rest h.1)
  body_members (AGroup g ∷ ms) rest h =
      let after = flat_map in_body_items ms ++ rest in
      ap (λ xs. read (map f xs) in_body) (group_apart g (flat_map in_body_items ms) rest)
      ∙ step g.header (map f (flat_map in_group_items g.members ++ (option_items g.trailer ++ after))) in_body GroupHeader h.0.header
      ∙ ap (with_group (f g.header)) (members g.members (option_items g.trailer ++ after) h.0.members)
      ∙ ap (λ r. with_group (f g.header) (with_members g.members r)) (in_open_group g.trailer after h.0.trailer)
      ∙ ap (λ r. with_group (f g.header) (with_members g.members (closed_group g.trailer r))) (body_members ms rest h.1)
  body_members (OutOfBody x ∷ ms) rest h =
      out_of_body x (flat_map in_body_items ms ++ rest) (with_body ms (read (map f rest) in_body)) h.0 (body_members ms rest h.1)

  last : (trailer : Option X) → Closed kind InterchangeTrailer (λ k. false) trailer []
      → read (map f (option_items trailer)) in_body ≡ record nothing { iea = option_map f trailer }
  last None h = refl
  last (Some x) h = step x [] in_body InterchangeTrailer h

  -- the segments of an interchange are read as each tree says that they derive
  pub read_is_derived : (segs : List X) (b : Body X) → DerivesInterchange kind segs b → read (map f segs) in_body ≡ content b
  read_is_derived segs b d =
      ap (λ xs. read (map f xs) in_body) (sym d.0)
      ∙ body_members b.members (option_items b.trailer) d.1.members
      ∙ ap (with_body b.members) (last b.trailer d.1.trailer)
