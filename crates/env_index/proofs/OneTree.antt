-- Segments derive one tree at most.
use Rattle.std.proofs.Common.{◌≡◌, List, [], ◌∷◌, ◌++◌, Bool, true, false, sym, ap, ◌∙◌, refl, append_assoc, Option, Some, None, inl, inr}
use Rattle.std.proofs.Common.{◌⊎◌}
use Rattle.std.specs.List.{flat_map, list_all}
use Rattle.std.proofs.lemmas.Bool.{and_parts, both_ways}
use Rattle.x12_segs.specs.Words.{may_stand_in_set}
use Rattle.env_index.specs.Envelope.{Set, InGroup, ASet, OutOfGroup, Group, InBody, ATa1, AGroup, OutOfBody, Body, option_items}
use Rattle.env_index.specs.Envelope.{set_items, in_group_items, group_items, in_body_items, ends_set, ends_group, is_out_of_group}
use Rattle.env_index.specs.Envelope.{is_out_of_body, Closed, IsSet, AreMembers, IsGroup, AreBodyMembers, DerivesInterchange}
use Rattle.x12_segs.specs.declared.kind.Kind.{Kind}
use Rattle.x12_segs.specs.declared.kind.Kind.TheVariants.{InterchangeTrailer, GroupHeader, GroupTrailer, SetHeader, SetTrailer, Ta1}
use Rattle.x12_segs.specs.declared.kind.Kind.TheVariants.{Other}

module _ {X : Type 0} (kind : X → Kind) where
  -- a test that a segment's kind passes is passed by that of an equal one
  apart : (test : Kind → Bool) (x y : X) → x ≡ y → test (kind x) ≡ true → test (kind y) ≡ false → ⊥
  apart test x y same passes fails = both_ways (test (kind y)) fails (sym (ap (λ (z : X). test (kind z)) same) ∙ passes)

  -- what goes on inside a set doesn't end it
  inner_goes_on : (k : Kind) → may_stand_in_set k ≡ true → ends_set k ≡ false
  inner_goes_on InterchangeTrailer inner = cc
  inner_goes_on GroupHeader inner = cc
  inner_goes_on GroupTrailer inner = cc
  inner_goes_on SetHeader inner = cc
  inner_goes_on SetTrailer inner = refl
  inner_goes_on Ta1 inner = refl
  inner_goes_on Other inner = refl

  -- a trailer, or none, is one
  trailer_is_one : (closing : Kind) (ends : Kind → Bool) → ends closing ≡ false → (t u : Option X) (r s : List X)
      → Closed kind closing ends t r → Closed kind closing ends u s
      → option_items t ++ r ≡ option_items u ++ s → (t ≡ u) × (r ≡ s)
  trailer_is_one closing ends apt None None r s p q e = (refl, e)
  trailer_is_one closing ends apt None (Some y) [] s p q e = cc
  trailer_is_one closing ends apt None (Some y) (x ∷ r) s p q e = let same : x ≡ y = cc in absurd (apart ends x y same p (ap ends q ∙ apt))
  trailer_is_one closing ends apt (Some x) None r [] p q e = cc
  trailer_is_one closing ends apt (Some x) None r (y ∷ s) p q e = let same : y ≡ x = cc in absurd (apart ends y x same q (ap ends p ∙ apt))
  trailer_is_one closing ends apt (Some x) (Some y) r s p q e =
      let same : x ≡ y = cc in
      let rest : r ≡ s = cc in
      (ap (λ z. Some z) same, rest)

  -- no segment inside a set begins its trailer, or what may follow without one
  inner_first : (x : X) (xs : List X) (u : Option X) (s : List X) → may_stand_in_set (kind x) ≡ true
      → Closed kind SetTrailer ends_set u s → x ∷ xs ≡ option_items u ++ s → ⊥
  inner_first x xs None [] inner q e = cc
  inner_first x xs None (y ∷ s) inner q e = let same : y ≡ x = cc in apart ends_set y x same q (inner_goes_on (kind x) inner)
  inner_first x xs (Some y) s inner q e = let same : x ≡ y = cc in apart may_stand_in_set x y same inner (ap may_stand_in_set q)

  inner_is_one : (xs ys : List X) (t u : Option X) (r s : List X) → list_all (λ x. may_stand_in_set (kind x)) xs ≡ true
      → list_all (λ x. may_stand_in_set (kind x)) ys ≡ true
      → Closed kind SetTrailer ends_set t r → Closed kind SetTrailer ends_set u s
      → xs ++ (option_items t ++ r) ≡ ys ++ (option_items u ++ s)
      → (xs ≡ ys) × ((t ≡ u) × (r ≡ s))
  inner_is_one [] [] t u r s a b p q e = (refl, trailer_is_one SetTrailer ends_set refl t u r s p q e)
  inner_is_one (x ∷ xs) [] t u r s a b p q e =
      let i = and_parts (may_stand_in_set (kind x)) (list_all (λ x. may_stand_in_set (kind x)) xs) a in
      absurd (inner_first x (xs ++ (option_items t ++ r)) u s i.0 q e)
  inner_is_one [] (y ∷ ys) t u r s a b p q e =
      let i = and_parts (may_stand_in_set (kind y)) (list_all (λ x. may_stand_in_set (kind x)) ys) b in
      absurd (inner_first y (ys ++ (option_items u ++ s)) t r i.0 p (sym e))
  inner_is_one (x ∷ xs) (y ∷ ys) t u r s a b p q e =
      let i = and_parts (may_stand_in_set (kind x)) (list_all (λ x. may_stand_in_set (kind x)) xs) a in
      let j = and_parts (may_stand_in_set (kind y)) (list_all (λ x. may_stand_in_set (kind x)) ys) b in
      let same : x ≡ y = cc in
      let rest : xs ++ (option_items t ++ r) ≡ ys ++ (option_items u ++ s) = cc in
      let more = inner_is_one xs ys t u r s i.1 j.1 p q rest in
      (ap (λ z. z ∷ xs) same ∙ ap (λ zs. y ∷ zs) more.0, more.1)

  set_with : X → List X → Option X → Set X
  set_with h i t = record { header = h; inner = i; trailer = t }

  set_is_one : (a b : Set X) (r s : List X) → IsSet kind a r → IsSet kind b s → set_items a ++ r ≡ set_items b ++ s → (a ≡ b) × (r ≡ s)
  unfolding set_with
  set_is_one a b r s p q e =
      let items : (a.header ∷ a.inner) ++ (option_items a.trailer ++ r) ≡ (b.header ∷ b.inner) ++ (option_items b.trailer ++ s) =
      sym (append_assoc (a.header ∷ a.inner) (option_items a.trailer) r) ∙ e
      ∙ append_assoc (b.header ∷ b.inner) (option_items b.trailer) s in
      let headers : a.header ≡ b.header = cc in
      let rest : a.inner ++ (option_items a.trailer ++ r) ≡ b.inner ++ (option_items b.trailer ++ s) = cc in
      let more = inner_is_one a.inner b.inner a.trailer b.trailer r s p.inner q.inner p.trailer q.trailer rest in (
        ap (λ h. set_with h a.inner a.trailer) headers ∙ ap (λ i. set_with b.header i a.trailer) more.0
            ∙ ap (λ t. set_with b.header b.inner t) more.1.0,
        more.1.1,
      )

  -- what may stand after a group's members
  behind_members : (x : X) (xs : List X) (u : Option X) (s : List X) → Closed kind GroupTrailer ends_group u s
      → x ∷ xs ≡ option_items u ++ s
      → (kind x ≡ GroupTrailer) ⊎ (ends_group (kind x) ≡ true)
  behind_members x xs None [] q e = cc
  behind_members x xs None (y ∷ s) q e = let same : x ≡ y = cc in inr (ap (λ (z : X). ends_group (kind z)) same ∙ q)
  behind_members x xs (Some y) s q e = let same : x ≡ y = cc in inl (ap kind same ∙ q)

  -- it is neither out of place in a group nor an ST
  behind_members_apart : (k : Kind) → (k ≡ GroupTrailer) ⊎ (ends_group k ≡ true) → (ends_set k ≡ true) × ((k ≡ SetHeader) → ⊥)
  behind_members_apart k (inl e) = (ap ends_set e, λ s. cc)
  behind_members_apart InterchangeTrailer (inr e) = (refl, λ s. cc)
  behind_members_apart GroupHeader (inr e) = (refl, λ s. cc)
  behind_members_apart GroupTrailer (inr e) = cc
  behind_members_apart SetHeader (inr e) = cc
  behind_members_apart SetTrailer (inr e) = cc
  behind_members_apart Ta1 (inr e) = cc
  behind_members_apart Other (inr e) = cc

  no_member : (m : InGroup X) (ms : List (InGroup X)) (rest : List X) (u : Option X) (s : List X) → AreMembers kind (m ∷ ms) rest
      → Closed kind GroupTrailer ends_group u s
      → flat_map in_group_items (m ∷ ms) ++ rest ≡ option_items u ++ s → ⊥
  no_member (OutOfGroup x) ms rest u s p q e =
      out_of_place (kind x) p.0 (behind_members_apart (kind x) (behind_members x (flat_map in_group_items ms ++ rest) u s q e)).0
    where
      out_of_place : (k : Kind) → is_out_of_group k ≡ true → ends_set k ≡ true → ⊥
      out_of_place InterchangeTrailer out ends = cc
      out_of_place GroupHeader out ends = cc
      out_of_place GroupTrailer out ends = cc
      out_of_place SetHeader out ends = cc
      out_of_place SetTrailer out ends = cc
      out_of_place Ta1 out ends = cc
      out_of_place Other out ends = cc
  no_member (ASet a) ms rest u s p q e =
      (behind_members_apart (kind a.header)
      (behind_members a.header (((a.inner ++ option_items a.trailer) ++ flat_map in_group_items ms) ++ rest) u s q e)).1 p.0.header

  members_is_one : (xs ys : List (InGroup X)) (t u : Option X) (r s : List X) → AreMembers kind xs (option_items t ++ r)
      → AreMembers kind ys (option_items u ++ s)
      → Closed kind GroupTrailer ends_group t r → Closed kind GroupTrailer ends_group u s
      → flat_map in_group_items xs ++ (option_items t ++ r) ≡ flat_map in_group_items ys ++ (option_items u ++ s)
      → (xs ≡ ys) × ((t ≡ u) × (r ≡ s))
  members_is_one [] [] t u r s a b p q e = (refl, trailer_is_one GroupTrailer ends_group refl t u r s p q e)
  members_is_one (x ∷ xs) [] t u r s a b p q e = absurd (no_member x xs (option_items t ++ r) u s a q e)
  members_is_one [] (y ∷ ys) t u r s a b p q e = absurd (no_member y ys (option_items u ++ s) t r b p (sym e))
  members_is_one (OutOfGroup x ∷ xs) (OutOfGroup y ∷ ys) t u r s a b p q e =
      let same : x ≡ y = cc in
      let rest : flat_map in_group_items xs ++ (option_items t ++ r) ≡ flat_map in_group_items ys ++ (option_items u ++ s) = cc in
      let more = members_is_one xs ys t u r s a.1 b.1 p q rest in
      (ap (λ z. OutOfGroup z ∷ xs) same ∙ ap (λ zs. OutOfGroup y ∷ zs) more.0, more.1)
  members_is_one (OutOfGroup x ∷ xs) (ASet set ∷ ys) t u r s a b p q e =
      let same : x ≡ set.header = cc in
      absurd (apart is_out_of_group x set.header same a.0 (ap is_out_of_group b.0.header))
  members_is_one (ASet set ∷ xs) (OutOfGroup y ∷ ys) t u r s a b p q e =
      let same : y ≡ set.header = cc in
      absurd (apart is_out_of_group y set.header same b.0 (ap is_out_of_group a.0.header))
  members_is_one (ASet c ∷ xs) (ASet d ∷ ys) t u r s a b p q e =
      let items : set_items c ++ (flat_map in_group_items xs ++ (option_items t ++ r))
      ≡ set_items d ++ (flat_map in_group_items ys ++ (option_items u ++ s)) =
      sym (append_assoc (set_items c) (flat_map in_group_items xs) (option_items t ++ r)) ∙ e
      ∙ append_assoc (set_items d) (flat_map in_group_items ys) (option_items u ++ s) in
      let one = set_is_one c d (flat_map in_group_items xs ++ (option_items t ++ r))
      (flat_map in_group_items ys ++ (option_items u ++ s)) a.0 b.0 items in
      let more = members_is_one xs ys t u r s a.1 b.1 p q one.1 in
      (ap (λ z. ASet z ∷ xs) one.0 ∙ ap (λ zs. ASet d ∷ zs) more.0, more.1)

  group_with : X → List (InGroup X) → Option X → Group X
  group_with h m t = record { header = h; members = m; trailer = t }

  group_is_one : (a b : Group X) (r s : List X) → IsGroup kind a r → IsGroup kind b s
      → group_items a ++ r ≡ group_items b ++ s → (a ≡ b) × (r ≡ s)
  unfolding group_with
  group_is_one a b r s p q e =
      let items : (a.header ∷ flat_map in_group_items a.members) ++ (option_items a.trailer ++ r)
      ≡ (b.header ∷ flat_map in_group_items b.members) ++ (option_items b.trailer ++ s) =
      sym (append_assoc (a.header ∷ flat_map in_group_items a.members) (option_items a.trailer) r) ∙ e
      ∙ append_assoc (b.header ∷ flat_map in_group_items b.members) (option_items b.trailer) s in
      let headers : a.header ≡ b.header = cc in
      let rest : flat_map in_group_items a.members ++ (option_items a.trailer ++ r)
      ≡ flat_map in_group_items b.members ++ (option_items b.trailer ++ s) = cc in
      let more = members_is_one a.members b.members a.trailer b.trailer r s p.members q.members p.trailer q.trailer rest in (
        ap (λ h. group_with h a.members a.trailer) headers ∙ ap (λ m. group_with b.header m a.trailer) more.0
            ∙ ap (λ t. group_with b.header b.members t) more.1.0,
        more.1.1,
      )

  -- nothing that stands in an interchange begins its trailer
  no_body_member : (m : InBody X) (ms : List (InBody X)) (rest : List X) (u : Option X) → AreBodyMembers kind (m ∷ ms) rest
      → Closed kind InterchangeTrailer (λ k. false) u []
      → flat_map in_body_items (m ∷ ms) ++ rest ≡ option_items u → ⊥
  no_body_member (ATa1 x) ms rest None p q e = cc
  no_body_member (AGroup g) ms rest None p q e = cc
  no_body_member (OutOfBody x) ms rest None p q e = cc
  no_body_member (ATa1 x) ms rest (Some y) p q e = let same : x ≡ y = cc in let kinds : Ta1 ≡ InterchangeTrailer = sym p.0
      ∙ ap kind same ∙ q in cc
  no_body_member (AGroup g) ms rest (Some y) p q e = let same : g.header ≡ y = cc in let kinds : GroupHeader
      ≡ InterchangeTrailer = sym p.0.header ∙ ap kind same ∙ q in cc
  no_body_member (OutOfBody x) ms rest (Some y) p q e = let same : x ≡ y = cc in apart is_out_of_body x y same p.0 (ap is_out_of_body q)

  trailers_alone : (t u : Option X) → option_items t ≡ option_items u → t ≡ u
  trailers_alone None None e = refl
  trailers_alone None (Some y) e = cc
  trailers_alone (Some x) None e = cc
  trailers_alone (Some x) (Some y) e = let same : x ≡ y = cc in ap (λ z. Some z) same

  body_members_is_one : (xs ys : List (InBody X)) (t u : Option X) → AreBodyMembers kind xs (option_items t)
      → AreBodyMembers kind ys (option_items u)
      → Closed kind InterchangeTrailer (λ k. false) t [] → Closed kind InterchangeTrailer (λ k. false) u []
      → flat_map in_body_items xs ++ option_items t ≡ flat_map in_body_items ys ++ option_items u
      → (xs ≡ ys) × (t ≡ u)
  body_members_is_one [] [] t u a b p q e = (refl, trailers_alone t u e)
  body_members_is_one (x ∷ xs) [] t u a b p q e = absurd (no_body_member x xs (option_items t) u a q e)
  body_members_is_one [] (y ∷ ys) t u a b p q e = absurd (no_body_member y ys (option_items u) t b p (sym e))
  body_members_is_one (ATa1 x ∷ xs) (ATa1 y ∷ ys) t u a b p q e =
      let same : x ≡ y = cc in
      let rest : flat_map in_body_items xs ++ option_items t ≡ flat_map in_body_items ys ++ option_items u = cc in
      let more = body_members_is_one xs ys t u a.1 b.1 p q rest in
      (ap (λ z. ATa1 z ∷ xs) same ∙ ap (λ zs. ATa1 y ∷ zs) more.0, more.1)
  body_members_is_one (OutOfBody x ∷ xs) (OutOfBody y ∷ ys) t u a b p q e =
      let same : x ≡ y = cc in
      let rest : flat_map in_body_items xs ++ option_items t ≡ flat_map in_body_items ys ++ option_items u = cc in
      let more = body_members_is_one xs ys t u a.1 b.1 p q rest in
      (ap (λ z. OutOfBody z ∷ xs) same ∙ ap (λ zs. OutOfBody y ∷ zs) more.0, more.1)
  body_members_is_one (AGroup g ∷ xs) (AGroup h ∷ ys) t u a b p q e =
      let items : group_items g ++ (flat_map in_body_items xs ++ option_items t)
      ≡ group_items h ++ (flat_map in_body_items ys ++ option_items u) =
      sym (append_assoc (group_items g) (flat_map in_body_items xs) (option_items t)) ∙ e
      ∙ append_assoc (group_items h) (flat_map in_body_items ys) (option_items u) in
      let one = group_is_one g h (flat_map in_body_items xs ++ option_items t)
      (flat_map in_body_items ys ++ option_items u) a.0 b.0 items in
      let more = body_members_is_one xs ys t u a.1 b.1 p q one.1 in
      (ap (λ z. AGroup z ∷ xs) one.0 ∙ ap (λ zs. AGroup h ∷ zs) more.0, more.1)
  body_members_is_one (ATa1 x ∷ xs) (AGroup h ∷ ys) t u a b p q e = let same : x ≡ h.header = cc in let kinds : Ta1
      ≡ GroupHeader = sym a.0 ∙ ap kind same ∙ b.0.header in cc
  body_members_is_one (AGroup g ∷ xs) (ATa1 y ∷ ys) t u a b p q e = let same : g.header ≡ y = cc in let kinds : GroupHeader
      ≡ Ta1 = sym a.0.header ∙ ap kind same ∙ b.0 in cc
  body_members_is_one (ATa1 x ∷ xs) (OutOfBody y ∷ ys) t u a b p q e = let same : y
      ≡ x = cc in absurd (apart is_out_of_body y x same b.0 (ap is_out_of_body a.0))
  body_members_is_one (OutOfBody x ∷ xs) (ATa1 y ∷ ys) t u a b p q e = let same : x
      ≡ y = cc in absurd (apart is_out_of_body x y same a.0 (ap is_out_of_body b.0))
  body_members_is_one (AGroup g ∷ xs) (OutOfBody y ∷ ys) t u a b p q e = let same : y
      ≡ g.header = cc in absurd (apart is_out_of_body y g.header same b.0 (ap is_out_of_body a.0.header))
  body_members_is_one (OutOfBody x ∷ xs) (AGroup h ∷ ys) t u a b p q e = let same : x
      ≡ h.header = cc in absurd (apart is_out_of_body x h.header same a.0 (ap is_out_of_body b.0.header))

  body_with : List (InBody X) → Option X → Body X
  body_with m t = record { members = m; trailer = t }

  pub tree_is_one : (segs : List X) (a b : Body X) → DerivesInterchange kind segs a → DerivesInterchange kind segs b → a ≡ b
  unfolding body_with
  tree_is_one segs a b p q =
      let more = body_members_is_one a.members b.members a.trailer b.trailer p.1.members q.1.members p.1.trailer q.1.trailer (p.0
      ∙ sym q.0) in
      ap (λ m. body_with m a.trailer) more.0 ∙ ap (λ t. body_with b.members t) more.1
