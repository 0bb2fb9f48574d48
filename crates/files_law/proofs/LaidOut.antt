-- The numbers of the sets of a mailbox, by its interchanges and groups, are those that each set has after the sets before it.
use Rattle.std.proofs.Common.{◌≡◌, ◌<◌, ◌≤◌, ℕ, zero, suc, ◌+◌, ◌-◌, ◌*◌, ◌/◌, ◌%◌, Bool, true, false, not, ◌||◌, if◌then◌else◌}
use Rattle.std.proofs.Common.{List, [], ◌∷◌, ◌++◌, Option, Some, take, drop, length, map, refl, sym, ap, ◌∙◌, arith, length-append}
use Rattle.std.proofs.Common.{append-nil, append_assoc, length-drop}
use Rattle.std.specs.Prelude.{decimal}
use Rattle.std.proofs.Math.Nat.{mul-add-mod_self_right, mod-eq_of_lt}
use Rattle.std.proofs.lemmas.Nat.{div-mul-add}
use Rattle.std.proofs.lemmas.List.{length-take, take-append-drop}
use Rattle.x12_write.specs.Number.{padded_number, set_number}
use Rattle.count_numbers.specs.Layout.{interchanges_of}
use Rattle.count_numbers.specs.Num.{num}
use Rattle.count_numbers.specs.Runs.{same_key}
use Rattle.count_numbers.specs.declared.run.RunKey.{RunKey}
use Rattle.count_numbers.proofs.ForAbove.{first_interchange, no_interchange, not_none}
use Rattle.partner_setup.specs.declared.partner.Partner.{Partner}
use Rattle.answered_sets.specs.Judged.{PlacedValue}
use Rattle.mailbox.specs.Mailbox.{group_total}
use Rattle.mailbox.specs.Numbered.{NumberedValue, goes_with, groups_of, group_key_of, numbered_from, onto_groups}
use Rattle.track_table.specs.Mailed.{mailed_behind}
use Rattle.track_table.specs.Walking.{last_key}
use Rattle.track_table.proofs.ForAbove.{begins, group_total_snoc, last_snoc}
use Rattle.files_law.proofs.Told.{numbers_told}

abbrev Numbers : Type 0
Numbers = List (List ℕ)

abbrev pub step : Bool → ℕ
step b = if b then 0 else 1

take_some : (n : ℕ) (p : PlacedValue) (ps : List PlacedValue) → 1 ≤ n → take n (p ∷ ps) ≡ p ∷ take (n - 1) ps
take_some zero p ps some = absurd (omega (arith, some))
take_some (suc n) p ps some = let one : n ≡ suc n - 1 = omega arith in ap (λ (k : ℕ). p ∷ take k ps) one

take_numbered : (n k : ℕ) (ps : List PlacedValue) → take n (numbered_from k ps) ≡ numbered_from k (take n ps)
take_numbered zero k ps = refl
take_numbered (suc n) k [] = refl
take_numbered (suc n) k (p ∷ ps) =
    ap (λ (xs : List NumberedValue). let x : NumberedValue = record { place = k; set = p } in x ∷ xs) (take_numbered n (k + 1) ps)

drop_numbered : (n k : ℕ) (ps : List PlacedValue) → drop n (numbered_from k ps) ≡ numbered_from (k + n) (drop n ps)
drop_numbered zero k ps = ap (λ (j : ℕ). numbered_from j ps) (omega arith)
drop_numbered (suc n) k [] = refl
drop_numbered (suc n) k (p ∷ ps) =
    drop_numbered n (k + 1) ps ∙ ap (λ (j : ℕ). numbered_from j (drop n ps)) (omega arith)

begins_inside : (r : ℕ) (a b : RunKey) → begins (suc r) (Some a) b ≡ step (same_key a b)
begins_inside r a b = ap (λ (c : Bool). if c || not (same_key a b) then 1 else 0) (not_none r) ∙ by (same_key a b)
  where
    by : (c : Bool) → (if false || not c then 1 else 0) ≡ step c
    by true = refl
    by false = refl

module _ (partner : Partner) (acknowledgments groups : ℕ) where
  -- the number of set k, which stands in group g of those that the partner is sent
  abbrev pub numbers_at : (isa13 : List ℕ) → (g k : ℕ) → Numbers
  numbers_at i g k = i ∷ decimal (num partner.counters.group g) ∷ set_number (num partner.counters.set k) ∷ []

  abbrev pub in_group : (isa13 : List ℕ) → (g : ℕ) → List NumberedValue → List Numbers
  in_group i g xs = map (λ x. numbers_at i g x.place) xs

  -- of groups, the first of them as number g
  abbrev pub in_groups : (isa13 : List ℕ) → (g : ℕ) → List (List NumberedValue) → List Numbers
  in_groups i g [] = []
  in_groups i g (group ∷ more) = in_group i g group ++ in_groups i (g + 1) more

  -- of interchanges, the first of them as number k, after so many groups
  abbrev pub in_interchanges : (k g : ℕ) → List (List NumberedValue) → List Numbers
  in_interchanges k g [] = []
  in_interchanges k g (sets ∷ more) =
      in_groups (padded_number 9 (num partner.counters.interchange k)) g (groups_of sets)
      ++ in_interchanges (k + 1) (g + length (groups_of sets)) more

  -- set by set, after these
  abbrev pub numbers_from : (done : List PlacedValue) → List PlacedValue → List Numbers
  numbers_from done [] = []
  numbers_from done (p ∷ ps) = numbers_told (mailed_behind partner acknowledgments groups done p) ∷ numbers_from (done ++ p ∷ []) ps

  numbers_append : (done ps qs : List PlacedValue) → numbers_from done (ps ++ qs) ≡ numbers_from done ps ++ numbers_from (done ++ ps) qs
  numbers_append done [] qs = ap (λ (d : List PlacedValue). numbers_from d qs) (sym (append-nil done))
  numbers_append done (p ∷ ps) qs =
      ap (λ (ns : List Numbers). numbers_told (mailed_behind partner acknowledgments groups done p) ∷ ns)
      (numbers_append (done ++ p ∷ []) ps qs
      ∙ ap (λ (d : List PlacedValue). numbers_from (done ++ p ∷ []) ps ++ numbers_from d qs) (append_assoc done (p ∷ []) ps))

  -- the walk over the sets of one interchange
  abbrev walk : (isa13 : List ℕ) → (g k : ℕ) → PlacedValue → List PlacedValue → List Numbers
  walk i g k p [] = numbers_at i g k ∷ []
  walk i g k p (q ∷ qs) = numbers_at i g k ∷ walk i (g + step (same_key (group_key_of p) (group_key_of q))) (k + 1) q qs

  abbrev count : PlacedValue → List PlacedValue → ℕ
  count p [] = 1
  count p (q ∷ qs) = step (same_key (group_key_of p) (group_key_of q)) + count q qs

  module _ (i : List ℕ) where
    one_more : (x : NumberedValue) (group : List NumberedValue) (more : List (List NumberedValue)) (g : ℕ) (b : Bool)
        → in_groups i g (if b then (x ∷ group) ∷ more else (x ∷ []) ∷ group ∷ more)
        ≡ numbers_at i g x.place ∷ in_groups i (g + step b) (group ∷ more)
    one_more x group more g true =
        ap (λ (h : ℕ). numbers_at i g x.place ∷ in_groups i h (group ∷ more)) (omega arith)
    one_more x group more g false = refl

    onto_by : (x y : NumberedValue) (group : List NumberedValue) (more : List (List NumberedValue)) (g : ℕ) (c : Bool)
        → in_groups i g (onto_groups x (if c then (y ∷ group) ∷ more else (y ∷ []) ∷ group ∷ more))
        ≡ numbers_at i g x.place
        ∷ in_groups i (g + step (same_key (group_key_of x.set) (group_key_of y.set))) (if c then (y ∷ group) ∷ more else
        (y ∷ []) ∷ group ∷ more)
    onto_by x y group more g true = one_more x (y ∷ group) more g (same_key (group_key_of x.set) (group_key_of y.set))
    onto_by x y group more g false = one_more x (y ∷ []) (group ∷ more) g (same_key (group_key_of x.set) (group_key_of y.set))

    onto : (x y : NumberedValue) (some : List (List NumberedValue)) (g : ℕ)
        → in_groups i g (onto_groups x (onto_groups y some))
        ≡ numbers_at i g x.place ∷ in_groups i (g + step (same_key (group_key_of x.set) (group_key_of y.set))) (onto_groups y some)
    onto x y [] g = one_more x (y ∷ []) [] g (same_key (group_key_of x.set) (group_key_of y.set))
    onto x y (group ∷ more) g = onto_by x y group more g (goes_with y group)

    walked : (g k : ℕ) (p : PlacedValue) (ps : List PlacedValue) → in_groups i g (groups_of (numbered_from k (p ∷ ps))) ≡ walk i g k p ps
    walked g k p [] = refl
    walked g k p (q ∷ qs) =
        onto (record { place = k; set = p }) (record { place = k + 1; set = q }) (groups_of (numbered_from (k + 1 + 1) qs)) g
        ∙ ap (λ (ns : List Numbers). numbers_at i g k ∷ ns) (walked (g + step (same_key (group_key_of p) (group_key_of q))) (k + 1) q qs)

  length_more : (x : NumberedValue) (group : List NumberedValue) (more : List (List NumberedValue)) (b : Bool)
      → length (if b then (x ∷ group) ∷ more else (x ∷ []) ∷ group ∷ more) ≡ step b + length (group ∷ more)
  length_more x group more true = omega arith
  length_more x group more false = omega arith

  length_by : (x y : NumberedValue) (group : List NumberedValue) (more : List (List NumberedValue)) (c : Bool)
      → length (onto_groups x (if c then (y ∷ group) ∷ more else (y ∷ []) ∷ group ∷ more))
      ≡ step (same_key (group_key_of x.set) (group_key_of y.set)) + length (if c then (y ∷ group) ∷ more else (y ∷ []) ∷ group ∷ more)
  length_by x y group more true = length_more x (y ∷ group) more (same_key (group_key_of x.set) (group_key_of y.set))
  length_by x y group more false = length_more x (y ∷ []) (group ∷ more) (same_key (group_key_of x.set) (group_key_of y.set))

  length_onto : (x y : NumberedValue) (some : List (List NumberedValue))
      → length (onto_groups x (onto_groups y some)) ≡ step (same_key (group_key_of x.set) (group_key_of y.set)) + length
      (onto_groups y some)
  length_onto x y [] = length_more x (y ∷ []) [] (same_key (group_key_of x.set) (group_key_of y.set))
  length_onto x y (group ∷ more) = length_by x y group more (goes_with y group)

  counted : (k : ℕ) (p : PlacedValue) (ps : List PlacedValue) → length (groups_of (numbered_from k (p ∷ ps))) ≡ count p ps
  counted k p [] = refl
  counted k p (q ∷ qs) =
      length_onto (record { place = k; set = p }) (record { place = k + 1; set = q }) (groups_of (numbered_from (k + 1 + 1) qs))
      ∙ ap (λ (n : ℕ). step (same_key (group_key_of p) (group_key_of q)) + n) (counted (k + 1) q qs)

  module _ (least : 1 ≤ partner.cap) where
    abbrev total : List PlacedValue → ℕ
    total ps = group_total partner.cap ps

    -- one set more inside an interchange
    total_inside : (m r : ℕ) (done : List PlacedValue) (p q : PlacedValue) → length done ≡ m * partner.cap + r → suc r < partner.cap
        → total ((done ++ p ∷ []) ++ q ∷ []) ≡ total (done ++ p ∷ []) + step (same_key (group_key_of p) (group_key_of q))
    total_inside m r done p q long inside =
        let longer : length (done ++ p ∷ []) ≡ m * partner.cap + suc r =
        length-append done (p ∷ []) ∙ ap (λ (n : ℕ). n + 1) long ∙ omega arith in
        let left : length (done ++ p ∷ []) % partner.cap ≡ suc r =
        ap (λ (n : ℕ). n % partner.cap) longer ∙ mul-add-mod_self_right m partner.cap (suc r) ∙ mod-eq_of_lt inside in
        group_total_snoc partner.cap (done ++ p ∷ []) q least
        ∙ ap (λ (n : ℕ). total (done ++ p ∷ []) + begins n (last_key (done ++ p ∷ [])) (group_key_of q)) left
        ∙ ap (λ (l : Option RunKey). total (done ++ p ∷ []) + begins (suc r) l (group_key_of q)) (last_snoc done p)
        ∙ ap (λ (n : ℕ). total (done ++ p ∷ []) + n) (begins_inside r (group_key_of p) (group_key_of q))

    -- the first set of an interchange
    total_first : (m : ℕ) (done : List PlacedValue) (p : PlacedValue) → length done ≡ m * partner.cap
        → total (done ++ p ∷ []) ≡ total done + 1
    total_first m done p long =
        let whole : length done ≡ m * partner.cap + 0 = long ∙ omega arith in
        let left : length done % partner.cap ≡ 0 =
        ap (λ (n : ℕ). n % partner.cap) whole ∙ mul-add-mod_self_right m partner.cap 0 ∙ mod-eq_of_lt (omega (arith, least)) in
        group_total_snoc partner.cap done p least ∙ ap (λ (n : ℕ). total done + begins n (last_key done) (group_key_of p)) left

    -- one set of an interchange
    one_set : (m r g : ℕ) (done : List PlacedValue) (p : PlacedValue) → length done ≡ m * partner.cap + r → r < partner.cap
        → 1 ≤ total (done ++ p ∷ []) → groups + total (done ++ p ∷ []) ≡ g + 1
        → numbers_told (mailed_behind partner acknowledgments groups done p)
        ≡ numbers_at (padded_number 9 (num partner.counters.interchange (acknowledgments + m))) g (length done)
    one_set m r g done p long within some is =
        let interchange : length done / partner.cap ≡ m = ap (λ (n : ℕ). n / partner.cap) long ∙ div-mul-add m partner.cap r within in
        let group : groups + (total (done ++ p ∷ []) - 1) ≡ g = omega (arith, some, is) in
        ap (λ (n : ℕ). padded_number 9 (num partner.counters.interchange (acknowledgments + n))
        ∷ decimal (num partner.counters.group (groups + (total (done ++ p ∷ []) - 1)))
        ∷ set_number (num partner.counters.set (length done)) ∷ []) interchange
        ∙ ap (λ (n : ℕ). numbers_at (padded_number 9 (num partner.counters.interchange (acknowledgments + m))) n (length done)) group

    -- the sets of an interchange, set by set
    one_by_one : (m r g : ℕ) (done : List PlacedValue) (p : PlacedValue) (ps : List PlacedValue) → length done ≡ m * partner.cap + r
        → r + length (p ∷ ps) ≤ partner.cap → 1 ≤ total (done ++ p ∷ []) → groups + total (done ++ p ∷ []) ≡ g + 1
        → (numbers_from done (p ∷ ps)
        ≡ walk (padded_number 9 (num partner.counters.interchange (acknowledgments + m))) g (length done) p ps)
        × (groups + total (done ++ p ∷ ps) ≡ g + count p ps)
    one_by_one m r g done p [] long few some is =
        (ap (λ (n : Numbers). n ∷ []) (one_set m r g done p long (omega (arith, few)) some is), is)
    one_by_one m r g done p (q ∷ qs) long few some is =
        let i : List ℕ = padded_number 9 (num partner.counters.interchange (acknowledgments + m)) in
        let same : ℕ = step (same_key (group_key_of p) (group_key_of q)) in
        let more : total ((done ++ p ∷ []) ++ q ∷ []) ≡ total (done ++ p ∷ []) + same =
        total_inside m r done p q long (omega (arith, few)) in
        let longer : length (done ++ p ∷ []) ≡ m * partner.cap + (r + 1) =
        length-append done (p ∷ []) ∙ ap (λ (n : ℕ). n + 1) long ∙ omega arith in
        let rest = one_by_one m (r + 1) (g + same) (done ++ p ∷ []) q qs longer (omega (arith, few)) (omega (arith, some, more))
        (omega (arith, is, more)) in (
          ap (λ (n : Numbers). n ∷ numbers_from (done ++ p ∷ []) (q ∷ qs)) (one_set m r g done p long (omega (arith, few)) some is)
              ∙ ap (λ (ns : List Numbers). numbers_at i g (length done) ∷ ns) (rest.0
              ∙ ap (λ (k : ℕ). walk i (g + same) k q qs) (length-append done (p ∷ []))),
          ap (λ (all : List PlacedValue). groups + total all) (sym (append_assoc done (p ∷ []) (q ∷ qs))) ∙ rest.1 ∙ omega arith,
        )

    -- interchange by interchange
    pub laid_out : (fuel m : ℕ) (done qs : List PlacedValue) → length qs ≤ fuel → length done ≡ m * partner.cap
        → in_interchanges (acknowledgments + m) (groups + total done) (interchanges_of partner.cap (numbered_from (length done) qs))
        ≡ numbers_from done qs
    laid_out fuel m done [] few long =
        ap (in_interchanges (acknowledgments + m) (groups + total done)) (no_interchange partner.cap [] refl)
    laid_out zero m done (p ∷ ps) few long = absurd (omega (arith, few))
    laid_out (suc fuel) m done (p ∷ ps) few long =
        ap (in_interchanges (acknowledgments + m) (groups + total done)) parted
        ∙ ap (λ (ns : List Numbers). ns ++ in_interchanges (acknowledgments + m + 1) (groups + total done
        + length (groups_of (numbered_from (length done) (p ∷ ys)))) (interchanges_of partner.cap (numbered_from (length done + partner.cap)
        zs))) here
        ∙ ap (λ (ns : List Numbers). numbers_from done (p ∷ ys) ++ ns) (by_rest (laid_out fuel (suc m)) zs refl)
        ∙ sym (numbers_append done (p ∷ ys) zs)
        ∙ ap (numbers_from done) (ap (λ (xs : List PlacedValue). xs ++ zs) (sym taken) ∙ take-append-drop partner.cap (p ∷ ps))
      where
        ys : List PlacedValue
        ys = take (partner.cap - 1) ps

        zs : List PlacedValue
        zs = drop partner.cap (p ∷ ps)

        taken : take partner.cap (p ∷ ps) ≡ p ∷ take (partner.cap - 1) ps
        taken = take_some partner.cap p ps least

        xs : List NumberedValue
        xs = numbered_from (length done) (p ∷ ps)

        parted : interchanges_of partner.cap (numbered_from (length done) (p ∷ ps))
            ≡ numbered_from (length done) (p ∷ take (partner.cap - 1) ps)
            ∷ interchanges_of partner.cap (numbered_from (length done + partner.cap) (drop partner.cap (p ∷ ps)))
        parted =
            first_interchange partner.cap (numbered_from (length done) (p ∷ ps)) (omega (arith, least)) (omega arith)
            ∙ ap (λ (c : List NumberedValue). c ∷ interchanges_of partner.cap (drop partner.cap (numbered_from (length done) (p ∷ ps))))
            (take_numbered partner.cap (length done) (p ∷ ps) ∙ ap (numbered_from (length done)) taken)
            ∙ ap (λ (c : List NumberedValue). numbered_from (length done) (p ∷ take (partner.cap - 1) ps) ∷ interchanges_of partner.cap c)
            (drop_numbered partner.cap (length done) (p ∷ ps))

        g : ℕ
        g = groups + total done

        begun : total (done ++ p ∷ []) ≡ total done + 1
        begun = total_first m done p long

        chunk : (numbers_from done (p ∷ take (partner.cap - 1) ps)
            ≡ walk (padded_number 9 (num partner.counters.interchange (acknowledgments + m))) (groups + total done) (length done) p
            (take (partner.cap - 1) ps))
            × (groups + total (done ++ p ∷ take (partner.cap - 1) ps) ≡ groups + total done + count p (take (partner.cap - 1) ps))
        chunk = one_by_one m 0 (groups + total done) done p (take (partner.cap - 1) ps) (long ∙ omega arith)
            (omega (arith, least, length-take (partner.cap - 1) ps)) (omega (arith, begun)) (omega (arith, begun))

        here : in_groups (padded_number 9 (num partner.counters.interchange (acknowledgments + m))) (groups + total done)
            (groups_of (numbered_from (length done) (p ∷ take (partner.cap - 1) ps))) ≡ numbers_from done (p ∷ take (partner.cap - 1) ps)
        here = walked (padded_number 9 (num partner.counters.interchange (acknowledgments + m))) (groups + total done) (length done) p
            (take (partner.cap - 1) ps) ∙ sym chunk.0

        by_rest : ((before rs : List PlacedValue) → length rs ≤ fuel → length before ≡ suc m * partner.cap
            → in_interchanges (acknowledgments + suc m) (groups + total before)
            (interchanges_of partner.cap (numbered_from (length before) rs)) ≡ numbers_from before rs)
            → (rest : List PlacedValue) → drop partner.cap (p ∷ ps) ≡ rest
            → in_interchanges (acknowledgments + m + 1)
            (groups + total done + length (groups_of (numbered_from (length done) (p ∷ take (partner.cap - 1) ps))))
            (interchanges_of partner.cap (numbered_from (length done + partner.cap) (drop partner.cap (p ∷ ps))))
            ≡ numbers_from (done ++ p ∷ take (partner.cap - 1) ps) (drop partner.cap (p ∷ ps))
        by_rest later [] none =
            let n : ℕ = groups + total done + length (groups_of (numbered_from (length done) (p ∷ take (partner.cap - 1) ps))) in
            ap (λ (rs : List PlacedValue). in_interchanges (acknowledgments + m + 1) n (interchanges_of partner.cap
            (numbered_from (length done + partner.cap) rs))) none
            ∙ ap (in_interchanges (acknowledgments + m + 1) n) (no_interchange partner.cap [] refl)
            ∙ ap (numbers_from (done ++ p ∷ take (partner.cap - 1) ps)) (sym none)
        by_rest later (z ∷ rest) some =
            let all : List PlacedValue = p ∷ take (partner.cap - 1) ps in
            let left : 0 < length (drop partner.cap (p ∷ ps)) =
            omega (arith, ap (λ (rs : List PlacedValue). length rs) some) in
            let many : length all ≡ partner.cap =
            omega (arith, least, left, length-drop partner.cap (p ∷ ps), length-take (partner.cap - 1) ps) in
            let longer : length (done ++ all) ≡ length done + partner.cap =
            length-append done all ∙ ap (λ (n : ℕ). length done + n) many in
            let next : length (done ++ all) ≡ suc m * partner.cap =
            longer ∙ ap (λ (n : ℕ). n + partner.cap) long ∙ omega arith in
            let n : ℕ = groups + total done + length (groups_of (numbered_from (length done) all)) in
            let so_many : n ≡ groups + total (done ++ all) =
            ap (λ (c : ℕ). groups + total done + c) (counted (length done) p (take (partner.cap - 1) ps)) ∙ sym chunk.1 in
            let number : acknowledgments + m + 1 ≡ acknowledgments + suc m = omega arith in
            ap (λ (j : ℕ). in_interchanges (acknowledgments + m + 1) n (interchanges_of partner.cap (numbered_from j (drop partner.cap
            (p ∷ ps))))) (sym longer)
            ∙ ap (λ (j : ℕ). in_interchanges j n (interchanges_of partner.cap (numbered_from (length (done ++ all)) (drop partner.cap
            (p ∷ ps))))) number
            ∙ ap (λ (j : ℕ). in_interchanges (acknowledgments + suc m) j (interchanges_of partner.cap (numbered_from (length (done ++ all))
            (drop partner.cap (p ∷ ps))))) so_many
            ∙ later (done ++ all) (drop partner.cap (p ∷ ps))
            (omega (arith, few, least, length-drop partner.cap (p ∷ ps))) next
