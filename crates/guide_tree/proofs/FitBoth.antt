-- Whether a segment can fit two slots doesn't depend on which is first.
use Rattle.std.proofs.Common.{◌≡◌, ℕ, eqb, inl, inr, Bool, true, false, not, List, refl}
use Rattle.std.proofs.Common.{sym, ap, ◌∙◌, arith}
use Rattle.std.proofs.lemmas.Bool.{and_parts, and_from, or_cases, or_left, or_right}
use Rattle.std.proofs.lemmas.Bool.Decides.{nat_tests}
use Rattle.std.proofs.lemmas.Slice.Eq.{bytes_eq-Decides}
use Rattle.std.specs.List.{list_all}
use Rattle.std.specs.Str.{bytes_eq}
use Rattle.guide_tree.specs.declared.slot.Slot.{Slot}
use Rattle.guide_tree.specs.declared.slot.Pick.{Pick}
use Rattle.hub_kinds.specs.Words.{contains_text}
use Rattle.guide_tree.specs.Segments.{Segment, element_at, segment_id, fits, share_text, agree, can_fit_both}
use Rattle.guide_tree.proofs.Among.{any_found, found_any, all_at, each_all}

bytes_eq-comm : (x y : List ℕ) → bytes_eq x y ≡ true → bytes_eq y x ≡ true
bytes_eq-comm x y h = (bytes_eq-Decides y x).1 (sym ((bytes_eq-Decides x y).0 h))

share_comm : (xs ys : List (List ℕ)) → share_text xs ys ≡ true → share_text ys xs ≡ true
share_comm xs ys h =
    let y = any_found (contains_text xs) ys h in
    let x = any_found (λ t. bytes_eq t y.one) xs y.passes in
    found_any (contains_text ys) xs x.one x.among
    (found_any (λ t. bytes_eq t x.one) ys y.one y.among (bytes_eq-comm x.one y.one x.passes))

eqb_comm : (m n : ℕ) → eqb m n ≡ eqb n m
eqb_comm m n = grind (arith, nat_tests)

agree_comm : (p q : Pick) → agree p q ≡ true → agree q p ≡ true
agree_comm p q h = elim (or_cases (not (eqb p.position q.position)) (share_text p.codes q.codes) h) [
  | inl e ↦ or_left (not (eqb q.position p.position)) (share_text q.codes p.codes)
      (ap not (eqb_comm q.position p.position) ∙ e)
  | inr e ↦ or_right (not (eqb q.position p.position)) (share_text q.codes p.codes) (share_comm p.codes q.codes e)
]

pub can_fit_both-comm : (s t : Slot) → can_fit_both s t ≡ true → can_fit_both t s ≡ true
can_fit_both-comm s t h =
    let b = and_parts (bytes_eq s.id t.id) (list_all (λ p. list_all (agree p) t.picks) s.picks) h in
    and_from (bytes_eq t.id s.id) (list_all (λ p. list_all (agree p) s.picks) t.picks) (bytes_eq-comm s.id t.id b.0)
    (each_all (λ p. list_all (agree p) s.picks) t.picks (λ q i. each_all (agree q) s.picks (λ p j.
    agree_comm p q (all_at (agree p) t.picks q (all_at (λ x. list_all (agree x) t.picks) s.picks p b.1 j) i))))

-- a segment that two picks let through has an element by which they agree
both_agree : (p q : Pick) (s : Segment) (t : Bool) → eqb p.position q.position ≡ t
    → contains_text p.codes (element_at s p.position) ≡ true
    → contains_text q.codes (element_at s q.position) ≡ true → agree p q ≡ true
both_agree p q s false e h k = or_left (not (eqb p.position q.position)) (share_text p.codes q.codes) (ap not e)
both_agree p q s true e h k =
    let same : p.position ≡ q.position = grind (arith, nat_tests) in
    let y = any_found (λ t. bytes_eq t (element_at s q.position)) q.codes k in
    let is : element_at s p.position ≡ y.one =
    ap (element_at s) same ∙ sym ((bytes_eq-Decides y.one (element_at s q.position)).0 y.passes) in
    or_right (not (eqb p.position q.position)) (share_text p.codes q.codes)
    (found_any (contains_text p.codes) q.codes y.one y.among (ap (contains_text p.codes) (sym is) ∙ h))

-- a segment that fits two slots can
pub fits_both : (x y : Slot) (s : Segment) → fits x s ≡ true → fits y s ≡ true → can_fit_both x y ≡ true
fits_both x y s f g =
    let a =
    and_parts (bytes_eq x.id (segment_id s)) (list_all (λ p. contains_text p.codes (element_at s p.position)) x.picks) f in
    let b =
    and_parts (bytes_eq y.id (segment_id s)) (list_all (λ p. contains_text p.codes (element_at s p.position)) y.picks) g in
    and_from (bytes_eq x.id y.id) (list_all (λ p. list_all (agree p) y.picks) x.picks)
    ((bytes_eq-Decides x.id y.id).1 ((bytes_eq-Decides x.id (segment_id s)).0 a.0
    ∙ sym ((bytes_eq-Decides y.id (segment_id s)).0 b.0)))
    (each_all (λ p. list_all (agree p) y.picks) x.picks (λ p i. each_all (agree p) y.picks (λ q j.
    both_agree p q s (eqb p.position q.position) refl
    (all_at (λ z. contains_text z.codes (element_at s z.position)) x.picks p a.1 i)
    (all_at (λ z. contains_text z.codes (element_at s z.position)) y.picks q b.1 j))))
