-- The first numbers of partners' mailboxes, with a partner more.
use Rattle.std.proofs.Common.{◌≡◌, ◌<◌, ◌⊎◌, inl, inr, ℕ, zero, suc, ◌+◌, List, [], ◌∷◌, ◌++◌, Some, length}
use Rattle.std.proofs.Common.{refl, sym, ap, subst, ◌∙◌, arith, All, length-append}
use Rattle.std.proofs.lemmas.List.Elements.{All-get_or}
use Rattle.std.proofs.lemmas.Option.{get_or_from_slice_get}
use Rattle.partner_setup.specs.Sound.{IsSoundPartner}
use Rattle.mailbox.proofs.ForAbove.{there_is}
use Rattle.track_table.proofs.Chunks.{total_none}
use Rattle.track_table.specs.Rows.{TrackedBy}
use Rattle.std.specs.Prelude.{slice_get}
use Rattle.count_numbers.specs.Num.{num}
use Rattle.partner_setup.specs.declared.partner.Partner.{Partner}
use Rattle.track_table.specs.Walking.{AreBehind, AreFirst, AreSent, CursorValue, first_cursor}
use Rattle.track_table.specs.declared.sent.Sent.{Sent}

last_or_before : {B : Type 0} (ys : List B) (y z : B) (n : ℕ) → slice_get (ys ++ y ∷ []) n ≡ Some z
    → (slice_get ys n ≡ Some z) ⊎ ((n ≡ length ys) × (y ≡ z))
last_or_before [] y z zero is = inr (refl, let e : y ≡ z = cc in e)
last_or_before [] y z (suc n) is = cc
last_or_before (x ∷ ys) y z zero is = inl is
last_or_before (x ∷ ys) y z (suc n) is = step (last_or_before ys y z n is)
  where
    step : (slice_get ys n ≡ Some z) ⊎ ((n ≡ length ys) × (y ≡ z)) → (slice_get ys n ≡ Some z) ⊎ ((suc n ≡ suc (length ys)) × (y ≡ z))
    step (inl e) = inl e
    step (inr e) = inr (ap suc e.0, e.1)

within : {B : Type 0} (ys : List B) (z : B) (n : ℕ) → slice_get ys n ≡ Some z → n < length ys
within [] z n is = cc
within (y ∷ ys) z zero is = omega arith
within (y ∷ ys) z (suc n) is = omega (arith, within ys z n is)

pub first_more : (partners : List Partner) (partner : Partner) (sent : List Sent) (s : Sent) (cs : List CursorValue) (c : CursorValue)
    → slice_get sent (length partners) ≡ Some s
    → c ≡ first_cursor (num partner.counters.interchange s.acknowledgments) (num partner.counters.group s.groups) partner.counters.set
    partner.cap
    → AreFirst partners sent cs → AreFirst (partners ++ partner ∷ []) sent (cs ++ c ∷ [])
first_more partners partner sent s cs c there is are = record {
  count = length-append cs (c ∷ []) ∙ ap (λ (n : ℕ). n + 1) are.count ∙ sym (length-append partners (partner ∷ []));
  each = λ q p t d at_p at_s at_c. by q p t d at_s (last_or_before partners partner p q at_p) (last_or_before cs c d q at_c);
}
  where
    Goal : Partner → Sent → CursorValue → Type 0
    Goal p t d = d ≡ first_cursor (num p.counters.interchange t.acknowledgments) (num p.counters.group t.groups) p.counters.set p.cap

    by : (q : ℕ) (p : Partner) (t : Sent) (d : CursorValue) → slice_get sent q ≡ Some t
        → (slice_get partners q ≡ Some p) ⊎ ((q ≡ length partners) × (partner ≡ p))
        → (slice_get cs q ≡ Some d) ⊎ ((q ≡ length cs) × (c ≡ d)) → Goal p t d
    by q p t d at_s (inl at_p) (inl at_c) = are.each q p t d at_p at_s at_c
    by q p t d at_s (inl at_p) (inr last) = absurd (omega (arith, within partners p q at_p, last.0, are.count))
    by q p t d at_s (inr last) (inl at_c) = absurd (omega (arith, within cs d q at_c, last.0, are.count))
    by q p t d at_s (inr last) (inr same) =
        let some : Some s ≡ Some t = sym there ∙ sym (ap (slice_get sent) last.0) ∙ at_s in
        let sent_is : s ≡ t = cc in
        subst (λ (r : Partner). Goal r t d) last.1 (subst (λ (u : Sent). Goal partner u d) sent_is (subst (Goal partner s) same.1 is))

at_index : {A : Type 0} (P : A → Type 0) (xs : List A) (i : ℕ) (x : A) → slice_get xs i ≡ Some x → All P xs → P x
at_index P xs i x is all = subst P (get_or_from_slice_get xs i x x is) (All-get_or P xs i x (within xs x i is) all)

-- before any set
pub behind_first : (by : TrackedBy) (guides : ℕ) (partners : List Partner) (sent : List Sent) (cs : List CursorValue)
    → partners ≡ by.setup.partners → All (IsSoundPartner guides) partners → AreSent (length partners) by.night sent
    → AreFirst partners sent cs → AreBehind by [] cs
behind_first by guides partners sent cs same sound are first = record {
  count = first.count ∙ ap (λ (ps : List Partner). length ps) same;
  each = λ q partner c at_q at_c.
      let at_p : slice_get partners q ≡ Some partner = ap (λ (ps : List Partner). slice_get ps q) same ∙ at_q in
      let s = there_is sent q (omega (arith, within partners partner q at_p, are.count)) in
      let is = first.each q partner s.0 c at_p s.1 at_c in
      let had = are.each q s.0 s.1 in
      record {
        interchange = ap (λ (d : CursorValue). d.interchange) is ∙ ap (num partner.counters.interchange) had.0;
        group = ap (λ (d : CursorValue). d.group) is ∙ ap (num partner.counters.group) had.1;
        set = ap (λ (d : CursorValue). d.set) is;
        cap = ap (λ (d : CursorValue). d.cap) is;
        set_count = ap (λ (d : CursorValue). d.sets) is;
        counted = ap (λ (d : CursorValue). d.groups) is ∙ sym (total_none partner.cap);
        least = (at_index (IsSoundPartner guides) partners q partner at_p sound).cap_least;
        last = ap (λ (d : CursorValue). d.last) is;
      };
}
