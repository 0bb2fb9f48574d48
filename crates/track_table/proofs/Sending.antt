-- What is sent to partners before their mailboxes, with an interchange more.
use Rattle.std.proofs.Common.{◌≡◌, ◌<◌, ℕ, ◌+◌, ◌==◌, Bool, true, false, ◌&&◌, List, [], ◌∷◌, ◌++◌}
use Rattle.std.proofs.Common.{Some, if◌then◌else◌, length, refl, sym, ap, ◌∙◌, arith, eqb-true, eq-eqb, true≢false}
use Rattle.std.specs.Prelude.{slice_get, slice_set}
use Rattle.std.specs.List.{count_by}
use Rattle.std.proofs.Common.{cond}
use Rattle.std.proofs.lemmas.List.Sums.{sum_by-append}
use Rattle.std.proofs.lemmas.Option.{slice_get_within}
use Rattle.mailbox.proofs.ForAbove.{length_set, set_here, set_there}
use Rattle.track_table.specs.declared.notes.Notes.{Notes}
use Rattle.track_table.specs.Mailed.{acknowledgments_to, groups_to, is_to}
use Rattle.track_table.specs.Walking.{AreSent, with_one}
use Rattle.track_table.specs.declared.sent.Sent.{Sent}

abbrev one_if : Bool → ℕ
one_if b = if b then 1 else 0

none_and : (k : ℕ) → 0 + k ≡ k
none_and k = omega arith

count_more : (test : Notes → Bool) (xs : List Notes) (m : Notes) → count_by test (xs ++ m ∷ []) ≡ count_by test xs + one_if (test m)
count_more test xs m =
    sum_by-append (λ x. cond (test x) 1 0) xs (m ∷ [])
    ∙ ap (λ (n : ℕ). count_by test xs + n) (none_and (cond (test m) 1 0))

-- nothing is sent to those that are no recipients
pub others_keep : (n : ℕ) (xs : List Notes) (m : Notes) (sent : List Sent)
    → ((q : ℕ) → q < n → is_to q m.recipient ≡ false) → AreSent n xs sent → AreSent n (xs ++ m ∷ []) sent
others_keep n xs m sent none are = record {
  count = are.count;
  each = λ q s at.
      let within : q < n = omega (arith, slice_get_within sent q s at, are.count) in
      let had = are.each q s at in
      let first : acknowledgments_to q (xs ++ m ∷ []) ≡ acknowledgments_to q xs + 0 =
      count_more (λ x. is_to q x.recipient) xs m ∙ ap (λ (b : Bool). acknowledgments_to q xs + one_if b) (none q within) in
      let second : groups_to q (xs ++ m ∷ []) ≡ groups_to q xs + 0 =
      count_more (λ x. is_to q x.recipient && x.has_reports) xs m
      ∙ ap (λ (b : Bool). groups_to q xs + one_if (b && m.has_reports)) (none q within) in
      (omega (arith, had.0, first), omega (arith, had.1, second));
}

-- one acknowledgment more is sent to its recipient
pub recipient_gets : (n place : ℕ) (xs : List Notes) (m : Notes) (old new : List Sent) (was is : Sent) → m.recipient ≡ Some place
    → slice_get old place ≡ Some was → is ≡ with_one was m.has_reports → new ≡ slice_set old place is → AreSent n xs old
    → AreSent n (xs ++ m ∷ []) new
recipient_gets n place xs m old new was is to at more set are = record {
  count = ap (λ (ss : List Sent). length ss) set ∙ length_set old place is ∙ are.count;
  each = λ q s there. by q s there (place == q) refl;
}
  where
    counted : (b : Bool) (k j : ℕ) → j ≡ k → (if b then j + 1 else j) ≡ k + one_if b
    counted true k j e = omega (arith, e)
    counted false k j e = omega (arith, e)

    by : (q : ℕ) (s : Sent) → slice_get new q ≡ Some s → (b : Bool) → (place == q) ≡ b
        → (s.acknowledgments ≡ acknowledgments_to q (xs ++ m ∷ [])) × (s.groups ≡ groups_to q (xs ++ m ∷ []))
    by q s there true same =
        let here : place ≡ q = eqb-true place q same in
        let had = are.each place was at in
        let told : is_to q m.recipient ≡ true = ap (is_to q) to ∙ same in
        let found : Some is ≡ Some s =
        sym (ap (λ (ss : List Sent). slice_get ss place) set ∙ set_here old place was is at) ∙ ap (slice_get new) here ∙ there in
        let is_s : is ≡ s = cc in
        let first : acknowledgments_to q (xs ++ m ∷ []) ≡ acknowledgments_to q xs + 1 =
        count_more (λ x. is_to q x.recipient) xs m ∙ ap (λ (b : Bool). acknowledgments_to q xs + one_if b) told in
        let second : groups_to q (xs ++ m ∷ []) ≡ groups_to q xs + one_if m.has_reports =
        count_more (λ x. is_to q x.recipient && x.has_reports) xs m
        ∙ ap (λ (b : Bool). groups_to q xs + one_if (b && m.has_reports)) told in (
          sym (ap (λ (t : Sent). t.acknowledgments) is_s) ∙ ap (λ (t : Sent). t.acknowledgments) more
              ∙ ap (λ (k : ℕ). k + 1) (had.0 ∙ ap (λ (k : ℕ). acknowledgments_to k xs) here) ∙ sym first,
          sym (ap (λ (t : Sent). t.groups) is_s) ∙ ap (λ (t : Sent). t.groups) more
              ∙ counted m.has_reports (groups_to q xs) was.groups (had.1 ∙ ap (λ (k : ℕ). groups_to k xs) here) ∙ sym second,
        )
    by q s there false apart =
        let old_is : slice_get old q ≡ Some s =
        sym (ap (λ (ss : List Sent). slice_get ss q) set
        ∙ set_there old place q is (λ e. true≢false (sym (eq-eqb place q e) ∙ apart))) ∙ there in
        let had = are.each q s old_is in
        let told : is_to q m.recipient ≡ false = ap (is_to q) to ∙ apart in
        let first : acknowledgments_to q (xs ++ m ∷ []) ≡ acknowledgments_to q xs + 0 =
        count_more (λ x. is_to q x.recipient) xs m ∙ ap (λ (b : Bool). acknowledgments_to q xs + one_if b) told in
        let second : groups_to q (xs ++ m ∷ []) ≡ groups_to q xs + 0 =
        count_more (λ x. is_to q x.recipient && x.has_reports) xs m
        ∙ ap (λ (b : Bool). groups_to q xs + one_if (b && m.has_reports)) told in
        (omega (arith, had.0, first), omega (arith, had.1, second))

pub apart : (a b : ℕ) → (a ≡ b → ⊥) → (a == b) ≡ false
apart a b other = by (a == b) refl
  where
    by : (c : Bool) → (a == b) ≡ c → (a == b) ≡ false
    by true e = absurd (other (eqb-true a b e))
    by false e = e
