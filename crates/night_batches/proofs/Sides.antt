-- What is closed for partners one after the other.
use Rattle.std.proofs.Common.{◌≡◌, ℕ, zero, suc, ◌+◌, ◌-◌, ◌<◌, List, [], ◌∷◌, ◌++◌, Some, length, refl, sym, ap, subst, ◌∙◌, arith}
use Rattle.std.proofs.Common.{get_or, map, inl, inr, length-append}
use Rattle.std.specs.Prelude.{slice_get, slice_index_or}
use Rattle.std.proofs.lemmas.Bool.{cases_lt}
use Rattle.std.proofs.lemmas.Option.{get_or_from_slice_get, slice_get-get_or, slice_get_read, slice_get_within}
use Rattle.hub_kinds.specs.declared.counters.Counters.{Counters}
use Rattle.partner_setup.specs.declared.partner.Partner.{Partner}
use Rattle.partner_setup.specs.Setup.{SetupValue}
use Rattle.mailbox.specs.Rendered.{RenderedValue}
use Rattle.set_answers.specs.CheckedText.{SentValues}
use Rattle.night_batches.specs.ByPlace.{AreClosedFrom, box_behind, box_by, next_behind, next_by, sent_at, sets_at}
use Rattle.night_report.specs.Told.{told_text}
use Rattle.night_batches.specs.declared.night.Night.{Night}
use Rattle.night_batches.specs.Night.{AreForPartners}
use Rattle.night_batches.specs.Writing.{IsClosedBy, WritingValue}

-- an item that was read is the one at its place
pub read_at : {A : Type 0} (xs : List A) (i : ℕ) (x d : A) → i < length xs → x ≡ get_or xs i x → x ≡ slice_index_or xs i d
read_at xs i x d within is = sym (get_or_from_slice_get xs i x d (slice_get_read xs (length xs) i x refl within is))

get_front : {A : Type 0} (xs ys : List A) (k : ℕ) → k < length xs → slice_get (xs ++ ys) k ≡ slice_get xs k
get_front [] ys k within = absurd (omega (arith, within))
get_front (x ∷ xs) ys zero within = refl
get_front (x ∷ xs) ys (suc k) within = get_front xs ys k (omega (arith, within))

get_behind : {A : Type 0} (xs ys : List A) (k n : ℕ) → k ≡ length xs + n → slice_get (xs ++ ys) k ≡ slice_get ys n
get_behind {A} [] ys k n is = ap (slice_get ys) (omega (arith, is))
get_behind (x ∷ xs) ys zero n is = absurd (omega (arith, is))
get_behind (x ∷ xs) ys (suc k) n is = get_behind xs ys k n (omega (arith, is))

-- what a function gives for the sets of each partner, by its place
abbrev GivesFrom : {A : Type 0} → SetupValue → (ℕ → List RenderedValue → Partner → A) → (from : ℕ) → List (List RenderedValue) → List A
    → Type 0
GivesFrom {A} setup f from boxes xs =
    (k : ℕ) (p : Partner) (sets : List RenderedValue) → slice_get setup.partners (from + k) ≡ Some p → slice_get boxes k ≡ Some sets
    → slice_get xs k ≡ Some (f (from + k) sets p)

gives_both : {A : Type 0} (setup : SetupValue) (f : ℕ → List RenderedValue → Partner → A) (from : ℕ) (bs cs : List (List RenderedValue))
    (xs ys : List A) → length xs ≡ length bs → GivesFrom setup f from bs xs → GivesFrom setup f (from + length bs) cs ys
    → GivesFrom setup f from (bs ++ cs) (xs ++ ys)
gives_both {A} setup f from bs cs xs ys count first second k p sets at_p at_sets = elim (cases_lt k (length bs)) [
  | inl within ↦
      get_front xs ys k (omega (arith, within, count))
      ∙ first k p sets at_p (sym (get_front bs cs k within) ∙ at_sets)
  | inr past ↦
      let n : ℕ = k - length bs in
      let is : k ≡ length bs + n = omega (arith, past) in
      let place : from + k ≡ from + length bs + n = omega (arith, past) in
      get_behind xs ys k n (omega (arith, past, count))
      ∙ second n p sets (subst (λ (m : ℕ). slice_get setup.partners m ≡ Some p) place at_p) (sym (get_behind bs cs k n is) ∙ at_sets)
      ∙ ap (λ (m : ℕ). Some (f m sets p)) (sym place)
]

gives_one : {A : Type 0} (setup : SetupValue) (f : ℕ → List RenderedValue → Partner → A) (from : ℕ) (sets : List RenderedValue) (x : A)
    → ((p : Partner) → slice_get setup.partners from ≡ Some p → x ≡ f from sets p) → GivesFrom setup f from (sets ∷ []) (x ∷ [])
gives_one {A} setup f from sets x is zero p these at_p at_sets =
    let place : from + 0 ≡ from = omega arith in
    let same : sets ≡ these = cc in
    ap (λ (y : A). Some y) (is p (subst (λ (m : ℕ). slice_get setup.partners m ≡ Some p) place at_p)
    ∙ ap (λ (ss : List RenderedValue). f from ss p) same ∙ ap (λ (m : ℕ). f m these p) (sym place))
gives_one setup f from sets x is (suc k) p these at_p at_sets = cc

pub closed_both : (setup : SetupValue) (at : List ℕ) (files : List SentValues) (from : ℕ) (bs cs : List (List RenderedValue))
    (ts us : List (List ℕ)) (xs ys : List Counters) → AreClosedFrom setup at files from bs ts xs
    → AreClosedFrom setup at files (from + length bs) cs us ys → AreClosedFrom setup at files from (bs ++ cs) (ts ++ us) (xs ++ ys)
closed_both setup at files from bs cs ts us xs ys first second = record {
  texts_count = length-append ts us ∙ (let a = first.texts_count in let b = second.texts_count in omega (arith, a, b))
      ∙ sym (length-append bs cs);
  counters_count = length-append xs ys ∙ (let a = first.counters_count in let b = second.counters_count in omega (arith, a, b))
      ∙ sym (length-append bs cs);
  text = gives_both setup (λ n sets p. box_behind setup at (sent_at files n) sets p) from bs cs ts us first.texts_count first.text
      second.text;
  next = gives_both setup (λ n sets p. next_behind (sent_at files n) sets p) from bs cs xs ys first.counters_count first.next second.next;
}

pub closed_none : (setup : SetupValue) (at : List ℕ) (files : List SentValues) (from : ℕ) → AreClosedFrom setup at files from [] [] []
closed_none setup at files from = record {
  texts_count = refl;
  counters_count = refl;
  text = λ k p sets at_p at_sets. cc;
  next = λ k p sets at_p at_sets. cc;
}

-- one partner more
pub closed_more : (setup : SetupValue) (at : List ℕ) (files : List SentValues) (from place : ℕ) (done : List (List RenderedValue))
    (sets : List RenderedValue) (ts : List (List ℕ)) (xs : List Counters) (text : List ℕ) (next : Counters)
    → place ≡ from + length done
    → ((p : Partner) → slice_get setup.partners place ≡ Some p → text ≡ box_behind setup at (sent_at files place) sets p)
    → ((p : Partner) → slice_get setup.partners place ≡ Some p → next ≡ next_behind (sent_at files place) sets p)
    → AreClosedFrom setup at files from done ts xs
    → AreClosedFrom setup at files from (done ++ sets ∷ []) (ts ++ text ∷ []) (xs ++ next ∷ [])
closed_more setup at files from place done sets ts xs text next is texts counters before =
    closed_both setup at files from done (sets ∷ []) ts (text ∷ []) xs (next ∷ []) before
    (subst (λ (n : ℕ). AreClosedFrom setup at files n (sets ∷ []) (text ∷ []) (next ∷ [])) is
    (record {
      texts_count = refl;
      counters_count = refl;
      text = gives_one setup (λ n ss p. box_behind setup at (sent_at files n) ss p) place sets text texts;
      next = gives_one setup (λ n ss p. next_behind (sent_at files n) ss p) place sets next counters;
    }))

for_all : {A : Type 0} (setup : SetupValue) (f : ℕ → List RenderedValue → Partner → A) (boxes : List (List RenderedValue)) (xs : List A)
    → length boxes ≡ length setup.partners → length xs ≡ length boxes → GivesFrom setup f 0 boxes xs
    → AreForPartners setup (λ n p. f n (sets_at boxes n) p) xs
for_all {A} setup f boxes xs all count gives = record { count = count ∙ all; each = λ n p x at_p at_x. each n p x at_p at_x }
  where
    each : (n : ℕ) (p : Partner) (x : A) → slice_get setup.partners n ≡ Some p → slice_get xs n ≡ Some x → x ≡ f n (sets_at boxes n) p
    each n p x at_p at_x =
        let within : n < length boxes = omega (arith, slice_get_within setup.partners n p at_p, all) in
        let place : 0 + n ≡ n = omega arith in
        let some : Some x ≡ Some (f n (sets_at boxes n) p) = sym at_x
        ∙ gives n p (sets_at boxes n) (subst (λ (m : ℕ). slice_get setup.partners m ≡ Some p) (sym place) at_p)
        (slice_get-get_or boxes n [] within)
        ∙ ap (λ (m : ℕ). Some (f m (sets_at boxes n) p)) place in
        cc

pub closed_boxes : (setup : SetupValue) (at : List ℕ) (files : List SentValues) (boxes : List (List RenderedValue)) (ts : List (List ℕ))
    (xs : List Counters) → length boxes ≡ length setup.partners → AreClosedFrom setup at files 0 boxes ts xs
    → AreForPartners setup (box_by setup at files boxes) ts
closed_boxes setup at files boxes ts xs all closed =
    for_all setup (λ n sets p. box_behind setup at (sent_at files n) sets p) boxes ts all closed.texts_count closed.text

pub closed_next : (setup : SetupValue) (at : List ℕ) (files : List SentValues) (boxes : List (List RenderedValue)) (ts : List (List ℕ))
    (xs : List Counters) → length boxes ≡ length setup.partners → AreClosedFrom setup at files 0 boxes ts xs
    → AreForPartners setup (next_by files boxes) xs
closed_next setup at files boxes ts xs all closed =
    for_all setup (λ n sets p. next_behind (sent_at files n) sets p) boxes xs all closed.counters_count closed.next

-- what was written, closed
pub closed_night : (setup : SetupValue) (at : List ℕ) (w : WritingValue) (files : List SentValues) (night : Night) (ts : List (List ℕ))
    (xs : List Counters) → files ≡ w.files → length w.boxes ≡ length setup.partners → AreClosedFrom setup at files 0 w.boxes ts xs
    → night.acks ≡ map (λ (f : SentValues). f.text) w.files → night.boxes ≡ ts → night.report ≡ told_text w.told w.outside
    → night.next ≡ xs → IsClosedBy setup at w night
closed_night setup at w files night ts xs same all closed acks boxes report next =
    let its = subst (λ (ss : List SentValues). AreClosedFrom setup at ss 0 w.boxes ts xs) same closed in
    record {
      acks = acks;
      boxes = subst (λ (ys : List (List ℕ)). AreForPartners setup (box_by setup at w.files w.boxes) ys) (sym boxes)
          (closed_boxes setup at w.files w.boxes ts xs all its);
      report = report;
      next = subst (λ (ys : List Counters). AreForPartners setup (next_by w.files w.boxes) ys) (sym next)
          (closed_next setup at w.files w.boxes ts xs all its);
    }
