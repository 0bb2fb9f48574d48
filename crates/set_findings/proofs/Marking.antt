-- Findings are completed one by one, each in its place.
use Rattle.std.proofs.Common.{◌≡◌, ℕ, ◌+◌, ◌-◌, ◌<◌, ◌≤◌, List, ◌∷◌, ◌++◌, length, map, take, drop, set, get_or}
use Rattle.std.proofs.Common.{refl, sym, ap, subst, ◌∙◌, arith}
use Rattle.std.specs.Prelude.{Contains}
use Rattle.std.specs.List.{AllZip}
use Rattle.std.proofs.lemmas.List.{drop_more, drop-set-lt, length-drop, take-append-drop, take_all, take_more_set}
use Rattle.hub_kinds.specs.declared.place.Place.{Place}
use Rattle.set_check.specs.declared.finding.Finding.{Finding}
use Rattle.set_findings.specs.Findings.{found_place}
use Rattle.set_findings.proofs.Placing.{inside}
use Rattle.set_findings.proofs.Zipped.{zip_more}

-- the first i are completed, and the others are as they were
pub record AreToldSoFar (P : Finding → Finding → Type 0) (old now : List Finding) (i : ℕ) : Type 0 where
  pub done : AllZip P (take i old) (take i now)
  pub left : drop i now ≡ drop i old

within : (old now : List Finding) (i : ℕ) → drop i now ≡ drop i old → i < length now → i < length old
within old now i left here =
    let same : length (drop i now) ≡ length (drop i old) = ap (λ (l : List Finding). length l) left in
    let a : length (drop i now) ≡ length now - i = length-drop i now in
    let b : length (drop i old) ≡ length old - i = length-drop i old in
    omega arith

same_here : (old now : List Finding) (i : ℕ) (d : Finding) → drop i now ≡ drop i old → i < length now → get_or now i d ≡ get_or old i d
same_here old now i d left here =
    let a : drop i now ≡ get_or now i d ∷ drop (i + 1) now = drop_more now i d here in
    let b : drop i old ≡ get_or old i d ∷ drop (i + 1) old = drop_more old i d (within old now i left here) in
    cc

same_behind : (old now : List Finding) (i : ℕ) (d : Finding) → drop i now ≡ drop i old → i < length now
    → drop (i + 1) now ≡ drop (i + 1) old
same_behind old now i d left here =
    let a : drop i now ≡ get_or now i d ∷ drop (i + 1) now = drop_more now i d here in
    let b : drop i old ≡ get_or old i d ∷ drop (i + 1) old = drop_more old i d (within old now i left here) in
    cc

pub told_none : (P : Finding → Finding → Type 0) (old : List Finding) → AreToldSoFar P old old 0
told_none P old = record { done = tt; left = refl }

pub told_more : (P : Finding → Finding → Type 0) (old now : List Finding) (i : ℕ) (d new : Finding) → i < length now
    → AreToldSoFar P old now i → P (get_or now i d) new → AreToldSoFar P old (set now i new) (i + 1)
told_more P old now i d new here was is = record {
  done = zip_more P old (take i now) (take (i + 1) (set now i new)) i d new (within old now i was.left here)
      (take_more_set now i new here) was.done (subst (λ (f : Finding). P f new) (same_here old now i d was.left here) is);
  left = drop-set-lt (i + 1) now i new (omega arith) ∙ same_behind old now i d was.left here;
}

pub told_all : (P : Finding → Finding → Type 0) (old now : List Finding) (i : ℕ) → length now ≤ i → AreToldSoFar P old now i
    → AllZip P old now
told_all P old now i end was =
    let same : length (drop i now) ≡ length (drop i old) = ap (λ (l : List Finding). length l) was.left in
    let a : length (drop i now) ≡ length now - i = length-drop i now in
    let b : length (drop i old) ≡ length old - i = length-drop i old in
    let past : length old ≤ i = omega arith in
    subst (λ (l : List Finding). AllZip P l now) (take_all i old past)
    (subst (λ (l : List Finding). AllZip P (take i old) l) (take_all i now end) was.done)

-- the place of the next one is among those of all
pub place_of_next : (P : Finding → Finding → Type 0) (old now : List Finding) (i : ℕ) (d : Finding) (places : List Place)
    → i < length now → AreToldSoFar P old now i → map found_place old ≡ places → Contains places (get_or now i d).place
place_of_next P old now i d places here was at =
    let there : i < length old = within old now i was.left here in
    let whole : old ≡ take i old ++ get_or old i d ∷ drop (i + 1) old
    = sym (take-append-drop i old) ∙ ap (λ (l : List Finding). take i old ++ l) (drop_more old i d there) in
    subst (λ (f : Finding). Contains places f.place) (sym (same_here old now i d was.left here))
    (inside (take i old) (drop (i + 1) old) old (get_or old i d) places whole at)
