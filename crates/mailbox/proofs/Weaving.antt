-- Sets are woven between envelopes.
use Rattle.std.proofs.Common.{◌≡◌, ◌≤◌, ℕ, ◌+◌, ◌-◌, List, [], ◌∷◌, ◌++◌, take, drop, length, map, refl, sym, ap, subst, ◌∙◌, arith}
use Rattle.std.proofs.Common.{append_assoc}
use Rattle.std.proofs.lemmas.List.{append-nil, drop-append-le, drop_all, length-append, length-drop}
use Rattle.std.proofs.lemmas.List.{take-append-le, take_all}
use Rattle.std.specs.Prelude.{slice_range}
use Rattle.x12_write.specs.Group.{texts_in_row}
use Rattle.mailbox.specs.Rendered.{RenderedValue, text_in}
use Rattle.mailbox.specs.Woven.{AreCuts, HasWoven, woven}
use Rattle.mailbox.specs.declared.woven.Cut.{Cut}
use Rattle.mailbox.proofs.Rows.{slice_front}

abbrev texts : List RenderedValue → List ℕ
texts sets = texts_in_row (map text_in sets)

nothing : (xs : List RenderedValue) → length xs ≡ 0 → xs ≡ []
nothing [] e = refl
nothing (x ∷ xs) e = absurd (omega (arith, e))

cuts_rise : (from size n : ℕ) (cuts : List Cut) → AreCuts from size n cuts → from ≤ size
cuts_rise from size n [] is = is.0
cuts_rise from size n (c ∷ cuts) is = omega (arith, is.0, cuts_rise c.at size (n - c.sets) cuts is.2)

longer : (from a b n : ℕ) (cuts : List Cut) → a ≤ b → AreCuts from a n cuts → AreCuts from b n cuts
longer from a b n [] le is = (omega (arith, is.0, le), is.1)
longer from a b n (c ∷ cuts) le is = (is.0, is.1, longer c.at a b (n - c.sets) cuts le is.2)

-- the cuts after the first, of the sets after those of the first
cuts_behind : (size : ℕ) (c : Cut) (cuts : List Cut) (sets : List RenderedValue) → AreCuts c.at size (length sets - c.sets) cuts
    → AreCuts c.at size (length (drop c.sets sets)) cuts
cuts_behind size c cuts sets is = subst (λ (n : ℕ). AreCuts c.at size n cuts) (sym (length-drop c.sets sets)) is

-- envelopes that are written on
more_ends : (ends t : List ℕ) (from : ℕ) (cuts : List Cut) (sets : List RenderedValue) → AreCuts from (length ends) (length sets) cuts
    → woven (ends ++ t) from cuts sets ≡ woven ends from cuts sets ++ t
more_ends ends t from [] sets is = drop-append-le from ends t is.0
more_ends ends t from (c ∷ cuts) sets is =
    let front : List ℕ = slice_range ends from c.at in
    let here : List ℕ = texts (take c.sets sets) in
    let left : List RenderedValue = drop c.sets sets in
    ap (λ (f : List ℕ). (f ++ here) ++ woven (ends ++ t) c.at cuts left)
    (slice_front ends t from c.at is.0 (cuts_rise c.at (length ends) (length sets - c.sets) cuts is.2))
    ∙ ap (λ (r : List ℕ). (front ++ here) ++ r) (more_ends ends t c.at cuts left (cuts_behind (length ends) c cuts sets is.2))
    ∙ sym (append_assoc (front ++ here) (woven ends c.at cuts left) t)

-- sets at the end of the envelopes
module _ (ends : List ℕ) (c : Cut) (sets : List RenderedValue) (at : c.at ≡ length ends) (many : c.sets ≡ length sets) where
  at_end : (from : ℕ) → from ≤ length ends → woven ends from (c ∷ []) sets ≡ drop from ends ++ texts sets
  at_end from order =
      ap (λ (a : ℕ). (slice_range ends from a ++ texts (take c.sets sets)) ++ drop a ends) at
      ∙ ap (λ (n : ℕ). (slice_range ends from (length ends) ++ texts (take n sets)) ++ drop (length ends) ends) many
      ∙ ap (λ (s : List RenderedValue). (slice_range ends from (length ends) ++ texts s) ++ drop (length ends) ends)
      (take_all (length sets) sets (omega arith))
      ∙ ap (λ (l : List ℕ). (l ++ texts sets) ++ drop (length ends) ends)
      (take_all (length ends - from) (drop from ends) (omega (arith, length-drop from ends)))
      ∙ ap (λ (l : List ℕ). (drop from ends ++ texts sets) ++ l) (drop_all (length ends) ends (omega arith))
      ∙ append-nil (drop from ends ++ texts sets)

  one_cut : (from : ℕ) (cuts : List Cut) (front : List RenderedValue) → AreCuts from (length ends) (length front) cuts
      → woven ends from (cuts ++ c ∷ []) (front ++ sets) ≡ woven ends from cuts front ++ texts sets
  one_cut from [] front is =
      ap (λ (f : List RenderedValue). woven ends from (c ∷ []) (f ++ sets)) (nothing front is.1) ∙ at_end from is.0
  one_cut from (d ∷ cuts) front is =
      let piece : List ℕ = slice_range ends from d.at in
      let here : List ℕ = texts (take d.sets front) in
      let left : List RenderedValue = drop d.sets front in
      ap (λ (xs : List RenderedValue). (piece ++ texts xs) ++ woven ends d.at (cuts ++ c ∷ []) (drop d.sets (front ++ sets)))
      (take-append-le d.sets front sets is.1)
      ∙ ap (λ (xs : List RenderedValue). (piece ++ here) ++ woven ends d.at (cuts ++ c ∷ []) xs) (drop-append-le d.sets front sets is.1)
      ∙ ap (λ (r : List ℕ). (piece ++ here) ++ r) (one_cut d.at cuts left (cuts_behind (length ends) d cuts front is.2))
      ∙ sym (append_assoc (piece ++ here) (woven ends d.at cuts left) (texts sets))

  cut_added : (from n : ℕ) (cuts : List Cut) → AreCuts from (length ends) n cuts
      → AreCuts from (length ends) (n + length sets) (cuts ++ c ∷ [])
  cut_added from n [] is =
      (omega (arith, is.0, at), omega (arith, many), (omega (arith, at), omega (arith, is.1, many)))
  cut_added from n (d ∷ cuts) is =
      let left : n - d.sets + length sets ≡ n + length sets - d.sets = omega (arith, is.1) in (
        is.0,
        omega (arith, is.1),
        subst (λ (k : ℕ). AreCuts d.at (length ends) k (cuts ++ c ∷ [])) left (cut_added d.at (n - d.sets) cuts is.2),
      )

  sets_woven : (cuts more : List Cut) → more ≡ cuts ++ c ∷ [] → HasWoven ends cuts ends more sets (texts sets)
  sets_woven cuts more is front are = (
    subst (λ (cs : List Cut). AreCuts 0 (length ends) (length front + length sets) cs) (sym is) (cut_added 0 (length front) cuts are),
    ap (λ (cs : List Cut). woven ends 0 cs (front ++ sets)) is ∙ one_cut 0 cuts front are,
  )

ends_woven : (old new t : List ℕ) (cuts : List Cut) → new ≡ old ++ t → HasWoven old cuts new cuts [] t
ends_woven old new t cuts is front are =
    let none : length front ≡ length front + 0 = omega arith in
    let size : length old ≤ length new = omega (arith, ap length is, length-append old t) in (
      subst (λ (n : ℕ). AreCuts 0 (length new) n cuts) none (longer 0 (length old) (length new) (length front) cuts size are),
      ap (λ (xs : List RenderedValue). woven new 0 cuts xs) (append-nil front)
          ∙ ap (λ (b : List ℕ). woven b 0 cuts front) is
          ∙ more_ends old t 0 cuts front are,
    )

-- one after the other
both_woven : (a b c : List ℕ) (ka kb cs : List Cut) (xs ys : List RenderedValue) (s t : List ℕ) → HasWoven a ka b kb xs s
    → HasWoven b kb c cs ys t → HasWoven a ka c cs (xs ++ ys) (s ++ t)
both_woven a b c ka kb cs xs ys s t first second front are =
    let one = first front are in
    let many : length (front ++ xs) ≡ length front + length xs = length-append front xs in
    let all : length (front ++ xs) + length ys ≡ length front + length (xs ++ ys) = omega (arith, many, length-append xs ys) in
    let two = second (front ++ xs) (subst (λ (n : ℕ). AreCuts 0 (length b) n kb) (sym many) one.0) in (
      subst (λ (n : ℕ). AreCuts 0 (length c) n cs) all two.0,
      ap (λ (l : List RenderedValue). woven c 0 cs l) (sym (append_assoc front xs ys))
          ∙ two.1 ∙ ap (λ (l : List ℕ). l ++ t) one.1 ∙ append_assoc (woven a 0 ka front) s t,
    )

-- what is woven, in other words
same_woven : (a b : List ℕ) (ka kb : List Cut) (xs ys : List RenderedValue) (s t : List ℕ) → xs ≡ ys → s ≡ t
    → HasWoven a ka b kb xs s → HasWoven a ka b kb ys t
same_woven a b ka kb xs ys s t e f is =
    subst (λ (l : List ℕ). HasWoven a ka b kb ys l) f (subst (λ (l : List RenderedValue). HasWoven a ka b kb l s) e is)

-- between two envelopes
pub between : (a b c d h m t : List ℕ) (ka kb : List Cut) (sets : List RenderedValue) → b ≡ a ++ h → HasWoven b ka c kb sets m
    → d ≡ c ++ t → HasWoven a ka d kb sets ((h ++ m) ++ t)
between a b c d h m t ka kb sets first is last =
    same_woven a d ka kb (sets ++ []) sets ((h ++ m) ++ t) ((h ++ m) ++ t) (append-nil sets) refl
    (both_woven a c d ka kb kb sets [] (h ++ m) t (both_woven a b c ka ka kb [] sets h m (ends_woven a b h ka first) is)
    (ends_woven c d t kb last))

pub group_woven : (a b d h t : List ℕ) (ka kb : List Cut) (c : Cut) (sets : List RenderedValue) → b ≡ a ++ h → kb ≡ ka ++ c ∷ []
    → c.at ≡ length b → c.sets ≡ length sets → d ≡ b ++ t → HasWoven a ka d kb sets ((h ++ texts sets) ++ t)
group_woven a b d h t ka kb c sets first is at many last =
    between a b b d h (texts sets) t ka kb sets first (sets_woven b c sets at many ka kb is) last

-- what is woven of the front, and whatever is woven of the rest, is what is woven of all
pub woven_on : (a b : List ℕ) (ka kb : List Cut) (xs front rest : List RenderedValue) (here left whole : List ℕ)
    → HasWoven a ka b kb front here → front ++ rest ≡ xs → here ++ left ≡ whole
    → (c : List ℕ) (cs : List Cut) → HasWoven b kb c cs rest left → HasWoven a ka c cs xs whole
woven_on a b ka kb xs front rest here left whole is e f c cs later =
    same_woven a c ka cs (front ++ rest) xs (here ++ left) whole e f (both_woven a b c ka kb cs front rest here left is later)

-- nothing is left
pub woven_none : (a : List ℕ) (ka : List Cut) → HasWoven a ka a ka [] []
woven_none a ka = ends_woven a a [] ka (sym (append-nil a))

-- from nothing on
pub woven_all : (a b text : List ℕ) (ka kb : List Cut) (lent sets : List RenderedValue) → a ≡ [] → ka ≡ [] → lent ≡ sets
    → HasWoven a ka b kb lent text → AreCuts 0 (length b) (length sets) kb × (woven b 0 kb sets ≡ text)
woven_all a b text ka kb lent sets none_a none_as same is =
    let from_none : HasWoven [] [] b kb sets text =
    subst (λ (xs : List RenderedValue). HasWoven [] [] b kb xs text) same
    (subst (λ (cs : List Cut). HasWoven [] cs b kb lent text) none_as
    (subst (λ (l : List ℕ). HasWoven l ka b kb lent text) none_a is)) in
    let all = from_none [] (omega arith, refl) in
    let many : 0 + length sets ≡ length sets = omega arith in
    (subst (λ (n : ℕ). AreCuts 0 (length b) n kb) many all.0, all.1)

-- the cut at a place stands in the envelopes
pub cut_within : (from size n : ℕ) (cuts : List Cut) (i : ℕ) (c : Cut) → drop i cuts ≡ c ∷ drop (i + 1) cuts
    → AreCuts from size n (drop i cuts) → c.at ≤ size
cut_within from size n cuts i c split is =
    cuts_rise c.at size (n - c.sets) (drop (i + 1) cuts) (subst (λ (cs : List Cut). AreCuts from size n cs) split is).2
