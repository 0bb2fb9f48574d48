-- A mailbox grows by a delivered interchange.
use Rattle.std.proofs.Common.{◌≡◌, ◌<◌, ◌≤◌, ◌⊎◌, inl, inr, false, true, ◌==◌, ℕ, zero, suc, ◌+◌, ◌-◌, List, [], ◌∷◌, ◌++◌, take, drop}
use Rattle.std.proofs.Common.{eqb-true, length, min, refl, subst, sym, ap, ◌∙◌, arith, append_assoc, length-drop, length-take}
use Rattle.std.proofs.lemmas.Bool.{cases_lt}
use Rattle.std.proofs.lemmas.List.{take-append-drop, take_all, drop_all}
use Rattle.count_numbers.specs.Layout.{interchanges_of}
use Rattle.count_numbers.specs.Num.{num}
use Rattle.count_numbers.proofs.ForAbove.{first_interchange, no_interchange}
use Rattle.partner_setup.specs.Envelopes.{envelope_to}
use Rattle.partner_setup.specs.Setup.{SetupValue}
use Rattle.partner_setup.specs.declared.partner.Partner.{Partner}
use Rattle.x12_write.specs.Header.{header_text}
use Rattle.x12_write.specs.Trailer.{trailer_text}
use Rattle.mailbox.specs.Rendered.{RenderedValue, group_of, groups_in, groups_of, groups_text, interchange_of, interchanges_text}
use Rattle.mailbox.specs.Renumbered.{groups_behind, numbered_interchange}
use Rattle.mailbox.specs.Woven.{HasWoven}
use Rattle.mailbox.specs.declared.woven.Cut.{Cut}
use Rattle.mailbox.proofs.Weaving.{woven_none, woven_on}

-- as many as there are, or as many as the cap
module _ {A : Type 0} (cap end : ℕ) (xs : List A) (e : end ≡ min (length xs) cap) where
  same_front : take cap xs ≡ take end xs
  same_front = cases (cases_lt (length xs) cap)
    where
      cases : (length xs < cap) ⊎ (cap ≤ length xs) → take cap xs ≡ take end xs
      cases (inl few) = take_all cap xs (omega arith) ∙ sym (take_all end xs (omega arith))
      cases (inr many) = let same : cap ≡ end = omega arith in ap (λ (n : ℕ). take n xs) same

  same_behind : drop cap xs ≡ drop end xs
  same_behind = cases (cases_lt (length xs) cap)
    where
      cases : (length xs < cap) ⊎ (cap ≤ length xs) → drop cap xs ≡ drop end xs
      cases (inl few) = drop_all cap xs (omega arith) ∙ sym (drop_all end xs (omega arith))
      cases (inr many) = let same : cap ≡ end = omega arith in ap (λ (n : ℕ). drop n xs) same

first_box : (cap end : ℕ) (xs : List RenderedValue) → end ≡ min (length xs) cap → 0 < cap → 0 < length xs
    → interchanges_of cap xs ≡ take end xs ∷ interchanges_of cap (drop end xs)
first_box cap end xs e h some =
    first_interchange cap xs h some
    ∙ ap (λ (ys : List RenderedValue). ys ∷ interchanges_of cap (drop cap xs)) (same_front cap end xs e)
    ∙ ap (λ (ys : List RenderedValue). take end xs ∷ interchanges_of cap ys) (same_behind cap end xs e)

-- the number that comes after a number
num_on : (start a k : ℕ) → num (num start a) k ≡ num start (a + k)
num_on start a k = omega arith

-- something is left
pub some_left : (n : ℕ) → false ≡ (n == 0) → 0 < n
some_left zero e = absurd (cc)
some_left (suc n) e = omega arith

-- nothing is left
pub none_left : (n : ℕ) → true ≡ (n == 0) → n ≡ 0
none_left n e = eqb-true n 0 (sym e)

-- groups that are numbered from the number that comes g after the partner's counter
groups_renumbered : (setup : SetupValue) (p : Partner) (at : List ℕ) (g k : ℕ) (groups : List (List RenderedValue))
    → groups_behind setup p at (num p.counters.group g) k groups ≡ groups_text setup p at (g + k) groups
groups_renumbered setup p at g k [] = refl
groups_renumbered setup p at g k (group ∷ groups) =
    let next : g + (k + 1) ≡ g + k + 1 = omega arith in
    ap (λ (n : ℕ). group_of setup p at n group ++ groups_behind setup p at (num p.counters.group g) (k + 1) groups)
    (num_on p.counters.group g k)
    ∙ ap (λ (t : List ℕ). group_of setup p at (num p.counters.group (g + k)) group ++ t)
    (groups_renumbered setup p at g (k + 1) groups ∙ ap (λ (n : ℕ). groups_text setup p at n groups) next)

interchange_renumbered : (setup : SetupValue) (p : Partner) (at : List ℕ) (number g : ℕ) (sets : List RenderedValue)
    → numbered_interchange setup p at number (num p.counters.group g) sets ≡ interchange_of setup p at number g sets
interchange_renumbered setup p at number g sets =
    let none : g + 0 ≡ g = omega arith in
    ap (λ (t : List ℕ). header_text (envelope_to setup p) at number ++ t ++ trailer_text p.delims (length (groups_of sets)) number)
    (groups_renumbered setup p at g 0 (groups_of sets) ∙ ap (λ (n : ℕ). groups_text setup p at n (groups_of sets)) none)

pub box_step : (setup : SetupValue) (p : Partner) (at : List ℕ) (acks groups written count end number group more : ℕ)
    (xs rest : List RenderedValue) (first first_group : ℕ) (old new all : List ℕ)
    → end ≡ min (length xs) p.cap → 0 < p.cap → 0 < length xs → first ≡ num p.counters.interchange acks → number ≡ num first written
    → first_group ≡ num p.counters.group groups → group ≡ num first_group count
    → new ≡ old ++ numbered_interchange setup p at number group (take end xs)
    → more ≡ length (groups_of (take end xs)) → rest ≡ drop end xs
    → old ++ interchanges_text setup p at (acks + written) (groups + count) (interchanges_of p.cap xs) ≡ all
    → new ++ interchanges_text setup p at (acks + (written + 1)) (groups + (count + more)) (interchanges_of p.cap rest) ≡ all
box_step setup p at acks groups written count end number group more xs rest first first_group old new all
    e h some ef en eg ec is em er was =
    let front : List RenderedValue = take end xs in
    let behind : List (List RenderedValue) = interchanges_of p.cap (drop end xs) in
    let k : ℕ = acks + written in
    let b : ℕ = groups + count in
    let next : acks + (written + 1) ≡ acks + written + 1 = omega arith in
    let before : groups + (count + more) ≡ groups + count + length (groups_of front) = counted groups count more _ em in
    let as_number : number ≡ num p.counters.interchange k =
    en ∙ ap (λ (n : ℕ). num n written) ef ∙ num_on p.counters.interchange acks written in
    let as_group : group ≡ num p.counters.group b = ec ∙ ap (λ (n : ℕ). num n count) eg ∙ num_on p.counters.group groups count in
    let here : List ℕ = interchange_of setup p at (num p.counters.interchange k) b front in
    let text : new ≡ old ++ here =
    is ∙ ap (λ (n : ℕ). old ++ numbered_interchange setup p at n group front) as_number
    ∙ ap (λ (n : ℕ). old ++ numbered_interchange setup p at (num p.counters.interchange k) n front) as_group
    ∙ ap (λ (t : List ℕ). old ++ t) (interchange_renumbered setup p at (num p.counters.interchange k) b front) in
    let left : List ℕ = interchanges_text setup p at (k + 1) (b + length (groups_of front)) behind in
    ap (λ (ys : List RenderedValue). new ++ interchanges_text setup p at (acks + (written + 1)) (groups + (count + more))
    (interchanges_of p.cap ys)) er
    ∙ ap (λ (n : ℕ). new ++ interchanges_text setup p at n (groups + (count + more)) behind) next
    ∙ ap (λ (n : ℕ). new ++ interchanges_text setup p at (k + 1) n behind) before
    ∙ ap (λ (t : List ℕ). t ++ left) text
    ∙ append_assoc old here left
    ∙ ap (λ (boxes : List (List RenderedValue)). old ++ interchanges_text setup p at k b boxes) (sym (first_box p.cap end xs e h some))
    ∙ was
  where
    counted : (g c m n : ℕ) → m ≡ n → g + (c + m) ≡ g + c + n
    counted g c m n e = omega arith

-- what is woven of an interchange, and of those that are left
pub box_on : (setup : SetupValue) (p : Partner) (at : List ℕ) (acks groups written count end number group more : ℕ)
    (xs rest : List RenderedValue) (first first_group : ℕ) (a b : List ℕ) (ka kb : List Cut)
    → end ≡ min (length xs) p.cap → 0 < p.cap → 0 < length xs → first ≡ num p.counters.interchange acks → number ≡ num first written
    → first_group ≡ num p.counters.group groups → group ≡ num first_group count
    → HasWoven a ka b kb (take end xs) (numbered_interchange setup p at number group (take end xs))
    → more ≡ length (groups_of (take end xs)) → rest ≡ drop end xs
    → (c : List ℕ) (cs : List Cut)
    → HasWoven b kb c cs rest (interchanges_text setup p at (acks + (written + 1)) (groups + (count + more)) (interchanges_of p.cap rest))
    → HasWoven a ka c cs xs (interchanges_text setup p at (acks + written) (groups + count) (interchanges_of p.cap xs))
box_on setup p at acks groups written count end number group more xs rest first first_group a b ka kb
    e h some ef en eg ec is em er =
    let here : List ℕ = numbered_interchange setup p at number group (take end xs) in
    let left : List ℕ = interchanges_text setup p at (acks + (written + 1)) (groups + (count + more)) (interchanges_of p.cap rest) in
    let whole : List ℕ = interchanges_text setup p at (acks + written) (groups + count) (interchanges_of p.cap xs) in
    let split : take end xs ++ rest ≡ xs = ap (λ (ys : List RenderedValue). take end xs ++ ys) er ∙ take-append-drop end xs in
    let text : here ++ left ≡ whole =
    box_step setup p at acks groups written count end number group more xs rest first first_group [] here whole
    e h some ef en eg ec refl em er refl in
    woven_on a b ka kb xs (take end xs) rest here left whole is split text

-- no interchange is left
pub box_end : (setup : SetupValue) (p : Partner) (at : List ℕ) (k before : ℕ) (rest : List RenderedValue) (a : List ℕ) (ka : List Cut)
    → length rest ≡ 0 → HasWoven a ka a ka rest (interchanges_text setup p at k before (interchanges_of p.cap rest))
box_end setup p at k before [] a ka none =
    let same : [] ≡ interchanges_text setup p at k before (interchanges_of p.cap []) =
    sym (ap (interchanges_text setup p at k before) (no_interchange p.cap [] refl)) in
    subst (λ (t : List ℕ). HasWoven a ka a ka [] t) same (woven_none a ka)
box_end setup p at k before (x ∷ xs) a ka none = absurd (omega (arith, none))

-- what is woven of a group, and of those that are left
pub group_on : (setup : SetupValue) (p : Partner) (at : List ℕ) (first k control end : ℕ) (xs rest : List RenderedValue)
    (a b : List ℕ) (ka kb : List Cut) → groups_of xs ≡ take end xs ∷ groups_of (drop end xs) → control ≡ num first k
    → rest ≡ drop end xs → HasWoven a ka b kb (take end xs) (group_of setup p at control (take end xs))
    → (c : List ℕ) (cs : List Cut)
    → HasWoven b kb c cs rest (groups_behind setup p at first (k + 1) (groups_of rest))
    → HasWoven a ka c cs xs (groups_behind setup p at first k (groups_of xs))
group_on setup p at first k control end xs rest a b ka kb split ec er is =
    let front : List RenderedValue = take end xs in
    let here : List ℕ = group_of setup p at control front in
    let left : List ℕ = groups_behind setup p at first (k + 1) (groups_of rest) in
    let text : here ++ left ≡ groups_behind setup p at first k (groups_of xs) =
    ap (λ (n : ℕ). group_of setup p at n front ++ left) ec
    ∙ ap (λ (ys : List RenderedValue). group_of setup p at (num first k) front ++ groups_behind setup p at first (k + 1) (groups_of ys)) er
    ∙ sym (ap (groups_behind setup p at first k) split) in
    woven_on a b ka kb xs front rest here left (groups_behind setup p at first k (groups_of xs)) is
    (ap (λ (ys : List RenderedValue). front ++ ys) er ∙ take-append-drop end xs) text

pub groups_end : (setup : SetupValue) (p : Partner) (at : List ℕ) (first k : ℕ) (rest : List RenderedValue) (a : List ℕ) (ka : List Cut)
    → length rest ≡ 0 → HasWoven a ka a ka rest (groups_behind setup p at first k (groups_of rest))
groups_end setup p at first k [] a ka none = woven_none a ka
groups_end setup p at first k (x ∷ xs) a ka none = absurd (omega (arith, none))

pub group_counted : (k end all : ℕ) (xs rest : List RenderedValue) → groups_of xs ≡ take end xs ∷ groups_of (drop end xs)
    → rest ≡ drop end xs → k + length (groups_of xs) ≡ all → k + 1 + length (groups_of rest) ≡ all
group_counted k end all xs rest split er was =
    let one = ap length split in
    let left = ap (λ (ys : List RenderedValue). length (groups_of ys)) er in
    omega (arith, one, left, was)

pub group_bound : (k end all : ℕ) (xs rest : List RenderedValue) → 0 < end → end ≤ length xs → rest ≡ drop end xs
    → k + length xs ≤ all → k + 1 + length rest ≤ all
group_bound k end all xs rest some within er was =
    let left = ap length er ∙ length-drop end xs in
    omega (arith, some, within, left, was)

-- the groups of one more interchange
pub count_step : (count end cap more all : ℕ) (xs rest : List RenderedValue) → end ≡ min (length xs) cap → 0 < cap → 0 < length xs
    → more ≡ length (groups_of (take end xs)) → rest ≡ drop end xs
    → count + groups_in (interchanges_of cap xs) ≡ all
    → count + more + groups_in (interchanges_of cap rest) ≡ all
count_step count end cap more all xs rest e h some em er was =
    ap (λ (ys : List RenderedValue). count + more + groups_in (interchanges_of cap ys)) er
    ∙ moved_over count more (length (groups_of (take end xs))) (groups_in (interchanges_of cap (drop end xs)))
    (groups_in (interchanges_of cap xs)) all em (ap groups_in (first_box cap end xs e h some)) was
  where
    moved_over : (c m n rest whole all : ℕ) → m ≡ n → whole ≡ n + rest → c + whole ≡ all → c + m + rest ≡ all
    moved_over c m n rest whole all e f was = omega arith

-- there are no more groups than sets
pub bound_kept : (count more end cap all : ℕ) (xs rest : List RenderedValue) → end ≡ min (length xs) cap → rest ≡ drop end xs
    → more ≤ length (take end xs) → count + length xs ≤ all → count + more + length rest ≤ all
bound_kept count more end cap all xs rest e er few was =
    let long : length rest ≡ length xs - end = ap length er ∙ length-drop end xs in
    let front = length-take end xs in
    omega (arith, long, front)

-- nor more interchanges
pub written_kept : (written end cap all : ℕ) (xs rest : List RenderedValue) → end ≡ min (length xs) cap → 0 < cap → 0 < length xs
    → rest ≡ drop end xs → written + length xs ≤ all → written + 1 + length rest ≤ all
written_kept written end cap all xs rest e h some er was =
    let long : length rest ≡ length xs - end = ap length er ∙ length-drop end xs in
    omega (arith, long)
