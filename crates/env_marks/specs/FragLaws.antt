-- X12.6, segment: two stretches, one after the other, are one stretch; and what a stretch between terminators is.
use Rattle.std.specs.Prelude.{◌≡◌, ℕ, ◌+◌, List, [], ◌∷◌, ◌++◌, Bool, true, false, Option, Some, None, length, map}
use Rattle.std.specs.Prelude.{unwrap_or, drop, suc}
use Rattle.std.specs.Option.{option_or}
use Rattle.std.specs.List.{prefix_len}
use Rattle.std.proofs.Common.{◌≤◌, ◌<◌, ◌-◌, arith, ap, sym, refl, ◌∙◌, cond, length-append, inl, inr}
use Rattle.std.proofs.lemmas.Bool.{cases_lt}
use Rattle.std.proofs.lemmas.List.{length-drop}
use Rattle.x12_segs.proofs.ForAbove.{part_at-some, part_at-none}
use Rattle.x12_bytes.specs.Bytes.{is_line_end}
use Rattle.x12_segs.specs.Words.{Seg, part_at}
use Rattle.env_marks.specs.declared.frag.Frag.{Frag}
use Rattle.env_marks.specs.declared.frag.Mark.{Mark}
use Rattle.env_marks.specs.Frags.{stop_at, id_stop, is_other_than, frag_of, both_frags, id_end_of_both, mark_by, marks_in}
use Rattle.env_marks.specs.Marking.{mark_of}

-- a stop in the front, or else after it
pub stop_at-append : (test : ℕ → Bool) (o : ℕ) (xs ys : List ℕ) →
    stop_at test o (xs ++ ys) ≡ option_or (stop_at test o xs) (stop_at test (o + length xs) ys)
stop_at-append test o [] ys = ap (λ n. stop_at test n ys) (let e : o ≡ o + 0 = omega arith in e)
stop_at-append test o (x ∷ xs) ys =
    let e : o + 1 + length xs ≡ o + suc (length xs) = omega arith in
    elim (test x) as (λ v. cond v (stop_at test (o + 1) (xs ++ ys)) (Some o)
    ≡ option_or (cond v (stop_at test (o + 1) xs) (Some o)) (stop_at test (o + suc (length xs)) ys)) [
      | true ↦ stop_at-append test (o + 1) xs ys ∙ ap (λ n. option_or (stop_at test (o + 1) xs) (stop_at test n ys)) e
      | false ↦ refl
    ]

id_stop-append : (e o : ℕ) (xs ys : List ℕ) →
    id_stop e o (xs ++ ys) ≡ id_end_of_both (stop_at is_line_end o xs) (id_stop e o xs) (frag_of e (o + length xs) ys)
id_stop-append e o [] ys = ap (λ n. id_stop e n ys) (let i : o ≡ o + 0 = omega arith in i)
id_stop-append e o (x ∷ xs) ys =
    let i : o + 1 + length xs ≡ o + suc (length xs) = omega arith in
    elim (is_line_end x) as (λ v. cond v (id_stop e (o + 1) (xs ++ ys)) (stop_at (is_other_than e) o (x ∷ (xs ++ ys)))
    ≡ id_end_of_both (cond v (stop_at is_line_end (o + 1) xs) (Some o))
    (cond v (id_stop e (o + 1) xs) (stop_at (is_other_than e) o (x ∷ xs)))
    (frag_of e (o + suc (length xs)) ys)) [
      | true ↦ id_stop-append e (o + 1) xs ys
          ∙ ap (λ n. id_end_of_both (stop_at is_line_end (o + 1) xs) (id_stop e (o + 1) xs) (frag_of e n ys)) i
      | false ↦ stop_at-append (is_other_than e) o (x ∷ xs) ys
    ]

frag_with : ℕ → ℕ → Option ℕ → Option ℕ → Option ℕ → Frag
frag_with a b s t i = record { from = a; to = b; body = s; separator = t; id_end = i }

pub frag_of-append : (e o : ℕ) (xs ys : List ℕ) → frag_of e o (xs ++ ys) ≡ both_frags (frag_of e o xs) (frag_of e (o + length xs) ys)
unfolding frag_with
frag_of-append e o xs ys =
    let to : o + length (xs ++ ys) ≡ o + length xs + length ys = omega (arith, length-append xs ys) in
    ap (λ n. frag_with o n (stop_at is_line_end o (xs ++ ys)) (stop_at (is_other_than e) o (xs ++ ys)) (id_stop e o (xs ++ ys))) to
    ∙ ap (λ s. frag_with o (o + length xs + length ys) s (stop_at (is_other_than e) o (xs ++ ys)) (id_stop e o (xs ++ ys)))
    (stop_at-append is_line_end o xs ys)
    ∙ ap (λ t. frag_with o (o + length xs + length ys) (option_or (stop_at is_line_end o xs) (stop_at is_line_end (o + length xs) ys)) t
    (id_stop e o (xs ++ ys))) (stop_at-append (is_other_than e) o xs ys)
    ∙ ap (λ i. frag_with o (o + length xs + length ys) (option_or (stop_at is_line_end o xs) (stop_at is_line_end (o + length xs) ys))
    (option_or (stop_at (is_other_than e) o xs) (stop_at (is_other_than e) (o + length xs) ys)) i) (id_stop-append e o xs ys)

option_or-assoc : {T : Type 0} (a b c : Option T) → option_or (option_or a b) c ≡ option_or a (option_or b c)
option_or-assoc None b c = refl
option_or-assoc (Some x) b c = refl

id_assoc : (s i : Option ℕ) (g h : Frag) →
    id_end_of_both (option_or s g.body) (id_end_of_both s i g) h ≡ id_end_of_both s i (both_frags g h)
id_assoc None i g h = refl
id_assoc (Some x) i g h = option_or-assoc i g.separator h.separator

pub both_frags-assoc : (f g h : Frag) → both_frags (both_frags f g) h ≡ both_frags f (both_frags g h)
unfolding frag_with
both_frags-assoc f g h =
    ap (λ s. frag_with f.from h.to s (option_or (option_or f.separator g.separator) h.separator)
    (id_end_of_both (option_or f.body g.body) (id_end_of_both f.body f.id_end g) h)) (option_or-assoc f.body g.body h.body)
    ∙ ap (λ t. frag_with f.from h.to (option_or f.body (option_or g.body h.body)) t
    (id_end_of_both (option_or f.body g.body) (id_end_of_both f.body f.id_end g) h)) (option_or-assoc f.separator g.separator h.separator)
    ∙ ap (λ i. frag_with f.from h.to (option_or f.body (option_or g.body h.body))
    (option_or f.separator (option_or g.separator h.separator)) i)
    (id_assoc f.body f.id_end g h)

-- where the id of a segment ends
id_within : (e o : ℕ) (xs : List ℕ) → unwrap_or (stop_at (is_other_than e) o xs) (o + length xs) ≡ o + prefix_len (is_other_than e) xs
id_within e o [] = refl
id_within e o (x ∷ xs) =
    let i : o + 1 + length xs ≡ o + suc (length xs) = omega arith in
    let j : o + 1 + prefix_len (is_other_than e) xs ≡ o + (1 + prefix_len (is_other_than e) xs) = omega arith in
    elim (is_other_than e x) as (λ v. unwrap_or (cond v (stop_at (is_other_than e) (o + 1) xs) (Some o)) (o + suc (length xs))
    ≡ o + cond v (1 + prefix_len (is_other_than e) xs) 0) [
      | true ↦ ap (λ n. unwrap_or (stop_at (is_other_than e) (o + 1) xs) n) (sym i) ∙ id_within e (o + 1) xs ∙ j
      | false ↦ (let z : o ≡ o + 0 = omega arith in z)
    ]

-- a stop by the length of what passes
pub stop_some : (test : ℕ → Bool) (o : ℕ) (xs : List ℕ) → prefix_len test xs < length xs → stop_at test o xs ≡ Some (o + prefix_len test xs)
stop_some test o [] h = absurd (omega (arith, h))
stop_some test o (x ∷ xs) h =
    let at : (v : Bool) → cond v (1 + prefix_len test xs) 0 < suc (length xs)
    → cond v (stop_at test (o + 1) xs) (Some o) ≡ Some (o + cond v (1 + prefix_len test xs) 0)
    = λ v. elim v as (λ w. cond w (1 + prefix_len test xs) 0 < suc (length xs)
    → cond w (stop_at test (o + 1) xs) (Some o) ≡ Some (o + cond w (1 + prefix_len test xs) 0)) [
      | true ↦ λ lt. stop_some test (o + 1) xs (omega (arith, lt))
          ∙ ap (λ n. Some n) (let e : o + 1 + prefix_len test xs ≡ o + (1 + prefix_len test xs) = omega arith in e)
      | false ↦ λ lt. ap (λ n. Some n) (let e : o ≡ o + 0 = omega arith in e)
    ] in
    at (test x) h

pub stop_none : (test : ℕ → Bool) (o : ℕ) (xs : List ℕ) → length xs ≤ prefix_len test xs → stop_at test o xs ≡ None
stop_none test o [] h = refl
stop_none test o (x ∷ xs) h =
    let at : (v : Bool) → suc (length xs) ≤ cond v (1 + prefix_len test xs) 0
    → cond v (stop_at test (o + 1) xs) (Some o) ≡ None
    = λ v. elim v as (λ w. suc (length xs) ≤ cond w (1 + prefix_len test xs) 0 → cond w (stop_at test (o + 1) xs) (Some o) ≡ None) [
      | true ↦ λ le. stop_none test (o + 1) xs (omega (arith, le))
      | false ↦ λ le. absurd (omega (arith, le))
    ] in
    at (test x) h

-- the id's end is looked for after the CR and LF at the front
pub id_stop_behind : (e o : ℕ) (xs : List ℕ) →
    id_stop e o xs ≡ stop_at (is_other_than e) (o + prefix_len is_line_end xs) (drop (prefix_len is_line_end xs) xs)
id_stop_behind e o [] = refl
id_stop_behind e o (x ∷ xs) =
    let n : ℕ = prefix_len is_line_end xs in
    let at : (v : Bool) → cond v (id_stop e (o + 1) xs) (stop_at (is_other_than e) o (x ∷ xs))
    ≡ stop_at (is_other_than e) (o + cond v (1 + n) 0) (drop (cond v (1 + n) 0) (x ∷ xs))
    = λ v. elim v as (λ w. cond w (id_stop e (o + 1) xs) (stop_at (is_other_than e) o (x ∷ xs))
    ≡ stop_at (is_other_than e) (o + cond w (1 + n) 0) (drop (cond w (1 + n) 0) (x ∷ xs))) [
      | true ↦ id_stop_behind e (o + 1) xs
          ∙ ap (λ k. stop_at (is_other_than e) k (drop n xs)) (let i : o + 1 + n ≡ o + (1 + n) = omega arith in i)
          ∙ ap (λ (l : List ℕ). stop_at (is_other_than e) (o + (1 + n)) l)
          (sym (ap (λ k. drop k (x ∷ xs)) (let e : 1 + n ≡ suc n = omega arith in e)))
      | false ↦ ap (λ k. stop_at (is_other_than e) k (x ∷ xs)) (let z : o ≡ o + 0 = omega arith in z)
    ] in
    at (is_line_end x)

mark_with : ℕ → ℕ → ℕ → Mark
mark_with s t i = record { start = s; end = t; id_end = i }

-- a stretch between terminators is the segment that its part is
pub marks_in-part : (e o : ℕ) (part : List ℕ) → marks_in (frag_of e o part) ≡ map (mark_of e) (part_at o part)
unfolding mark_with
marks_in-part e o part =
    let n : ℕ = prefix_len is_line_end part in
    let f : Frag = frag_of e o part in
    let rest : List ℕ = drop n part in
    elim (cases_lt n (length part)) [
      | inl lt ↦
          let long : length rest ≡ length part - n = length-drop n part in
          let to : o + length part ≡ o + n + length rest = omega (arith, long, lt) in
          ap (mark_by f) (stop_some is_line_end o part lt)
          ∙ ap (λ i. mark_with (o + n) (o + length part) (unwrap_or i (o + length part)) ∷ []) (id_stop_behind e o part)
          ∙ ap (λ t. mark_with (o + n) t (unwrap_or (stop_at (is_other_than e) (o + n) rest) t) ∷ []) to
          ∙ ap (λ i. mark_with (o + n) (o + n + length rest) i ∷ []) (id_within e (o + n) rest)
          ∙ ap (λ (s : List Seg). map (mark_of e) s) (sym (part_at-some o part lt))
      | inr ge ↦ ap (mark_by f) (stop_none is_line_end o part ge) ∙ ap (λ (s : List Seg). map (mark_of e) s) (sym (part_at-none o part ge))
    ]
