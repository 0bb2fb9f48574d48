-- The headers of a text, one after another, are the next ones; and an index that was not judged.
use Rattle.std.proofs.Common.{◌≡◌, ℕ, ◌+◌, ◌-◌, ◌≤◌, ◌<◌, List, [], ◌∷◌, ◌++◌, length, Bool, true, false, zero, suc, arith}
use Rattle.std.proofs.Common.{sym, ap, refl, subst, ◌∙◌, inl, inr}
use Rattle.std.specs.List.{All}
use Rattle.std.proofs.Common.{drop, get_or}
use Rattle.std.proofs.lemmas.List.{drop_more, drop_all}
use Rattle.std.proofs.lemmas.Bool.{cases_lt}
use Rattle.env_index.proofs.Surround.{no_head_past}
use Rattle.std.proofs.lemmas.List.Elements.{All-nil, All-cons, All-head, All-tail}
use Rattle.x12_bytes.specs.HeaderTest.{is_head}
use Rattle.isa_scan.specs.Heads.{heads_in, head_at}
use Rattle.isa_scan.specs.declared.heads.HeadAt.{HeadAt}
use Rattle.isa_scan.proofs.ForAbove.{heads_both, head_one, head_none, no_heads}
use Rattle.env_index.specs.Extents.{Extent}
use Rattle.env_index.specs.Faults.{fault_of}
use Rattle.env_index.specs.Index.{IndexEntry, IsEntryOf, extents_of, extent_of}
use Rattle.env_index.specs.Settled.{with_faults, with_fault}
use Rattle.env_index.specs.Unjudged.{IsUnjudgedEntry, faults_of}

pub record IsFirstHead (text : List ℕ) (c n : ℕ) (h : HeadAt) (rest : List HeadAt) : Type 0 where
  pub low : c ≤ h.start
  pub high : h.start < n
  pub head : is_head text h.start ≡ true
  pub none : (q : ℕ) → c ≤ q → q < h.start → is_head text q ≡ false
  pub left : rest ≡ heads_in text (h.start + 1) n

first_here : (text : List ℕ) (c n : ℕ) → c < n → is_head text c ≡ true → IsFirstHead text c n (head_at text c) (heads_in text (c + 1) n)
first_here text c n h is = record {
  low = omega arith;
  high = h;
  head = is;
  none = λ q low high. absurd (omega (arith, low, high));
  left = refl;
}

pub heads_here : (text : List ℕ) (c n : ℕ) → c < n → is_head text c ≡ true → heads_in text c n ≡ head_at text c ∷ heads_in text (c + 1) n
heads_here text c n h is = heads_both text c (c + 1) n (omega arith) (omega arith)
    ∙ ap (λ (l : List HeadAt). l ++ heads_in text (c + 1) n) (head_one text c is)

heads_later : (text : List ℕ) (c n : ℕ) → c < n → is_head text c ≡ false → heads_in text c n ≡ heads_in text (c + 1) n
heads_later text c n h is = heads_both text c (c + 1) n (omega arith) (omega arith)
    ∙ ap (λ (l : List HeadAt). l ++ heads_in text (c + 1) n) (head_none text c is)

heads_first_by : (v : Bool) (fuel : ℕ) (text : List ℕ) (c n : ℕ) (h : HeadAt) (rest : List HeadAt) → c < n → is_head text c ≡ v
    → ((c' : ℕ) → c' ≡ c + 1 → heads_in text c' n ≡ h ∷ rest → IsFirstHead text c' n h rest)
    → heads_in text c n ≡ h ∷ rest → IsFirstHead text c n h rest
heads_first_by true fuel text c n h rest lt is later all =
    let both : head_at text c ∷ heads_in text (c + 1) n ≡ h ∷ rest = sym (heads_here text c n lt is) ∙ all in
    let one : head_at text c ≡ h = cc in
    let more : heads_in text (c + 1) n ≡ rest = cc in
    subst (λ (k : HeadAt). IsFirstHead text c n k rest) one
    (subst (λ (r : List HeadAt). IsFirstHead text c n (head_at text c) r) more (first_here text c n lt is))
heads_first_by false fuel text c n h rest lt is later all =
    let found : IsFirstHead text (c + 1) n h rest = later (c + 1) refl (sym (heads_later text c n lt is) ∙ all) in
    record {
      low = omega (arith, found.low);
      high = found.high;
      head = found.head;
      none = λ q low high. elim (cases_lt c q) [
        | inl w ↦ found.none q (omega (arith, w)) high
        | inr w ↦ subst (λ p. is_head text p ≡ false) (let e : c ≡ q = omega (arith, w, low) in e) is
      ];
      left = found.left;
    }

pub heads_first : (fuel : ℕ) (text : List ℕ) (c n : ℕ) (h : HeadAt) (rest : List HeadAt) → n - c ≤ fuel → c ≤ n
    → heads_in text c n ≡ h ∷ rest → IsFirstHead text c n h rest
heads_first zero text c n h rest measure le all =
    let none : heads_in text c n ≡ [] = ap (heads_in text c) (let e : n ≡ c = omega (arith, measure, le) in e) ∙ no_heads text c in
    absurd (let no : ⊥ = cc in no)
heads_first (suc fuel) text c n h rest measure le all = elim (cases_lt c n) [
  | inl lt ↦ heads_first_by (is_head text c) fuel text c n h rest lt refl
      (λ c' e later. heads_first fuel text c' n h rest (omega (arith, e, measure, lt)) (omega (arith, e, lt)) later) all
  | inr ge ↦
      let none : heads_in text c n ≡ [] = ap (heads_in text c) (let e : n ≡ c = omega (arith, ge, le) in e) ∙ no_heads text c in
      absurd (let no : ⊥ = cc in no)
]

heads_empty_by : (v : Bool) (text : List ℕ) (c n : ℕ) → c < n → is_head text c ≡ v → heads_in text c n ≡ []
    → ((heads_in text (c + 1) n ≡ []) → (q : ℕ) → c + 1 ≤ q → q < n → is_head text q ≡ false)
    → (q : ℕ) → c ≤ q → q < n → is_head text q ≡ false
heads_empty_by true text c n lt is all later q low high =
    let no : head_at text c ∷ heads_in text (c + 1) n ≡ [] = sym (heads_here text c n lt is) ∙ all in
    absurd (let f : ⊥ = cc in f)
heads_empty_by false text c n lt is all later q low high = elim (cases_lt c q) [
  | inl w ↦ later (sym (heads_later text c n lt is) ∙ all) q (omega (arith, w)) high
  | inr w ↦ subst (λ p. is_head text p ≡ false) (let e : c ≡ q = omega (arith, w, low) in e) is
]

pub heads_empty : (fuel : ℕ) (text : List ℕ) (c n : ℕ) → n - c ≤ fuel → heads_in text c n ≡ [] → (q : ℕ) → c ≤ q → q < n
    → is_head text q ≡ false
heads_empty zero text c n measure all q low high = absurd (omega (arith, measure, low, high))
heads_empty (suc fuel) text c n measure all q low high =
    let lt : c < n = omega (arith, low, high) in
    heads_empty_by (is_head text c) text c n lt refl all
    (λ later. heads_empty fuel text (c + 1) n (omega (arith, measure, lt)) later) q low high

-- each entry with its fault
pub all_judged : (text : List ℕ) (es : List IndexEntry) → All (IsUnjudgedEntry text) es
    → All (IsEntryOf text) (with_faults es (faults_of es))
all_judged text [] all = All-nil (IsEntryOf text)
all_judged text (e ∷ es) all =
    let first : IsUnjudgedEntry text e = All-head (IsUnjudgedEntry text) e es all in
    All-cons (IsEntryOf text) (with_fault e (fault_of e.interchange)) (with_faults es (faults_of es))
    (record { read = first.read; fault = refl }) (all_judged text es (All-tail (IsUnjudgedEntry text) e es all))

pub same_extents : (es : List IndexEntry) → extents_of (with_faults es (faults_of es)) ≡ extents_of es
same_extents [] = refl
same_extents (e ∷ es) = ap (λ (xs : List Extent). extent_of e ∷ xs) (same_extents es)
