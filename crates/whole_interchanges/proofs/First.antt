-- Where the first part after an offset begins.
use Rattle.std.proofs.Common.{◌≡◌, ℕ, ◌+◌, ◌-◌, ◌<◌, ◌≤◌, List, [], ◌∷◌, ◌++◌, Bool, true, false, nat_eq, Option, Some, None}
use Rattle.std.proofs.Common.{length, take, drop, get_or, map, cond, slice_range, sym, ap, ◌∙◌, arith, inl, inr}
use Rattle.std.proofs.lemmas.Bool.{cases_lt}
use Rattle.std.proofs.lemmas.List.{get_or-drop, get_or-take, length-drop, length-take-le}
use Rattle.std.proofs.lemmas.List.Sums.{prefix_len_is, prefix_len_passes, prefix_len_stops}
use Rattle.std.specs.List.{prefix_len}
use Rattle.memchr.specs.Find.{IsFirstByte, is_byte}
use Rattle.x12_bytes.specs.Bytes.{is_line_end}
use Rattle.x12_bytes.specs.HeaderTest.{is_head}
use Rattle.x12_bytes.specs.declared.delims.Delims.{Delims}
use Rattle.x12_segs.specs.Words.{Seg, segs_from, rest_from, view_of, kind_of}
use Rattle.x12_segs.proofs.ForAbove.{IsCut, cut_found, segs_from-found, segs_from-none, rest_from-none, part_at-some}
use Rattle.env_index.specs.Words.{Reach, behind, ends_interchange, onto_reach, reach_of}
use Rattle.whole_interchanges.proofs.Split.{from_rest}

-- where the first of these begins
abbrev pub first_start : List Seg → Seg → ℕ
first_start [] rest = rest.start
first_start (seg ∷ segs) rest = seg.start

-- an interchange that has none of them ends there at a header
pub reach_at_first : (text : List ℕ) (d : Delims) (segs : List Seg) (rest : Seg) → is_head text (first_start segs rest) ≡ true
    → reach_of text (map (view_of d) segs) rest ≡ record { segs = []; end = first_start segs rest }
reach_at_first text d [] rest is =
    ap (λ (b : Bool). let r : Reach = record { segs = []; end = cond b rest.start (length text) } in r) is
reach_at_first text d (seg ∷ segs) rest is =
    ap (λ (b : Bool). cond b (let r : Reach = record { segs = []; end = seg.start } in r)
    (cond (ends_interchange (kind_of (view_of d seg))) (record { segs = view_of d seg ∷ []; end = behind (view_of d seg) })
    (onto_reach (view_of d seg) (reach_of text (map (view_of d) segs) rest)))) is

-- CR and LF alone stand before a place, and no terminator
pub record Leads (text : List ℕ) (t from q : ℕ) : Type 0 where
  pub order : from ≤ q
  pub within : q < length text
  pub line_ends : (k : ℕ) → k < q - from → is_line_end (get_or (drop from text) k 0) ≡ true
  pub other : is_line_end (get_or (drop from text) (q - from) 0) ≡ false
  pub no_terminator : (k : ℕ) → k ≤ q - from → nat_eq (get_or (drop from text) k 0) t ≡ false

lead_is : (xs : List ℕ) (n : ℕ) → n < length xs → ((k : ℕ) → k < n → is_line_end (get_or xs k 0) ≡ true)
    → is_line_end (get_or xs n 0) ≡ false → prefix_len is_line_end xs ≡ n
lead_is xs n lt all other = prefix_len_is is_line_end xs n 0 (omega arith) all (λ _. other)

place_is : (from q : ℕ) → from ≤ q → from + (q - from) ≡ q
place_is from q le = omega arith

pub first_is : (text : List ℕ) (t from q : ℕ) → Leads text t from q
    → (r : Option ℕ) → IsFirstByte (is_byte t) (drop from text) r
    → first_start (segs_from text t from) (rest_from text t from) ≡ q
first_is text t from q l None h =
    let room : length (drop from text) ≡ length text - from = length-drop from text in
    let order : from ≤ q = l.order in
    let within : q < length text = l.within in
    let none = from_rest text t from None h in
    let lead : prefix_len is_line_end (drop from text) ≡ q - from = lead_is (drop from text) (q - from) (omega arith) l.line_ends l.other in
    ap (λ (xs : List Seg). first_start xs (rest_from text t from)) (segs_from-none text t from none)
    ∙ ap (λ (s : Seg). s.start) (rest_from-none text t from none)
    ∙ ap (λ (k : ℕ). from + k) lead ∙ place_is from q order
first_is text t from q l (Some len) h =
    let room : length (drop from text) ≡ length text - from = length-drop from text in
    let order : from ≤ q = l.order in
    let within : q < length text = l.within in
    let high : len < length (drop from text) = h.0.high in
    let behind_q : q - from < len = elim (cases_lt (q - from) len) [
      | inl lt ↦ lt
      | inr ge ↦ absurd (let no_t : nat_eq (get_or (drop from text) len 0) t ≡ false = l.no_terminator len ge in
          let is_t : nat_eq (get_or (drop from text) len 0) t ≡ true = h.1 in
          (let clash : true ≡ false = sym is_t ∙ no_t in let no_way : ⊥ = (cc) in no_way))
    ] in
    let cut : IsCut text t from len = cut_found text t from len (omega arith) (from_rest text t from (Some len) h) in
    let part : List ℕ = slice_range text from (from + len) in
    let width : length part ≡ len = cut.width in
    let n_is : from + len - from ≡ len = omega arith in
    let same : (k : ℕ) → k < len → get_or part k 0 ≡ get_or (drop from text) k 0 =
    λ k lt. ap (λ (n : ℕ). get_or (take n (drop from text)) k 0) n_is ∙ get_or-take len (drop from text) k 0 lt in
    let lead : prefix_len is_line_end part ≡ q - from = lead_is part (q - from) (omega arith)
    (λ k lt. ap is_line_end (same k (omega (arith, lt))) ∙ l.line_ends k lt) (ap is_line_end (same (q - from) behind_q) ∙ l.other) in
    ap (λ (xs : List Seg). first_start xs (rest_from text t from))
    (segs_from-found text t from len cut
    ∙ ap (λ (xs : List Seg). xs ++ segs_from text t (from + len + 1)) (part_at-some from part (omega arith)))
    ∙ ap (λ (k : ℕ). from + k) lead ∙ place_is from q order

-- the letter I is no CR and no LF
letter_no_line_end : (b : ℕ) → b ≡ 73 → is_line_end b ≡ false
letter_no_line_end b is = ap is_line_end is

-- where the part that is open in what is read begins at a header of the text, the first part there does
pub leads_to_head : (text : List ℕ) (c t from q : ℕ) → c ≤ length text → from ≤ c
    → IsFirstByte (is_byte t) (drop from (take c text)) None
    → q ≡ from + prefix_len is_line_end (drop from (take c text)) → q < c → Leads text t from q
leads_to_head text c t from q within le none is below =
    let read : List ℕ = drop from (take c text) in
    let size : length (take c text) ≡ c = length-take-le c text within in
    let room : length read ≡ length (take c text) - from = length-drop from (take c text) in
    let n : ℕ = prefix_len is_line_end read in
    let n_is : q - from ≡ n = omega arith in
    let same : (k : ℕ) → k < c - from → get_or read k 0 ≡ get_or (drop from text) k 0 =
    λ k lt. get_or-drop from (take c text) k 0 ∙ get_or-take c text (from + k) 0 (omega (arith, lt)) ∙ sym (get_or-drop from text k 0) in
    record {
      order = omega arith;
      within = omega arith;
      line_ends = λ k lt. ap is_line_end (sym (same k (omega (arith, lt)))) ∙ prefix_len_passes is_line_end read k 0 (omega (arith, lt));
      other = ap is_line_end (sym (same (q - from) (omega arith)) ∙ ap (λ (k : ℕ). get_or read k 0) n_is)
          ∙ prefix_len_stops is_line_end read 0 (omega arith);
      no_terminator = λ k lt. ap (λ (b : ℕ). nat_eq b t) (sym (same k (omega (arith, lt))))
          ∙ (let out : (nat_eq (get_or read k 0) t ≡ true → ⊥) = none k (omega arith) (omega (arith, lt)) in
          Rattle.std.proofs.lemmas.Bool.false_from_ne_true (nat_eq (get_or read k 0) t) out);
    }
