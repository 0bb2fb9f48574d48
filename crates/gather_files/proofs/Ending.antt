-- After the last byte nothing is open, where this is the terminator.
use Rattle.std.proofs.Common.{◌≡◌, ℕ, ◌+◌, ◌-◌, ◌<◌, ◌≤◌, List, [], ◌∷◌, nat_eq, Option, Some, None}
use Rattle.std.proofs.Common.{length, take, drop, get_or, sym, ap, ◌∙◌, arith, inl, inr}
use Rattle.std.specs.List.{prefix_len, All}
use Rattle.std.proofs.lemmas.Bool.{cases_lt, eq-eqb}
use Rattle.std.proofs.lemmas.List.{get_or-drop, get_or-append-add, get_or-take, length-append, length-drop, length-take-le, drop_all}
use Rattle.std.proofs.lemmas.List.Elements.{All-cons, All-head, All-nil, All-tail}
use Rattle.memchr.specs.Find.{IsFirstByte, is_byte}
use Rattle.x12_bytes.specs.Bytes.{is_line_end}
use Rattle.x12_bytes.specs.Header.{header_at, terminator_of}
use Rattle.x12_segs.specs.Words.{Seg, rest_from}
use Rattle.x12_segs.proofs.ForAbove.{IsCut, cut_found, rest_from-found, rest_from-none}
use Rattle.env_index.specs.Words.{Chain, ChainFrom, Extent}
use Rattle.env_index.proofs.ForAbove.{head_within}
use Rattle.whole_interchanges.proofs.ForAbove.{IsSplit, first_byte, from_rest, split_at}
use Rattle.gather_files.specs.Gathered.{IsClosed, IsClosedFile}
use Rattle.gather_files.specs.ClosingBytes.{terminated}

-- at the end
rest_at_end : (text : List ℕ) (t from : ℕ) → from ≡ length text → (rest_from text t from).start ≡ length text
rest_at_end text t from is =
    let none : drop from text ≡ [] = drop_all from text (omega (arith, is)) in
    let found = first_byte t (drop from text) in
    by_found found.0 found.1 none
  where
    by_found : (r : Option ℕ) → IsFirstByte (is_byte t) (drop from text) r → drop from text ≡ []
        → (rest_from text t from).start ≡ length text
    by_found None h none =
        ap (λ (x : Seg). x.start) (rest_from-none text t from (from_rest text t from None h))
        ∙ ap (λ (xs : List ℕ). from + prefix_len is_line_end xs) none ∙ (let z : from + 0 ≡ length text = omega (arith, is) in z)
    by_found (Some len) h none =
        let high : len < length (drop from text) = h.0.high in
        let empty : length (drop from text) ≡ 0 = ap (λ (xs : List ℕ). length xs) none in
        absurd (omega (arith, high, empty))

pub rest_behind : (body : List ℕ) (t from : ℕ) → from ≤ length body + 1
    → (rest_from (terminated body t) t from).start ≡ length (terminated body t)
rest_behind body t from le =
    let text : List ℕ = terminated body t in
    let c : ℕ = length body in
    let long : length text ≡ c + 1 = length-append body (t ∷ []) in
    elim (cases_lt c from) [
      | inl past ↦ rest_at_end text t from (omega (arith, long, le, past))
      | inr low ↦
          let s : IsSplit text c t from = split_at text c t from low (omega (arith, long)) in
          let found = first_byte t (drop s.open_at text) in
          ap (λ (x : Seg). x.start) s.rest ∙ by_found s.open_at s.within s.none found.0 found.1
    ]
  where
    by_found : (at : ℕ) → at ≤ length body → IsFirstByte (is_byte t) (drop at (take (length body) (terminated body t))) None
        → (r : Option ℕ) → IsFirstByte (is_byte t) (drop at (terminated body t)) r
        → (rest_from (terminated body t) t at).start ≡ length (terminated body t)
    by_found at within unseen None h =
        let text : List ℕ = terminated body t in
        let c : ℕ = length body in
        let long : length text ≡ c + 1 = length-append body (t ∷ []) in
        let room : length (drop at text) ≡ length text - at = length-drop at text in
        let place : at + (c - at) ≡ c + 0 = omega (arith, within) in
        let last : get_or (drop at text) (c - at) 0 ≡ t =
        get_or-drop at text (c - at) 0 ∙ ap (λ (k : ℕ). get_or text k 0) place ∙ get_or-append-add body (t ∷ []) 0 0 in
        absurd (h (c - at) (omega arith) (omega (arith, room, long, within)) (eq-eqb (get_or (drop at text) (c - at) 0) t last))
    by_found at within unseen (Some len) h =
        let text : List ℕ = terminated body t in
        let c : ℕ = length body in
        let long : length text ≡ c + 1 = length-append body (t ∷ []) in
        let room : length (drop at text) ≡ length text - at = length-drop at text in
        let high : len < length (drop at text) = h.0.high in
        let cut : IsCut text t at len = cut_found text t at len (omega (arith, within, long)) (from_rest text t at (Some len) h) in
        let size : length (take c text) ≡ c = length-take-le c text (omega (arith, long)) in
        let less : length (drop at (take c text)) ≡ length (take c text) - at = length-drop at (take c text) in
        let last : at + len + 1 ≡ length text = elim (cases_lt (at + len) c) [
          | inr ge ↦ omega (arith, ge, high, room, long, within)
          | inl lt ↦
              let same : get_or (drop at (take c text)) len 0 ≡ get_or (drop at text) len 0 =
              get_or-drop at (take c text) len 0 ∙ get_or-take c text (at + len) 0 lt ∙ sym (get_or-drop at text len 0) in
              absurd (unseen len (omega arith) (omega (arith, less, size, lt)) (ap (λ (b : ℕ). nat_eq b t) same ∙ h.1))
        ] in
        ap (λ (x : Seg). x.start) (rest_from-found text t at len cut) ∙ rest_at_end text t (at + len + 1) last

abbrev Owns : List ℕ → ℕ → Extent → Type 0
Owns text t x = (x.end ≡ length text) → (terminator_of (header_at text x.start) ≡ t)

-- a file is closed by the terminator of its last interchange as its last byte
pub closed_by : (body : List ℕ) (t : ℕ)
    → ((xs : List Extent) → Chain (terminated body t) xs → All (Owns (terminated body t) t) xs)
    → IsClosedFile (terminated body t)
closed_by body t own xs chain = each 0 xs chain (own xs chain)
  where
    each : (from : ℕ) (xs : List Extent) → ChainFrom (terminated body t) from xs → All (Owns (terminated body t) t) xs
        → All (IsClosed (terminated body t)) xs
    each from [] chain own = All-nil (IsClosed (terminated body t))
    each from (x ∷ xs) chain own =
        let text : List ℕ = terminated body t in
        let long : length text ≡ length body + 1 = length-append body (t ∷ []) in
        let fits : x.start + 106 ≤ length body + 1 = omega (arith, head_within text x.start chain.0.head, long) in
        All-cons (IsClosed text) x xs
        (λ is. ap (λ (u : ℕ). (rest_from text u (x.start + 106)).start)
        (All-head (Owns (terminated body t) t) x xs own is) ∙ rest_behind body t (x.start + 106) fits)
        (each x.end xs chain.2 (All-tail (Owns (terminated body t) t) x xs own))
