-- Headers of what is read of a text, and of the text.
use Rattle.std.proofs.Common.{◌≡◌, ℕ, ◌+◌, ◌-◌, ◌<◌, ◌≤◌, List, Bool, true, false, ◌&&◌, inl, inr, leb, length, take, drop}
use Rattle.std.proofs.Common.{sym, ap, ◌∙◌, arith}
use Rattle.std.proofs.lemmas.Bool.{and_parts, both_ways, cases_lt, false_from_ne_true, le-leb}
use Rattle.std.proofs.lemmas.List.{length-take-le, take-take}
use Rattle.x12_bytes.specs.Header.{header_at}
use Rattle.x12_bytes.specs.HeaderTest.{is_head, is_header}
use Rattle.env_index.proofs.ForAbove.{head_within}
use Rattle.whole_interchanges.specs.Begun.{is_begun, may_begin}
use Rattle.whole_interchanges.proofs.BegunHeaders.{header_begun}
use Rattle.whole_interchanges.proofs.Split.{read_range, read_rest}

module _ (text : List ℕ) (c : ℕ) (within : c ≤ length text) where
  pub size : length (take c text) ≡ c
  size = length-take-le c text within

  pub header_kept : (q : ℕ) → q + 106 ≤ c → header_at (take c text) q ≡ header_at text q
  header_kept q fits = read_range text c q (q + 106) (omega arith) fits

  -- a header that is read whole
  pub head_kept : (q : ℕ) → q + 106 ≤ c → is_head (take c text) q ≡ is_head text q
  head_kept q fits =
      let here : leb (q + 106) (length (take c text)) ≡ true = le-leb (q + 106) (length (take c text)) (omega (arith, size)) in
      let there : leb (q + 106) (length text) ≡ true = le-leb (q + 106) (length text) (omega arith) in
      ap (λ (b : Bool). b && is_header (header_at (take c text) q)) (here ∙ sym there)
      ∙ ap (λ (h : List ℕ). leb (q + 106) (length text) && is_header h) (header_kept q fits)

  pub head_fits : (q : ℕ) → is_head (take c text) q ≡ true → q + 106 ≤ c
  head_fits q is = omega (arith, head_within (take c text) q is, size)

  pub head_more : (q : ℕ) → is_head (take c text) q ≡ true → is_head text q ≡ true
  head_more q is = sym (head_kept q (head_fits q is)) ∙ is

  -- none is read that isn't there
  pub none_more : (q : ℕ) → is_head text q ≡ false → is_head (take c text) q ≡ false
  none_more q none = false_from_ne_true (is_head (take c text) q) (λ is. both_ways (is_head text q) none (head_more q is))

  -- one that isn't read whole may begin, by what is read
  pub head_begins : (q : ℕ) → q ≤ c → c < q + 106 → is_head text q ≡ true → may_begin (take c text) q ≡ true
  head_begins q le short is =
      let header : is_header (header_at text q) ≡ true = (and_parts (leb (q + 106) (length text)) (is_header (header_at text q)) is).1 in
      let begun : is_begun (take (c - q) (header_at text q)) ≡ true = header_begun (header_at text q) (c - q) (omega arith) header in
      let same : drop q (take c text) ≡ take (c - q) (header_at text q) =
      read_rest text c q le ∙ sym (take-take (c - q) (q + 106 - q) (drop q text) (omega arith)) in
      ap is_begun same ∙ begun

  -- where none is read and none may begin, none begins
  pub none_begins : (q : ℕ) → q ≤ c → is_head (take c text) q ≡ false → may_begin (take c text) q ≡ false → is_head text q ≡ false
  none_begins q le none closed = false_from_ne_true (is_head text q) (λ is. elim (cases_lt c (q + 106)) [
    | inl short ↦ both_ways (may_begin (take c text) q) closed (head_begins q le short is)
    | inr fits ↦ both_ways (is_head (take c text) q) none (head_kept q fits ∙ is)
  ])
