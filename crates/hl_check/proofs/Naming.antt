-- The HL after kept names.
use Rattle.std.proofs.Common.{◌≡◌, ℕ, ◌<◌, List, length, get_or, map, refl, sym, ap, ◌∙◌, true≢false}
use Rattle.std.proofs.Common.{Option, Some, None}
use Rattle.std.specs.Prelude.{option_map, is_some}
use Rattle.std.specs.List.{slice_get}
use Rattle.std.proofs.lemmas.List.{length-map}
use Rattle.std.proofs.lemmas.Option.{slice_get-map, slice_get-get_or}
use Rattle.guide_tree.specs.Words.{Segment}
use Rattle.hl_check.specs.Names.{Names, names_of, AreNames}

-- an HL stands at a place, and has these names
pub record IsNamedAt (hls : List Segment) (i : ℕ) (n : Names) : Type 0 where
  pub hl : Segment
  pub there : slice_get hls i ≡ Some hl
  pub names : names_of hl ≡ n

one_named : (o : Option Segment) (n : Names) → option_map names_of o ≡ Some n → (h : Segment) × (o ≡ Some h) × (names_of h ≡ n)
one_named None n e = absurd (true≢false (sym (ap is_some e)))
one_named (Some h) n e = (h, refl, cc)

pub named_there : (names : List Names) (hls : List Segment) → AreNames names hls → (i : ℕ) (n : Names) → n ≡ get_or names i n
    → i < length names → IsNamedAt hls i n
named_there names hls are i n e l =
    let at : slice_get names i ≡ Some n = slice_get-get_or names i n l ∙ ap (λ x. Some x) (sym e) in
    let r = one_named (slice_get hls i) n
    (sym (slice_get-map names_of hls i) ∙ sym (ap (λ (l : List Names). slice_get l i) are) ∙ at) in
    record { hl = r.0; there = r.1; names = r.2 }

pub as_many : (names : List Names) (hls : List Segment) → AreNames names hls → length hls ≡ length names
as_many names hls are = sym (length-map hls names_of) ∙ sym (ap length are)
