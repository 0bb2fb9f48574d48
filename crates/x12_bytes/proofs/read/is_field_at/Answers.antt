use Rattle.std.proofs.Common.{◌≡◌, ◌∙◌, ℕ, List, IsTrue, ap, sym, subst}
use Rattle.std.specs.Prelude.{slice_index}
use Rattle.std.specs.List.{list_all}
use Rattle.x12_bytes.specs.Header.{element_separator_of, field_of, separator_place}
use Rattle.x12_bytes.specs.HeaderTest.{is_field_byte}
use Rattle.x12_bytes.proofs.Testing.{decides_field_bytes}
use Rattle.x12_bytes.proofs.read.is_field_at.Goals as goal

pub returns-then-bytes-separator_place : goal.returns-then-bytes-separator_place
returns-then-bytes-separator_place c =
    let h : List ℕ = c.args.bytes.now in
    let told = decides_field_bytes h (field_of h c.args.k) in
    let same : c.is_free_of.result ≡ list_all (is_field_byte h) (field_of h c.args.k) = c.is_free_of.ensures
    ∙ ap (list_all (is_field_byte h)) c.field.ensures.value in
    let separator : slice_index h (separator_place c.args.k) ≡ element_separator_of h = ap (slice_index h)
    (sym c.separator_place.ensures.value)
    ∙ c.if-bytes-separator_place.true in
    (λ yes. record { separator = separator; bytes = told.0 (subst IsTrue same yes) }, λ f. subst IsTrue (sym same) (told.1 f.bytes))
