use Rattle.std.proofs.Common.{◌≡◌, ◌∙◌, ◌∷◌, List, ℕ, ap, ap₂, arith, length, sym}
use Rattle.csv.specs.Records.{fields_of}
use Rattle.night_record.specs.Tables.{count_fields}
use Rattle.night_record.proofs.Tabled.{five_fields, last_of}
use Rattle.night_record.specs.Rows.{last_three}
use Rattle.night_record.proofs.addresses.address_in.Goals as goal

pub returns-in_default : goal.returns-in_default
returns-in_default c next can same = c.in_default.ensures next.next can (last_of (fields_of c.args.row.now) next same)

pub returns : goal.returns
returns c =
    let row : List (List ℕ) = fields_of c.args.row.now in
    let long : length row ≡ 5 = omega (arith, c.len.ensures, c.if-len-ne-FIELDS.false) in
    let next : List (List ℕ) = count_fields c.in-Some.next in (
      five_fields row long
          ∙ ap₂ (λ (a b : List ℕ). a ∷ b ∷ last_three row) (sym (c.in_ok-copy_text.ensures ∙ c.field.ensures))
          (sym (c.in_ok-copy_text-2.ensures ∙ c.field-2.ensures))
          ∙ ap (λ (l : List (List ℕ)). c.in_ok-copy_text.field-0 ∷ c.in_ok-copy_text-2.field-0 ∷ l) c.in-Some.ensures.0,
      c.in-Some.ensures.1,
    )
