-- The text of a counters file is the printed lines of its expressions.
use Rattle.std.proofs.Common.{◌≡◌, ◌≤◌, ℕ, true, false, List, [], ◌∷◌, ◌++◌, codes, refl, sym, ap, arith, append_assoc}
use Rattle.std.specs.Prelude.{decimal, pos}
use Rattle.std.proofs.lemmas.Fmt.{decimal_digit}
use Rattle.toml_writer.specs.Text.{key_text, string_text}
use Rattle.toml.specs.Data.{integer, string}
use Rattle.toml.specs.Tables.{array_table, key_value}
use Rattle.toml.specs.Text.{IsLineText, IsLinesText}
use Rattle.toml.proofs.ReadLines.{AllPrinted}
use Rattle.partner_setup.specs.CountersText.{number_line}
use Rattle.partner_setup.specs.declared.rows.CounterRow.{CounterRow}
use Rattle.counters_law.proofs.Plain.{in_quotes}
use Rattle.counters_law.proofs.Telling.{ArePlain, IsPlain, expressions_of, number_pair, text_of}

counter_key : key_text (codes "counter") ≡ codes "counter"
unfolding key_text
counter_key = refl

partner_key : key_text (codes "partner") ≡ codes "partner"
unfolding key_text
partner_key = refl

interchange_key : key_text (codes "interchange") ≡ codes "interchange"
unfolding key_text
interchange_key = refl

group_key : key_text (codes "group") ≡ codes "group"
unfolding key_text
group_key = refl

set_key : key_text (codes "set") ≡ codes "set"
unfolding key_text
set_key = refl

version_key : key_text (codes "version") ≡ codes "version"
unfolding key_text
version_key = refl

number_text : (key : List ℕ) (n : ℕ) → key_text key ≡ key → n ≤ 999999999
    → IsLineText false true ([], key) (key_value (integer (pos n))) (number_line key n)
number_text key n same small =
    (decimal n, ap (λ (k : List ℕ). k ++ (codes " = " ++ (decimal n ++ 10 ∷ []))) (sym same), (refl, omega arith))

header_text : IsLineText false true ([], codes "counter") array_table (codes "\n[[counter]]\n")
header_text = rw (counter_key) refl

abbrev partner_line : List ℕ → List ℕ
partner_line name = codes "partner = \"" ++ (name ++ codes "\"\n")

name_text : (r : CounterRow) → IsPlain r
    → IsLineText false true ([], codes "partner") (key_value (string r.partner)) (partner_line r.partner)
name_text r p = (
  string_text r.partner,
  rw (partner_key, in_quotes r.partner p.name) (simp append_assoc),
  refl,
)

pub rows_text : (rs : List CounterRow) → ArePlain rs → IsLinesText false true (expressions_of rs) (text_of rs)
rows_text [] plain = refl
rows_text (r ∷ rs) plain =
    let c = r.counters in
    let i = number_line (codes "interchange") c.interchange in
    let g = number_line (codes "group") c.group in
    let s = number_line (codes "set") c.set in
    let rest = text_of rs in
    let bounds = plain.0.counters in (
      codes "\n[[counter]]\n",
      partner_line r.partner ++ (i ++ (g ++ (s ++ rest))),
      simp append_assoc,
      header_text,
      (
        partner_line r.partner,
        i ++ (g ++ (s ++ rest)),
        refl,
        name_text r plain.0,
        (
          i,
          g ++ (s ++ rest),
          refl,
          number_text (codes "interchange") c.interchange interchange_key bounds.1,
          (
            g,
            s ++ rest,
            refl,
            number_text (codes "group") c.group group_key bounds.3,
            (s, rest, refl, number_text (codes "set") c.set set_key bounds.5, rows_text rs plain.1),
          ),
        ),
      ),
    )

pub rows_printed : (rs : List CounterRow) → AllPrinted (expressions_of rs)
rows_printed [] = tt
rows_printed (r ∷ rs) = (
  omega arith,
  (
    (refl, omega arith, refl),
    ((refl, omega arith, refl), ((refl, omega arith, refl), ((refl, omega arith, refl), rows_printed rs))),
  ),
)

-- the first line
pub version_text : (rs : List CounterRow) → ArePlain rs
    → IsLinesText false false (number_pair (codes "version") 2 ∷ expressions_of rs) (codes "version = 2\n" ++ text_of rs)
version_text rs plain = (
  codes "version = 2\n",
  text_of rs,
  refl,
  (codes "2", rw (version_key) refl, (sym (decimal_digit 2 (omega arith)), omega arith)),
  rows_text rs plain,
)

pub version_printed : (rs : List CounterRow) → AllPrinted (number_pair (codes "version") 2 ∷ expressions_of rs)
version_printed rs = ((refl, omega arith, refl), rows_printed rs)
