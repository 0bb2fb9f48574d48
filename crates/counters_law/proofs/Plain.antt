-- A name of letters and digits is written as a basic string without an escape.
use Rattle.std.proofs.Common.{◌≡◌, ℕ, true, false, ◌==◌, List, [], ◌∷◌, ◌++◌, refl, ap}
use Rattle.std.proofs.Common.{arith}
use Rattle.std.proofs.lemmas.Bool.{and_parts}
use Rattle.std.proofs.lemmas.Bool.Decides.{nat_tests}
use Rattle.std.specs.List.{list_all, list_any}
use Rattle.std.specs.Char.{is_ascii_alphanumeric}
use Rattle.toml_writer.specs.Text.{basic, encoding_of, escaped, has, is_control, needs_escape, quotes_after, string_text}

-- the byte is none of those that a string treats apart
pub record IsEasy (c : ℕ) : Type 0 where
  pub control : is_control c ≡ false
  pub backslash : (c == 92) ≡ false
  pub quote : (c == 34) ≡ false
  pub newline : (c == 10) ≡ false
  pub kept : needs_escape false 0 c ≡ false
  pub none : quotes_after false 0 c ≡ 0

easy : (c : ℕ) → is_ascii_alphanumeric c ≡ true → IsEasy c
unfolding needs_escape quotes_after
easy c h = record {
  control = grind (arith, nat_tests);
  backslash = grind (arith, nat_tests);
  quote = grind (arith, nat_tests);
  newline = grind (arith, nat_tests);
  kept = grind (arith, nat_tests);
  none = grind (arith, nat_tests);
}

pub record AreEasy (s : List ℕ) : Type 0 where
  pub control : list_any is_control s ≡ false
  pub backslash : has 92 s ≡ false
  pub quote : has 34 s ≡ false
  pub newline : has 10 s ≡ false
  pub same : escaped false 0 s ≡ s

all_easy : (s : List ℕ) → list_all is_ascii_alphanumeric s ≡ true → AreEasy s
unfolding escaped
all_easy [] h = record { control = refl; backslash = refl; quote = refl; newline = refl; same = refl }
all_easy (c ∷ s) h =
    let (one, more) = and_parts (is_ascii_alphanumeric c) (list_all is_ascii_alphanumeric s) h in
    let e = easy c one in
    let es = all_easy s more in
    record {
      control = rw (e.control) es.control;
      backslash = rw (e.backslash) es.backslash;
      quote = rw (e.quote) es.quote;
      newline = rw (e.newline) es.newline;
      same = rw (e.kept, e.none) (ap (λ (t : List ℕ). c ∷ t) es.same);
    }

is_basic : (s : List ℕ) → AreEasy s → encoding_of s ≡ basic
unfolding encoding_of
is_basic s e = rw (e.control, e.backslash, e.quote, e.newline) refl

-- the name between quotes
pub in_quotes : (s : List ℕ) → list_all is_ascii_alphanumeric s ≡ true → string_text s ≡ 34 ∷ (s ++ 34 ∷ [])
unfolding string_text
in_quotes s h =
    let e = all_easy s h in
    rw (is_basic s e) (ap (λ (t : List ℕ). 34 ∷ (t ++ 34 ∷ [])) e.same)
