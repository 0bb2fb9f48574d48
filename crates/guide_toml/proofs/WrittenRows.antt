-- A simple row and a component as they are written, read back from their tokens.
use Rattle.std.proofs.Common.{◌≡◌, ℕ, suc, ◌+◌, ◌-◌, List, [], ◌∷◌, ◌++◌, length, take, drop, Option, Some, None, refl, sym, ap, ◌∙◌, arith}
use Rattle.std.proofs.Common.{cond, Bool, true, false, ◌&&◌, nat_le, decimal, codes, bytes_eq, option_map, leb-true, le-leb, ◌==◌, eqb-true}
use Rattle.std.specs.List.{list_all, prefix_len}
use Rattle.std.specs.Char.{is_ascii_digit}
use Rattle.std.proofs.Math.Seq.{take-append_seam, drop-append_seam}
use Rattle.std.proofs.lemmas.Bool.Decides.{nat_tests}
use Rattle.guide_tree.specs.declared.element.ElementType.{ElementType}
use Rattle.guide_tree.specs.declared.element.ElementType.TheVariants as types
use Rattle.guide_tree.specs.declared.element.Requirement.{Requirement}
use Rattle.guide_tree.specs.declared.element.Requirement.TheVariants as requirement
use Rattle.guide_tree.specs.declared.element.CodeList.{CodeList}
use Rattle.guide_tree.specs.declared.element.SimpleRow.{SimpleRow}
use Rattle.guide_tree.specs.declared.element.Component.{Component}
use Rattle.guide_tree.specs.declared.element.Component.TheVariants as component
use Rattle.guide_toml.specs.Tokens.{is_code}
use Rattle.guide_toml.specs.ElementTexts as read
use Rattle.guide_toml.specs.Written as written
use Rattle.guide_toml.proofs.WrittenNumbers.{count_of-decimal}

pub and_both : (a b : Bool) → (a && b) ≡ true → (a ≡ true) × (b ≡ true)
and_both true b h = (refl, h)
and_both false b h = cc

-- digits aren't `-`
no_dash : (d : ℕ) → is_ascii_digit d ≡ true → (d == 45) ≡ false
no_dash d digit = grind (arith, nat_tests, digit)

pub reference_back : (r : List ℕ) → written.is_reference r ≡ true → read.reference_of (written.reference_text r) ≡ Some r
reference_back [] h = refl
reference_back (d ∷ []) h =
    let digits = and_both (nat_le 1 1 && nat_le 1 4) (list_all is_ascii_digit (d ∷ [])) h in
    rw (no_dash d (and_both (is_ascii_digit d) true digits.1).0, h) refl
reference_back (d ∷ e ∷ ds) h = rw h (grind (arith, nat_tests))

pub requirement_back : (r : Requirement) → read.requirement_of (written.requirement_text r) ≡ Some r
requirement_back requirement.Mandatory = refl
requirement_back requirement.Optional = refl

pub type_back : (t : ElementType) → written.is_type t ≡ true → read.type_of (written.type_text t) ≡ Some t
type_back types.Text h = refl
type_back types.Identifier h = refl
type_back types.Decimal h = refl
type_back types.Date h = refl
type_back types.Time h = refl
type_back (types.Number n) h =
    let small = leb-true n 9 h in
    let low = le-leb 48 (48 + n) (omega arith) in
    let high = le-leb (48 + n) 57 (omega arith) in
    let digit : is_ascii_digit (48 + n) ≡ true = rw (low, high) refl in
    let value : (48 + n) - 48 ≡ n = omega arith in
    rw digit (ap (λ m. Some (types.Number m)) value)

pub measure_back : (t : ElementType) (lo hi : ℕ) (rest : read.Tokens)
    → written.is_type t ≡ true → written.is_count lo ≡ true → written.is_count hi ≡ true
    → read.measure_of (written.type_text t ∷ decimal lo ∷ decimal hi ∷ rest)
    ≡ Some (record { data_type = t; min = lo; max = hi }, rest)
unfolding read.measure_of
measure_back t lo hi rest p q r =
    rw (type_back t p, count_of-decimal lo (leb-true lo 4294967295 q), count_of-decimal hi (leb-true hi 4294967295 r)) refl

-- codes stand before what is none
all_in_front : (cs : List (List ℕ)) (rest : read.Tokens) → list_all is_code cs ≡ true → prefix_len is_code rest ≡ 0
    → prefix_len is_code (cs ++ rest) ≡ length cs
all_in_front [] rest h none = none
all_in_front (c ∷ cs) rest h none =
    let both = and_both (is_code c) (list_all is_code cs) h in
    let front = all_in_front cs rest both.1 none in
    let step : 1 + prefix_len is_code (cs ++ rest) ≡ suc (length cs) = omega arith in
    rw both.0 step

unused_back : (used : List (List ℕ)) (unused : Option (List (List ℕ))) → written.are_unused_codes unused ≡ true
    → read.unused_codes used (written.unused_tokens unused) ≡ Some (record { used = used; unused = unused })
unused_back used None h = refl
unused_back used (Some values) h = rw h refl

none_first : (unused : Option (List (List ℕ))) → prefix_len is_code (written.unused_tokens unused) ≡ 0
none_first None = refl
none_first (Some values) = refl

codes_back : (c : Option CodeList) → written.are_listed_codes c ≡ true → read.codes_of (written.code_tokens c) ≡ Some c
codes_back None h = refl
codes_back (Some c) h =
    let both = and_both (list_all is_code c.used) (written.are_unused_codes c.unused) h in
    let front = all_in_front c.used (written.unused_tokens c.unused) both.0 (none_first c.unused) in
    ap (λ n. option_map Some (read.unused_codes (take n (c.used ++ written.unused_tokens c.unused))
    (drop n (c.used ++ written.unused_tokens c.unused)))) front
    ∙ ap (λ ts. option_map Some (read.unused_codes ts (drop (length c.used) (c.used ++ written.unused_tokens c.unused))))
    (take-append_seam c.used (written.unused_tokens c.unused))
    ∙ ap (λ ts. option_map Some (read.unused_codes c.used ts)) (drop-append_seam c.used (written.unused_tokens c.unused))
    ∙ ap (option_map Some) (unused_back c.used c.unused both.1)

wide_back : (w : Bool) (c : Option CodeList)
    → read.take_wide (written.wide_tokens w ++ written.code_tokens c) ≡ (w, written.code_tokens c)
wide_back true c = refl
wide_back false None = refl
wide_back false (Some c) = refl

-- what stands after the lengths of a row
abbrev pub behind : Bool → Option CodeList → read.Tokens
behind w c = written.wide_tokens w ++ written.code_tokens c

pub row_back : (row : SimpleRow) → written.are_listed_codes row.codes ≡ true
    → read.row_of_tokens row.reference row.requirement (record { data_type = row.data_type; min = row.min; max = row.max })
    (behind row.wide row.codes) ≡ Some row
row_back row h =
    ap (λ w. option_map (λ c. record {
      reference = row.reference;
      requirement = row.requirement;
      data_type = row.data_type;
      min = row.min;
      max = row.max;
      wide = w.0;
      codes = c;
    }) (read.codes_of w.1)) (wide_back row.wide row.codes)
    ∙ ap (option_map (λ c. record {
      reference = row.reference;
      requirement = row.requirement;
      data_type = row.data_type;
      min = row.min;
      max = row.max;
      wide = row.wide;
      codes = c;
    })) (codes_back row.codes h)

pub once : (w : Bool) (c : Option CodeList) → read.take_repeat (behind w c) ≡ (1, behind w c)
once true c = refl
once false None = refl
once false (Some c) = refl

repeat_by : (b : Bool) (n : ℕ) (rest : read.Tokens) → (n == 1) ≡ b → written.is_count n ≡ true → read.take_repeat rest ≡ (1, rest)
    → read.take_repeat ((cond b [] ((120 ∷ decimal n) ∷ [])) ++ rest) ≡ (n, rest)
repeat_by true n rest e h o = o ∙ ap (λ m. (m, rest)) (sym (eqb-true n 1 e))
repeat_by false n rest e h o = rw (count_of-decimal n (leb-true n 4294967295 h)) refl

-- how often, before what says nothing of it
pub repeat_back : (n : ℕ) (rest : read.Tokens) → written.is_count n ≡ true → read.take_repeat rest ≡ (1, rest)
    → read.take_repeat (written.repeat_tokens n ++ rest) ≡ (n, rest)
repeat_back n rest h o = repeat_by (n == 1) n rest refl h o

pub no_n : (r : Requirement) → bytes_eq (written.requirement_text r) (codes "N") ≡ false
no_n requirement.Mandatory = refl
no_n requirement.Optional = refl

-- what a row's test says of its parts
pub record IsRow (row : SimpleRow) : Type 0 where
  pub reference : written.is_reference row.reference ≡ true
  pub data_type : written.is_type row.data_type ≡ true
  pub least : written.is_count row.min ≡ true
  pub most : written.is_count row.max ≡ true
  pub values : written.are_listed_codes row.codes ≡ true

pub row_parts : (row : SimpleRow) → written.is_row row ≡ true → IsRow row
row_parts row h =
    let a = and_both _ (written.are_listed_codes row.codes) h in
    let b = and_both _ (written.is_count row.max) a.0 in
    let c = and_both _ (written.is_count row.min) b.0 in
    let d = and_both (written.is_reference row.reference) (written.is_type row.data_type) c.0 in
    record { reference = d.0; data_type = d.1; least = c.1; most = b.1; values = a.1 }

pub component_back : (c : Component) → written.is_component c ≡ true → read.component_of (written.component_tokens c) ≡ Some c
unfolding read.component_of read.used_component
component_back (component.NotUsed r) h = rw (reference_back r h) refl
component_back (component.Simple row) h =
    let is = row_parts row h in
    rw (
      reference_back row.reference is.reference,
      no_n row.requirement,
      requirement_back row.requirement,
      measure_back row.data_type row.min row.max (behind row.wide row.codes) is.data_type is.least is.most,
      row_back row is.values,
    ) refl
