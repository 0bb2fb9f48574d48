-- A data element's row as it is written, read back from its tokens.
use Rattle.std.proofs.Common.{◌≡◌, ℕ, suc, ◌+◌, ◌<◌, ◌≤◌, List, [], ◌∷◌, ◌++◌, length, take, drop, map, Option, Some, None}
use Rattle.std.proofs.Common.{refl, sym, ap, ◌∙◌}
use Rattle.std.proofs.Common.{cond, Bool, true, false, not, ◌==◌, decimal, codes, bytes_eq, leb-true, arith}
use Rattle.std.specs.List.{All, list_all, position_or_len, join_with_byte}
use Rattle.std.proofs.lemmas.List.{append-nil}
use Rattle.std.proofs.lemmas.List.Elements.{All-nil, All-cons}
use Rattle.std.proofs.lemmas.List.Folds.{list_all-append}
use Rattle.std.proofs.lemmas.List.Splits.{slice_split_none, slice_split_at}
use Rattle.std.proofs.Math.Seq.{take-append_seam, drop-append_seam}
use Rattle.guide_tree.specs.declared.element.ElementType.{ElementType}
use Rattle.guide_tree.specs.declared.element.ElementType.TheVariants as types
use Rattle.guide_tree.specs.declared.element.CodeList.{CodeList}
use Rattle.guide_tree.specs.declared.element.SimpleRow.{SimpleRow}
use Rattle.guide_tree.specs.declared.element.CompositeRow.{CompositeRow}
use Rattle.guide_tree.specs.declared.element.Component.{Component}
use Rattle.guide_tree.specs.declared.element.Component.TheVariants as component
use Rattle.guide_tree.specs.declared.element.Element.{Element}
use Rattle.guide_tree.specs.declared.element.Element.TheVariants as element
use Rattle.guide_toml.specs.Tokens.{is_semicolon, is_code, token_groups}
use Rattle.guide_toml.specs.ElementTexts as read
use Rattle.guide_toml.specs.Written as written
use Rattle.guide_toml.proofs.WrittenRows.{and_both, row_parts, reference_back, requirement_back, measure_back, behind, row_back}
use Rattle.guide_toml.proofs.WrittenRows.{once, repeat_back, no_n, component_back}
use Rattle.guide_toml.proofs.WrittenTokens.{is_solid, is_sound, decimal_sound, repeat_sound, reference_sound, requirement_sound}
use Rattle.guide_toml.proofs.WrittenTokens.{type_sound, codes_sound, tokens_back}

all_both : (p : List ℕ → Bool) (xs ys : read.Tokens) → list_all p xs ≡ true → list_all p ys ≡ true → list_all p (xs ++ ys) ≡ true
all_both p xs ys a b = list_all-append p xs ys ∙ rw (a, b) refl

repeat_tokens_sound : (b : Bool) (n : ℕ) → n ≤ 4294967295 → list_all is_sound (cond b [] ((120 ∷ decimal n) ∷ [])) ≡ true
repeat_tokens_sound true n h = refl
repeat_tokens_sound false n h = rw (repeat_sound n h) refl

unused_tokens_sound : (o : Option (List (List ℕ))) → written.are_unused_codes o ≡ true
    → list_all is_sound (written.unused_tokens o) ≡ true
unused_tokens_sound None h = refl
unused_tokens_sound (Some values) h = codes_sound values h

code_tokens_sound : (c : Option CodeList) → written.are_listed_codes c ≡ true → list_all is_sound (written.code_tokens c) ≡ true
code_tokens_sound None h = refl
code_tokens_sound (Some c) h =
    let both = and_both (list_all is_code c.used) (written.are_unused_codes c.unused) h in
    all_both is_sound c.used (written.unused_tokens c.unused) (codes_sound c.used both.0) (unused_tokens_sound c.unused both.1)

behind_sound : (w : Bool) (c : Option CodeList) → written.are_listed_codes c ≡ true → list_all is_sound (behind w c) ≡ true
behind_sound true c h = code_tokens_sound c h
behind_sound false c h = code_tokens_sound c h

pub row_sound : (row : SimpleRow) (n : ℕ) → written.is_row row ≡ true → written.is_count n ≡ true
    → list_all is_sound (written.row_tokens row n) ≡ true
row_sound row n h m =
    let is = row_parts row h in
    rw (
      reference_sound row.reference is.reference,
      requirement_sound row.requirement,
      type_sound row.data_type is.data_type,
      decimal_sound row.min (leb-true row.min 4294967295 is.least),
      decimal_sound row.max (leb-true row.max 4294967295 is.most),
    )
    (all_both is_sound (written.repeat_tokens n) (behind row.wide row.codes)
    (repeat_tokens_sound (n == 1) n (leb-true n 4294967295 m)) (behind_sound row.wide row.codes is.values))

not_used_sound : (r : List ℕ) → written.is_reference r ≡ true → list_all is_sound (written.not_used_tokens r) ≡ true
not_used_sound r h = rw (reference_sound r h) refl

component_sound : (c : Component) → written.is_component c ≡ true → list_all is_sound (written.component_tokens c) ≡ true
component_sound (component.NotUsed r) h = not_used_sound r h
component_sound (component.Simple row) h = row_sound row 1 h refl

-- a sound token is solid, and none is a semicolon
solid_of : (ts : read.Tokens) → list_all is_sound ts ≡ true → list_all is_solid ts ≡ true
solid_of [] h = refl
solid_of (t ∷ ts) h =
    let both = and_both (is_sound t) (list_all is_sound ts) h in
    rw (and_both (is_solid t) (not (is_semicolon t)) both.0).0 (solid_of ts both.1)

was_false : (b : Bool) → not b ≡ true → b ≡ false
was_false true h = cc
was_false false h = refl

no_semicolons : (ts : read.Tokens) → list_all is_sound ts ≡ true → All (λ t. is_semicolon t ≡ false) ts
no_semicolons [] h = All-nil (λ t. is_semicolon t ≡ false)
no_semicolons (t ∷ ts) h =
    let both = and_both (is_sound t) (list_all is_sound ts) h in
    All-cons (λ t. is_semicolon t ≡ false) t ts
    (was_false (is_semicolon t) (and_both (is_solid t) (not (is_semicolon t)) both.0).1) (no_semicolons ts both.1)

-- the first semicolon stands after sound tokens
first_semicolon : (ts rest : read.Tokens) → list_all is_sound ts ≡ true → position_or_len is_semicolon rest ≡ 0
    → position_or_len is_semicolon (ts ++ rest) ≡ length ts
first_semicolon [] rest h first = first
first_semicolon (t ∷ ts) rest h first =
    let both = and_both (is_sound t) (list_all is_sound ts) h in
    let none = was_false (is_semicolon t) (and_both (is_solid t) (not (is_semicolon t)) both.0).1 in
    let more = first_semicolon ts rest both.1 first in
    let step : 1 + position_or_len is_semicolon (ts ++ rest) ≡ suc (length ts) = omega arith in
    rw none step

cut_there : (ts rest : read.Tokens) → list_all is_sound ts ≡ true → position_or_len is_semicolon rest ≡ 0
    → read.element_of_tokens (ts ++ rest) ≡ read.element_in ts (read.behind_first rest)
cut_there ts rest h first =
    ap (λ n. read.element_in (take n (ts ++ rest)) (read.behind_first (drop n (ts ++ rest)))) (first_semicolon ts rest h first)
    ∙ ap (λ head. read.element_in head (read.behind_first (drop (length ts) (ts ++ rest)))) (take-append_seam ts rest)
    ∙ ap (λ tail. read.element_in ts (read.behind_first tail)) (drop-append_seam ts rest)

uncut : (ts : read.Tokens) → list_all is_sound ts ≡ true → read.element_of_tokens ts ≡ read.element_in ts None
uncut ts h = ap read.element_of_tokens (sym (append-nil ts)) ∙ cut_there ts [] h refl

-- the tokens of each component
groups_back : (c : Component) (cs : List Component) → written.is_component c ≡ true → list_all written.is_component cs ≡ true
    → token_groups (written.component_tokens c ++ written.components_tokens cs) ≡ map written.component_tokens (c ∷ cs)
groups_back c [] h hs =
    ap token_groups (append-nil (written.component_tokens c))
    ∙ slice_split_none is_semicolon (written.component_tokens c) (no_semicolons (written.component_tokens c) (component_sound c h))
groups_back c (d ∷ cs) h hs =
    let both = and_both (written.is_component d) (list_all written.is_component cs) hs in
    slice_split_at is_semicolon (written.component_tokens c) (codes ";") (written.component_tokens d ++ written.components_tokens cs)
    (no_semicolons (written.component_tokens c) (component_sound c h)) refl
    ∙ ap (λ gs. written.component_tokens c ∷ gs) (groups_back d cs both.0 both.1)

components_back : (cs : List Component) → list_all written.is_component cs ≡ true
    → read.components_of_tokens (map written.component_tokens cs) ≡ Some cs
components_back [] h = refl
components_back (c ∷ cs) h =
    let both = and_both (written.is_component c) (list_all written.is_component cs) h in
    rw (component_back c both.0, components_back cs both.1) refl

behind_back : (cs : List Component) → list_all written.is_component cs ≡ true
    → read.components_behind (read.behind_first (written.components_tokens cs)) ≡ Some cs
behind_back [] h = refl
behind_back (c ∷ cs) h =
    let both = and_both (written.is_component c) (list_all written.is_component cs) h in
    ap read.components_of_tokens (groups_back c cs both.0 both.1) ∙ components_back (c ∷ cs) h

begins_there : (cs : List Component) → position_or_len is_semicolon (written.components_tokens cs) ≡ 0
begins_there [] = refl
begins_there (c ∷ cs) = refl

no_c : (t : ElementType) → bytes_eq (written.type_text t) (codes "C") ≡ false
no_c types.Text = refl
no_c types.Identifier = refl
no_c types.Decimal = refl
no_c types.Date = refl
no_c types.Time = refl
no_c (types.Number n) = refl

not_used_back : (r : List ℕ) → written.is_reference r ≡ true
    → read.element_in (written.not_used_tokens r) None ≡ Some (element.NotUsed r)
unfolding read.element_in
not_used_back r h = rw (reference_back r h) refl

simple_back : (row : SimpleRow) (n : ℕ) → written.is_row row ≡ true → written.is_count n ≡ true
    → read.element_in (written.row_tokens row n) None ≡ Some (element.Simple row n)
unfolding read.element_in read.used_element read.simple_of
simple_back row n h m =
    let is = row_parts row h in
    rw (
      reference_back row.reference is.reference,
      no_n row.requirement,
      requirement_back row.requirement,
      no_c row.data_type,
      measure_back row.data_type row.min row.max (written.repeat_tokens n ++ behind row.wide row.codes) is.data_type is.least is.most,
      repeat_back n (behind row.wide row.codes) m (once row.wide row.codes),
      row_back row is.values,
    ) refl

composite_back : (c : CompositeRow) → written.is_writable (element.Composite c) ≡ true
    → (behind : Option read.Tokens) → read.components_behind behind ≡ Some c.components
    → read.element_in (written.reference_text c.reference ∷ written.requirement_text c.requirement ∷ codes "C"
    ∷ written.repeat_tokens c.repeat) behind ≡ Some (element.Composite c)
unfolding read.element_in read.used_element read.composite_of
composite_back c h behind e =
    let a = and_both _ (list_all written.is_component c.components) h in
    let b = and_both (written.is_reference c.reference) (written.is_count c.repeat) a.0 in
    let often : read.take_repeat (written.repeat_tokens c.repeat) ≡ (c.repeat, []) =
    ap read.take_repeat (sym (append-nil (written.repeat_tokens c.repeat))) ∙ repeat_back c.repeat [] b.1 refl in
    rw (reference_back c.reference b.0, no_n c.requirement, requirement_back c.requirement, often, e) refl

solid_components : (cs : List Component) → list_all written.is_component cs ≡ true
    → list_all is_solid (written.components_tokens cs) ≡ true
solid_components [] h = refl
solid_components (c ∷ cs) h =
    let both = and_both (written.is_component c) (list_all written.is_component cs) h in
    all_both is_solid (written.component_tokens c) (written.components_tokens cs)
    (solid_of (written.component_tokens c) (component_sound c both.0)) (solid_components cs both.1)

read_tokens : (ts : read.Tokens) (e : Element) → 0 < length ts → list_all is_solid ts ≡ true → read.element_of_tokens ts ≡ Some e
    → read.element_of_text (join_with_byte 32 ts) ≡ Some e
read_tokens ts e some solid is = ap read.element_of_tokens (tokens_back ts some solid) ∙ is

pub element_back : (e : Element) → written.is_writable e ≡ true → read.element_of_text (written.element_text e) ≡ Some e
element_back (element.NotUsed r) h =
    let sound = not_used_sound r h in
    read_tokens (written.not_used_tokens r) (element.NotUsed r) (omega arith) (solid_of (written.not_used_tokens r) sound)
    (uncut (written.not_used_tokens r) sound ∙ not_used_back r h)
element_back (element.Simple row n) h =
    let both = and_both (written.is_row row) (written.is_count n) h in
    let sound = row_sound row n both.0 both.1 in
    read_tokens (written.row_tokens row n) (element.Simple row n) (omega arith) (solid_of (written.row_tokens row n) sound)
    (uncut (written.row_tokens row n) sound ∙ simple_back row n both.0 both.1)
element_back (element.Composite c) h =
    let a = and_both _ (list_all written.is_component c.components) h in
    let b = and_both (written.is_reference c.reference) (written.is_count c.repeat) a.0 in
    let head : read.Tokens =
    written.reference_text c.reference ∷ written.requirement_text c.requirement ∷ codes "C" ∷ written.repeat_tokens c.repeat in
    let sound : list_all is_sound head ≡ true = rw (reference_sound c.reference b.0, requirement_sound c.requirement)
    (repeat_tokens_sound (c.repeat == 1) c.repeat (leb-true c.repeat 4294967295 b.1)) in
    read_tokens (head ++ written.components_tokens c.components) (element.Composite c) (omega arith)
    (all_both is_solid head (written.components_tokens c.components) (solid_of head sound) (solid_components c.components a.1))
    (cut_there head (written.components_tokens c.components) sound (begins_there c.components)
    ∙ composite_back c h (read.behind_first (written.components_tokens c.components)) (behind_back c.components a.1))
