-- A step over a set, a group or an interchange: what its definitions say of it, and of those after it.
use Rattle.std.proofs.Common.{◌≡◌, ◌∙◌, ◌&&◌, ℕ, ◌+◌, ◌≤◌, Bool, true, false, cond, List, [], ◌∷◌, ◌++◌, Some}
use Rattle.std.proofs.Common.{ap, ap₂, arith, drop, length, map, refl, sym, take}
use Rattle.std.specs.Prelude.{◌==◌, if◌then◌else◌, slice_get}
use Rattle.std.proofs.lemmas.List.{drop-map, take-map}
use Rattle.x12_bytes.specs.declared.delims.Delims.{Delims}
use Rattle.x12_segs.specs.Words.{element_of}
use Rattle.env_index.specs.Index.{IndexEntry}
use Rattle.env_index.specs.Interchange.{InterchangeEntry}
use Rattle.env_index.specs.Summary.{GroupEntry}
use Rattle.env_index.specs.declared.entry.SetEnvelope.{SetEnvelope}
use Rattle.sets_again.specs.Again.{again_text, chosen_in, part_of}
use Rattle.sets_again.specs.Fits.{groups_fit, is_row_of, rows_fit, sets_fit, table_fits}
use Rattle.sets_again.specs.Rows.{Row, are_refused, count_at, firsts, rows_after, rows_at}
use Rattle.sets_again.specs.Text.{chosen_sets, group_part, groups_count, groups_text, has_any, interchange_part, set_bytes}
use Rattle.sets_again.specs.declared.wanted.Wanted.{Wanted}
use Rattle.sets_again.proofs.Walking.{drop_found}

pub chosen_none : (text : List ℕ) (sets : List SetEnvelope) → chosen_sets text sets [] ≡ []
chosen_none text [] = refl
chosen_none text (set ∷ sets) = refl

pub one_at_most : (b : Bool) → cond b 1 0 ≤ 1
one_at_most true = omega (arith)
one_at_most false = omega (arith)

turned : (a b c : Bool) → ((a && b) && c) ≡ (b && (a && c))
turned true true c = refl
turned true false c = refl
turned false true c = refl
turned false false c = refl

pub not_true : (b : Bool) → (b ≡ true → ⊥) → false ≡ b
not_true true never = absurd (never refl)
not_true false never = refl

pub second_of : (a b : Bool) → (a && b) ≡ true → b ≡ true
second_of true b is = is
second_of false true is = refl
second_of false false is = is

pub lengths : (number : List ℕ) (sets : List SetEnvelope) (rows : List Row) → sets_fit number sets rows ≡ true
    → length sets ≡ length rows
lengths number [] [] is = refl
lengths number [] (row ∷ rows) is = absurd (cc)
lengths number (set ∷ sets) [] is = absurd (cc)
lengths number (set ∷ sets) (row ∷ rows) is =
    let others : length sets ≡ length rows =
    lengths number sets rows (second_of (is_row_of number set row) (sets_fit number sets rows) is) in omega (arith, others)

pub set_step : {X : Type 0} (f : X → Row) (number : List ℕ) (sets : List SetEnvelope) (rows : List X) (i : ℕ) (set : SetEnvelope) (row : X)
    → slice_get sets i ≡ Some set → drop i rows ≡ row ∷ drop (i + 1) rows
    → sets_fit number (drop i sets) (map f (drop i rows))
    ≡ (is_row_of number set (f row) && sets_fit number (drop (i + 1) sets) (map f (drop (i + 1) rows)))
set_step f number sets rows i set row set_is rows_are =
    ap₂ (λ (s : List SetEnvelope) (r : List Row). sets_fit number s r) (drop_found sets i set set_is) (ap (map f) rows_are)

-- that those before fit, this one, and those after it
pub both_fit : (found one fit others all whole : Bool) → found ≡ one → all ≡ (one && others) → (fit && all) ≡ whole
    → ((found && fit) && others) ≡ whole
both_fit found one fit others all whole found_is all_is so_far =
    ap (λ (b : Bool). (b && fit) && others) found_is ∙ turned one fit others ∙ ap (λ (b : Bool). fit && b) (sym all_is) ∙ so_far

-- the rows of a group, and those after them
pub group_fits : {X : Type 0} (f : X → Row) (groups : List GroupEntry) (rest here after : List X) (i n : ℕ) (group : GroupEntry)
    → slice_get groups i ≡ Some group → n ≡ length group.sets → here ≡ take n rest → after ≡ drop n rest
    → groups_fit (drop i groups) (map f rest)
    ≡ (sets_fit (element_of group.header 6) group.sets (map f here) && groups_fit (drop (i + 1) groups) (map f after))
group_fits {X} f groups rest here after i n group is count first others =
    ap (λ (gs : List GroupEntry). groups_fit gs (map f rest)) (drop_found groups i group is)
    ∙ ap₂ (λ (h a : List Row). sets_fit (element_of group.header 6) group.sets h && groups_fit (drop (i + 1) groups) a)
    (ap (λ (k : ℕ). take k (map f rest)) (sym count) ∙ take-map f n rest ∙ ap (map f) (sym first))
    (ap (λ (k : ℕ). drop k (map f rest)) (sym count) ∙ drop-map f n rest ∙ ap (map f) (sym others))

pub group_written : (text : List ℕ) (d : Delims) (groups : List GroupEntry) (rest here after : List Bool) (i n : ℕ) (group : GroupEntry)
    → slice_get groups i ≡ Some group → n ≡ length group.sets → here ≡ take n rest → after ≡ drop n rest
    → groups_text text d (drop i groups) rest ≡ group_part text d group here ++ groups_text text d (drop (i + 1) groups) after
group_written text d groups rest here after i n group is count first others =
    ap (λ (gs : List GroupEntry). groups_text text d gs rest) (drop_found groups i group is)
    ∙ ap₂ (λ (h a : List Bool). group_part text d group h ++ groups_text text d (drop (i + 1) groups) a)
    (ap (λ (k : ℕ). take k rest) (sym count) ∙ sym first) (ap (λ (k : ℕ). drop k rest) (sym count) ∙ sym others)

pub group_counted : (groups : List GroupEntry) (rest here after : List Bool) (i n : ℕ) (group : GroupEntry)
    → slice_get groups i ≡ Some group → n ≡ length group.sets → here ≡ take n rest → after ≡ drop n rest
    → groups_count (drop i groups) rest ≡ cond (has_any here) 1 0 + groups_count (drop (i + 1) groups) after
group_counted groups rest here after i n group is count first others =
    ap (λ (gs : List GroupEntry). groups_count gs rest) (drop_found groups i group is)
    ∙ ap₂ (λ (h a : List Bool). cond (has_any h) 1 0 + groups_count (drop (i + 1) groups) a)
    (ap (λ (k : ℕ). take k rest) (sym count) ∙ sym first) (ap (λ (k : ℕ). drop k rest) (sym count) ∙ sym others)

-- the rows of an interchange, and those after them
module _ {X : Type 0} (f : X → Row) (rest here after : List X) (count : ℕ) (x y : InterchangeEntry) (is : x ≡ y)
    (counted : count ≡ count_at x.start (map f rest)) (first : here ≡ take count rest) (others : after ≡ drop count rest) where
  same_count : count_at y.start (map f rest) ≡ count
  same_count = sym (counted ∙ ap (λ (z : InterchangeEntry). count_at z.start (map f rest)) is)

  pub here_is : rows_at y.start (map f rest) ≡ map f here
  here_is = ap (λ (k : ℕ). take k (map f rest)) same_count ∙ take-map f count rest ∙ ap (map f) (sym first)

  pub after_is : rows_after y.start (map f rest) ≡ map f after
  after_is = ap (λ (k : ℕ). drop k (map f rest)) same_count ∙ drop-map f count rest ∙ ap (map f) (sym others)

pub table_step : {X : Type 0} (f : X → Row) (entries : List IndexEntry) (rest here after : List X) (i count : ℕ) (entry : IndexEntry)
    (x : InterchangeEntry) → drop i entries ≡ entry ∷ drop (i + 1) entries → x ≡ entry.interchange
    → count ≡ count_at x.start (map f rest) → here ≡ take count rest → after ≡ drop count rest
    → table_fits (drop i entries) (map f rest) ≡ (rows_fit x (map f here) && table_fits (drop (i + 1) entries) (map f after))
table_step {X} f entries rest here after i count entry x dropped is counted first others =
    ap (λ (es : List IndexEntry). table_fits es (map f rest)) dropped
    ∙ ap₂ (λ (a b : Bool). a && b)
    (ap₂ (λ (z : InterchangeEntry) (h : List Row). rows_fit z h) (sym is) (here_is f rest here after count x entry.interchange is counted
    first others))
    (ap (λ (a : List Row). table_fits (drop (i + 1) entries) a) (after_is f rest here after count x entry.interchange is counted first
    others))

pub again_step : {X : Type 0} (f : X → Row) (which : Wanted) (text : List ℕ) (entries : List IndexEntry) (rest here after : List X)
    (i count : ℕ) (entry : IndexEntry)
    (x : InterchangeEntry) → drop i entries ≡ entry ∷ drop (i + 1) entries → x ≡ entry.interchange
    → count ≡ count_at x.start (map f rest) → here ≡ take count rest → after ≡ drop count rest
    → again_text which text (drop i entries) (map f rest)
    ≡ part_of which text x (map f here) ++ again_text which text (drop (i + 1) entries) (map f after)
again_step {X} f which text entries rest here after i count entry x dropped is counted first others =
    ap (λ (es : List IndexEntry). again_text which text es (map f rest)) dropped
    ∙ ap₂ (λ (a b : List ℕ). a ++ b)
    (ap₂ (λ (z : InterchangeEntry) (h : List Row). part_of which text z h) (sym is) (here_is f rest here after count x entry.interchange is
    counted first others))
    (ap (λ (a : List Row). again_text which text (drop (i + 1) entries) a) (after_is f rest here after count x entry.interchange is counted
    first others))

-- of an interchange that isn't refused, and of one that is
pub fits_by_sets : (x : InterchangeEntry) (rows : List Row) → are_refused rows ≡ false
    → rows_fit x rows ≡ groups_fit x.content.groups (firsts rows)
fits_by_sets x rows is = ap (λ (b : Bool). if b then length rows == 1 else groups_fit x.content.groups (firsts rows)) is

pub fits_refused : (x : InterchangeEntry) (rows : List Row) → are_refused rows ≡ true → rows_fit x rows ≡ (length rows == 1)
fits_refused x rows is = ap (λ (b : Bool). if b then length rows == 1 else groups_fit x.content.groups (firsts rows)) is

pub part_by_sets : (which : Wanted) (text : List ℕ) (x : InterchangeEntry) (rows : List Row) → are_refused rows ≡ false
    → part_of which text x rows ≡ interchange_part text x (chosen_in which rows)
part_by_sets which text x rows is =
    ap (λ (b : Bool). if b then [] else interchange_part text x (chosen_in which rows)) is

pub part_refused : (which : Wanted) (text : List ℕ) (x : InterchangeEntry) (rows : List Row) → are_refused rows ≡ true
    → part_of which text x rows ≡ []
part_refused which text x rows is = ap (λ (b : Bool). if b then [] else interchange_part text x (chosen_in which rows)) is
