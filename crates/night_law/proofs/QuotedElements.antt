-- What an acknowledgment repeats of an interchange without fault: letters and digits, for which no delimiter of a partner is taken.
use Rattle.std.proofs.Common.{◌≡◌, ℕ, Bool, true, false, ◌&&◌, ◌||◌, ◌==◌, nat_le, not, List, [], ◌∷◌, length, Option, Some, None}
use Rattle.std.proofs.Common.{refl, sym}
use Rattle.std.specs.Prelude.{if◌then◌else◌}
use Rattle.std.specs.Char.{is_ascii_alphanumeric, is_ascii_digit, is_ascii_uppercase}
use Rattle.std.specs.List.{All, list_all}
use Rattle.std.proofs.lemmas.Bool.{and_parts, false≢true}
use Rattle.std.proofs.lemmas.List.Elements.{All-cons, All-nil, All-weaker}
use Rattle.std.proofs.lemmas.List.Sums.{AllPass-from_list_all, list_all-from_AllPass}
use Rattle.std.proofs.lemmas.Option.{none-some}
use Rattle.x12_bytes.specs.declared.delims.Delims.{Delims}
use Rattle.x12_segs.specs.Words.{SegValue, element_of}
use Rattle.x12_write.specs.Undivided.{CanDivide, IsUndivided}
use Rattle.x12_write.proofs.ForAbove.{plain-undivided}
use Rattle.hub_kinds.specs.Words.{is_number, is_word}
use Rattle.hub_kinds.specs.declared.interchange.InterchangeFault.{InterchangeFault}
use Rattle.env_index.specs.declared.entry.SetEnvelope.{SetEnvelope}
use Rattle.env_index.specs.Words.{control_number, counts_groups, fault_by, fault_of, fault_of_headers, fault_with, has_control}
use Rattle.env_index.specs.Words.{has_set_headers, is_group_header, is_set_header, InterchangeEntry, GroupEntry}

-- neither the element separator nor the terminator stands in GS01, GS06 and GS08 of a group, and in ST01 and ST02 of its sets
pub record AreElementsUndivided (d : Delims) (group : GroupEntry) : Type 0 where
  pub functional_id : IsUndivided d (element_of group.header 1)
  pub control : IsUndivided d (element_of group.header 6)
  pub version : IsUndivided d (element_of group.header 8)
  pub sets : All (λ set. IsUndivided d (element_of set.header 1) × IsUndivided d (element_of set.header 2)) group.sets

-- digits and upper-case letters are letters or digits
first_of : (a b c : Bool) → a ≡ true → ((a || b) || c) ≡ true
first_of true b c is = refl
first_of false b c is = absurd (false≢true is)

second_of : (a b c : Bool) → b ≡ true → ((a || b) || c) ≡ true
second_of true b c is = refl
second_of false true c is = refl
second_of false false c is = absurd (false≢true is)

digit_alike : (b : ℕ) → is_ascii_digit b ≡ true → is_ascii_alphanumeric b ≡ true
digit_alike b is = first_of (is_ascii_digit b) _ _ is

capital_alike : (b : ℕ) → is_ascii_uppercase b ≡ true → is_ascii_alphanumeric b ≡ true
capital_alike b is = second_of _ (is_ascii_uppercase b) _ is

-- what has the form of a header's element is undivided
module _ (d : Delims) (can : CanDivide d) where
  pub word_undivided : (least most : ℕ) (text : List ℕ) → is_word least most text ≡ true → IsUndivided d text
  word_undivided least most text word =
      plain-undivided d can text
      (and_parts (nat_le least (length text) && nat_le (length text) most) (list_all is_ascii_alphanumeric text) word).1

  letters_undivided : (p : ℕ → Bool) → ((b : ℕ) → p b ≡ true → is_ascii_alphanumeric b ≡ true) → (text : List ℕ)
      → list_all p text ≡ true → IsUndivided d text
  letters_undivided p alike text all =
      plain-undivided d can text (list_all-from_AllPass is_ascii_alphanumeric text
      (All-weaker (λ b. p b ≡ true) (λ b. is_ascii_alphanumeric b ≡ true) alike text (AllPass-from_list_all p text all)))

  number_undivided : (most : ℕ) (text : List ℕ) → is_number most text ≡ true → IsUndivided d text
  number_undivided most text number =
      letters_undivided is_ascii_digit digit_alike text
      (and_parts (nat_le 1 (length text) && nat_le (length text) most) (list_all is_ascii_digit text) number).1

  abbrev IsSetUndivided : SetEnvelope → Type 0
  IsSetUndivided set = IsUndivided d (element_of set.header 1) × IsUndivided d (element_of set.header 2)

  sets_undivided : (sets : List SetEnvelope) → list_all (λ set. is_set_header set.header) sets ≡ true → All IsSetUndivided sets
  sets_undivided [] all = All-nil IsSetUndivided
  sets_undivided (set ∷ sets) all =
      let both = and_parts (is_set_header set.header) (list_all (λ set. is_set_header set.header) sets) all in
      let st = and_parts (is_word 3 3 (element_of set.header 1)) (is_word 1 9 (element_of set.header 2)) both.0 in
      All-cons IsSetUndivided set sets
      (word_undivided 3 3 (element_of set.header 1) st.0, word_undivided 1 9 (element_of set.header 2) st.1)
      (sets_undivided sets both.1)

  group_undivided : (group : GroupEntry) → is_group_header group.header ≡ true → has_set_headers group ≡ true
      → AreElementsUndivided d group
  group_undivided group header sets =
      let last = and_parts ((length (element_of group.header 1) == 2) && list_all is_ascii_uppercase (element_of group.header 1)
      && is_number 9 (element_of group.header 6)) (is_word 1 12 (element_of group.header 8)) header in
      let front = and_parts ((length (element_of group.header 1) == 2) && list_all is_ascii_uppercase (element_of group.header 1))
      (is_number 9 (element_of group.header 6)) last.0 in
      let first = and_parts (length (element_of group.header 1) == 2) (list_all is_ascii_uppercase (element_of group.header 1)) front.0 in
      record {
        functional_id = letters_undivided is_ascii_uppercase capital_alike (element_of group.header 1) first.1;
        control = number_undivided 9 (element_of group.header 6) front.1;
        version = word_undivided 1 12 (element_of group.header 8) last.1;
        sets = sets_undivided group.sets sets;
      }

  groups_undivided : (groups : List GroupEntry) → list_all (λ group. is_group_header group.header) groups ≡ true
      → list_all has_set_headers groups ≡ true → All (AreElementsUndivided d) groups
  groups_undivided [] headers sets = All-nil (AreElementsUndivided d)
  groups_undivided (group ∷ groups) headers sets =
      let gs = and_parts (is_group_header group.header) (list_all (λ group. is_group_header group.header) groups) headers in
      let sts = and_parts (has_set_headers group) (list_all has_set_headers groups) sets in
      All-cons (AreElementsUndivided d) group groups (group_undivided group gs.0 sts.0) (groups_undivided groups gs.1 sts.1)

-- a choice between a fault and the rest gives none
none_chosen : (b : Bool) (f : InterchangeFault) (rest : Option InterchangeFault) → (if b then Some f else rest) ≡ None
    → (b ≡ false) × (rest ≡ None)
none_chosen true f rest none = absurd (none-some f (sym none))
none_chosen false f rest none = (refl, none)

not_false : (b : Bool) → not b ≡ false → b ≡ true
not_false true is = refl
not_false false is = absurd (false≢true (sym is))

-- without a fault, each GS and each ST has its form
abbrev HasSoundHeaders : InterchangeEntry → Type 0
HasSoundHeaders x =
    (list_all (λ group. is_group_header group.header) x.content.groups ≡ true) × (list_all has_set_headers x.content.groups ≡ true)

headers_sound : (x : InterchangeEntry) → fault_of_headers x ≡ None → HasSoundHeaders x
headers_sound x none =
    let gs = none_chosen (not (list_all (λ group. is_group_header group.header) x.content.groups)) _ _ none in
    let sts = none_chosen (not (list_all has_set_headers x.content.groups)) _ _ gs.1 in
    (not_false _ gs.0, not_false _ sts.0)

with_sound : (x : InterchangeEntry) (trailer : SegValue) (control : Option ℕ) → fault_with x trailer control ≡ None → HasSoundHeaders x
with_sound x trailer None none = absurd (none-some _ (sym none))
with_sound x trailer (Some control) none =
    let first = none_chosen (not (has_control trailer control)) _ _ none in
    let second = none_chosen (not (counts_groups trailer (length x.content.groups))) _ _ first.1 in
    let third = none_chosen x.content.misplaced _ _ second.1 in
    headers_sound x third.1

by_sound : (x : InterchangeEntry) (trailer : Option SegValue) → fault_by x trailer ≡ None → HasSoundHeaders x
by_sound x None none = absurd (none-some _ (sym none))
by_sound x (Some trailer) none = with_sound x trailer (control_number x.header) none

pub elements_undivided : (d : Delims) → CanDivide d → (x : InterchangeEntry) → fault_of x ≡ None
    → All (AreElementsUndivided d) x.content.groups
elements_undivided d can x none =
    let sound = by_sound x x.content.trailer none in
    groups_undivided d can x.content.groups sound.0 sound.1
