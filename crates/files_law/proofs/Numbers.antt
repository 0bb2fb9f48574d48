-- X12.5, interchange control numbers and counts: how large they are.
use Rattle.std.proofs.Common.{◌≡◌, ℕ, ◌≤◌, Bool, true, false, cond, not, List, [], ◌∷◌, length, Option, Some, None, refl, ap, subst}
use Rattle.std.proofs.Common.{arith}
use Rattle.std.specs.Prelude.{◌&&◌, nat_le, if◌then◌else◌}
use Rattle.std.specs.List.{list_all}
use Rattle.std.specs.Char.{is_ascii_digit}
use Rattle.std.proofs.lemmas.Bool.{and_parts, eqb-true, leb-true}
use Rattle.hub_kinds.specs.Words.{is_number, number_of, value_of}
use Rattle.hub_kinds.specs.declared.interchange.InterchangeFault.{InterchangeFault}
use Rattle.x12_segs.specs.Words.{SegValue, element_of}
use Rattle.count_numbers.specs.Num.{num}
use Rattle.env_index.specs.Words.{InterchangeEntry, control_number, counts_groups, fault_by, fault_of, fault_with, has_control}
use Rattle.env_index.specs.Faults.{is_some_number}

pub num_small : (start k : ℕ) → num start k ≤ 999999999
num_small start k = omega arith

digit_most : (b : ℕ) → is_ascii_digit b ≡ true → b ≤ 57
digit_most b is = leb-true b 57 (and_parts (nat_le 48 b) (nat_le b 57) is).1

first_digit : (b : ℕ) (text : List ℕ) → list_all is_ascii_digit (b ∷ text) ≡ true → (b ≤ 57) × (list_all is_ascii_digit text ≡ true)
first_digit b text all =
    let both = and_parts (is_ascii_digit b) (list_all is_ascii_digit text) all in (digit_most b both.0, both.1)

-- five digits write a number up to 99,999
value_most : (text : List ℕ) → length text ≤ 5 → list_all is_ascii_digit text ≡ true → value_of text ≤ 99999
value_most [] short all = omega arith
value_most (a ∷ []) short all = let p = first_digit a [] all in omega (arith, p.0)
value_most (a ∷ b ∷ []) short all =
    let p = first_digit a (b ∷ []) all in let q = first_digit b [] p.1 in omega (arith, p.0, q.0)
value_most (a ∷ b ∷ c ∷ []) short all =
    let p = first_digit a (b ∷ c ∷ []) all in let q = first_digit b (c ∷ []) p.1 in let r = first_digit c [] q.1 in
    omega (arith, p.0, q.0, r.0)
value_most (a ∷ b ∷ c ∷ d ∷ []) short all =
    let p = first_digit a (b ∷ c ∷ d ∷ []) all in let q = first_digit b (c ∷ d ∷ []) p.1 in let r = first_digit c (d ∷ []) q.1 in
    let s = first_digit d [] r.1 in omega (arith, p.0, q.0, r.0, s.0)
value_most (a ∷ b ∷ c ∷ d ∷ e ∷ []) short all =
    let p = first_digit a (b ∷ c ∷ d ∷ e ∷ []) all in let q = first_digit b (c ∷ d ∷ e ∷ []) p.1 in
    let r = first_digit c (d ∷ e ∷ []) q.1 in let s = first_digit d (e ∷ []) r.1 in let t = first_digit e [] s.1 in
    omega (arith, p.0, q.0, r.0, s.0, t.0)
value_most (a ∷ b ∷ c ∷ d ∷ e ∷ f ∷ text) short all = absurd (omega (arith, short))

five_digits : (text : List ℕ) (n : ℕ) (b : Bool) → is_number 5 text ≡ b → cond b (Some (value_of text)) None ≡ Some n → n ≤ 99999
five_digits text n false is same = cc
five_digits text n true is same =
    let both = and_parts (nat_le 1 (length text) && nat_le (length text) 5) (list_all is_ascii_digit text) is in
    let short = leb-true (length text) 5 (and_parts (nat_le 1 (length text)) (nat_le (length text) 5) both.0).1 in
    let value : value_of text ≡ n = cc in
    subst (λ (m : ℕ). m ≤ 99999) value (value_most text short both.1)

is_some : (o : Option ℕ) (n : ℕ) → is_some_number o n ≡ true → o ≡ Some n
is_some None n is = cc
is_some (Some m) n is = ap Some (eqb-true m n is)

second_passes : (a b : Bool) (f g : InterchangeFault) (rest : Option InterchangeFault)
    → (if not a then Some f else if not b then Some g else rest) ≡ None → b ≡ true
second_passes true true f g rest is = refl
second_passes true false f g rest is = cc
second_passes false b f g rest is = cc

by_control : (x : InterchangeEntry) (t : SegValue) (c : Option ℕ) → fault_with x t c ≡ None → length x.content.groups ≤ 99999
by_control x t None is = cc
by_control x t (Some control) is =
    let counted : counts_groups t (length x.content.groups) ≡ true =
    second_passes (has_control t control) (counts_groups t (length x.content.groups)) _ _ _ is in
    five_digits (element_of t 1) (length x.content.groups) (is_number 5 (element_of t 1)) refl
    (is_some (number_of 5 (element_of t 1)) (length x.content.groups) counted)

by_trailer : (x : InterchangeEntry) (o : Option SegValue) → fault_by x o ≡ None → length x.content.groups ≤ 99999
by_trailer x None is = cc
by_trailer x (Some t) is = by_control x t (control_number x.header) is

-- an interchange without fault has at most 99,999 groups
pub few_groups : (x : InterchangeEntry) → fault_of x ≡ None → length x.content.groups ≤ 99999
few_groups x is = by_trailer x x.content.trailer is
