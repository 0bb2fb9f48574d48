use Rattle.std.proofs.Common.{◌≡◌, ◌≤◌, ◌∙◌, List, ℕ, None, Some, true, false, ap, sym}
use Rattle.std.specs.Prelude.{decimal}
use Rattle.hub_kinds.specs.Numbers.{number_of}
use Rattle.night_record.proofs.Numbers.{nine_read}
use Rattle.night_record.proofs.values.number_in.Goals as goal

-- the number of a text is the one that is read
same_number : (text : List ℕ) (n m : ℕ) → Some n ≡ number_of 9 text → m ≤ 999999999 → text ≡ decimal m → n ≡ m
same_number text n m is small same =
    let read : Some n ≡ Some m = is ∙ ap (λ (t : List ℕ). number_of 9 t) same ∙ nine_read m small in cc

pub returns-in-Some-2 : goal.returns-in-Some-2
returns-in-Some-2 c m small same =
    let one = same_number c.args.text.now c.in-Some.n m c.in-Some.ensures.value small same in
    let written : c.args.text.now ≡ decimal c.in-Some.n = same ∙ ap (λ (k : ℕ). decimal k) (sym one) in
    let yes : false ≡ true = c.if-is_written.ensures.1 written in
    cc

pub returns-in-Some-2-3 : goal.returns-in-Some-2-3
returns-in-Some-2-3 c m small same =
    let none : None ≡ number_of 9 c.args.text.now = c.in-Some-2.ensures.value in
    let read : None ≡ Some m = none ∙ ap (λ (t : List ℕ). number_of 9 t) same ∙ nine_read m small in cc
