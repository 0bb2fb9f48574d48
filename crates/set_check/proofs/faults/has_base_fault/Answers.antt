use Rattle.std.proofs.Common.{◌≡◌, ◌<◌, ◌∙◌, ◌||◌, Bool, List, Option, ℕ, ap, arith, false, get_or, length, not, sym}
use Rattle.std.specs.List.{list_any}
use Rattle.std.specs.Option.{option_map_or}
use Rattle.std.proofs.lemmas.List.{take_all}
use Rattle.std.proofs.lemmas.List.Folds.{list_any_at, list_any_more}
use Rattle.hub_kinds.specs.declared.fault.Fault.{Fault}
use Rattle.hub_kinds.specs.Rows.{no_fault}
use Rattle.set_check.specs.Codes.{is_of_guides, reported}
use Rattle.set_check.proofs.faults.has_base_fault.Goals as goal

abbrev is_one : Fault → Bool
is_one f = option_map_or (λ c. not (is_of_guides c)) (reported f) false

pub loop-i-preserved : goal.loop-i-preserved
loop-i-preserved c =
    let faults : List Fault = c.args.faults.now in
    let f : Fault = get_or faults c.loop-i.i no_fault in
    let within : c.loop-i.i < length faults = omega (arith, c.loop-i-test.true, c.len-i-end.ensures) in
    let here : c.is_of_standard.result ≡ is_one f =
    c.is_of_standard.ensures ∙ ap (λ (o : Option (List ℕ)). option_map_or (λ c. not (is_of_guides c)) o false)
    (c.reported.ensures f (c.head.ensures no_fault)) in
    list_any_more is_one faults c.loop-i.i no_fault within
    ∙ ap (λ (b : Bool). b || is_one f) c.loop-i.invariant
    ∙ sym here ∙ c.if-is_of_standard.false

pub returns-then-is_of_standard : goal.returns-then-is_of_standard
returns-then-is_of_standard c =
    let faults : List Fault = c.args.faults.now in
    let f : Fault = get_or faults c.loop-i.i no_fault in
    let within : c.loop-i.i < length faults = omega (arith, c.loop-i-test.true, c.len-i-end.ensures) in
    let here : c.is_of_standard.result ≡ is_one f =
    c.is_of_standard.ensures ∙ ap (λ (o : Option (List ℕ)). option_map_or (λ c. not (is_of_guides c)) o false)
    (c.reported.ensures f (c.head.ensures no_fault)) in
    sym (list_any_at is_one faults c.loop-i.i no_fault within (sym here ∙ c.if-is_of_standard.true))

pub returns : goal.returns
returns c =
    let faults : List Fault = c.args.faults.now in
    sym (ap (list_any is_one) (sym (take_all c.loop-i.i faults (omega (arith, c.loop-i-test.false, c.len-i-end.ensures))))
    ∙ c.loop-i.invariant)
