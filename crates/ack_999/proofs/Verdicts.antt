-- The verdict on sets is known from how many have which verdict.
use Rattle.std.proofs.Common.{◌≡◌, ℕ, ◌+◌, Bool, true, false, cond, List, [], ◌∷◌, length, refl, sym, ap, ◌∙◌, arith}
use Rattle.std.specs.Prelude.{◌==◌, ◌&&◌, ◌||◌, not, count_by, if◌then◌else◌}
use Rattle.std.specs.List.{list_all}
use Rattle.std.proofs.lemmas.Grind.{common_steps}
use Rattle.std.proofs.lemmas.List.Sums.{sum_by-cons}
use Rattle.hub_kinds.specs.declared.answers.SetAnswer.{SetAnswer}
use Rattle.hub_kinds.specs.declared.set_codes.Verdict.{Verdict}
use Rattle.hub_kinds.specs.declared.set_codes.Verdict.TheVariants.{Accepted, AcceptedWithErrors, Rejected}
use Rattle.hub_kinds.specs.declared.set_codes.GroupCode.{GroupCode}
use Rattle.hub_kinds.specs.declared.set_codes.GroupVerdict.{GroupVerdict}
use Rattle.hub_kinds.specs.declared.set_codes.GroupVerdict.TheVariants as group
use Rattle.ack_999.specs.Group.{is_accepted, is_accepted_with_errors, is_rejected, verdicts_of, totals_of, received_sets, verdict_on_sets}
use Rattle.ack_999.specs.Group.{verdict_on_totals, verdict_by, group_verdict_of}

count_by-cons : (p : Verdict → Bool) (v : Verdict) (vs : List Verdict) → count_by p (v ∷ vs) ≡ cond (p v) 1 0 + count_by p vs
count_by-cons p v vs = sum_by-cons (λ x. cond (p x) 1 0) v vs

one-more : (n m : ℕ) → n ≡ 1 + m → (n == 0) ≡ false
one-more n m e = grind (arith, common_steps)

-- one step of the next lemma, by what the test says of the first verdict
none-cons : (b all : Bool) (n m : ℕ) → all ≡ (m == 0) → n ≡ cond b 1 0 + m → (not b && all) ≡ (n == 0)
none-cons true all n m same e = sym (one-more n m e)
none-cons false all n m same e = same ∙ ap (λ (k : ℕ). k == 0) (omega arith)

-- no verdict passes a test: none is counted
list_all-none : (p q : Verdict → Bool) → ((v : Verdict) → q v ≡ not (p v)) → (vs : List Verdict) → list_all q vs ≡ (count_by p vs == 0)
list_all-none p q opposite [] = refl
list_all-none p q opposite (v ∷ vs) =
    ap (λ (b : Bool). b && list_all q vs) (opposite v)
    ∙ none-cons (p v) (list_all q vs) (count_by p (v ∷ vs)) (count_by p vs) (list_all-none p q opposite vs) (count_by-cons p v vs)

sum-zero : (m n : ℕ) → (m + n == 0) ≡ ((m == 0) && (n == 0))
sum-zero m n = grind (arith, common_steps)

-- how many pass one of two tests that none passes both of
count_by-either : (p q : Verdict → Bool) → ((v : Verdict) → cond (p v || q v) 1 0 ≡ cond (p v) 1 0 + cond (q v) 1 0) → (vs : List Verdict)
    → count_by (λ v. p v || q v) vs ≡ count_by p vs + count_by q vs
count_by-either p q apart [] = refl
count_by-either p q apart (v ∷ vs) =
    let whole = count_by-cons (λ v. p v || q v) v vs in
    let first = count_by-cons p v vs in
    let second = count_by-cons q v vs in
    let here = apart v in
    let rest = count_by-either p q apart vs in
    omega arith

errors-apart : (v : Verdict)
    → cond (is_accepted_with_errors v || is_rejected v) 1 0 ≡ cond (is_accepted_with_errors v) 1 0 + cond (is_rejected v) 1 0
errors-apart Accepted = refl
errors-apart AcceptedWithErrors = refl
errors-apart Rejected = refl

accepted-apart : (v : Verdict)
    → cond (is_accepted v || is_accepted_with_errors v) 1 0 ≡ cond (is_accepted v) 1 0 + cond (is_accepted_with_errors v) 1 0
accepted-apart Accepted = refl
accepted-apart AcceptedWithErrors = refl
accepted-apart Rejected = refl

is_accepted-not : (v : Verdict) → is_accepted v ≡ not (is_accepted_with_errors v || is_rejected v)
is_accepted-not Accepted = refl
is_accepted-not AcceptedWithErrors = refl
is_accepted-not Rejected = refl

is_rejected-not : (v : Verdict) → is_rejected v ≡ not (is_accepted v || is_accepted_with_errors v)
is_rejected-not Accepted = refl
is_rejected-not AcceptedWithErrors = refl
is_rejected-not Rejected = refl

all_accepted : (vs : List Verdict)
    → list_all is_accepted vs ≡ ((count_by is_accepted_with_errors vs == 0) && (count_by is_rejected vs == 0))
all_accepted vs =
    list_all-none (λ v. is_accepted_with_errors v || is_rejected v) is_accepted is_accepted-not vs
    ∙ ap (λ (n : ℕ). n == 0) (count_by-either is_accepted_with_errors is_rejected errors-apart vs)
    ∙ sum-zero (count_by is_accepted_with_errors vs) (count_by is_rejected vs)

all_rejected : (vs : List Verdict)
    → list_all is_rejected vs ≡ ((count_by is_accepted vs == 0) && (count_by is_accepted_with_errors vs == 0))
all_rejected vs =
    list_all-none (λ v. is_accepted v || is_accepted_with_errors v) is_rejected is_rejected-not vs
    ∙ ap (λ (n : ℕ). n == 0) (count_by-either is_accepted is_accepted_with_errors accepted-apart vs)
    ∙ sum-zero (count_by is_accepted vs) (count_by is_accepted_with_errors vs)

choice : Bool → Bool → Bool → GroupVerdict
choice all_accepted none_rejected all_rejected =
    if all_accepted then group.Accepted
    else (if none_rejected then group.AcceptedWithErrors
    else (if all_rejected then group.Rejected
    else group.PartlyAccepted))

-- the verdict over the totals is the verdict over the sets
verdict_on_totals-totals_of : (sets : List SetAnswer) → verdict_on_totals (totals_of sets) ≡ verdict_on_sets (verdicts_of sets)
unfolding choice
verdict_on_totals-totals_of sets =
    let vs : List Verdict = verdicts_of sets in
    let none = list_all-none is_rejected (λ v. not (is_rejected v)) (λ _. refl) vs in
    ap (λ (b : Bool). choice b (count_by is_rejected vs == 0)
    ((count_by is_accepted vs == 0) && (count_by is_accepted_with_errors vs == 0))) (sym (all_accepted vs))
    ∙ ap (λ (b : Bool). choice (list_all is_accepted vs) b ((count_by is_accepted vs == 0) && (count_by is_accepted_with_errors vs == 0)))
    (sym none)
    ∙ ap (λ (b : Bool). choice (list_all is_accepted vs) (list_all (λ v. not (is_rejected v)) vs) b) (sym (all_rejected vs))

pub verdict_by-totals_of : (codes : List GroupCode) (sets : List SetAnswer)
    → verdict_by codes (totals_of sets) ≡ group_verdict_of codes (verdicts_of sets)
verdict_by-totals_of [] sets = verdict_on_totals-totals_of sets
verdict_by-totals_of (c ∷ cs) sets = refl

once : (v : Verdict) → cond (is_accepted v) 1 0 + cond (is_accepted_with_errors v) 1 0 + cond (is_rejected v) 1 0 ≡ 1
once Accepted = refl
once AcceptedWithErrors = refl
once Rejected = refl

-- each set is counted once
pub received_sets-totals_of : (sets : List SetAnswer) → received_sets (totals_of sets) ≡ length sets
received_sets-totals_of [] = refl
received_sets-totals_of (s ∷ sets) =
    let a = count_by-cons is_accepted s.verdict (verdicts_of sets) in
    let e = count_by-cons is_accepted_with_errors s.verdict (verdicts_of sets) in
    let r = count_by-cons is_rejected s.verdict (verdicts_of sets) in
    let rest = received_sets-totals_of sets in
    let one = once s.verdict in
    omega arith
