-- The first row of which something is so, by a walk over the rows.
use Rattle.std.proofs.Common.{◌≡◌, ◌<◌, ◌≤◌, ℕ, ◌+◌, Bool, true, List, drop, length, get_or, cond, sym, ap, ◌∙◌, Option, Some, None}
use Rattle.std.specs.List.{position_from}
use Rattle.std.proofs.lemmas.List.{drop_all, drop_more}

pub row_found : {A : Type 0} (test : A → Bool) (rows : List A) (i : ℕ) (row : A) (all : Option ℕ) → i < length rows
    → row ≡ get_or rows i row → test row ≡ true → position_from test i (drop i rows) ≡ all → Some i ≡ all
row_found test rows i row all within is so walked =
    sym (ap (λ (b : Bool). cond b (Some i) (position_from test (i + 1) (drop (i + 1) rows))) (ap test (sym is) ∙ so))
    ∙ ap (position_from test i) (sym (drop_more rows i row within))
    ∙ walked

pub no_row_found : {A : Type 0} (test : A → Bool) (rows : List A) (i : ℕ) (all : Option ℕ) → length rows ≤ i
    → position_from test i (drop i rows) ≡ all → None ≡ all
no_row_found test rows i all behind walked = ap (position_from test i) (sym (drop_all i rows behind)) ∙ walked
