-- Rows read one after another.
use Rattle.std.proofs.Common.{◌≡◌, ℕ, ◌+◌, ◌<◌, List, [], ◌∷◌, ◌++◌, length, get_or, drop, Result, Ok, Err, refl}
use Rattle.std.proofs.Common.{sym, ap, ◌∙◌, append_assoc}
use Rattle.toml.proofs.Views.{items_view-drop}
use Rattle.toml.specs.declared.value.Value.{Value}
use Rattle.toml.specs.Data.{Data, Items, item}
use Rattle.toml.specs.View.{view, items_view}
use Rattle.toml_keys.specs.Meanings.{Meaning, refuses, no_memory, other, FailsAs}
use Rattle.toml_keys.specs.Refusals.{Refusal}
use Rattle.toml_keys.specs.Tables.{◌>>=◌}

-- rows before those that are still to be read
abbrev pub behind : {A : Type 0} → List A → Result (List A) Refusal → Result (List A) Refusal
behind done rest = rest >>= λ xs. Ok (done ++ xs)

-- a row before the others
abbrev pub first : {A : Type 0} → Result A Refusal → Result (List A) Refusal → Result (List A) Refusal
first row rest = row >>= λ x. rest >>= λ xs. Ok (x ∷ xs)

one_more : {A : Type 0} (done : List A) (x : A) (rest : Result (List A) Refusal)
    → behind (done ++ x ∷ []) rest ≡ behind done (rest >>= λ xs. Ok (x ∷ xs))
one_more done x (Ok xs) = ap Ok (append_assoc done (x ∷ []) xs)
one_more done x (Err e) = refl

-- one row more
pub row_added : {A : Type 0} (done new : List A) (x : A) (row : Result A Refusal) (rest all : Result (List A) Refusal)
    → new ≡ done ++ x ∷ [] → row ≡ Ok x → behind done (first row rest) ≡ all → behind new rest ≡ all
row_added done new x row rest all n e a =
    ap (λ (xs : List _). behind xs rest) n ∙ one_more done x rest
    ∙ sym (ap (λ (r : Result _ Refusal). behind done (first r rest)) e) ∙ a

-- one that isn't read
pub row_fails : {A : Type 0} (done : List A) (m : Meaning) (row : Result A Refusal) (rest all : Result (List A) Refusal)
    → FailsAs m row → behind done (first row rest) ≡ all → FailsAs m all
row_fails done (refuses f) row rest all h a = sym a ∙ ap (λ (r : Result _ Refusal). behind done (first r rest)) h
row_fails done no_memory row rest all h a = h
row_fails done other row rest all h a = h

-- the items from a place on begin with the one there
pub next_item : (vs : List Value) (i : ℕ) (v : Value) → i < length vs → v ≡ get_or vs i v
    → items_view (drop i vs) ≡ item (view v) (items_view (drop (i + 1) vs))
next_item vs i v h is =
    items_view-drop vs i v h ∙ ap (λ (x : Value). item (view x) (items_view (drop (i + 1) vs))) (sym is)

-- so do the rows
pub next_row : {A : Type 0} (row : Data → Result A Refusal) (rows : Items → Result (List A) Refusal)
    → ((d : Data) (ds : Items) → rows (item d ds) ≡ first (row d) (rows ds)) → (vs : List Value) (i : ℕ) (v : Value)
    → i < length vs → v ≡ get_or vs i v → (done : List A) (all : Result (List A) Refusal)
    → behind done (rows (items_view (drop i vs))) ≡ all
    → behind done (first (row (view v)) (rows (items_view (drop (i + 1) vs)))) ≡ all
next_row row rows step vs i v h is done all a =
    ap (behind done) (sym (ap rows (next_item vs i v h is) ∙ step (view v) (items_view (drop (i + 1) vs)))) ∙ a
