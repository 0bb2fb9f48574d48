-- The interchanges of an index are given their faults one by one.
use Rattle.std.proofs.Common.{◌≡◌, ℕ, ◌+◌, ◌<◌, ◌≤◌, List, [], ◌∷◌, ◌++◌, length, take, drop, set, get_or, Option}
use Rattle.std.proofs.Common.{sym, ap, ◌∙◌, append_assoc, arith}
use Rattle.std.proofs.lemmas.List.{append-nil, drop_all, drop_more, drop-set-lt, take_all, take_more_set}
use Rattle.hub_kinds.specs.declared.interchange.InterchangeFault.{InterchangeFault}
use Rattle.env_index.specs.Index.{IndexEntry}
use Rattle.env_index.specs.Settled.{with_fault, with_faults}

-- the entry at i is given its fault
pub settled_more : (es : List IndexEntry) (fs : List (Option InterchangeFault)) (i : ℕ) (e new : IndexEntry) (f : Option InterchangeFault)
    (all : List IndexEntry) → i < length es → i < length fs → new ≡ with_fault (get_or es i e) (get_or fs i f)
    → take i es ++ with_faults (drop i es) (drop i fs) ≡ all
    → take (i + 1) (set es i new) ++ with_faults (drop (i + 1) (set es i new)) (drop (i + 1) fs) ≡ all
settled_more es fs i e new f all inside given is before =
    let behind : drop (i + 1) (set es i new) ≡ drop (i + 1) es = drop-set-lt (i + 1) es i new (omega arith) in
    let rest : with_faults (drop i es) (drop i fs) ≡ new ∷ with_faults (drop (i + 1) es) (drop (i + 1) fs)
    = ap (λ (l : List IndexEntry). with_faults l (drop i fs)) (drop_more es i e inside)
    ∙ ap (with_faults (get_or es i e ∷ drop (i + 1) es)) (drop_more fs i f given)
    ∙ ap (λ (x : IndexEntry). x ∷ with_faults (drop (i + 1) es) (drop (i + 1) fs)) (sym is) in
    ap (λ (l : List IndexEntry). l ++ with_faults (drop (i + 1) (set es i new)) (drop (i + 1) fs)) (take_more_set es i new inside)
    ∙ ap (λ (l : List IndexEntry). (take i es ++ new ∷ []) ++ with_faults l (drop (i + 1) fs)) behind
    ∙ append_assoc (take i es) (new ∷ []) (with_faults (drop (i + 1) es) (drop (i + 1) fs))
    ∙ ap (λ (l : List IndexEntry). take i es ++ l) (sym rest) ∙ before

-- after the last one nothing is left to be given
pub settled_all : (es : List IndexEntry) (fs : List (Option InterchangeFault)) (i : ℕ) (all : List IndexEntry) → length es ≤ i
    → take i es ++ with_faults (drop i es) (drop i fs) ≡ all → es ≡ all
settled_all es fs i all end before =
    sym (append-nil es)
    ∙ sym (ap (λ (l : List IndexEntry). l ++ []) (take_all i es end))
    ∙ sym (ap (λ (l : List IndexEntry). take i es ++ with_faults l (drop i fs)) (drop_all i es end)) ∙ before
