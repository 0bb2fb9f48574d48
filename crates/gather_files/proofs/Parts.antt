-- A file that is read part by part.
use Rattle.std.proofs.Common.{◌≡◌, ℕ, ◌+◌, ◌≤◌, List, ◌++◌, length, take, drop, map, refl, sym, ap, subst, ◌∙◌, arith}
use Rattle.std.proofs.lemmas.List.{append_assoc, length-append, length-map, length-take-le, take-append-drop}
use Rattle.env_index.specs.Words.{Extent}
use Rattle.whole_interchanges.specs.Batches.{ChainUpTo}
use Rattle.whole_interchanges.specs.Moved.{moved_extent}
use Rattle.whole_interchanges.proofs.ForAbove.{chain_joined, chain_past}
use Rattle.gather_files.specs.Gathered.{GoesUpTo, HoldsInterchanges, IsWholeBefore, KeepsToItself, PassesInterchanges}

-- so many interchanges up to an offset
abbrev Has : (text : List ℕ) (to n : ℕ) → Type 0
Has text to n = (xs : List Extent) × ChainUpTo text 0 to xs × (length xs ≡ n)

-- what is whole up to an offset of what is read goes on after what is whole
goes_on : (front text : List ℕ) (at n m : ℕ) → Has (front ++ text) (length front) n → Has text at m
    → Has (front ++ text) (length front + at) (n + m)
goes_on front text at n m whole more =
    let by : ℕ = length front in
    let place : by + 0 ≡ by = omega arith in
    let moved : List Extent = map (moved_extent by) more.0 in
    let count : length (whole.0 ++ moved) ≡ n + m =
    omega (arith, length-append whole.0 moved, length-map more.0 (moved_extent by), whole.2, more.2) in (
      whole.0 ++ moved,
      chain_joined (front ++ text) 0 by (by + at) whole.0 moved whole.1
          (subst (λ (k : ℕ). ChainUpTo (front ++ text) k (by + at) moved) place (chain_past front text 0 at more.0 more.1)),
      count,
    )

pub reads_on : (front read next : List ℕ) (n : ℕ) → IsWholeBefore front read n → IsWholeBefore front (read ++ next) n
reads_on front read next n whole = λ more.
    (subst (λ (xs : List ℕ). Has (front ++ xs) (length front) n) (sym (append_assoc read next more)) (whole (next ++ more)))

pub gives_up : (front read : List ℕ) (at n m : ℕ) → at ≤ length read → IsWholeBefore front read n → PassesInterchanges read at m
    → IsWholeBefore (front ++ take at read) (drop at read) (n + m)
gives_up front read at n m le whole passes = λ more.
    (let own = goes_on front (read ++ more) at n m (whole more) (passes more) in
    let text : front ++ (read ++ more) ≡ (front ++ take at read) ++ (drop at read ++ more) =
    ap (λ (xs : List ℕ). front ++ xs) (ap (λ (xs : List ℕ). xs ++ more) (sym (take-append-drop at read))
    ∙ append_assoc (take at read) (drop at read) more) ∙ sym (append_assoc front (take at read) (drop at read ++ more)) in
    let size : length front + at ≡ length (front ++ take at read) =
    ap (λ (k : ℕ). length front + k) (sym (length-take-le at read le)) ∙ sym (length-append front (take at read)) in
    subst (λ (k : ℕ). Has ((front ++ take at read) ++ (drop at read ++ more)) k (n + m)) size
    (subst (λ (xs : List ℕ). Has xs (length front + at) (n + m)) text own))

pub holds_on : (front read : List ℕ) (n m : ℕ) → IsWholeBefore front read n → HoldsInterchanges read m
    → HoldsInterchanges (front ++ read) (n + m)
holds_on front read n m whole holds = λ more follows.
    (let own = goes_on front (read ++ more) (length read) n m (whole more) (holds more follows) in
    subst (λ (k : ℕ). Has ((front ++ read) ++ more) k (n + m)) (sym (length-append front read))
    (subst (λ (xs : List ℕ). Has xs (length front + length read) (n + m)) (sym (append_assoc front read more)) own))

pub keeps : (bytes : List ℕ) (n : ℕ) → HoldsInterchanges bytes n → KeepsToItself bytes
keeps bytes n holds = λ more follows. (let own = holds more follows in (own.0, own.1))

-- what ends in what is held ends in the file
pub goes_up : (front read : List ℕ) (n : ℕ) → IsWholeBefore front read n → GoesUpTo read (length read)
    → GoesUpTo (front ++ read) (length (front ++ read))
goes_up front read n whole goes = λ more.
    (let last = goes more in
    let own = goes_on front (read ++ more) (length read) n (length last.0) (whole more) (last.0, last.1, refl) in (
      own.0,
      subst (λ (k : ℕ). ChainUpTo ((front ++ read) ++ more) 0 k own.0) (sym (length-append front read))
          (subst (λ (xs : List ℕ). ChainUpTo xs 0 (length front + length read) own.0) (sym (append_assoc front read more)) own.1),
    ))
