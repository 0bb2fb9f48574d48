-- An index goes on by the next interchange.
use Rattle.std.proofs.Common.{◌≡◌, ℕ, ◌+◌, ◌-◌, ◌<◌, ◌≤◌, not, List, [], ◌∷◌, ◌++◌, length, drop}
use Rattle.std.proofs.Common.{sym, ap, subst, ◌∙◌, append_assoc, arith}
use Rattle.std.specs.Prelude.{count_by, slice_range}
use Rattle.std.proofs.lemmas.List.{append-nil, length-take, map-append, take_rest}
use Rattle.std.proofs.lemmas.List.Sums.{count_by-le-length}
use Rattle.env_index.specs.Extents.{Extent, Chain, ChainFrom, count_outside, is_filler, reach_at}
use Rattle.env_index.specs.Faults.{fault_of}
use Rattle.env_index.specs.Index.{IndexEntry, IsEntryOf, IsReadIn, IsNextIn, extent_of, extents_of}
use Rattle.env_index.specs.Interchange.{InterchangeEntry}

extents_more : (es new : List IndexEntry) (e : IndexEntry) (xs : List Extent) → new ≡ es ++ e ∷ []
    → extents_of new ++ xs ≡ extents_of es ++ extent_of e ∷ xs
extents_more es new e xs is =
    ap (λ (l : List IndexEntry). extents_of l ++ xs) is
    ∙ ap (λ (l : List Extent). l ++ xs) (map-append extent_of es (e ∷ []))
    ∙ append_assoc (extents_of es) (extent_of e ∷ []) xs

end_read : (text : List ℕ) (x : InterchangeEntry) → IsReadIn text x → x.end ≡ (reach_at text x.start).end
end_read text x r = ap (λ (y : InterchangeEntry). y.end) r.read

pub chain_more : (text : List ℕ) (es new : List IndexEntry) (e : IndexEntry) (from at : ℕ) → new ≡ es ++ e ∷ []
    → IsNextIn text from e.interchange → at ≡ e.interchange.end
    → ((xs : List Extent) → ChainFrom text from xs → Chain text (extents_of es ++ xs))
    → (xs : List Extent) → ChainFrom text at xs → Chain text (extents_of new ++ xs)
chain_more text es new e from at is next end old xs chain =
    subst (Chain text) (sym (extents_more es new e xs is))
    (old (extent_of e ∷ xs)
    (next.next, end_read text e.interchange next.read, subst (λ (n : ℕ). ChainFrom text n xs) end chain))

pub counted_more : (text : List ℕ) (es new : List IndexEntry) (e : IndexEntry) (from at outside more : ℕ) → new ≡ es ++ e ∷ []
    → at ≡ e.interchange.end → more ≡ count_by (λ b. not (is_filler b)) (slice_range text from e.interchange.start)
    → ((xs : List Extent) → count_outside text 0 (extents_of es ++ xs) ≡ outside + count_outside text from xs)
    → (xs : List Extent) → count_outside text 0 (extents_of new ++ xs) ≡ outside + more + count_outside text at xs
counted_more text es new e from at outside more is end count old xs =
    let all = ap (count_outside text 0) (extents_more es new e xs is) ∙ old (extent_of e ∷ xs) in
    let behind = ap (λ (n : ℕ). count_outside text n xs) end in
    omega (arith, all, behind, count)

pub entry_of : (text : List ℕ) (from : ℕ) (x : InterchangeEntry) (e : IndexEntry) → e.interchange ≡ x → e.fault ≡ fault_of x
    → IsNextIn text from x → IsEntryOf text e
entry_of text from x e same fault next = record {
  read = subst (IsReadIn text) (sym same) next.read;
  fault = fault ∙ ap fault_of (sym same);
}

pub few_more : (text : List ℕ) (from start end outside more : ℕ) → outside ≤ from → from ≤ start → start < end
    → more ≡ count_by (λ b. not (is_filler b)) (slice_range text from start) → outside + more ≤ end
few_more text from start end outside more few low high count =
    let most = count_by-le-length (λ b. not (is_filler b)) (slice_range text from start) in
    let long = length-take (start - from) (drop from text) in
    omega (arith, most, long, count, few, low, high)

-- after the last interchange there is none
pub chain_ends : (text : List ℕ) (es : List IndexEntry) (from : ℕ) → ChainFrom text from []
    → ((xs : List Extent) → ChainFrom text from xs → Chain text (extents_of es ++ xs)) → Chain text (extents_of es)
chain_ends text es from none old = subst (Chain text) (append-nil (extents_of es)) (old [] none)

pub count_ends : (text : List ℕ) (es : List IndexEntry) (from outside more : ℕ)
    → more ≡ count_by (λ b. not (is_filler b)) (slice_range text from (length text))
    → ((xs : List Extent) → count_outside text 0 (extents_of es ++ xs) ≡ outside + count_outside text from xs)
    → outside + more ≡ count_outside text 0 (extents_of es)
count_ends text es from outside more count old =
    let rest = ap (λ (xs : List ℕ). count_by (λ b. not (is_filler b)) xs) (take_rest text from) in
    let all = sym (ap (count_outside text 0) (append-nil (extents_of es))) ∙ old [] in
    omega (arith, rest, all, count)
