-- Interchanges that are walked from the front: each begins at a header and ends where its text says, and what is left to write of them.
use Rattle.std.proofs.Common.{◌≡◌, ◌∙◌, ℕ, ◌+◌, ◌<◌, List, [], ◌∷◌, ◌++◌, true, add-one, ap, append_assoc, drop, drop-cons, get_or, length}
use Rattle.std.proofs.Common.{suc, sym, zero}
use Rattle.x12_bytes.specs.HeaderTest.{is_head}
use Rattle.env_index.specs.Extents.{ChainFrom, reach_at}
use Rattle.env_index.specs.Index.{IndexEntry, extents_of}
use Rattle.inner_headers.specs.Inner.{lines_at, lines_from}

pub record IsThere (text : List ℕ) (e : IndexEntry) : Type 0 where
  pub head : is_head text e.interchange.start ≡ true
  pub end : e.interchange.end ≡ (reach_at text e.interchange.start).end

pub there : (text : List ℕ) (from : ℕ) (entries : List IndexEntry) (i : ℕ) (e : IndexEntry) (rest : List IndexEntry)
    → ChainFrom text from (extents_of entries) → drop i entries ≡ e ∷ rest → IsThere text e
there text from [] zero e rest chain is = cc
there text from [] (suc i) e rest chain is = cc
there text from (x ∷ entries) zero e rest chain is =
    let same : x ≡ e = cc in
    rw (sym same) (record { head = chain.0.head; end = chain.1 })
there text from (x ∷ entries) (suc i) e rest chain is = there text x.interchange.end entries i e rest chain.2 is

pub drop_one : {A : Type 0} (xs : List A) (i : ℕ) (x : A) → i < length xs → x ≡ get_or xs i x → drop i xs ≡ x ∷ drop (i + 1) xs
drop_one {A} xs i x low is =
    rw (add-one) (drop-cons xs i x low ∙ ap (λ (k : A). k ∷ drop (suc i) xs) (sym is))

pub two : (old x y a b : List ℕ) → x ≡ old ++ a → y ≡ x ++ b → y ≡ old ++ (a ++ b)
two old x y a b one last = last ∙ ap (λ (l : List ℕ). l ++ b) one ∙ append_assoc old a b

-- what is written of an interchange, and of those after it
pub written_more : (text : List ℕ) (number i : ℕ) (entries : List IndexEntry) (e : IndexEntry) (old new all : List (List ℕ))
    → drop i entries ≡ e ∷ drop (i + 1) entries → old ++ lines_from text number (drop i entries) ≡ all → new ≡ old ++ lines_at text number e
    → new ++ lines_from text (number + 1) (drop (i + 1) entries) ≡ all
written_more text number i entries e old new all dropped so_far adds =
    let rest : List (List ℕ) = lines_from text (number + 1) (drop (i + 1) entries) in
    ap (λ (l : List (List ℕ)). l ++ rest) adds ∙ append_assoc old (lines_at text number e) rest
    ∙ ap (λ (l : List IndexEntry). old ++ lines_from text number l) (sym dropped) ∙ so_far
