-- What is put after a file, byte by byte.
use Rattle.std.proofs.Common.{◌≡◌, ℕ, zero, suc, ◌+◌, ◌≤◌, List, replicate, [], ◌∷◌, ◌++◌, ◌⊎◌, inl, inr, true}
use Rattle.std.proofs.Common.{length, take, refl, sym, ap, ap₂, subst, ◌∙◌, arith}
use Rattle.std.specs.List.{All}
use Rattle.std.proofs.lemmas.List.{append_assoc, append-nil, length-append, take_at}
use Rattle.std.proofs.lemmas.List.Elements.{All-append, All-cons, All-head, All-nil, All-tail}
use Rattle.x12_bytes.specs.Header.{header_at, terminator_of}
use Rattle.x12_bytes.specs.HeaderTest.{is_head}
use Rattle.env_index.proofs.ForAbove.{head_within}
use Rattle.whole_interchanges.proofs.ForAbove.{head_more, header_kept}
use Rattle.night_equal.proofs.ForAbove.{heads}
use Rattle.whole_interchanges.specs.Scouting.{IsInside}
use Rattle.whole_interchanges.specs.declared.scout.Inside.{Inside}
use Rattle.gather_files.specs.ClosingBytes.{blanks}
use Rattle.gather_files.specs.Closing.{IsOwnTerminator, PutsBehind}

pub nothing_behind : (file : List ℕ) → PutsBehind file file 0
nothing_behind file = record {
  rest = [];
  is = sym (append-nil file);
  few = refl;
  own = All-nil (λ (b : ℕ). (b ≡ 32) ⊎ IsOwnTerminator file b);
}

-- a header stays where it is
still_own : (file more : List ℕ) (b : ℕ) → IsOwnTerminator file b → IsOwnTerminator (file ++ more) b
still_own file more b (start, head, is) =
    let c : ℕ = length file in
    let front : take c (file ++ more) ≡ file = take_at file more c refl in
    let within : c ≤ length (file ++ more) = omega (arith, length-append file more) in
    let there : is_head file start ≡ true = sym (heads file start) ∙ head in
    let fits : start + 106 ≤ c = head_within file start there in (
      start,
      heads (file ++ more) start ∙ head_more (file ++ more) c within start (ap (λ (xs : List ℕ). is_head xs start) front ∙ there),
      is ∙ ap terminator_of (ap (λ (xs : List ℕ). header_at xs start) (sym front) ∙ header_kept (file ++ more) c within start fits),
    )

abbrev pub IsPut : List ℕ → ℕ → Type 0
IsPut file x = (x ≡ 32) ⊎ IsOwnTerminator file x

still_put : (file more : List ℕ) (x : ℕ) → IsPut file x → IsPut (file ++ more) x
still_put file more x (inl space) = inl space
still_put file more x (inr own) = inr (still_own file more x own)

all_still_put : (file more xs : List ℕ) → All (IsPut file) xs → All (IsPut (file ++ more)) xs
all_still_put file more [] all = All-nil (IsPut (file ++ more))
all_still_put file more (x ∷ xs) all =
    All-cons (IsPut (file ++ more)) x xs (still_put file more x (All-head (IsPut file) x xs all))
    (all_still_put file more xs (All-tail (IsPut file) x xs all))

-- what is put after what was put
pub behind_on : (old mid new : List ℕ) (m n : ℕ) → PutsBehind old mid m → PutsBehind mid new n → PutsBehind old new (m + n)
behind_on old mid new m n first second = record {
  rest = first.rest ++ second.rest;
  is = second.is ∙ ap (λ (xs : List ℕ). xs ++ second.rest) first.is ∙ append_assoc old first.rest second.rest;
  few = length-append first.rest second.rest ∙ ap₂ (λ (a b : ℕ). a + b) first.few second.few;
  own = All-append (IsPut new) first.rest second.rest
      (subst (λ (f : List ℕ). All (IsPut f) first.rest) (sym second.is) (all_still_put mid second.rest first.rest first.own)) second.own;
}

pub one_more : (old new : List ℕ) (count b : ℕ) → PutsBehind old new count → ((b ≡ 32) ⊎ IsOwnTerminator new b)
    → PutsBehind old (new ++ b ∷ []) (count + 1)
one_more old new count b so_far own =
    let one : PutsBehind new (new ++ b ∷ []) 1 = record {
      rest = b ∷ [];
      is = refl;
      few = refl;
      own = All-cons (IsPut (new ++ b ∷ [])) b [] (still_put new (b ∷ []) b own) (All-nil (IsPut (new ++ b ∷ [])));
    } in
    behind_on old new (new ++ b ∷ []) count 1 so_far one

all_spaces : (file : List ℕ) (n : ℕ) → All (IsPut file) (replicate n 32)
all_spaces file zero = All-nil (IsPut file)
all_spaces file (suc n) = All-cons (IsPut file) 32 (replicate n 32) (inl refl) (all_spaces file n)

pub blanks_behind : (file : List ℕ) → PutsBehind file (file ++ blanks) 16
blanks_behind file = record { rest = blanks; is = refl; few = refl; own = all_spaces (file ++ blanks) 16 }

pub inside_own : (read : List ℕ) (at : ℕ) (i : Inside) → IsInside read at i → IsOwnTerminator read i.delims.terminator
inside_own read at i is =
    (at, heads read at ∙ is.head, ap (λ (d : Rattle.x12_bytes.specs.declared.delims.Delims.Delims). d.terminator) is.delims)
