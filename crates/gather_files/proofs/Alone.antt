-- Files that stand alone, and bytes that are complete, by the definition and by the layers.
use Rattle.std.proofs.Common.{◌≡◌, ℕ, ◌+◌, ◌<◌, ◌≤◌, List, [], ◌∷◌, ◌++◌, true, length, map, refl, sym, ap, subst, ◌∙◌, arith, inl, inr}
use Rattle.std.specs.Prelude.{◌↔◌}
use Rattle.std.specs.List.{All, flat_map}
use Rattle.std.proofs.lemmas.List.{append_assoc, append-nil, length-append, length-map, take_at}
use Rattle.std.proofs.lemmas.List.Elements.{All-cons, All-head, All-nil, All-tail}
use Rattle.env_index.specs.Words.{ChainFrom, Extent}
use Rattle.env_index.proofs.ForAbove.{chain_from_is_one}
use Rattle.whole_interchanges.specs.Batches.{ChainUpTo}
use Rattle.whole_interchanges.proofs.ForAbove.{chain_ends, end_within, head_more}
use Rattle.night_definition.specs.Interchanges.{Interchange, Text, text_of}
use Rattle.night_equal.proofs.ForAbove.{heads}
use Rattle.gather_files.specs.Gathered.{GoesUpTo, HoldsInterchanges, KeepsToItself, MayFollow}
use Rattle.gather_files.specs.Apart.{AreReadAlone, MayComeAfter, StandsAlone, text_of_files}
use Rattle.gather_files.specs.Moved.{in_a_row, moved, moved_interchange}
use Rattle.gather_files.proofs.Joining.{read_alone}
use Rattle.gather_files.proofs.Walks.{chain_of, extents}

abbrev EndsWithin : ℕ → Interchange → Type 0
EndsWithin to x = x.end ≤ to

abbrev StartsFrom : ℕ → Interchange → Type 0
StartsFrom from x = from ≤ x.start

all_within : (text : List ℕ) (from : ℕ) (xs : List Interchange) → ChainFrom text from (extents xs) → All (EndsWithin (length text)) xs
all_within text from [] chain = All-nil (EndsWithin (length text))
all_within text from (x ∷ xs) chain =
    All-cons (EndsWithin (length text)) x xs (omega (arith, chain.1, end_within text x.start chain.0.head))
    (all_within text x.end xs chain.2)

all_from : (by : ℕ) (xs : List Interchange) → All (StartsFrom by) (map (moved_interchange by) xs)
all_from by [] = All-nil (StartsFrom by)
all_from by (x ∷ xs) =
    All-cons (StartsFrom by) (moved_interchange by x) (map (moved_interchange by) xs)
    (let le : by ≤ by + x.start = omega arith in le) (all_from by xs)

-- the front of a chain goes up to where the others start
front_chain : (text : List ℕ) (c from : ℕ) (xs ys : List Interchange) → from ≤ c → ChainFrom text from (extents (xs ++ ys))
    → All (EndsWithin c) xs → All (StartsFrom c) ys → ChainUpTo text from c (extents xs)
front_chain text c from [] [] le chain ends starts = (le, λ q low lt. chain q low)
front_chain text c from [] (y ∷ ys) le chain ends starts = (
  le,
  λ q low lt. chain.0.least q low (omega (arith, lt, All-head (StartsFrom c) y ys starts)),
)
front_chain text c from (x ∷ xs) ys le chain ends starts = (
  chain.0,
  chain.1,
  front_chain text c x.end xs ys (All-head (EndsWithin c) x xs ends) chain.2 (All-tail (EndsWithin c) x xs ends) starts,
)

-- what is read alone has its chain up to its end
pub chain_up : (file after : List ℕ) → AreReadAlone file after
    → ChainUpTo (file ++ after) 0 (length file) (extents (text_of file).interchanges)
chain_up file after alone =
    let c : ℕ = length file in
    let others : List Interchange = map (moved_interchange c) (text_of after).interchanges in
    front_chain (file ++ after) c 0 (text_of file).interchanges others (omega arith)
    (subst (λ (t : Text). ChainFrom (file ++ after) 0 (extents t.interchanges)) alone (chain_of (file ++ after)))
    (all_within file 0 (text_of file).interchanges (chain_of file)) (all_from c (text_of after).interchanges)

pub may_come : (after : List ℕ) → MayFollow after → MayComeAfter after
may_come after (inl none) = inl none
may_come after (inr head) = inr (heads after 0 ∙ head)

pub may_follow : (after : List ℕ) → MayComeAfter after → MayFollow after
may_follow after (inl none) = inl none
may_follow after (inr head) = inr (sym (heads after 0) ∙ head)

pub alone_is_one : (file : List ℕ) → StandsAlone file ↔ KeepsToItself file
alone_is_one file = (
  λ alone after follows. (extents (text_of file).interchanges, chain_up file after (alone after (may_come after follows))),
  λ keeps after comes. (let own = keeps after (may_follow after comes) in read_alone file after own.0 own.1),
)

count_is : (file : List ℕ) (n : ℕ) → HoldsInterchanges file n → length (text_of file).interchanges ≡ n
count_is file n holds =
    let own = holds [] (inl refl) in
    let chain : ChainFrom file 0 own.0 =
    chain_ends file 0 own.0 (subst (λ (l : List ℕ). ChainUpTo l 0 (length file) own.0) (append-nil file) own.1) in
    let same : own.0 ≡ extents (text_of file).interchanges =
    chain_from_is_one file 0 own.0 (extents (text_of file).interchanges) chain (chain_of file) in
    sym (length-map (text_of file).interchanges Rattle.gather_files.proofs.Walks.extent)
    ∙ ap (λ (xs : List Extent). length xs) (sym same) ∙ own.2

pub count_is_one : (file : List ℕ) (n : ℕ)
    → (StandsAlone file × (length (text_of file).interchanges ≡ n)) ↔ HoldsInterchanges file n
count_is_one file n = (
  λ alone after follows. (
    extents (text_of file).interchanges,
    chain_up file after (alone.0 after (may_come after follows)),
    length-map (text_of file).interchanges Rattle.gather_files.proofs.Walks.extent ∙ alone.1,
  ),
  λ holds. (
    λ after comes. (let own = holds after (may_follow after comes) in read_alone file after own.0 own.1),
    count_is file n holds,
  ),
)

pub complete_is_one : (before last : List ℕ)
    → ((after : List ℕ) → AreReadAlone before (last ++ after)) ↔ GoesUpTo (before ++ last) (length before)
complete_is_one before last = (
  λ alone after. (
    extents (text_of before).interchanges,
    subst (λ (l : List ℕ). ChainUpTo l 0 (length before) (extents (text_of before).interchanges))
        (sym (append_assoc before last after)) (chain_up before (last ++ after) (alone after)),
  ),
  λ goes after. (
      let own = goes after in
      read_alone before (last ++ after) own.0
      (subst (λ (l : List ℕ). ChainUpTo l 0 (length before) own.0) (append_assoc before last after) own.1)),
)

-- no bytes stand alone
pub nothing_alone : StandsAlone []
nothing_alone = λ after comes. read_alone [] after [] (omega arith, λ q low lt. absurd (omega (arith, lt)))

-- what begins with what may come after a file may come after it
pub comes_on : (file rest : List ℕ) → MayComeAfter file → MayComeAfter rest → MayComeAfter (file ++ rest)
comes_on file rest (inl none) comes = subst (λ (l : List ℕ). MayComeAfter (l ++ rest)) (sym none) comes
comes_on file rest (inr head) comes =
    let front : Rattle.std.proofs.Common.take (length file) (file ++ rest) ≡ file = take_at file rest (length file) refl in
    inr (heads (file ++ rest) 0
    ∙ head_more (file ++ rest) (length file) (omega (arith, length-append file rest)) 0
    (ap (λ (l : List ℕ). Rattle.x12_bytes.specs.HeaderTest.is_head l 0) front ∙ sym (heads file 0) ∙ head))

abbrev one_by_one : List (List ℕ) → List ℕ
one_by_one files = flat_map (λ (file : List ℕ). file) files

pub files_come : (files : List (List ℕ)) → All MayComeAfter files → MayComeAfter (one_by_one files)
files_come [] all = inl refl
files_come (file ∷ files) all =
    comes_on file (one_by_one files) (All-head MayComeAfter file files all) (files_come files (All-tail MayComeAfter file files all))

pub files_are_read : (files : List (List ℕ)) → All StandsAlone files → All MayComeAfter files
    → text_of (one_by_one files) ≡ text_of_files files
files_are_read [] alone come = refl
files_are_read (file ∷ files) alone come =
    All-head StandsAlone file files alone (one_by_one files) (files_come files (All-tail MayComeAfter file files come))
    ∙ ap (λ (t : Text). in_a_row (text_of file) (moved (length file) t))
    (files_are_read files (All-tail StandsAlone file files alone) (All-tail MayComeAfter file files come))
