-- The index of gathered files goes on file by file.
use Rattle.std.proofs.Common.{◌≡◌, ℕ, ◌+◌, ◌<◌, ◌≤◌, List, [], ◌∷◌, ◌++◌, true, false, ◌⊎◌, inl, inr}
use Rattle.std.proofs.Common.{length, take, map, refl, sym, ap, subst, ◌∙◌, arith}
use Rattle.std.specs.List.{All}
use Rattle.std.proofs.lemmas.List.{append_assoc, append-nil, length-append, take_at}
use Rattle.std.proofs.lemmas.List.Elements.{All-cons, All-head, All-nil, All-tail}
use Rattle.x12_bytes.specs.HeaderTest.{is_head}
use Rattle.env_index.specs.Words.{Chain, ChainFrom, Extent, IndexEntry, IsIndex, extents_of}
use Rattle.whole_interchanges.specs.Begun.{may_begin}
use Rattle.whole_interchanges.specs.Moved.{IsIndexUpTo, moved_entry}
use Rattle.whole_interchanges.proofs.ForAbove.{head_more, head_past, ends, starts, steps}
use Rattle.gather_files.specs.Gathered.{File, IsClosed, IsFile, IsKept, KeepsToItself, MayFollow, StandsApart, entries_behind}
use Rattle.gather_files.specs.Gathered.{gathered, gathered_index, outside_of}
use Rattle.gather_files.proofs.Apart.{chain_apart}

-- a file that stands apart keeps to itself
next_head : (before more : List ℕ) → MayFollow more
    → (length before ≡ length (before ++ more)) ⊎ (is_head (before ++ more) (length before) ≡ true)
next_head before more (inl none) =
    inl (ap (λ (xs : List ℕ). length xs) (sym (ap (λ (xs : List ℕ). before ++ xs) none ∙ append-nil before)))
next_head before more (inr head) =
    let place : length before + 0 ≡ length before = omega arith in
    inr (ap (is_head (before ++ more)) (sym place) ∙ head_past before more 0 ∙ head)

pub apart_keeps : (bytes : List ℕ) (xs : List Extent) → Chain bytes xs → StandsApart bytes → KeepsToItself bytes
apart_keeps bytes xs chain apart = λ more follows.
    (let c : ℕ = length bytes in
    let front : bytes ≡ take c (bytes ++ more) = sym (take_at bytes more c refl) in (
      xs,
      chain_apart (bytes ++ more) c (omega (arith, length-append bytes more)) (next_head bytes more follows)
          (subst (λ (ys : List ℕ). (q : ℕ) → q < c → may_begin ys q ≡ false) front apart.fit.ends)
          0 xs (omega arith)
          (subst (λ (ys : List ℕ). ChainFrom ys 0 xs) front chain)
          (subst (λ (ys : List ℕ). All (IsClosed ys) xs) front (apart.closed xs chain)),
    ))

-- what follows may
may_follow : (files : List File) → All IsKept files → MayFollow (gathered files)
may_follow [] all = inl refl
may_follow (file ∷ files) all =
    let more : List ℕ = gathered files in
    let one : IsKept file = All-head IsKept file files all in
    let front : take (length file.bytes) (file.bytes ++ more) ≡ file.bytes = take_at file.bytes more (length file.bytes) refl in
    inr (head_more (file.bytes ++ more) (length file.bytes) (omega (arith, length-append file.bytes more)) 0
    (ap (λ (xs : List ℕ). is_head xs 0) front ∙ one.begins))

go_on : (text before : List ℕ) (files : List File) (at : ℕ) (done : List IndexEntry) (outside : ℕ) → All IsKept files
    → text ≡ before ++ gathered files → at ≡ length before → IsIndexUpTo text at done outside
    → IsIndexUpTo text (length text) (done ++ entries_behind at files) (outside + outside_of files)
go_on text before [] at done outside all is_text is_at so_far =
    let long : at ≡ length text = is_at ∙ ap (λ (xs : List ℕ). length xs) (sym (append-nil before))
    ∙ ap (λ (xs : List ℕ). length xs) (sym is_text) in
    let sum : outside ≡ outside + 0 = omega arith in
    subst (λ (n : ℕ). IsIndexUpTo text n (done ++ []) (outside + 0)) long
    (subst (λ (es : List IndexEntry). IsIndexUpTo text at es (outside + 0)) (sym (append-nil done))
    (subst (λ (n : ℕ). IsIndexUpTo text at done n) sum so_far))
go_on text before (file ∷ files) at done outside all is_text is_at so_far =
    let one : IsKept file = All-head IsKept file files all in
    let others : All IsKept files = All-tail IsKept file files all in
    let more : List ℕ = file.bytes ++ gathered files in
    let c : ℕ = length file.bytes in
    let within : c ≤ length more = omega (arith, length-append file.bytes (gathered files)) in
    let front : file.bytes ≡ take c more = sym (take_at file.bytes (gathered files) c refl) in
    let own = one.keeps (gathered files) (may_follow files others) in
    let here : IsIndexUpTo (before ++ more) (length before) done outside =
    subst (λ (n : ℕ). IsIndexUpTo (before ++ more) n done outside) is_at
    (subst (λ (xs : List ℕ). IsIndexUpTo xs at done outside) is_text so_far) in
    let stepped : IsIndexUpTo (before ++ more) (length before + c) (done ++ map (moved_entry (length before)) file.index.entries)
    (outside + file.index.outside) =
    steps before more done outside c own.0 file.index here within own.1 (subst (λ (xs : List ℕ). IsIndex xs file.index) front one.read) in
    let moved : List IndexEntry = map (moved_entry at) file.index.entries in
    let back : IsIndexUpTo text (at + c) (done ++ moved) (outside + file.index.outside) =
    subst (λ (n : ℕ). IsIndexUpTo text (n + c) (done ++ map (moved_entry n) file.index.entries) (outside + file.index.outside)) (sym is_at)
    (subst (λ (xs : List ℕ). IsIndexUpTo xs (length before + c) (done ++ map (moved_entry (length before)) file.index.entries)
    (outside + file.index.outside)) (sym is_text) stepped) in
    let last : IsIndexUpTo text (length text) ((done ++ moved) ++ entries_behind (at + c) files)
    (outside + file.index.outside + outside_of files) =
    go_on text (before ++ file.bytes) files (at + c) (done ++ moved) (outside + file.index.outside) others
    (is_text ∙ sym (append_assoc before file.bytes (gathered files)))
    (omega (arith, is_at, length-append before file.bytes)) back in
    let sum : outside + file.index.outside + outside_of files ≡ outside + (file.index.outside + outside_of files) = omega arith in
    subst (λ (n : ℕ). IsIndexUpTo text (length text) (done ++ (moved ++ entries_behind (at + c) files)) n) sum
    (subst (λ (es : List IndexEntry). IsIndexUpTo text (length text) es (outside + file.index.outside + outside_of files))
    (append_assoc done moved (entries_behind (at + c) files)) last)

pub keep_apart : (files : List File) → All IsKept files → IsIndex (gathered files) (gathered_index files)
keep_apart files all =
    let sum : 0 + outside_of files ≡ outside_of files = omega arith in
    ends (gathered files) (entries_behind 0 files) (outside_of files)
    (subst (IsIndexUpTo (gathered files) (length (gathered files)) (entries_behind 0 files)) sum
    (go_on (gathered files) [] files 0 [] 0 all refl refl (starts (gathered files))))

pub stand_apart : (files : List File) → All IsFile files → IsIndex (gathered files) (gathered_index files)
stand_apart files all = keep_apart files (kept files all)
  where
    kept : (files : List File) → All IsFile files → All IsKept files
    kept [] all = All-nil IsKept
    kept (file ∷ files) all =
        let one : IsFile file = All-head IsFile file files all in
        All-cons IsKept file files (record {
          read = one.read;
          begins = one.apart.fit.begins;
          keeps = apart_keeps file.bytes (extents_of file.index.entries) one.read.chain one.apart;
        }) (kept files (All-tail IsFile file files all))
