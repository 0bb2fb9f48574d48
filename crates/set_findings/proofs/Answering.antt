-- What the answers of workers give, by what they were asked.
use Rattle.std.proofs.Common.{◌≡◌, ℕ, ◌+◌, ◌-◌, List, [], ◌∷◌, ◌++◌, Some, Option, length, map, drop, refl, sym, ap, ◌∙◌, subst, arith}
use Rattle.std.proofs.Common.{◌≤◌, ◌<◌, zero, suc, take, get_or}
use Rattle.std.specs.Prelude.{slice_get}
use Rattle.std.specs.List.{All, AllByRecursion, AllZip}
use Rattle.std.proofs.lemmas.List.{append-nil, append_assoc, drop_all, map-append, take_more}
use Rattle.std.proofs.lemmas.Option.{get_or_from_slice_get, slice_get_within}
use Rattle.std.proofs.lemmas.List.Elements.{All-from_recursion, recursion_from_All}
use Rattle.hub_kinds.specs.declared.interchange.InterchangeFault.{InterchangeFault}
use Rattle.x12_bytes.specs.declared.piece.Piece.{Piece}
use Rattle.isa_scan.specs.Heads.{heads_in}
use Rattle.isa_scan.specs.declared.heads.HeadAt.{HeadAt}
use Rattle.env_marks.specs.HeadLaws.{heads_under}
use Rattle.env_marks.specs.Laws.{values}
use Rattle.env_marks.specs.Marking.{MarksValue, marks_of}
use Rattle.env_index.specs.Words.{AreMarks, IndexEntry, IndexValue, fault_of, faults_of}
use Rattle.worker_pool.specs.Asked.{HeadsAnswer, JudgeAnswer, MarksAnswer, heads_by, judge_asked, judge_by, marks_asked, marks_by}
use Rattle.worker_pool.specs.declared.heads.HeadsAsked.{HeadsAsked}
use Rattle.worker_pool.specs.declared.judgement.JudgeAsked.{JudgeAsked}
use Rattle.worker_pool.specs.declared.judgement.JudgeJob.{JudgeJob}
use Rattle.worker_pool.specs.declared.marks.MarksAsked.{MarksAsked}
use Rattle.worker_pool.specs.declared.marks.MarksJob.{MarksJob}
use Rattle.set_findings.specs.Pieces.{IsMarksOf, heads_given, judges_from, marks_given, piece_asked}

-- one after another
via : {A B C : Type 0} (f : A → B) (h : B → C) (xs : List A) → map (λ x. h (f x)) xs ≡ map h (map f xs)
via f h [] = refl
via f h (x ∷ xs) = ap (λ l. h (f x) ∷ l) (via f h xs)

abbrev heads_asked_for : HeadsAsked → List HeadAt
heads_asked_for a = heads_in a.text a.piece.from a.piece.to

pub heads_are : (text : List ℕ) (pieces : List Piece) (ds : List HeadsAnswer) → map heads_by ds ≡ map (piece_asked text) pieces
    → map heads_given ds ≡ values heads_under tt text pieces
heads_are text pieces ds is =
    via heads_by heads_asked_for ds ∙ ap (map heads_asked_for) is ∙ sym (via (piece_asked text) heads_asked_for pieces)

-- one more is asked
pub asked_more : {A B : Type 0} (f : A → B) (xs : List A) (i : ℕ) (x : A) → slice_get xs i ≡ Some x
    → map f (take (i + 1) xs) ≡ map f (take i xs) ++ f x ∷ []
asked_more f xs i x is =
    ap (map f) (take_more xs i x (slice_get_within xs i x is)) ∙ map-append f (take i xs) (get_or xs i x ∷ [])
    ∙ ap (λ a. map f (take i xs) ++ f a ∷ []) (get_or_from_slice_get xs i x x is)

pub pushed : {A B : Type 0} (f : A → B) (old new : List A) (x : A) → new ≡ old ++ x ∷ [] → map f new ≡ map f old ++ f x ∷ []
pushed f old new x is = ap (map f) is ∙ map-append f old (x ∷ [])

abbrev marks_asked_for : MarksAsked → MarksValue
marks_asked_for a = marks_of a.pair a.text a.piece.from a.piece.to

mark_is : (text : List ℕ) (j : MarksJob) (d : MarksAnswer) → IsMarksOf text j → marks_by d ≡ marks_asked j → AreMarks text (marks_given d)
mark_is text j d of is =
    let here : AreMarks text (marks_asked_for (marks_asked j)) = record {
      from = j.piece.from;
      to = j.piece.to;
      order = of.ready.0;
      within = subst (λ (t : List ℕ). j.piece.to ≤ length t) of.same of.ready.1;
      is = ap (λ (t : List ℕ). marks_of j.pair t j.piece.from j.piece.to) of.same;
    } in
    subst (AreMarks text) (sym (ap marks_asked_for is)) here

marks_each : (text : List ℕ) (jobs : List MarksJob) (ds : List MarksAnswer) → map marks_by ds ≡ map marks_asked jobs
    → AllByRecursion (IsMarksOf text) jobs → AllByRecursion (AreMarks text) (map marks_given ds)
marks_each text [] [] is of = tt
marks_each text [] (d ∷ ds) is of =
    let same = ap length is in absurd (omega (arith, same))
marks_each text (j ∷ jobs) [] is of = tt
marks_each text (j ∷ jobs) (d ∷ ds) is of =
    let first : marks_by d ≡ marks_asked j = cc in
    let rest : map marks_by ds ≡ map marks_asked jobs = cc in
    (mark_is text j d of.0 first, marks_each text jobs ds rest of.1)

pub marks_are : (text : List ℕ) (jobs : List MarksJob) (ds : List MarksAnswer) → map marks_by ds ≡ map marks_asked jobs
    → All (IsMarksOf text) jobs → All (AreMarks text) (map marks_given ds)
marks_are text jobs ds is of =
    All-from_recursion (AreMarks text) (map marks_given ds) (marks_each text jobs ds is (recursion_from_All (IsMarksOf text) jobs of))

pub judges_at : (index : IndexValue) (n i next : ℕ) (es : List IndexEntry) → i < length es → next ≡ i + 1
    → judges_from index n (drop i es) ≡ record { index = index; number = n } ∷ judges_from index (n + 1) (drop next es)
judges_at index n i next [] inside is = absurd (omega (arith, inside))
judges_at index n i zero (e ∷ es) inside is = absurd (omega (arith, is))
judges_at index n zero (suc zero) (e ∷ es) inside is = refl
judges_at index n zero (suc (suc next)) (e ∷ es) inside is = absurd (omega (arith, is))
judges_at index n (suc i) (suc next) (e ∷ es) inside is = judges_at index n i next es (omega (arith, inside)) (omega (arith, is))

-- after the last interchange none is left to be judged
pub judges_all : (index : IndexValue) (es : List IndexEntry) (i : ℕ) (jobs : List JudgeJob) (all : List JudgeAsked)
    → length es ≤ i → map judge_asked jobs ++ judges_from index (i + 1) (drop i es) ≡ all → map judge_asked jobs ≡ all
judges_all index es i jobs all end before =
    sym (append-nil (map judge_asked jobs))
    ∙ sym (ap (λ (l : List IndexEntry). map judge_asked jobs ++ judges_from index (i + 1) l) (drop_all i es end)) ∙ before

abbrev pub IsFaultAt : JudgeAnswer → Option InterchangeFault → Type 0
IsFaultAt d fault = slice_get (faults_of d.index.entries) (d.number - 1) ≡ Some fault

fault_there : (before es : List IndexEntry) (e : IndexEntry)
    → slice_get (faults_of (before ++ e ∷ es)) (length before) ≡ Some (fault_of e.interchange)
fault_there [] es e = refl
fault_there (x ∷ before) es e = fault_there before es e

snoc_long : {A : Type 0} (xs : List A) (x : A) → length (xs ++ x ∷ []) ≡ length xs + 1
snoc_long [] x = refl
snoc_long (y ∷ xs) x = let more = snoc_long xs x in omega (arith, more)

judged_from : (index : IndexValue) (before es : List IndexEntry) (number : ℕ) (ds : List JudgeAnswer) (fs : List (Option InterchangeFault))
    → index.entries ≡ before ++ es → number ≡ 1 + length before → map judge_by ds ≡ judges_from index number es → AllZip IsFaultAt ds fs
    → fs ≡ faults_of es
judged_from index before [] number [] [] is counted asked told = refl
judged_from index before [] number [] (f ∷ fs) is counted asked told = absurd told
judged_from index before [] number (d ∷ ds) fs is counted asked told = let same = ap length asked in absurd (omega (arith, same))
judged_from index before (e ∷ es) number [] fs is counted asked told = let same = ap length asked in absurd (omega (arith, same))
judged_from index before (e ∷ es) number (d ∷ ds) [] is counted asked told = absurd told
judged_from index before (e ∷ es) number (d ∷ ds) (f ∷ fs) is counted asked told =
    let first : judge_by d ≡ record { index = index; number = number } = cc in
    let rest : map judge_by ds ≡ judges_from index (number + 1) es = cc in
    let of : d.index ≡ index = ap (λ (a : JudgeAsked). a.index) first in
    let at : d.number ≡ number = ap (λ (a : JudgeAsked). a.number) first in
    let place : d.number - 1 ≡ length before = omega (arith, at, counted) in
    let there : Some f ≡ Some (fault_of e.interchange)
    = sym told.0 ∙ ap (λ (n : ℕ). slice_get (faults_of d.index.entries) n) place
    ∙ ap (λ (i : IndexValue). slice_get (faults_of i.entries) (length before)) of
    ∙ ap (λ (l : List IndexEntry). slice_get (faults_of l) (length before)) is ∙ fault_there before es e in
    let here : f ≡ fault_of e.interchange = cc in
    ap (λ (x : Option InterchangeFault). x ∷ fs) here
    ∙ ap (λ (l : List (Option InterchangeFault)). fault_of e.interchange ∷ l)
    (judged_from index (before ++ e ∷ []) es (number + 1) ds fs (is ∙ sym (append_assoc before (e ∷ []) es))
    (omega (arith, counted, snoc_long before e)) rest told.1)

pub judged_are : (index : IndexValue) (ds : List JudgeAnswer) (fs : List (Option InterchangeFault))
    → map judge_by ds ≡ judges_from index 1 index.entries → AllZip IsFaultAt ds fs → fs ≡ faults_of index.entries
judged_are index ds fs asked told = judged_from index [] index.entries 1 ds fs refl refl asked told
