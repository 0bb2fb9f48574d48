-- Files and rows that are added for one difference after another.
use Rattle.std.proofs.Common.{Bool, true, false, ◌≡◌, ◌∙◌, ◌+◌, ℕ, zero, suc, List, [], ◌∷◌, ◌++◌, Option, Some, None}
use Rattle.std.proofs.Common.{append_assoc, ap, ap₂, arith, codes, length, refl, subst, sym}
use Rattle.std.specs.Prelude.{IsTrue, if◌then◌else◌}
use Rattle.std.specs.List.{flat_map, range_with_len, slice_get}
use Rattle.std.proofs.lemmas.Grind.{flat_map-append}
use Rattle.std.proofs.lemmas.List.{append-nil, map-append}
use Rattle.std.proofs.lemmas.List.Elements.{All-append, All-cons, All-nil}
use Rattle.file_names.specs.Shown.{shown}
use Rattle.guide_tree.specs.Words.{GuideTree, guide_of}
use Rattle.guide_widening.specs.Changes.{is_widening}
use Rattle.guide_widening.specs.Differences.{differences}
use Rattle.guide_widening.specs.declared.difference.Difference.{Difference}
use Rattle.guide_samples.specs.Between.{ShowsDifference}
use Rattle.diff_lines.specs.Lines.{difference_text}
use Rattle.diff_lines.specs.Paths.{paths_of}
use Rattle.system_io.specs.Outbox.{AddsFiles, File}
use Rattle.sample_folder.specs.Names.{file_name}
use Rattle.diff_samples.specs.Samples.{AddsFirst, AddsOne, AddsSamples, AreKnown, IsKnown, Known, Sample, files_of, index_text, row_of}
use Rattle.diff_samples.specs.Samples.{row_text}
use Rattle.diff_samples.specs.declared.samples.Compared.{Compared}

abbrev pub file_made : (name text : List ℕ) → File
file_made name text = (name, text)

no_files : (a : Option (List File)) → AddsFiles a a []
no_files None = tt
no_files (Some xs) = sym (append-nil xs)

pub add_two : (a b c : Option (List File)) (xs ys : List File) → AddsFiles a b xs → AddsFiles b c ys → AddsFiles a c (xs ++ ys)
add_two None b c xs ys first second = tt
add_two (Some old) None c xs ys first second = absurd first
add_two (Some old) (Some mid) None xs ys first second = absurd second
add_two (Some old) (Some mid) (Some new) xs ys first second = second ∙ ap (λ (l : List File). l ++ ys) first ∙ append_assoc old xs ys

files_are : (a b : Option (List File)) (xs ys : List File) → xs ≡ ys → AddsFiles a b xs → AddsFiles a b ys
files_are a b xs ys same added = subst (λ (l : List File). AddsFiles a b l) same added

one_after : (a n : ℕ) → range_with_len a (suc n) ≡ range_with_len a n ++ (a + n) ∷ []
one_after a zero = ap (λ (x : ℕ). x ∷ []) (omega arith)
one_after a (suc n) =
    ap (λ (l : List ℕ). a ∷ l) (one_after (a + 1) n ∙ ap (λ (x : ℕ). range_with_len (a + 1) n ++ x ∷ []) (omega arith))

one_more : (a n : ℕ) → range_with_len a (n + 1) ≡ range_with_len a n ++ (a + n) ∷ []
one_more a n = let e : n + 1 ≡ suc n = omega arith in ap (λ (m : ℕ). range_with_len a m) e ∙ one_after a n

abbrev pub known_of : ℕ → Difference → Option Sample → Known
known_of n d s = record { number = n; difference = d; sample = s }

-- a wider difference has no file and no row
pub wider : (c : Compared) (n : ℕ) (d : Difference) (was : Option (List File)) (list : List ℕ) → slice_get c.found.now n ≡ Some d
    → is_widening d ≡ true → AddsOne c n was was list list
wider c n d was list there is =
    let line : List ℕ = shown (difference_text c.before.now c.after.now d) in
    record {
      k = known_of n d None;
      is_this = refl;
      known = record { there = there; shows = tt; sought = λ _. refl };
      added = no_files was;
      rows = sym (append-nil list) ∙ ap (λ (b : Bool). list ++ (if b then [] else row_text line [] [])) (sym is);
    }

-- a difference without a sample has a row
pub unshown : (c : Compared) (n : ℕ) (d : Difference) (was : Option (List File)) (list longer line : List ℕ)
    → slice_get c.found.now n ≡ Some d → is_widening d ≡ false → line ≡ shown (difference_text c.before.now c.after.now d)
    → longer ≡ list ++ row_text line [] [] → AddsOne c n was was list longer
unshown c n d was list longer line there isnt said adds =
    let words : List ℕ = shown (difference_text c.before.now c.after.now d) in
    record {
      k = known_of n d None;
      is_this = refl;
      known = record { there = there; shows = tt; sought = λ _. refl };
      added = no_files was;
      rows = adds ∙ ap (λ (l : List ℕ). list ++ row_text l [] []) said
          ∙ ap (λ (b : Bool). list ++ (if b then [] else row_text words [] [])) (sym isnt);
    }

not_both : (b : Bool) → b ≡ false → IsTrue b → ⊥
not_both true isnt is = cc
not_both false isnt is = cc

-- and one with a sample a row and a file
pub shows_it : (c : Compared) (n : ℕ) (d : Difference) (text lines : List ℕ) (was is : Option (List File)) (list longer line : List ℕ)
    → slice_get c.found.now n ≡ Some d → is_widening d ≡ false
    → ShowsDifference (guide_of c.old.now) (guide_of c.new.now) d text lines → line ≡ shown (difference_text c.before.now c.after.now d)
    → longer ≡ list ++ row_text line (file_name n) lines → AddsFiles was is (file_made (file_name n) text ∷ [])
    → AddsOne c n was is list longer
shows_it c n d text lines was is list longer line there isnt shows said adds file =
    let words : List ℕ = shown (difference_text c.before.now c.after.now d) in
    record {
      k = known_of n d (Some (record { text = text; lines = lines }));
      is_this = refl;
      known = record { there = there; shows = shows; sought = λ wide. absurd (not_both (is_widening d) isnt wide) };
      added = file;
      rows = adds ∙ ap (λ (l : List ℕ). list ++ row_text l (file_name n) lines) said
          ∙ ap (λ (b : Bool). list ++ (if b then [] else row_text words (file_name n) lines)) (sym isnt);
    }

pub none : (c : Compared) (was : Option (List File)) (list : List ℕ) → AddsFirst c 0 was was list list
none c was list = record {
  ks = [];
  known = record { numbers = refl; each = All-nil (IsKnown (guide_of c.old.now) (guide_of c.new.now) c.found.now) };
  added = no_files was;
  rows = sym (append-nil list);
}

single : {X A : Type 0} (f : X → List A) (x : X) → f x ≡ flat_map f (x ∷ [])
single f x = sym (append-nil (f x))

together : {X A : Type 0} (f : X → List A) (xs : List X) (x : X) → flat_map f xs ++ f x ≡ flat_map f (xs ++ x ∷ [])
together {X} {A} f xs x = ap (λ (l : List A). flat_map f xs ++ l) (single f x) ∙ sym (flat_map-append f xs (x ∷ []))

pub more : (c : Compared) (n : ℕ) (was mid is : Option (List File)) (list longer longest : List ℕ) → AddsFirst c n was mid list longer
    → AddsOne c n mid is longer longest → AddsFirst c (n + 1) was is list longest
more c n was mid is list longer longest first next =
    let row : Known → List ℕ = row_of c.before.now c.after.now in
    let fits : Known → Type 0 = IsKnown (guide_of c.old.now) (guide_of c.new.now) c.found.now in
    record {
      ks = first.ks ++ next.k ∷ [];
      known = record {
        numbers = map-append (λ (k : Known). k.number) first.ks (next.k ∷ [])
            ∙ ap₂ (λ (a b : List ℕ). a ++ b) first.known.numbers (ap (λ (x : ℕ). x ∷ []) (omega (arith, next.is_this)))
            ∙ sym (one_more 0 n);
        each = All-append fits first.ks (next.k ∷ []) first.known.each (All-cons fits next.k [] next.known (All-nil fits));
      };
      added = files_are was is (flat_map files_of first.ks ++ files_of next.k) (flat_map files_of (first.ks ++ next.k ∷ []))
          (together files_of first.ks next.k)
          (add_two was mid is (flat_map files_of first.ks) (files_of next.k) first.added next.added);
      rows = next.rows ∙ ap (λ (l : List ℕ). l ++ row next.k) first.rows ∙ append_assoc list (flat_map row first.ks) (row next.k)
          ∙ ap (λ (l : List ℕ). list ++ l) (together row first.ks next.k);
    }

same_known : (o p n m : GuideTree) (ds es : List Difference) (ks : List Known) → o ≡ p → n ≡ m → ds ≡ es
    → AreKnown o n ds (length ds) ks → AreKnown p m es (length es) ks
same_known o p n m ds es ks op nm same known =
    subst (λ (g : GuideTree). AreKnown g m es (length es) ks) op
    (subst (λ (g : GuideTree). AreKnown o g es (length es) ks) nm
    (subst (λ (l : List Difference). AreKnown o n l (length l) ks) same known))

pub all_samples : (c : Compared) (old new : GuideTree) (was mid is : Option (List File)) (titles list : List ℕ)
    → guide_of c.old.now ≡ old → guide_of c.new.now ≡ new → c.found.now ≡ differences old new → c.before.now ≡ paths_of old.nodes
    → c.after.now ≡ paths_of new.nodes → titles ≡ codes "difference,sample,answer\r\n"
    → AddsFirst c (length c.found.now) was mid titles list → AddsFiles mid is (file_made (codes "index.csv") list ∷ [])
    → AddsSamples old new was is
all_samples c old new was mid is titles list before_is after_is found old_paths new_paths titled first last =
    let ks : List Known = first.ks in
    let files : List File = flat_map files_of ks in
    let index : List ℕ = index_text (paths_of old.nodes) (paths_of new.nodes) ks in
    let listed : list ≡ index =
    first.rows ∙ ap (λ (t : List ℕ). t ++ flat_map (row_of c.before.now c.after.now) ks) titled
    ∙ ap₂ (λ (b a : List (List ℕ)). codes "difference,sample,answer\r\n" ++ flat_map (row_of b a) ks) old_paths new_paths in
    record {
      files = files ++ file_made (codes "index.csv") index ∷ [];
      added = add_two was mid is files (file_made (codes "index.csv") index ∷ []) first.added
          (files_are mid is (file_made (codes "index.csv") list ∷ []) (file_made (codes "index.csv") index ∷ [])
          (ap (λ (l : List ℕ). file_made (codes "index.csv") l ∷ []) listed) last);
      are = record {
        ks = ks;
        known = same_known (guide_of c.old.now) old (guide_of c.new.now) new c.found.now (differences old new) ks before_is after_is found
            first.known;
        files_are = refl;
      };
    }
