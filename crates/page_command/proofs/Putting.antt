-- Files that are added one after another, and the rows of their list.
use Rattle.std.proofs.Common.{
  ◌≡◌,
  ◌∙◌,
  ◌≤◌,
  ◌+◌,
  ℕ,
  List,
  [],
  ◌∷◌,
  ◌++◌,
  Option,
  Some,
  None,
  append_assoc,
  ap,
  codes,
  length,
  map,
  refl,
  subst,
  sym,
}
use Rattle.std.specs.List.{flat_map}
use Rattle.std.proofs.lemmas.Grind.{flat_map-append}
use Rattle.std.proofs.lemmas.List.{append-nil, map-append}
use Rattle.guide_tree.specs.Words.{GuideTree}
use Rattle.guide_samples.specs.Samples.{BreaksRule, IsSample}
use Rattle.guide_samples.specs.declared.rule.Rule.{Rule}
use Rattle.system_io.specs.Outbox.{AddsFiles, File}
use Rattle.page_command.specs.Folder.{AddsBroken, AddsSamples, file_of, files_of, index_text, row_of}
use Rattle.page_command.proofs.Answering.{joined, none, single}

abbrev pub file_made : (name text : List ℕ) → File
file_made name text = (name, text)

no_files : (a : Option (List File)) → AddsFiles a a []
no_files None = tt
no_files (Some xs) = sym (append-nil xs)

add_two : (a b c : Option (List File)) (xs ys : List File) → AddsFiles a b xs → AddsFiles b c ys → AddsFiles a c (xs ++ ys)
add_two None b c xs ys first second = tt
add_two (Some old) None c xs ys first second = absurd first
add_two (Some old) (Some mid) None xs ys first second = absurd second
add_two (Some old) (Some mid) (Some new) xs ys first second = second ∙ ap (λ (l : List File). l ++ ys) first ∙ append_assoc old xs ys

files_are : (a b : Option (List File)) (xs ys : List File) → xs ≡ ys → AddsFiles a b xs → AddsFiles a b ys
files_are a b xs ys same added = subst (λ (l : List File). AddsFiles a b l) same added

pub no_rule : (g : GuideTree) (rules : List Rule) (a b : ℕ) (was : Option (List File)) (list : List ℕ) → a ≤ b
    → AddsBroken g rules a b was was list list
no_rule g rules a b was list low =
    record { samples = []; breaking = none g rules a b low; added = no_files was; rows = sym (append-nil list) }

pub one_rule : (g : GuideTree) (rules : List Rule) (n : ℕ) (text lines : List ℕ) (was is : Option (List File)) (list longer : List ℕ)
    → BreaksRule g rules n text lines
    → AddsFiles was is (file_of (record { number = n; text = text; lines = lines }) ∷ [])
    → longer ≡ list ++ row_of (record { number = n; text = text; lines = lines }) → AddsBroken g rules n (n + 1) was is list longer
one_rule g rules n text lines was is list longer breaks file row = record {
  samples = record { number = n; text = text; lines = lines } ∷ [];
  breaking = single g rules n text lines breaks;
  added = file;
  rows = row ∙ ap (λ (l : List ℕ). list ++ l) (sym (append-nil (row_of (record { number = n; text = text; lines = lines }))));
}

pub more_rules : (g : GuideTree) (rules : List Rule) (a b c : ℕ) (was mid is : Option (List File)) (list longer longest : List ℕ)
    → AddsBroken g rules a b was mid list longer → AddsBroken g rules b c mid is longer longest
    → AddsBroken g rules a c was is list longest
more_rules g rules a b c was mid is list longer longest first next = record {
  samples = first.samples ++ next.samples;
  breaking = joined g rules a b c first.samples next.samples first.breaking next.breaking;
  added = files_are was is (map file_of first.samples ++ map file_of next.samples) (map file_of (first.samples ++ next.samples))
      (sym (map-append file_of first.samples next.samples))
      (add_two was mid is (map file_of first.samples) (map file_of next.samples) first.added next.added);
  rows = next.rows ∙ ap (λ (l : List ℕ). l ++ flat_map row_of next.samples) first.rows
      ∙ append_assoc list (flat_map row_of first.samples) (flat_map row_of next.samples)
      ∙ ap (λ (l : List ℕ). list ++ l) (sym (flat_map-append row_of first.samples next.samples));
}

pub all_samples : (g : GuideTree) (complete smallest : List ℕ) (rules : List Rule) (was one two three four : Option (List File))
    (list : List ℕ) → IsSample g smallest → AddsFiles was one ((codes "complete.x12", complete) ∷ [])
    → AddsFiles one two ((codes "smallest.x12", smallest) ∷ [])
    → AddsBroken g rules 0 (length rules) two three (codes "sample,answer\r\n") list
    → AddsFiles three four ((codes "index.csv", list) ∷ []) → AddsSamples g complete was four
all_samples g complete smallest rules was one two three four list small first second broken last =
    let files : List File = map file_of broken.samples in
    let index : List ℕ = index_text broken.samples in
    record {
      files = files_of complete smallest broken.samples;
      added =
          add_two was one four ((codes "complete.x12", complete) ∷ []) ((codes "smallest.x12", smallest) ∷ (files ++ (
            codes "index.csv",
            index,
          ) ∷ []))
          first
          (add_two one two four ((codes "smallest.x12", smallest) ∷ []) (files ++ (codes "index.csv", index) ∷ []) second
          (add_two two three four files ((codes "index.csv", index) ∷ []) broken.added
          (files_are three four ((codes "index.csv", list) ∷ []) ((codes "index.csv", index) ∷ [])
          (ap (λ (l : List ℕ). (codes "index.csv", l) ∷ []) broken.rows) last)));
      are = record {
        smallest = smallest;
        rules = rules;
        samples = broken.samples;
        small = small;
        breaking = broken.breaking;
        files_are = refl;
      };
    }
