-- The map of files by their names, with one more file.
use Rattle.std.proofs.Common.{◌≡◌, ◌∙◌, ◌+◌, ◌<◌, ℕ, Bool, true, false, cond, List, [], ◌∷◌, ◌++◌, Option, Some, None, refl, sym, ap}
use Rattle.std.proofs.Common.{get_or, length, option_map, take}
use Rattle.std.specs.Option.{option_or}
use Rattle.std.specs.Str.{bytes_eq}
use Rattle.std.specs.BTreeMap.{BTreeMap, UpdatesBy, get_by}
use Rattle.std.specs.Cmp.Lexicographic.{slice_cmp}
use Rattle.std.specs.Ordering.{nat_cmp}
use Rattle.std.proofs.lemmas.List.{take_more}
use Rattle.std.proofs.lemmas.Map.Text.{btree_map_updates_str}
use Rattle.night_entries.specs.Named.{found_in}
use Rattle.night_record.specs.declared.record.SummedFile.{SummedFile}
use Rattle.record_chain.specs.Breaks.{file_named}
use denote.Ref.{Bor}

pub or_none : {X : Type 0} (o : Option X) → option_or o None ≡ o
or_none None = refl
or_none (Some x) = refl

or_or : {X : Type 0} (a b c : Option X) → option_or (option_or a b) c ≡ option_or a (option_or b c)
or_or None b c = refl
or_or (Some a) b c = refl

pub named-append : (files more : List SummedFile) (name : List ℕ)
    → file_named (files ++ more) name ≡ option_or (file_named more name) (file_named files name)
named-append [] more name = sym (or_none (file_named more name))
named-append (file ∷ files) more name =
    let here = cond (bytes_eq file.name name) (Some file) None in
    ap (λ o. option_or o here) (named-append files more name) ∙ or_or (file_named more name) (file_named files name) here

put : {X : Type 0} (b : Bool) (value : Bor X) (o : Option (Bor X))
    → option_map (λ (v : Bor X). v.now) (cond b (Some value) o)
    ≡ option_or (cond b (Some value.now) None) (option_map (λ (v : Bor X). v.now) o)
put true value o = refl
put false value o = refl

pub files_more : (first old new : BTreeMap (Bor (List ℕ)) (Bor SummedFile)) (value : Bor SummedFile) (files : List SummedFile) (i : ℕ)
    (key : List ℕ)
    → i < length files → value.now ≡ get_or files i value.now → key ≡ value.now.name
    → UpdatesBy (λ x y. slice_cmp nat_cmp x.now y.now) (λ k. slice_cmp nat_cmp key k.now) old new (Some value)
    → ((q : List ℕ) → found_in old q ≡ option_or (file_named (take i files) q) (found_in first q))
    → (q : List ℕ) → found_in new q ≡ option_or (file_named (take (i + 1) files) q) (found_in first q)
files_more first old new value files i key low is same updates so_far q =
    let here = cond (bytes_eq value.now.name q) (Some value.now) None in
    ap (λ (o : Option (Bor SummedFile)). option_map (λ (v : Bor SummedFile). v.now) o)
    (btree_map_updates_str key old new (Some value) updates q)
    ∙ put (bytes_eq key q) value (get_by (λ k. slice_cmp nat_cmp q k.now) old)
    ∙ ap (λ k. option_or (cond (bytes_eq k q) (Some value.now) None) (found_in old q)) same
    ∙ ap (option_or here) (so_far q) ∙ sym (or_or here (file_named (take i files) q) (found_in first q))
    ∙ ap (λ o. option_or o (found_in first q)) (sym (named-append (take i files) (value.now ∷ []) q)
    ∙ ap (λ l. file_named l q) (sym (take_more files i value.now low ∙ ap (λ x. take i files ++ x ∷ []) (sym is))))
