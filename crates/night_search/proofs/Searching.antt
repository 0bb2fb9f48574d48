-- A search with one row, or one table, more.
use Rattle.std.proofs.Common.{◌≡◌, ◌∙◌, ℕ, ◌+◌, ◌<◌, Bool, false, true, ◌||◌, ◌&&◌, List, [], ◌∷◌, ◌++◌, ap, append_assoc, get_or}
use Rattle.std.proofs.Common.{length, map, refl, sym, take}
use Rattle.std.specs.List.{flat_map, list_all, list_any}
use Rattle.std.proofs.lemmas.Grind.{flat_map-append}
use Rattle.std.proofs.lemmas.List.{append-nil, map-append, take_more}
use Rattle.std.proofs.lemmas.List.Folds.{list_all-append, list_any-append}
use Rattle.night_search.specs.Search.{IsSearch, SearchValue, has_row, night_lines}
use Rattle.track_read.specs.Night.{is_read}
use Rattle.track_read.specs.declared.night.NightTable.{NightTable}

or_false : (b : Bool) → (b || false) ≡ b
or_false true = refl
or_false false = refl

and_true : (b : Bool) → (b && true) ≡ b
and_true true = refl
and_true false = refl

pub any_more : {X : Type 0} (p : X → Bool) (xs : List X) (x : X) → list_any p (xs ++ x ∷ []) ≡ (list_any p xs || p x)
any_more p xs x = list_any-append p xs (x ∷ []) ∙ ap (λ (b : Bool). list_any p xs || b) (or_false (p x))

pub all_more : {X : Type 0} (p : X → Bool) (xs : List X) (x : X) → list_all p (xs ++ x ∷ []) ≡ (list_all p xs && p x)
all_more p xs x = list_all-append p xs (x ∷ []) ∙ ap (λ (b : Bool). list_all p xs && b) (and_true (p x))

pub flat_more : {X : Type 0} (text : X → List ℕ) (xs : List X) (x : X) → flat_map text (xs ++ x ∷ []) ≡ flat_map text xs ++ text x
flat_more text xs x =
    flat_map-append text xs (x ∷ []) ∙ ap (λ (t : List ℕ). flat_map text xs ++ t) (append-nil (text x))

pub taken : {X Y : Type 0} (f : X → Y) (xs : List X) (i : ℕ) (x : X) → i < length xs → x ≡ get_or xs i x
    → map f (take (i + 1) xs) ≡ map f (take i xs) ++ f x ∷ []
taken {X} f xs i x low is =
    ap (map f) (take_more xs i x low ∙ ap (λ (k : X). take i xs ++ k ∷ []) (sym is)) ∙ map-append f (take i xs) (x ∷ [])

-- what is written of one item more
pub lines_more : {X : Type 0} (text : X → List ℕ) (xs ys : List X) (x : X) (start old new : List ℕ) → ys ≡ xs ++ x ∷ []
    → old ≡ start ++ flat_map text xs → new ≡ old ++ text x → new ≡ start ++ flat_map text ys
lines_more {X} text xs ys x start old new more so_far adds =
    adds ∙ ap (λ (t : List ℕ). t ++ text x) so_far ∙ append_assoc start (flat_map text xs) (text x)
    ∙ ap (λ (t : List ℕ). start ++ t) (sym (flat_more text xs x)) ∙ ap (λ (l : List X). start ++ flat_map text l) (sym more)

pub found_more : {X : Type 0} (p : X → Bool) (xs ys : List X) (x : X) (old new has : Bool) → ys ≡ xs ++ x ∷ [] → old ≡ list_any p xs
    → has ≡ p x → new ≡ (old || has) → new ≡ list_any p ys
found_more {X} p xs ys x old new has more so_far is adds =
    adds ∙ ap (λ (b : Bool). b || has) so_far ∙ ap (λ (b : Bool). list_any p xs || b) is ∙ sym (any_more p xs x)
    ∙ ap (λ (l : List X). list_any p l) (sym more)

pub searched_more : (text : List ℕ) (old new : SearchValue) (table : NightTable) (has read : Bool)
    → new.lines ≡ old.lines ++ night_lines text table → has ≡ has_row text table → new.found ≡ (old.found || has)
    → read ≡ is_read table.state → new.all_read ≡ (old.all_read && read)
    → (tables : List NightTable) → IsSearch text tables old → IsSearch text (tables ++ table ∷ []) new
searched_more text old new table has read lines has_is found read_is all_read tables is = record {
  lines =
      lines ∙ ap (λ (t : List ℕ). t ++ night_lines text table) is.lines ∙ sym (flat_more (night_lines text) tables table);
  found = found_more (has_row text) tables (tables ++ table ∷ []) table old.found new.found has refl is.found has_is found;
  read =
      all_read ∙ ap (λ (b : Bool). b && read) is.read
      ∙ ap (λ (b : Bool). list_all (λ (t : NightTable). is_read t.state) tables && b) read_is
      ∙ sym (all_more (λ (t : NightTable). is_read t.state) tables table);
}
