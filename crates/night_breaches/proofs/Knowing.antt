-- The maps with one more night.
use Rattle.std.proofs.Common.{◌≡◌, ℕ, Bool, true, false, ◌||◌, cond, List, [], ◌∷◌, ◌++◌, Option, Some, None, option_map, refl, sym, ap}
use Rattle.std.proofs.Common.{◌∙◌, ◌+◌, ◌<◌, length, take}
use Rattle.std.specs.Option.{option_or}
use Rattle.std.specs.Str.{bytes_eq}
use Rattle.std.specs.BTreeMap.{BTreeMap, UpdatesBy, get_by}
use Rattle.std.specs.Cmp.Lexicographic.{slice_cmp}
use Rattle.std.specs.Ordering.{nat_cmp}
use Rattle.std.proofs.Common.{get_or}
use Rattle.std.proofs.lemmas.List.{take_more}
use Rattle.std.proofs.lemmas.List.Folds.{list_any-append}
use Rattle.std.proofs.lemmas.Map.Text.{btree_map_updates_str}
use Rattle.hub_kinds.specs.Words.{contains_text}
use Rattle.hub_ledger.specs.declared.entry.AddressNumbers.{AddressNumbers}
use Rattle.hub_ledger.specs.declared.entry.NightEntry.{NightEntry}
use Rattle.hub_ledger.specs.Entries.{KnownRow, known_row, row_of}
use Rattle.night_breaches.specs.declared.known.RowOfNight.{RowOfNight}
use Rattle.night_breaches.specs.declared.known.Known.{Known}
use Rattle.night_breaches.specs.Known.{Knows, known_of, night_before, night_in, row_in}
use denote.Ref.{Bor}

abbrev pub Updates : {X : Type 0} → (key : List ℕ) → BTreeMap (Bor (List ℕ)) X → BTreeMap (Bor (List ℕ)) X → Option X → Type 0
Updates key old new value = UpdatesBy (λ x y. slice_cmp nat_cmp x.now y.now) (λ k. slice_cmp nat_cmp key k.now) old new value

mapped : {X Y : Type 0} (f : X → Y) (b : Bool) (x : X) (o : Option X)
    → option_map f (cond b (Some x) o) ≡ cond b (Some (f x)) (option_map f o)
mapped f true x o = refl
mapped f false x o = refl

chosen : {X : Type 0} (b c : Bool) (x y : Option X) → cond b x (cond c x y) ≡ cond (c || b) x y
chosen true true x y = refl
chosen true false x y = refl
chosen false true x y = refl
chosen false false x y = refl

any_more : (keys : List (List ℕ)) (i : ℕ) (key q : List ℕ) → i < length keys → key ≡ get_or keys i key
    → contains_text (take (i + 1) keys) q ≡ (contains_text (take i keys) q || bytes_eq key q)
any_more keys i key q low is =
    ap (λ (ks : List (List ℕ)). contains_text ks q) (take_more keys i key low ∙ ap (λ (k : List ℕ). take i keys ++ k ∷ []) (sym is))
    ∙ list_any-append (λ t. bytes_eq t q) (take i keys) (key ∷ [])
    ∙ ap (λ (b : Bool). contains_text (take i keys) q || b) (last (bytes_eq key q))
  where
    last : (b : Bool) → (b || false) ≡ b
    last true = refl
    last false = refl

pub keys_more : (first old new : BTreeMap (Bor (List ℕ)) (Bor (List ℕ))) (name : Bor (List ℕ)) (keys : List (List ℕ)) (i : ℕ)
    (key : List ℕ)
    → i < length keys → key ≡ get_or keys i key → Updates key old new (Some name)
    → ((q : List ℕ) → night_in old q ≡ cond (contains_text (take i keys) q) (Some name.now) (night_in first q))
    → (q : List ℕ) → night_in new q ≡ cond (contains_text (take (i + 1) keys) q) (Some name.now) (night_in first q)
keys_more first old new name keys i key low is updates so_far q =
    ap (λ (o : Option (Bor (List ℕ))). option_map (λ (n : Bor (List ℕ)). n.now) o) (btree_map_updates_str key old new (Some name) updates q)
    ∙ mapped (λ (n : Bor (List ℕ)). n.now) (bytes_eq key q) name (get_by (λ k. slice_cmp nat_cmp q k.now) old)
    ∙ ap (cond (bytes_eq key q) (Some name.now)) (so_far q)
    ∙ chosen (bytes_eq key q) (contains_text (take i keys) q) (Some name.now) (night_in first q)
    ∙ ap (λ (b : Bool). cond b (Some name.now) (night_in first q)) (sym (any_more keys i key q low is))

or_none : {X : Type 0} (o : Option X) → option_or o None ≡ o
or_none None = refl
or_none (Some x) = refl

or_or : {X : Type 0} (a b c : Option X) → option_or (option_or a b) c ≡ option_or a (option_or b c)
or_or None b c = refl
or_or (Some a) b c = refl

row_more : (q : List ℕ) (rows : List AddressNumbers) (row : AddressNumbers)
    → row_of q (rows ++ row ∷ []) ≡ option_or (cond (bytes_eq row.address q) (Some row) None) (row_of q rows)
row_more q [] row = sym (or_none (cond (bytes_eq row.address q) (Some row) None))
row_more q (r ∷ rows) row =
    ap (λ (o : Option AddressNumbers). option_or o (cond (bytes_eq r.address q) (Some r) None)) (row_more q rows row)
    ∙ or_or (cond (bytes_eq row.address q) (Some row) None) (row_of q rows) (cond (bytes_eq r.address q) (Some r) None)

put : (night : NightEntry) (b : Bool) (row : AddressNumbers) (found : Option AddressNumbers) (first : Option KnownRow)
    → cond b (Some (record { night = night; row = row })) (option_or (known_row night found) first)
    ≡ option_or (known_row night (option_or (cond b (Some row) None) found)) first
put night true row found first = refl
put night false row found first = refl

pub rows_more : (first old new : BTreeMap (Bor (List ℕ)) RowOfNight) (night : NightEntry) (value : RowOfNight)
    (rows : List AddressNumbers) (i : ℕ)
    (row : AddressNumbers) (key : List ℕ) → i < length rows → row ≡ get_or rows i row → key ≡ row.address
    → Updates key old new (Some value) → known_of value ≡ record { night = night; row = row }
    → ((q : List ℕ) → row_in old q ≡ option_or (known_row night (row_of q (take i rows))) (row_in first q))
    → (q : List ℕ) → row_in new q ≡ option_or (known_row night (row_of q (take (i + 1) rows))) (row_in first q)
rows_more first old new night value rows i row key low is same updates known so_far q =
    ap (option_map known_of) (btree_map_updates_str key old new (Some value) updates q
    ∙ ap (λ (k : List ℕ). cond (bytes_eq k q) (Some value) (get_by (λ x. slice_cmp nat_cmp q x.now) old)) same)
    ∙ mapped known_of (bytes_eq row.address q) value (get_by (λ k. slice_cmp nat_cmp q k.now) old)
    ∙ ap (λ (k : KnownRow). cond (bytes_eq row.address q) (Some k) (row_in old q)) known
    ∙ ap (cond (bytes_eq row.address q) (Some (record { night = night; row = row }))) (so_far q)
    ∙ put night (bytes_eq row.address q) row (row_of q (take i rows)) (row_in first q)
    ∙ ap (λ (o : Option AddressNumbers). option_or (known_row night o) (row_in first q))
    (sym (ap (row_of q) (take_more rows i row low ∙ ap (λ (r : AddressNumbers). take i rows ++ r ∷ []) (sym is))
    ∙ row_more q (take i rows) row))

-- the maps after both, and the night
pub knows_more : (old new : Known) (older : List NightEntry) (night : NightEntry) → Knows old older
    → ((q : List ℕ) → night_in new.nights q ≡ cond (contains_text night.delivered q) (Some night.name) (night_in old.nights q))
    → ((q : List ℕ) → row_in new.rows q ≡ option_or (known_row night (row_of q night.addresses)) (row_in old.rows q))
    → night_before new.before ≡ Some night → Knows new (night ∷ older)
knows_more old new older night knows nights rows before = record {
  nights = λ q. nights q ∙ ap (cond (contains_text night.delivered q) (Some night.name)) (knows.nights q);
  rows = λ q. rows q ∙ ap (option_or (known_row night (row_of q night.addresses))) (knows.rows q);
  before = before;
}
