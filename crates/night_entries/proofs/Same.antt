-- What is found by maps is what is found by lists.
use Rattle.std.proofs.Common.{◌≡◌, ℕ, Bool, not, ◌&&◌, cond, List, [], ◌∷◌, ◌++◌, Option, Some, None, map, filter, refl}
use Rattle.std.proofs.Common.{sym, ap, ◌∙◌}
use Rattle.std.proofs.Common.{◌+◌, ◌<◌, length, take, get_or, append_assoc}
use Rattle.std.specs.Prelude.{is_some}
use Rattle.std.specs.List.{cons_option, filter_map}
use Rattle.std.specs.Option.{option_to_list}
use Rattle.std.proofs.lemmas.List.{map-append, take_more}
use Rattle.csv_fields.specs.declared.columns.TheConstants as column
use Rattle.csv.specs.Records.{fields_of}
use Rattle.csv.specs.declared.record.ByteRecord.{ByteRecord}
use Rattle.night_definition.specs.Header.{header_at}
use Rattle.hub_kinds.specs.Numbers.{value_of}
use Rattle.hub_ledger.specs.declared.entry.AddressNumbers.{AddressNumbers}
use Rattle.hub_ledger.specs.declared.entry.FileSum.{FileSum}
use Rattle.night_entries.specs.Files.{file_by, file_names, files_of, name_in, only_found, only_listed, sum_in, sum_or_none}
use Rattle.night_entries.specs.Keys.{cell, is_delivered, row_key, set_key}
use Rattle.night_entries.specs.declared.files.NamedSum.{NamedSum}

pub three : (old x y z : List (List ℕ)) (a b c : List ℕ) → x ≡ old ++ a ∷ [] → y ≡ x ++ b ∷ [] → z ≡ y ++ c ∷ []
    → z ≡ old ++ a ∷ b ∷ c ∷ []
three old x y z a b c one two last =
    last ∙ ap (λ (l : List (List ℕ)). l ++ c ∷ []) (two ∙ ap (λ (l : List (List ℕ)). l ++ b ∷ []) one
    ∙ append_assoc old (a ∷ []) (b ∷ [])) ∙ append_assoc old (a ∷ b ∷ []) (c ∷ [])

map_same : {X Y : Type 0} (f g : X → Y) (xs : List X) → ((x : X) → f x ≡ g x) → map f xs ≡ map g xs
map_same f g [] same = refl
map_same {X} {Y} f g (x ∷ xs) same =
    ap (λ (y : Y). y ∷ map f xs) (same x) ∙ ap (λ (l : List Y). g x ∷ l) (map_same f g xs same)

filter_same : {X : Type 0} (f g : X → Bool) (xs : List X) → ((x : X) → f x ≡ g x) → filter f xs ≡ filter g xs
filter_same f g [] same = refl
filter_same {X} f g (x ∷ xs) same =
    ap (λ (b : Bool). cond b (x ∷ filter f xs) (filter f xs)) (same x)
    ∙ ap (λ (l : List X). cond (g x) (x ∷ l) l) (filter_same f g xs same)

filter_map_same : {X Y : Type 0} (f g : X → Option Y) (xs : List X) → ((x : X) → f x ≡ g x) → filter_map f xs ≡ filter_map g xs
filter_map_same f g [] same = refl
filter_map_same {X} {Y} f g (x ∷ xs) same =
    ap (λ (o : Option Y). cons_option o (filter_map f xs)) (same x)
    ∙ ap (λ (l : List Y). cons_option (g x) l) (filter_map_same f g xs same)

-- keys
row_same : (input : List ℕ) (f g : List ℕ → Option AddressNumbers) → ((q : List ℕ) → f q ≡ g q) → (row : List (List ℕ))
    → row_key input f row ≡ row_key input g row
row_same input f g same row =
    ap (λ (r : Option AddressNumbers). cond (is_delivered row)
    (Some (set_key (header_at input (value_of (cell row column.OFFSET))) (cell row column.GS06) (cell row column.ST02) r)) None)
    (same (cell row column.RECEIVER))

pub keys_same : (input : List ℕ) (f g : List ℕ → Option AddressNumbers) (table : List (List (List ℕ))) → ((q : List ℕ) → f q ≡ g q)
    → filter_map (row_key input f) table ≡ filter_map (row_key input g) table
keys_same input f g table same = filter_map_same (row_key input f) (row_key input g) table (row_same input f g same)

cons_list : {Y : Type 0} (o : Option Y) (ys : List Y) → cons_option o ys ≡ option_to_list o ++ ys
cons_list None ys = refl
cons_list (Some y) ys = refl

last_more : {X Y : Type 0} (f : X → Option Y) (xs : List X) (x : X) → filter_map f (xs ++ x ∷ []) ≡ filter_map f xs ++ option_to_list (f x)
last_more {X} {Y} f [] x = end (f x)
  where
    end : (o : Option Y) → cons_option o [] ≡ option_to_list o
    end None = refl
    end (Some y) = refl
last_more {X} {Y} f (y ∷ xs) x =
    ap (cons_option (f y)) (last_more f xs x) ∙ cons_list (f y) (filter_map f xs ++ option_to_list (f x))
    ∙ sym (append_assoc (option_to_list (f y)) (filter_map f xs) (option_to_list (f x)))
    ∙ ap (λ (l : List Y). l ++ option_to_list (f x)) (sym (cons_list (f y) (filter_map f xs)))

pub keys_more : (f : List (List ℕ) → Option (List ℕ)) (rows : List ByteRecord) (i : ℕ) (row : ByteRecord) → i < length rows
    → row ≡ get_or rows i row → (old new : List (List ℕ)) → old ≡ filter_map f (map fields_of (take i rows))
    → new ≡ old ++ option_to_list (f (fields_of row)) → new ≡ filter_map f (map fields_of (take (i + 1) rows))
keys_more f rows i row low is old new so_far adds =
    adds ∙ ap (λ (l : List (List ℕ)). l ++ option_to_list (f (fields_of row))) so_far
    ∙ sym (ap (filter_map f) (ap (map fields_of) (take_more rows i row low ∙ ap (λ (r : ByteRecord). take i rows ++ r ∷ []) (sym is))
    ∙ map-append fields_of (take i rows) (row ∷ [])) ∙ last_more f (map fields_of (take i rows)) (fields_of row))

-- files
file_same : (g h : List ℕ → Option (List ℕ)) (l m f k : List ℕ → Option NamedSum) → ((q : List ℕ) → g q ≡ h q)
    → ((q : List ℕ) → l q ≡ m q) → ((q : List ℕ) → f q ≡ k q) → (name : List ℕ) → file_by g l f name ≡ file_by h m k name
file_same g h l m f k given listed found name =
    ap (λ (o : Option (List ℕ)). made (is_some o) (l name) (f name)) (given name)
    ∙ ap (λ (o : Option NamedSum). made (is_some (h name)) o (f name)) (listed name)
    ∙ ap (λ (o : Option NamedSum). made (is_some (h name)) (m name) o) (found name)
  where
    made : Bool → Option NamedSum → Option NamedSum → FileSum
    made is_given listed found = record { name = name; is_given = is_given; listed = sum_or_none listed; sum = sum_or_none found }

pub files_same : (given : List (List ℕ)) (listed found : List NamedSum) (g : List ℕ → Option (List ℕ)) (l f : List ℕ → Option NamedSum)
    → ((q : List ℕ) → g q ≡ name_in given q) → ((q : List ℕ) → l q ≡ sum_in listed q) → ((q : List ℕ) → f q ≡ sum_in found q)
    → map (file_by g l f) given ++ (map (file_by g l f) (only_listed g listed) ++ map (file_by g l f) (only_found g l found))
    ≡ files_of given listed found
files_same given listed found g l f gs ls fs =
    let by = file_by g l f in
    let all = file_by (name_in given) (sum_in listed) (sum_in found) in
    let names : List (List ℕ) = map (λ (sum : NamedSum). sum.name) listed in
    let others : List (List ℕ) = map (λ (sum : NamedSum). sum.name) found in
    let one : only_listed g listed ≡ only_listed (name_in given) listed =
    filter_same (λ name. not (is_some (g name))) (λ name. not (is_some (name_in given name))) names
    (λ name. ap (λ (o : Option (List ℕ)). not (is_some o)) (gs name)) in
    let two : only_found g l found ≡ only_found (name_in given) (sum_in listed) found =
    filter_same (λ name. not (is_some (g name)) && not (is_some (l name)))
    (λ name. not (is_some (name_in given name)) && not (is_some (sum_in listed name))) others
    (λ name. ap (λ (o : Option (List ℕ)). not (is_some o) && not (is_some (l name))) (gs name)
    ∙ ap (λ (o : Option NamedSum). not (is_some (name_in given name)) && not (is_some o)) (ls name)) in
    sym (map-append by given (only_listed g listed ++ only_found g l found)
    ∙ ap (λ (r : List FileSum). map by given ++ r) (map-append by (only_listed g listed) (only_found g l found)))
    ∙ ap (λ (n : List (List ℕ)). map by (given ++ (n ++ only_found g l found))) one
    ∙ ap (λ (n : List (List ℕ)). map by (given ++ (only_listed (name_in given) listed ++ n))) two
    ∙ map_same by all (file_names given listed found) (file_same g (name_in given) l (sum_in listed) f (sum_in found) gs ls fs)
