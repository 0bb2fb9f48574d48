-- The fields of a header, each found after what stands before it.
use Rattle.std.proofs.Common.{◌≡◌, ℕ, ◌+◌, ◌-◌, ◌<◌, ◌≤◌, ◌⊎◌, List, [], ◌∷◌, ◌++◌, length, take, drop, get_or}
use Rattle.std.proofs.Common.{refl, sym, ap, subst, ◌∙◌, arith}
use Rattle.std.proofs.Common.{suc, append_assoc, length-append, eq-or-lt_of_le, inl, inr, get_or-append-add, get_or-drop, get_or-take}
use Rattle.std.specs.Prelude.{All, slice_index, slice_range, slice_index_or, ⊤}
use Rattle.std.proofs.lemmas.List.{take-append-le, take_all}
use Rattle.std.proofs.lemmas.List.Prefix.{front_rest}
use Rattle.x12_bytes.specs.Header.{element_separator_of, separator_place, width_of, field_of, IsFieldByte, IsFieldAt}
use Rattle.x12_write.specs.Segment.{elements_text}

-- a byte after so many others
pub byte-behind : (front : List ℕ) (n b : ℕ) (rest : List ℕ) → length front ≡ n → slice_index (front ++ (b ∷ rest)) n ≡ b
byte-behind front n b rest long =
    ap (slice_index (front ++ (b ∷ rest))) (let same : n ≡ length front + 0 = omega arith in same)
    ∙ get_or-append-add front (b ∷ rest) 0 0

front-taken : (x rest : List ℕ) → take (length x) (x ++ rest) ≡ x
front-taken x rest = take-append-le (length x) x rest (omega arith) ∙ take_all (length x) x (omega arith)

-- a text after so many bytes
pub text-behind : (front : List ℕ) (n : ℕ) (x rest : List ℕ) (end : ℕ) → length front ≡ n → n + length x ≡ end
    → slice_range (front ++ (x ++ rest)) n end ≡ x
text-behind front n x rest end long wide =
    let span : end - n ≡ length x = omega arith in
    ap (λ (k : ℕ). take k (drop n (front ++ (x ++ rest)))) span
    ∙ ap (take (length x)) (ap (λ (k : ℕ). drop k (front ++ (x ++ rest))) (sym long)
    ∙ front_rest (front ++ (x ++ rest)) front (x ++ rest) refl)
    ∙ front-taken x rest

-- the byte that a stretch of one is
pub byte-of : (header : List ℕ) (n b : ℕ) → slice_range header n (n + 1) ≡ b ∷ [] → slice_index header n ≡ b
byte-of header n b is =
    let one : n + 1 - n ≡ 1 = omega arith in
    let zero_more : n + 0 ≡ n = omega arith in
    sym (ap (slice_index header) zero_more)
    ∙ sym (get_or-drop n header 0 0)
    ∙ sym (get_or-take 1 (drop n header) 0 0 (omega arith))
    ∙ ap (λ (k : ℕ). get_or (take k (drop n header)) 0 0) (sym one)
    ∙ ap (λ (xs : List ℕ). get_or xs 0 0) is

-- elements that fill the fields from number k on, the first of them after so many bytes
abbrev pub Fill : List ℕ → ℕ → ℕ → List (List ℕ) → Type 0
Fill header k place [] = ⊤
Fill header k place (x ∷ xs) =
    (place ≡ separator_place k) × ((length x ≡ width_of k) × (All (IsFieldByte header) x × Fill header (k + 1) (place + 1 + length x) xs))

-- field j is there, and is the element
abbrev pub IsFilled : List ℕ → ℕ → List ℕ → Type 0
IsFilled header j x = IsFieldAt header j × (field_of header j ≡ x)

filled : (header front x rest : List ℕ) (e k : ℕ) → header ≡ front ++ (e ∷ (x ++ rest)) → e ≡ element_separator_of header
    → length front ≡ separator_place k → length x ≡ width_of k → All (IsFieldByte header) x → IsFilled header k x
filled header front x rest e k is same place wide all =
    let start : ℕ = separator_place k + 1 in
    let long : length (front ++ (e ∷ [])) ≡ start = length-append front (e ∷ []) ∙ ap (λ (n : ℕ). n + 1) place in
    let moved : header ≡ (front ++ (e ∷ [])) ++ (x ++ rest) = is ∙ sym (append_assoc front (e ∷ []) (x ++ rest)) in
    let field : field_of header k ≡ x =
    ap (λ (h : List ℕ). slice_range h start (start + width_of k)) moved
    ∙ text-behind (front ++ (e ∷ [])) start x rest (start + width_of k) long (ap (λ (n : ℕ). start + n) wide) in
    let separator : slice_index header (separator_place k) ≡ e =
    ap (λ (h : List ℕ). slice_index h (separator_place k)) is ∙ byte-behind front (separator_place k) e (x ++ rest) place in
    (record { separator = separator ∙ same; bytes = subst (All (IsFieldByte header)) (sym field) all }, field)

-- so are all of them
pub fields-filled : (header front post : List ℕ) (e k : ℕ) (xs : List (List ℕ)) → header ≡ front ++ (elements_text e xs ++ post)
    → e ≡ element_separator_of header → Fill header k (length front) xs
    → (j : ℕ) → k ≤ j → j < k + length xs → IsFilled header j (slice_index_or xs (j - k) [])
fields-filled header front post e k [] is same fill j from to = absurd (omega (arith, from, to))
fields-filled header front post e k (x ∷ xs) is same fill j from to =
    at (eq-or-lt_of_le from) (λ (later : k < j).
    fields-filled header (front ++ (e ∷ x)) post e (k + 1) xs
    (here ∙ sym (append_assoc front (e ∷ x) (elements_text e xs ++ post))) same
    (subst (λ (n : ℕ). Fill header (k + 1) n xs) (sym front_long) fill.1.1.1) j (omega (arith, later)) (omega (arith, later, to)))
  where
    here : header ≡ front ++ (e ∷ (x ++ (elements_text e xs ++ post)))
    here = is ∙ ap (λ (t : List ℕ). front ++ (e ∷ t)) (append_assoc x (elements_text e xs) post)

    front_long : length (front ++ (e ∷ x)) ≡ length front + 1 + length x
    front_long = let long = length-append front (e ∷ x) in omega arith

    at : (k ≡ j) ⊎ (k < j) → (k < j → IsFilled header j (slice_index_or xs (j - (k + 1)) []))
        → IsFilled header j (slice_index_or (x ∷ xs) (j - k) [])
    at (inl now) more =
        let none : j - k ≡ 0 = omega arith in
        subst (λ (n : ℕ). IsFilled header j (slice_index_or (x ∷ xs) n [])) (sym none)
        (subst (λ (n : ℕ). IsFilled header n x) now
        (filled header front x (elements_text e xs ++ post) e k here same fill.0 fill.1.0 fill.1.1.0))
    at (inr later) more =
        let one : j - k ≡ suc (j - (k + 1)) = omega (arith, later) in
        subst (λ (n : ℕ). IsFilled header j (slice_index_or (x ∷ xs) n [])) (sym one) (more later)

-- an element of its field's width, before those that fill the next fields
pub fill-next : (header : List ℕ) (k : ℕ) (x : List ℕ) (xs : List (List ℕ)) → length x ≡ width_of k → All (IsFieldByte header) x
    → Fill header (k + 1) (separator_place k + 1 + width_of k) xs → Fill header k (separator_place k) (x ∷ xs)
fill-next header k x xs wide all rest =
    (refl, (wide, (all, subst (λ (n : ℕ). Fill header (k + 1) (separator_place k + 1 + n) xs) (sym wide) rest)))

-- how many bytes elements take with their separators
abbrev pub spread : List (List ℕ) → ℕ
spread [] = 0
spread (x ∷ xs) = 1 + length x + spread xs

pub length-elements_text : (e : ℕ) (xs : List (List ℕ)) → length (elements_text e xs) ≡ spread xs
length-elements_text e [] = refl
length-elements_text e (x ∷ xs) =
    let rest = length-elements_text e xs in
    let long = length-append (e ∷ x) (elements_text e xs) in
    let sum : length (e ∷ x) + length (elements_text e xs) ≡ 1 + length x + spread xs = omega arith in
    long ∙ sum
