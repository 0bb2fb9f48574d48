-- The rows of a night, with a target, a set, a group and an interchange more.
use Rattle.std.proofs.Common.{◌≡◌, ℕ, ◌+◌, List, [], ◌∷◌, ◌++◌}
use Rattle.std.proofs.Common.{Some, length, take, map, refl, sym, ap, subst, ◌∙◌, arith, append_assoc, append-nil}
use Rattle.std.specs.Prelude.{decimal, drop, slice_get, slice_index_or}
use Rattle.std.specs.List.{flat_map}
use Rattle.std.proofs.lemmas.List.{length-take-le}
use Rattle.std.proofs.lemmas.List.Concat.{flat_map-append}
use Rattle.std.proofs.lemmas.Option.{slice_get_within}
use Rattle.env_index.specs.declared.entry.SetEnvelope.{SetEnvelope}
use Rattle.env_index.specs.Words.{GroupEntry}
use Rattle.partner_setup.specs.Setup.{SetupValue}
use Rattle.answered_sets.specs.declared.standing.GroupStanding.{GroupStanding}
use Rattle.answered_sets.specs.Judged.{JudgedValue, PlacedValue, all_sets, sets_of_groups_from, sets_from, sets_of}
use Rattle.mailbox.proofs.ForAbove.{groups_snoc, sets_snoc, take_one_more}
use Rattle.track_table.specs.declared.notes.GroupNotes.{GroupNotes}
use Rattle.track_table.specs.declared.notes.Notes.{Notes}
use Rattle.track_table.specs.Cells.{group_cells, interchange_cells, no_set_notes, set_cells}
use Rattle.csv_fields.specs.Csv.{cells_text, fields_text, field_text, record_text, table_text}
use Rattle.track_table.specs.Rows.{TrackedBy, ends_of, groups_rows, interchange_rows, notes_at, rows_from, set_rows, sets_at}
use Rattle.track_table.specs.Rows.{sets_rows}
use Rattle.track_table.specs.Walking.{AreBehind, CursorValue, HasRows, row_text, set_text, sets_text}

-- one text after another, and the sets whose rows they are
pub rows_then : (by : TrackedBy) (f g : List PlacedValue → List ℕ) (ps qs : List PlacedValue) (a b c : List ℕ) (cs ds es : List CursorValue)
    → HasRows by f ps a b cs ds → HasRows by g qs b c ds es
    → HasRows by (λ before. f before ++ g (before ++ ps)) (ps ++ qs) a c cs es
rows_then by f g ps qs a b c cs ds es first second before behind =
    let one = first before behind in
    let two = second (before ++ ps) one.1 in (
      two.0 ∙ ap (λ (t : List ℕ). t ++ g (before ++ ps)) one.0 ∙ append_assoc a (f before) (g (before ++ ps)),
      subst (λ (bs : List PlacedValue). AreBehind by bs es) (append_assoc before ps qs) two.1,
    )

-- the same in other words
pub rows_as : (by : TrackedBy) (f g : List PlacedValue → List ℕ) (ps qs : List PlacedValue) (a b : List ℕ) (cs ds : List CursorValue)
    → ((before : List PlacedValue) → f before ≡ g before) → ps ≡ qs → HasRows by f ps a b cs ds → HasRows by g qs a b cs ds
rows_as by f g ps qs a b cs ds same sets rows before behind =
    let one = rows before behind in (
      one.0 ∙ ap (λ (t : List ℕ). a ++ t) (same before),
      subst (λ (xs : List PlacedValue). AreBehind by (before ++ xs) ds) sets one.1,
    )

pub rows_none : (by : TrackedBy) (a : List ℕ) (cs : List CursorValue) → HasRows by (λ before. []) [] a a cs cs
rows_none by a cs before behind = (
  sym (append-nil a),
  subst (λ (xs : List PlacedValue). AreBehind by xs cs) (sym (append-nil before)) behind,
)

sets_text_snoc : (by : TrackedBy) (head : List ℕ) (notes : GroupNotes) (before ps : List PlacedValue) (p : PlacedValue)
    → sets_text by head notes before (ps ++ p ∷ []) ≡ sets_text by head notes before ps ++ set_text by head notes (before ++ ps) p
sets_text_snoc by head notes before [] p =
    append-nil (set_text by head notes before p) ∙ ap (λ (b : List PlacedValue). set_text by head notes b p) (sym (append-nil before))
sets_text_snoc by head notes before (q ∷ ps) p =
    ap (λ (t : List ℕ). set_text by head notes before q ++ t) (sets_text_snoc by head notes (before ++ q ∷ []) ps p)
    ∙ ap (λ (b : List PlacedValue). set_text by head notes before q ++ (sets_text by head notes (before ++ q ∷ []) ps
    ++ set_text by head notes b p)) (append_assoc before (q ∷ []) ps)
    ∙ sym (append_assoc (set_text by head notes before q) (sets_text by head notes (before ++ q ∷ []) ps)
    (set_text by head notes (before ++ q ∷ ps) p))

-- one set more of a group
pub set_rows_more : (by : TrackedBy) (head : List ℕ) (notes : GroupNotes) (x : JudgedValue) (g : GroupEntry) (standing : GroupStanding)
    (i : ℕ) (set : SetEnvelope) (p : PlacedValue) (a b c : List ℕ) (cs ds es : List CursorValue)
    → slice_get g.sets i ≡ Some set → p ≡ record { interchange = x; group = g; standing = standing; index = i; set = set }
    → HasRows by (λ before. sets_text by head notes before (sets_from x g standing 0 (take i g.sets)))
    (sets_from x g standing 0 (take i g.sets)) a b cs ds
    → HasRows by (λ before. set_text by head notes before p) (p ∷ []) b c ds es
    → HasRows by (λ before. sets_text by head notes before (sets_from x g standing 0 (take (i + 1) g.sets)))
    (sets_from x g standing 0 (take (i + 1) g.sets)) a c cs es
set_rows_more by head notes x g standing i set p a b c cs ds es there is before next =
    let ps : List PlacedValue = sets_from x g standing 0 (take i g.sets) in
    let all : ps ++ p ∷ [] ≡ sets_from x g standing 0 (take (i + 1) g.sets) =
    ap (λ (q : PlacedValue). ps ++ q ∷ []) is
    ∙ sym (sets_snoc x g standing 0 i (take i g.sets) set
    (omega (arith, length-take-le i g.sets (omega (arith, slice_get_within g.sets i set there)))))
    ∙ ap (sets_from x g standing 0) (sym (take_one_more g.sets i set there)) in
    rows_as by _ _ _ _ a c cs es
    (λ bs. sym (sets_text_snoc by head notes bs ps p) ∙ ap (sets_text by head notes bs) all) all
    (rows_then by (λ bs. sets_text by head notes bs ps) (λ bs. set_text by head notes bs p) ps (p ∷ []) a b c cs ds es before next)

groups_rows_snoc : (by : TrackedBy) (n : ℕ) (before : List PlacedValue) (x : JudgedValue) (notes : List GroupNotes) (k m : ℕ)
    (groups : List GroupEntry) (g : GroupEntry) → k + length groups ≡ m
    → groups_rows by n before x notes k (groups ++ g ∷ [])
    ≡ groups_rows by n before x notes k groups ++ sets_rows by n (before ++ sets_of_groups_from x k groups) (notes_at notes m)
    (sets_at x m g)
groups_rows_snoc by n before x notes k m [] g is =
    append-nil (sets_rows by n before (notes_at notes k) (sets_at x k g))
    ∙ ap (λ (j : ℕ). sets_rows by n before (notes_at notes j) (sets_at x j g)) (omega (arith, is))
    ∙ ap (λ (b : List PlacedValue). sets_rows by n b (notes_at notes m) (sets_at x m g)) (sym (append-nil before))
groups_rows_snoc by n before x notes k m (h ∷ groups) g is =
    let here = sets_rows by n before (notes_at notes k) (sets_at x k h) in
    let rest = groups_rows by n (before ++ sets_at x k h) x notes (k + 1) groups in
    ap (λ (r : List (List (List ℕ))). here ++ r)
    (groups_rows_snoc by n (before ++ sets_at x k h) x notes (k + 1) m groups g (omega (arith, is)))
    ∙ ap (λ (b : List PlacedValue). here ++ (rest ++ sets_rows by n b (notes_at notes m) (sets_at x m g)))
    (append_assoc before (sets_at x k h) (sets_of_groups_from x (k + 1) groups))
    ∙ sym (append_assoc here rest (sets_rows by n (before ++ (sets_at x k h ++ sets_of_groups_from x (k + 1) groups)) (notes_at notes m)
    (sets_at x m g)))

-- one group more of an interchange
pub group_rows_more : (by : TrackedBy) (n : ℕ) (x : JudgedValue) (notes : List GroupNotes) (i : ℕ) (g : GroupEntry) (a b c : List ℕ)
    (cs ds es : List CursorValue) → slice_get x.interchange.content.groups i ≡ Some g
    → HasRows by (λ before. table_text (groups_rows by n before x notes 0 (take i x.interchange.content.groups)))
    (sets_of_groups_from x 0 (take i x.interchange.content.groups)) a b cs ds
    → HasRows by (λ before. table_text (sets_rows by n before (notes_at notes i) (sets_at x i g))) (sets_at x i g) b c ds es
    → HasRows by (λ before. table_text (groups_rows by n before x notes 0 (take (i + 1) x.interchange.content.groups)))
    (sets_of_groups_from x 0 (take (i + 1) x.interchange.content.groups)) a c cs es
group_rows_more by n x notes i g a b c cs ds es there before next =
    let groups : List GroupEntry = x.interchange.content.groups in
    let front : List GroupEntry = take i groups in
    let long : 0 + length front ≡ i = omega (arith, length-take-le i groups (omega (arith, slice_get_within groups i g there))) in
    let more : front ++ g ∷ [] ≡ take (i + 1) groups = sym (take_one_more groups i g there) in
    rows_as by _ _ _ _ a c cs es
    (λ bs. sym (flat_map-append record_text (groups_rows by n bs x notes 0 front)
    (sets_rows by n (bs ++ sets_of_groups_from x 0 front) (notes_at notes i) (sets_at x i g)))
    ∙ ap table_text (sym (groups_rows_snoc by n bs x notes 0 i front g long) ∙ ap (groups_rows by n bs x notes 0) more))
    (sym (groups_snoc x 0 i front g long) ∙ ap (sets_of_groups_from x 0) more)
    (rows_then by (λ bs. table_text (groups_rows by n bs x notes 0 front))
    (λ bs. table_text (sets_rows by n bs (notes_at notes i) (sets_at x i g))) (sets_of_groups_from x 0 front) (sets_at x i g) a b c cs ds es
    before next)

rows_snoc : (by : TrackedBy) (n k : ℕ) (before : List PlacedValue) (xs : List JudgedValue) (ms : List Notes) (x : JudgedValue) (m : Notes)
    → length ms ≡ length xs → n + length xs ≡ k
    → rows_from by n before (xs ++ x ∷ []) (ms ++ m ∷ []) ≡ rows_from by n before xs ms ++ interchange_rows by k (before ++ all_sets xs) x m
rows_snoc by n k before [] [] x m same is =
    append-nil (interchange_rows by n before x m)
    ∙ ap (λ (j : ℕ). interchange_rows by j before x m) (omega (arith, is))
    ∙ ap (λ (b : List PlacedValue). interchange_rows by k b x m) (sym (append-nil before))
rows_snoc by n k before [] (l ∷ ms) x m same is = absurd (omega (arith, same))
rows_snoc by n k before (y ∷ xs) [] x m same is = absurd (omega (arith, same))
rows_snoc by n k before (y ∷ xs) (l ∷ ms) x m same is =
    let here = interchange_rows by n before y l in
    let rest = rows_from by (n + 1) (before ++ sets_of y) xs ms in
    ap (λ (r : List (List (List ℕ))). here ++ r)
    (rows_snoc by (n + 1) k (before ++ sets_of y) xs ms x m (omega (arith, same)) (omega (arith, is)))
    ∙ ap (λ (b : List PlacedValue). here ++ (rest ++ interchange_rows by k b x m)) (append_assoc before (sets_of y) (all_sets xs))
    ∙ sym (append_assoc here rest (interchange_rows by k (before ++ (sets_of y ++ all_sets xs)) x m))

-- one interchange more
pub interchange_rows_more : (by : TrackedBy) (xs : List JudgedValue) (ms : List Notes) (i n : ℕ) (x : JudgedValue) (m : Notes)
    (first a b : List ℕ) (cs ds : List CursorValue) → slice_get xs i ≡ Some x → slice_get ms i ≡ Some m → n ≡ i + 1
    → a ≡ first ++ table_text (rows_from by 1 [] (take i xs) (take i ms)) → AreBehind by (all_sets (take i xs)) cs
    → HasRows by (λ before. table_text (interchange_rows by n before x m)) (sets_of x) a b cs ds
    → (b ≡ first ++ table_text (rows_from by 1 [] (take (i + 1) xs) (take (i + 1) ms))) × AreBehind by (all_sets (take (i + 1) xs)) ds
interchange_rows_more by xs ms i n x m first a b cs ds at_x at_m number text behind rows =
    let front = take i xs in
    let kept = take i ms in
    let long : length front ≡ i = length-take-le i xs (omega (arith, slice_get_within xs i x at_x)) in
    let wide : length kept ≡ i = length-take-le i ms (omega (arith, slice_get_within ms i m at_m)) in
    let one = rows (all_sets front) behind in
    let row = interchange_rows by n (all_sets front) x m in
    let all : all_sets front ++ sets_of x ≡ all_sets (take (i + 1) xs) =
    sym (ap all_sets (take_one_more xs i x at_x) ∙ flat_map-append sets_of front (x ∷ [])
    ∙ ap (λ (ps : List PlacedValue). all_sets front ++ ps) (append-nil (sets_of x))) in (
      one.0 ∙ ap (λ (t : List ℕ). t ++ table_text row) text
          ∙ append_assoc first (table_text (rows_from by 1 [] front kept)) (table_text row)
          ∙ ap (λ (t : List ℕ). first ++ t) (
          sym (flat_map-append record_text (rows_from by 1 [] front kept) row)
          ∙ ap table_text (sym (rows_snoc by 1 n [] front kept x m (omega (arith, long, wide)) (omega (arith, long, number)))
          ∙ ap (λ (ys : List JudgedValue). rows_from by 1 [] ys (kept ++ m ∷ [])) (sym (take_one_more xs i x at_x))
          ∙ ap (rows_from by 1 [] (take (i + 1) xs)) (sym (take_one_more ms i m at_m)))),
      subst (λ (bs : List PlacedValue). AreBehind by bs ds) all one.1,
    )

-- fields after the first ones
pub cells_append : (c : List ℕ) (cs ds : List (List ℕ)) → cells_text ((c ∷ cs) ++ ds) ≡ cells_text (c ∷ cs) ++ fields_text ds
cells_append c cs ds =
    ap (λ (t : List ℕ). field_text c ++ t) (flat_map-append (λ (field : List ℕ). 44 ∷ field_text field) cs ds)
    ∙ sym (append_assoc (field_text c) (fields_text cs) (fields_text ds))

-- a row by its first fields as they are written
row_is_record : (c : List ℕ) (cs ss end : List (List ℕ))
    → row_text (cells_text (c ∷ cs) ++ fields_text ss) end ≡ record_text (((c ∷ cs) ++ ss) ++ end)
row_is_record c cs ss end =
    ap (λ (t : List ℕ). t ++ fields_text end ++ 13 ∷ 10 ∷ []) (sym (cells_append c cs ss))
    ∙ ap (λ (t : List ℕ). t ++ 13 ∷ 10 ∷ []) (sym (cells_append c (cs ++ ss) end))

rows_are_records : (c : List ℕ) (cs ss : List (List ℕ)) (ends : List (List (List ℕ)))
    → flat_map (row_text (cells_text (c ∷ cs) ++ fields_text ss)) ends
    ≡ table_text (map (λ (end : List (List ℕ)). ((c ∷ cs) ++ ss) ++ end) ends)
rows_are_records c cs ss [] = refl
rows_are_records c cs ss (end ∷ ends) =
    ap (λ (t : List ℕ). t ++ flat_map (row_text (cells_text (c ∷ cs) ++ fields_text ss)) ends) (row_is_record c cs ss end)
    ∙ ap (λ (t : List ℕ). record_text (((c ∷ cs) ++ ss) ++ end) ++ t) (rows_are_records c cs ss ends)

-- the fields of an interchange after its number
abbrev told : SetupValue → JudgedValue → List (List ℕ)
told setup x = drop 1 (interchange_cells setup 0 x)

pub head_made : (setup : SetupValue) (n : ℕ) (x : JudgedValue) (gs : List (List ℕ))
    → cells_text (interchange_cells setup n x) ++ fields_text gs ≡ cells_text (interchange_cells setup n x ++ gs)
head_made setup n x gs = sym (cells_append (decimal n) (told setup x) gs)

abbrev pub head_text : TrackedBy → ℕ → JudgedValue → GroupEntry → GroupStanding → GroupNotes → List ℕ
head_text by n x g standing notes = cells_text (interchange_cells by.setup n x ++ group_cells g standing.verdict notes.codes)

set_is_rows : (by : TrackedBy) (n : ℕ) (before : List PlacedValue) (notes : GroupNotes) (p : PlacedValue)
    → set_text by (head_text by n p.interchange p.group p.standing notes) notes before p ≡ table_text (set_rows by n before p notes)
set_is_rows by n before notes p = rows_are_records (decimal n)
    (told by.setup p.interchange ++ group_cells p.group p.standing.verdict notes.codes)
    (set_cells by.documents p (slice_index_or notes.sets p.index no_set_notes)) (ends_of by before p)

-- the rows of the sets of a group
pub sets_are_rows : (by : TrackedBy) (n : ℕ) (before : List PlacedValue) (notes : GroupNotes) (x : JudgedValue) (g : GroupEntry)
    (standing : GroupStanding) (k : ℕ) (sets : List SetEnvelope)
    → sets_text by (head_text by n x g standing notes) notes before (sets_from x g standing k sets)
    ≡ table_text (sets_rows by n before notes (sets_from x g standing k sets))
sets_are_rows by n before notes x g standing k [] = refl
sets_are_rows by n before notes x g standing k (set ∷ sets) =
    let p : PlacedValue = record { interchange = x; group = g; standing = standing; index = k; set = set } in
    let ps : List PlacedValue = sets_from x g standing (k + 1) sets in
    ap (λ (t : List ℕ). t ++ sets_text by (head_text by n x g standing notes) notes (before ++ p ∷ []) ps) (set_is_rows by n before notes p)
    ∙ ap (λ (t : List ℕ). table_text (set_rows by n before p notes) ++ t)
    (sets_are_rows by n (before ++ p ∷ []) notes x g standing (k + 1) sets)
    ∙ sym (flat_map-append record_text (set_rows by n before p notes) (sets_rows by n (before ++ p ∷ []) notes ps))
