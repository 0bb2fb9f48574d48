-- The rows of an interchange are the same.
use Rattle.std.proofs.Common.{◌≡◌, ℕ, suc, ◌+◌, List, [], ◌∷◌, ◌++◌, map, Bool, true, false, not, Option, Some, None, length, refl, sym, ap}
use Rattle.std.proofs.Common.{◌∙◌, subst, arith, true≢false}
use Rattle.std.proofs.lemmas.List.Elements.{filter-append}
use Rattle.std.specs.Prelude.{if◌then◌else◌, codes, drop, filter, flat_map, is_none, is_some, slice_index_or}
use Rattle.std.specs.List.{AllZip}
use Rattle.x12_bytes.specs.Header.{header_delims}
use Rattle.x12_bytes.specs.declared.delims.Delims.{Delims}
use Rattle.x12_segs.specs.Words.{elements_of, span_views}
use Rattle.hub_kinds.specs.declared.answers.SetAnswer.{SetAnswer}
use Rattle.hub_kinds.specs.declared.interchange.InterchangeFault.{InterchangeFault}
use Rattle.env_index.specs.Words.{GroupEntry, span_of}
use Rattle.env_index.specs.declared.entry.SetEnvelope.{SetEnvelope}
use Rattle.partner_setup.specs.Setup.{SetupValue}
use Rattle.answered_sets.specs.Judged.{JudgedValue, PlacedValue, is_fa, is_refused, sets_from, sets_of, sets_of_groups_from, standing_at}
use Rattle.set_answers.specs.CheckedText.{CheckedInterchange, judged}
use Rattle.night_report.specs.Report.{ShownGroup, groups_shown, shown_from}
use Rattle.set_documents.specs.Documents.{DocumentValue}
use Rattle.track_table.specs.Notes.{no_notes}
use Rattle.track_table.specs.declared.notes.GroupNotes.{GroupNotes}
use Rattle.track_table.specs.declared.notes.SetNotes.{SetNotes}
use Rattle.track_table.specs.Noted.{notes_of}
use Rattle.track_table.specs.AnswerNotes as old_notes
use Rattle.track_table.specs.Track.{tracked_by}
use Rattle.track_table.specs.Cells as old_cells
use Rattle.track_table.specs.Rows as old
use Rattle.night_definition.specs.Elements.{numbered}
use Rattle.night_definition.specs.Setup.{Setup}
use Rattle.night_definition.specs.Answers.{Answer, AnsweredGroup, Answered}
use Rattle.night_definition.specs.Deliveries.{Sent, sent}
use Rattle.night_equal_text.specs.LookedUp.{seen_setup}
use Rattle.night_equal_writing.specs.Acknowledgments.{answered_group, set_answer}
use Rattle.night_equal_writing.specs.Codes.{CodesAreOne}
use Rattle.night_equal_writing.specs.Report.{IsSet, IsShown, IsTold}
use Rattle.track_definition.specs.Columns.{no_set_cells, plain_end}
use Rattle.track_definition.specs.Cells as room_cells
use Rattle.track_definition.specs.Rows as room
use Rattle.track_definition.specs.Rows.{Placed, all_sets_in, sets_in}
use Rattle.track_equal.proofs.Documents.{elements_in}
use Rattle.track_equal.proofs.Ends.{IsKnownNight, append_zip, ends_are}
use Rattle.track_equal.proofs.Heads as heads
use Rattle.track_equal.proofs.Mailed.{Seen, is_open}

-- a set of the index has the segments of an answer's set
abbrev pub HasSegments : (text : List ℕ) → Delims → Answer → SetEnvelope → Type 0
HasSegments text d a e = elements_in (room_cells.segments_after a.set) ≡ map elements_of (drop 1 (span_views text (span_of d e)))

abbrev pub HaveSegments : (text : List ℕ) → Delims → AnsweredGroup → GroupEntry → Type 0
HaveSegments text d g e = AllZip (HasSegments text d) g.answers e.sets

-- an interchange that is checked, as the definition has it
pub record IsHere (text : List ℕ) (c : CheckedInterchange) (x : Answered) : Type 0 where
  pub told : IsTold (judged text c) x
  pub groups : c.groups ≡ map answered_group x.groups
  pub segments : is_refused (judged text c) ≡ false
      → AllZip (HaveSegments text (header_delims c.entry.interchange.header)) x.groups c.entry.interchange.content.groups

-- what is kept of the answers to a group
abbrev group_notes : AnsweredGroup → GroupNotes
group_notes g = old_notes.notes_by (answered_group g)

-- of one that isn't of acknowledgments
codes_kept : (g : AnsweredGroup) → g.is_fa ≡ false → (group_notes g).codes ≡ g.codes
codes_kept g other = ap (λ (t : Bool). (old_notes.notes_by (if t then None else Some (record {
  answer = Rattle.night_equal_writing.specs.Acknowledgments.group_answer g;
  sets = map set_answer g.answers;
}))).codes) other

sets_kept : (g : AnsweredGroup) → g.is_fa ≡ false → (group_notes g).sets ≡ map old_notes.notes_of_set (map set_answer g.answers)
sets_kept g other = ap (λ (t : Bool). (old_notes.notes_by (if t then None else Some (record {
  answer = Rattle.night_equal_writing.specs.Acknowledgments.group_answer g;
  sets = map set_answer g.answers;
}))).sets) other

abbrev set_notes : List Answer → List SetNotes
set_notes answers = map old_notes.notes_of_set (map set_answer answers)

abbrev notes_there : List SetNotes → ℕ → SetNotes
notes_there notes k = slice_index_or notes k old_cells.no_set_notes

zero_more : (k : ℕ) → 0 + k ≡ k
zero_more k = omega arith

none : (n : ℕ) → n + 0 ≡ n
none n = omega arith

more : (n k : ℕ) → n + suc k ≡ n + 1 + k
more n k = omega arith

-- sets of an interchange that isn't refused are open
open_is : (p : PlacedValue) → is_refused p.interchange ≡ false → filter is_open (p ∷ []) ≡ p ∷ []
open_is p other = ap (λ t. if not t then p ∷ [] else []) other

sets_open : (x : Answered) (g : AnsweredGroup) (m : ℕ) (ps : List PlacedValue) (answers : List Answer)
    → AllZip (IsSet x g) ps (numbered m answers) → AllZip Seen (filter is_open ps) (map (λ (a : Answer). (g, sent x g a)) answers)
sets_open x g m [] [] zip = tt
sets_open x g m [] (a ∷ answers) zip = absurd zip
sets_open x g m (p ∷ ps) [] zip = absurd zip
sets_open x g m (p ∷ ps) (a ∷ answers) zip =
    by (is_refused p.interchange) zip.0.set.judged (zip.0.set, sets_open x g (m + 1) ps answers zip.1)
  where
    rest : List Placed
    rest = map (λ (a : Answer). (g, sent x g a)) answers

    by : (t : Bool) → t ≡ false → AllZip Seen (p ∷ filter is_open ps) ((g, sent x g a) ∷ rest)
        → AllZip Seen (if not t then p ∷ filter is_open ps else filter is_open ps) ((g, sent x g a) ∷ rest)
    by false e both = both
    by true e both = absurd (true≢false e)

pub onto_open : (before ps : List PlacedValue) (placed : List Placed) (xs : List Placed) → AllZip Seen (filter is_open before) placed
    → AllZip Seen (filter is_open ps) xs → AllZip Seen (filter is_open (before ++ ps)) (placed ++ xs)
onto_open before ps placed xs zip more =
    subst (λ (l : List PlacedValue). AllZip Seen l (placed ++ xs)) (sym (filter-append is_open before ps))
    (append_zip Seen (filter is_open before) (filter is_open ps) placed xs zip more)

groups_open : (j : JudgedValue) (x : Answered) (k : ℕ) (es : List GroupEntry) (gs : List AnsweredGroup)
    → AllZip (IsShown x) (shown_from j k es) gs
    → AllZip Seen (filter is_open (sets_of_groups_from j k es)) (flat_map (sets_in x) gs)
groups_open j x k [] [] zip = tt
groups_open j x k [] (g ∷ gs) zip = absurd zip
groups_open j x k (e ∷ es) [] zip = absurd zip
groups_open j x k (e ∷ es) (g ∷ gs) zip =
    let ps : List PlacedValue = sets_from j e (standing_at j.standings k) 0 e.sets in
    onto_open ps (sets_of_groups_from j (k + 1) es) (sets_in x g) (flat_map (sets_in x) gs) (sets_open x g 1 ps g.answers zip.0.sets)
    (groups_open j x (k + 1) es gs zip.1)

-- those of a refused interchange aren't
none_from : (j : JudgedValue) → is_refused j ≡ true → (g : GroupEntry) (k : ℕ) (n : ℕ) (es : List SetEnvelope)
    → filter is_open (sets_from j g (standing_at j.standings k) n es) ≡ []
none_from j refused g k n [] = refl
none_from j refused g k n (e ∷ es) =
    let p : PlacedValue = record { interchange = j; group = g; standing = standing_at j.standings k; index = n; set = e } in
    let ps : List PlacedValue = sets_from j g (standing_at j.standings k) (n + 1) es in
    ap (λ t. if not t then p ∷ filter is_open ps else filter is_open ps) refused ∙ none_from j refused g k (n + 1) es

none_open : (j : JudgedValue) → is_refused j ≡ true → (k : ℕ) (es : List GroupEntry) → filter is_open (sets_of_groups_from j k es) ≡ []
none_open j refused k [] = refl
none_open j refused k (e ∷ es) =
    filter-append is_open (sets_from j e (standing_at j.standings k) 0 e.sets) (sets_of_groups_from j (k + 1) es)
    ∙ ap (λ (l : List PlacedValue). l ++ filter is_open (sets_of_groups_from j (k + 1) es)) (none_from j refused e k 0 e.sets)
    ∙ none_open j refused (k + 1) es

abbrev shown_if : Bool → JudgedValue → List ShownGroup
shown_if t j = if t then [] else shown_from j 0 j.interchange.content.groups

pub interchange_open : (j : JudgedValue) (x : Answered) → IsTold j x → AllZip Seen (filter is_open (sets_of j)) (all_sets_in x)
interchange_open j x told = by (is_refused j) refl x.groups told.groups
  where
    nothing : (gs : List AnsweredGroup) → AllZip (IsShown x) [] gs → AllZip Seen [] (flat_map (sets_in x) gs)
    nothing [] zip = tt
    nothing (g ∷ gs) zip = absurd zip

    by : (t : Bool) → is_refused j ≡ t → (gs : List AnsweredGroup) → AllZip (IsShown x) (shown_if t j) gs
        → AllZip Seen (filter is_open (sets_of j)) (flat_map (sets_in x) gs)
    by true e gs zip =
        subst (λ (l : List PlacedValue). AllZip Seen l (flat_map (sets_in x) gs))
        (sym (none_open j e 0 j.interchange.content.groups)) (nothing gs zip)
    by false e gs zip = groups_open j x 0 j.interchange.content.groups gs zip

module _ (setup : SetupValue) (documents : List DocumentValue) (cs : List CheckedInterchange) (xs : List Answered)
    (known : IsKnownNight setup cs xs) (writ : CodesAreOne) (n : ℕ) where
  abbrev by : old.TrackedBy
  by = tracked_by setup documents cs

  abbrev there : Setup
  there = seen_setup setup

  abbrev Rows : Type 0
  Rows = List (List (List ℕ))

  -- of interchange n
  module _ (j : JudgedValue) (x : Answered) (told : IsTold j x) where
    -- of a group
    module _ (s : ShownGroup) (same : s.interchange ≡ j) (g : AnsweredGroup) (shown : IsShown x s g) (notes : GroupNotes)
        (kept : g.is_fa ≡ false → notes.codes ≡ g.codes) where
      abbrev d : Delims
      d = header_delims j.interchange.header

      set_rows_are : (before : List PlacedValue) (placed : List Placed) → AllZip Seen (filter is_open before) placed
          → (m : ℕ) (e : SetEnvelope) (a : Answer)
          → IsSet x g (record { interchange = j; group = s.group; standing = s.standing; index = m; set = e }) (m + 1, a)
          → HasSegments j.text d a e
          → (g.is_fa ≡ false → notes_there notes.sets m ≡ heads.notes_of known.writes writ a)
          → old.set_rows by n before (record { interchange = j; group = s.group; standing = s.standing; index = m; set = e }) notes
          ≡ room.set_rows there documents xs n placed x g a
      set_rows_are before placed zip m e a is after at =
          let p : PlacedValue = record { interchange = j; group = s.group; standing = s.standing; index = m; set = e } in
          let first : old_cells.interchange_cells setup n j ≡ room_cells.interchange_cells there n x.judged =
          heads.interchange_is known.writes writ setup n j x told in
          let second : old_cells.group_cells s.group s.standing.verdict notes.codes ≡ room_cells.group_cells g =
          heads.group_is known.writes writ x s g notes.codes shown kept in
          let third : old_cells.set_cells documents p (notes_there notes.sets m) ≡ room_cells.set_cells documents g a =
          heads.set_is known.writes writ documents x p g a (notes_there notes.sets m) is.set (λ other. at (is.set.fa ∙ other)) after in
          let ends : Rows = old.ends_of by before p in
          ap (λ (head : List (List ℕ)). map (λ (end : List (List ℕ)).
          ((head ++ old_cells.group_cells s.group s.standing.verdict notes.codes)
          ++ old_cells.set_cells documents p (notes_there notes.sets m)) ++ end) ends) first
          ∙ ap (λ (cells : List (List ℕ)). map (λ (end : List (List ℕ)).
          ((room_cells.interchange_cells there n x.judged ++ cells)
          ++ old_cells.set_cells documents p (notes_there notes.sets m)) ++ end) ends) second
          ∙ ap (λ (cells : List (List ℕ)). map (λ (end : List (List ℕ)).
          ((room_cells.interchange_cells there n x.judged ++ room_cells.group_cells g) ++ cells) ++ end) ends) third
          ∙ ap (λ (ends : Rows). map (λ (end : List (List ℕ)).
          ((room_cells.interchange_cells there n x.judged ++ room_cells.group_cells g)
          ++ room_cells.set_cells documents g a) ++ end) ends)
          (ends_are setup documents cs xs known before placed zip p g (sent x g a) is.set)

      sets_are : (before : List PlacedValue) (placed : List Placed) → AllZip Seen (filter is_open before) placed
          → (m : ℕ) (es : List SetEnvelope) (answers : List Answer)
          → AllZip (IsSet x g) (sets_from j s.group s.standing m es) (numbered (m + 1) answers)
          → AllZip (HasSegments j.text d) answers es
          → (g.is_fa ≡ false → (k : ℕ) → notes_there notes.sets (m + k) ≡ notes_there (set_notes answers) k)
          → old.sets_rows by n before notes (sets_from j s.group s.standing m es)
          ≡ room.sets_rows there documents xs n placed x g answers
      sets_are before placed zip m [] [] is after at = refl
      sets_are before placed zip m [] (a ∷ answers) is after at = absurd is
      sets_are before placed zip m (e ∷ es) [] is after at = absurd is
      sets_are before placed zip m (e ∷ es) (a ∷ answers) is after at =
          let p : PlacedValue = record { interchange = j; group = s.group; standing = s.standing; index = m; set = e } in
          let ps : List PlacedValue = sets_from j s.group s.standing (m + 1) es in
          ap (λ (rows : Rows). rows ++ old.sets_rows by n (before ++ p ∷ []) notes ps)
          (set_rows_are before placed zip m e a is.0 after.0
          (λ other. ap (notes_there notes.sets) (sym (none m)) ∙ at other 0))
          ∙ ap (λ (rows : Rows). room.set_rows there documents xs n placed x g a ++ rows)
          (sets_are (before ++ p ∷ []) (placed ++ (g, sent x g a) ∷ [])
          (onto_open before (p ∷ []) placed ((g, sent x g a) ∷ []) zip
          (sets_open x g (m + 1) (p ∷ []) (a ∷ []) (is.0, tt)))
          (m + 1) es answers is.1 after.1
          (λ other k. ap (notes_there notes.sets) (sym (more m k)) ∙ at other (suc k)))

    groups_are : (before : List PlacedValue) (placed : List Placed) → AllZip Seen (filter is_open before) placed
        → (ns : List GroupNotes) (k : ℕ) (es : List GroupEntry) (gs : List AnsweredGroup) → AllZip (IsShown x) (shown_from j k es) gs
        → AllZip (HaveSegments j.text (header_delims j.interchange.header)) gs es
        → ((m : ℕ) → old.notes_at ns (k + m) ≡ old.notes_at (map group_notes gs) m)
        → old.groups_rows by n before j ns k es ≡ room.groups_rows there documents xs n placed x gs
    groups_are before placed zip ns k [] [] is after at = refl
    groups_are before placed zip ns k [] (g ∷ gs) is after at = absurd is
    groups_are before placed zip ns k (e ∷ es) [] is after at = absurd is
    groups_are before placed zip ns k (e ∷ es) (g ∷ gs) is after at =
        let s : ShownGroup = record { interchange = j; group = e; standing = standing_at j.standings k } in
        let ps : List PlacedValue = old.sets_at j k e in
        let here : old.notes_at ns k ≡ group_notes g = ap (old.notes_at ns) (sym (none k)) ∙ at 0 in
        ap (λ (notes : GroupNotes). old.sets_rows by n before notes ps ++ old.groups_rows by n (before ++ ps) j ns (k + 1) es) here
        ∙ ap (λ (rows : Rows). rows ++ old.groups_rows by n (before ++ ps) j ns (k + 1) es)
        (sets_are s refl g is.0 (group_notes g) (codes_kept g) before placed zip 0 e.sets g.answers is.0.sets after.0
        (λ other m. ap (notes_there (group_notes g).sets) (zero_more m) ∙ ap (λ (l : List SetNotes). notes_there l m) (sets_kept g other)))
        ∙ ap (λ (rows : Rows). room.sets_rows there documents xs n placed x g g.answers ++ rows)
        (groups_are (before ++ ps) (placed ++ sets_in x g)
        (onto_open before ps placed (sets_in x g) zip (sets_open x g 1 ps g.answers is.0.sets))
        ns (k + 1) es gs is.1 after.1
        (λ m. ap (old.notes_at ns) (sym (more k m)) ∙ at (suc m)))

  map_map : {A B C : Type 0} (f : B → C) (g : A → B) (ys : List A) → map f (map g ys) ≡ map (λ y. f (g y)) ys
  map_map f g [] = refl
  map_map f g (y ∷ ys) = ap (λ zs. f (g y) ∷ zs) (map_map f g ys)

  abbrev rows_if : Bool → (row : List (List ℕ)) → Rows → Rows
  rows_if t row rows = if t then row ∷ [] else rows

  refused_same : (o q : Option InterchangeFault) → o ≡ q → not (is_none o) ≡ is_some q
  refused_same None None e = refl
  refused_same (Some f) (Some h) e = refl
  refused_same None (Some h) e = cc
  refused_same (Some f) None e = cc

  pub interchange_rows_are : (text : List ℕ) (before : List PlacedValue) (placed : List Placed) → AllZip Seen (filter is_open before) placed
      → (c : CheckedInterchange) (x : Answered) → IsHere text c x
      → old.interchange_rows by n before (judged text c) (notes_of c) ≡ room.interchange_rows there documents xs n placed x
  interchange_rows_are text before placed zip c x here =
      let j : JudgedValue = judged text c in
      let groups : List GroupEntry = c.entry.interchange.content.groups in
      let notes : List GroupNotes = map old_notes.notes_by c.groups in
      let kept : notes ≡ map group_notes x.groups =
      ap (map old_notes.notes_by) here.groups ∙ map_map old_notes.notes_by answered_group x.groups in
      ap (λ (row : List (List ℕ)). rows_if (is_refused j) row (old.groups_rows by n before j notes 0 groups))
      (ap (λ (cells : List (List ℕ)). cells ++ (no_set_cells ++ plain_end (codes "refused")))
      (heads.interchange_is known.writes writ setup n j x here.told))
      ∙ chosen (is_refused j) (is_some x.judged.fault) refl
      (refused_same c.entry.fault x.judged.fault here.told.fault) here.told.groups here.segments notes kept
    where
      chosen : (t u : Bool) → is_refused (judged text c) ≡ t → t ≡ u → AllZip (IsShown x) (shown_if t (judged text c)) x.groups
          → (is_refused (judged text c) ≡ false
          → AllZip (HaveSegments text (header_delims c.entry.interchange.header)) x.groups c.entry.interchange.content.groups)
          → (notes : List GroupNotes) → notes ≡ map group_notes x.groups
          → rows_if t (room.refused_row there documents xs n x)
          (old.groups_rows by n before (judged text c) notes 0 c.entry.interchange.content.groups)
          ≡ rows_if u (room.refused_row there documents xs n x) (room.groups_rows there documents xs n placed x x.groups)
      chosen true true e same shown segments notes kept = refl
      chosen false false e same shown segments notes kept =
          groups_are (judged text c) x here.told before placed zip notes 0 c.entry.interchange.content.groups x.groups shown (segments e)
          (λ m. ap (old.notes_at notes) (zero_more m) ∙ ap (λ (ns : List GroupNotes). old.notes_at ns m) kept)
      chosen true false e same shown segments notes kept = cc
      chosen false true e same shown segments notes kept = cc
