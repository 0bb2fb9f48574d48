-- The rows of a table are those of the sets of its night.
use Rattle.std.proofs.Common.{◌≡◌, ◌⊎◌, inl, inr, ◌<◌, ℕ, ◌+◌, Bool, true, false, cond, List, [], ◌∷◌, ◌++◌, Option, Some, None}
use Rattle.std.proofs.Common.{length, map, refl, sym, ap, subst, ◌∙◌, arith}
use Rattle.std.specs.Prelude.{codes, decimal, drop, slice_get, slice_index_or, if◌then◌else◌}
use Rattle.std.specs.List.{flat_map}
use Rattle.std.proofs.lemmas.List.{length-map}
use Rattle.std.proofs.lemmas.List.Concat.{flat_map-append}
use Rattle.std.proofs.lemmas.List.Elements.{All-head, All-tail}
use Rattle.csv_fields.specs.declared.columns.TheConstants as column
use Rattle.x12_segs.specs.Words.{element_of}
use Rattle.hub_kinds.specs.Words.{group_code_text, group_verdict_text, set_code_text, verdict_text}
use Rattle.env_index.specs.Words.{GroupEntry}
use Rattle.partner_setup.specs.declared.partner.Partner.{Partner}
use Rattle.partner_setup.specs.Setup.{SetupValue, route_of}
use Rattle.partner_setup.specs.Sound.{AreWithin, IsSoundSetup}
use Rattle.partner_setup.proofs.ForAbove.{targets_within}
use Rattle.answered_sets.specs.Judged.{JudgedValue, PlacedValue, sets_of_groups_from, is_fa, is_refused, segments_in, sets_of}
use Rattle.answered_sets.specs.Judged.{verdict_by_standing}
use Rattle.mailbox.specs.declared.outcome.Outcome.TheVariants.{DeliveredTo, HeldForDelimiter}
use Rattle.mailbox.specs.Deliveries.{is_blocked, is_deliverable, outcome_at, outcome_by, outcomes_on}
use Rattle.mailbox.proofs.ForAbove.{there_is}
use Rattle.set_answers.specs.CheckedText.{CheckedInterchange, judged}
use Rattle.night_batches.specs.Night.{judgements}
use Rattle.set_documents.specs.Documents.{DocumentValue, document_number}
use Rattle.track_table.specs.declared.notes.GroupNotes.{GroupNotes}
use Rattle.track_table.specs.declared.notes.Notes.{Notes}
use Rattle.track_table.specs.Noted.{notes_of}
use Rattle.track_table.specs.Cells.{delivered_end, head_cells, held_end, interchange_cells, no_set_notes, plain_end}
use Rattle.track_table.specs.Cells.{shown, spaced_words}
use Rattle.track_table.specs.Hindrance.{hindrance_to}
use Rattle.track_table.specs.declared.hindrance.Hindrance.{Hindrance}
use Rattle.track_table.specs.Mailed.{acknowledgments_to, groups_to, mailed_behind}
use Rattle.track_table.specs.declared.mailed.Mailed.{Mailed}
use Rattle.track_table.specs.Rows.{TrackedBy, delivered_cells, delivered_of, groups_rows, held_cells, interchange_rows, notes_at, other_end}
use Rattle.track_table.specs.Rows.{outcome_cells, refused_row, rows_from, set_rows, sets_at, sets_rows}
use Rattle.track_table.specs.Track.{IsTrack, tracked_by}
use Rattle.track_table.specs.declared.track.Track.{Track}
use Rattle.files_law.specs.Entries.{AreRowsOf, Entry, HasRowsOfSets, IsRefusedRow, IsRowOf, NamesSet, OfRefused, OfSet, Row}
use Rattle.files_law.specs.Entries.{each_or_nobody, entries_from, field, interchange_entries, outcome_in, receiver_in, set_entries}

pub rows_append : (setup : SetupValue) (rs qs : List Row) (es fs : List Entry) → AreRowsOf setup rs es → AreRowsOf setup qs fs
    → AreRowsOf setup (rs ++ qs) (es ++ fs)
rows_append setup [] qs [] fs one two = two
rows_append setup [] qs (e ∷ es) fs one two = absurd one
rows_append setup (r ∷ rs) qs [] fs one two = absurd one
rows_append setup (r ∷ rs) qs (e ∷ es) fs one two = (one.0, rows_append setup rs qs es fs one.1 two)

-- the fields of a row before its outcome
pub record IsHead (n : ℕ) (p : PlacedValue) (head : Row) : Type 0 where
  pub names : (end : Row) → length end ≡ 7 → NamesSet (head ++ end) n p
  pub outcome : (end : Row) → outcome_in (head ++ end) ≡ field end 0
  pub receiver : (end : Row) → receiver_in (head ++ end) ≡ field end 3
  pub last : (end : Row) → drop column.RECEIVER_ISA13 (head ++ end) ≡ drop 4 end

abbrev head_by : SetupValue → List DocumentValue → (n : ℕ) → PlacedValue → GroupNotes → (listed : Bool) → Row
head_by setup documents n p notes listed =
    (interchange_cells setup n p.interchange ++ element_of p.group.header 1 ∷ element_of p.group.header 6
    ∷ shown (element_of p.group.header 2) ∷ shown (element_of p.group.header 3)
    ∷ (if listed then [] ∷ [] ∷ []
    else group_verdict_text p.standing.verdict ∷ spaced_words (map group_code_text notes.codes) ∷ []))
    ++ element_of p.set.header 1 ∷ element_of p.set.header 2
    ∷ document_number documents (element_of p.set.header 1) (drop 1 (segments_in p))
    ∷ (if listed then [] ∷ [] ∷ [] ∷ []
    else verdict_text (verdict_by_standing p) ∷ spaced_words (map set_code_text (slice_index_or notes.sets p.index no_set_notes).codes)
    ∷ decimal (slice_index_or notes.sets p.index no_set_notes).faults ∷ [])

pub head_is : (setup : SetupValue) (documents : List DocumentValue) (n : ℕ) (p : PlacedValue) (notes : GroupNotes)
    → IsHead n p (head_cells setup documents n p notes)
head_is setup documents n p notes = by (is_fa p.group)
  where
    by : (b : Bool) → IsHead n p (head_by setup documents n p notes b)
    by true = record {
      names = λ end seven. record {
        interchange = record { columns = omega (arith, seven); number = refl; offset = refl; isa13 = refl };
        gs01 = refl;
        gs06 = refl;
        st01 = refl;
        st02 = refl;
      };
      outcome = λ end. refl;
      receiver = λ end. refl;
      last = λ end. refl;
    }
    by false = record {
      names = λ end seven. record {
        interchange = record { columns = omega (arith, seven); number = refl; offset = refl; isa13 = refl };
        gs01 = refl;
        gs06 = refl;
        st01 = refl;
        st02 = refl;
      };
      outcome = λ end. refl;
      receiver = λ end. refl;
      last = λ end. refl;
    }

-- the last seven of one that is held
pub record IsHeldEnd (name : List ℕ) (end : Row) : Type 0 where
  pub columns : length end ≡ 7
  pub outcome : field end 0 ≡ codes "held delimiter"
  pub receiver : field end 3 ≡ name

pub held_is : (name : List ℕ) (h : Option Hindrance) → IsHeldEnd name (held_end name h)
held_is name None = record { columns = refl; outcome = refl; receiver = refl }
held_is name (Some h) = record { columns = refl; outcome = refl; receiver = refl }

module _ (by : TrackedBy) (before : List PlacedValue) (p : PlacedValue) where
  -- as a set is delivered to a partner after these
  abbrev pub mailed_to : (to : ℕ) → Partner → Mailed
  mailed_to to q = mailed_behind q (acknowledgments_to to by.night) (groups_to to by.night) (delivered_of by.setup to before) p

  abbrev pub end_to : Bool → (to : ℕ) → Partner → Row
  end_to blocked to q = cond blocked (held_end q.name (hindrance_to q.delims p)) (delivered_end q.name (mailed_to to q))

  -- the last fields for a receiver that is there
  pub end_is : (to : ℕ) (q : Partner) → slice_get by.setup.partners to ≡ Some q → (b : Bool) → is_blocked q.delims p ≡ b
      → outcome_cells by before p (outcome_at by.setup p to) ≡ end_to b to q
  end_is to q at_to b is =
      ap (outcome_cells by before p) (ap (λ (o : Option Partner). outcome_by o p to) at_to
      ∙ ap (λ (c : Bool). cond c (HeldForDelimiter to) (DeliveredTo to)) is) ∙ by_block b
    where
      by_block : (c : Bool) → outcome_cells by before p (cond c (HeldForDelimiter to) (DeliveredTo to)) ≡ end_to c to q
      by_block true = ap (held_cells by.setup p to) at_to
      by_block false = ap (delivered_cells by before p to) at_to

  module _ (n : ℕ) (notes : GroupNotes) where
    abbrev pub row : Row → Row
    row end = head_cells by.setup by.documents n p notes ++ end

    head : IsHead n p (head_cells by.setup by.documents n p notes)
    head = head_is by.setup by.documents n p notes

    for_nobody : (outcome : List ℕ) → (outcome ≡ codes "held route") ⊎ ((outcome ≡ codes "rejected") ⊎ (outcome ≡ codes "listed"))
        → IsRowOf by.setup (row (plain_end outcome)) (OfSet n p None)
    for_nobody outcome why = (
      head.names (plain_end outcome) refl,
      record {
        named = head.receiver (plain_end outcome);
        outcome = subst (λ (t : List ℕ). (t ≡ codes "held route") ⊎ ((t ≡ codes "rejected") ⊎ (t ≡ codes "listed")))
            (sym (head.outcome (plain_end outcome))) why;
      },
    )

    for_receiver : (to : ℕ) (q : Partner) → slice_get by.setup.partners to ≡ Some q → (b : Bool)
        → IsRowOf by.setup (row (end_to b to q)) (OfSet n p (Some to))
    for_receiver to q at_to true =
        let end : Row = held_end q.name (hindrance_to q.delims p) in
        let is : IsHeldEnd q.name end = held_is q.name (hindrance_to q.delims p) in (
          head.names end is.columns,
          record {
            partner = q;
            there = at_to;
            named = head.receiver end ∙ is.receiver;
            outcome = inr (head.outcome end ∙ is.outcome);
          },
        )
    for_receiver to q at_to false =
        let end : Row = delivered_end q.name (mailed_to to q) in (
          head.names end refl,
          record { partner = q; there = at_to; named = head.receiver end; outcome = inl (head.outcome end) },
        )

    one_target : (to : ℕ) → to < length by.setup.partners
        → IsRowOf by.setup (row (outcome_cells by before p (outcome_at by.setup p to))) (OfSet n p (Some to))
    one_target to within =
        let had = there_is by.setup.partners to within in
        let b : Bool = is_blocked had.0.delims p in
        subst (λ (end : Row). IsRowOf by.setup (row end) (OfSet n p (Some to))) (sym (end_is to had.0 had.1 b refl))
        (for_receiver to had.0 had.1 b)

    targets : (ts : List ℕ) → AreWithin (length by.setup.partners) ts
        → AreRowsOf by.setup (map row (map (outcome_cells by before p) (map (outcome_at by.setup p) ts))) (map (OfSet n p) (map Some ts))
    targets [] within = tt
    targets (t ∷ ts) within = (
      one_target t (All-head (λ (q : ℕ). q < length by.setup.partners) t ts within),
      targets ts (All-tail (λ (q : ℕ). q < length by.setup.partners) t ts within),
    )

    on_route : (route : List ℕ) → AreWithin (length by.setup.partners) route
        → AreRowsOf by.setup (map row (map (outcome_cells by before p) (outcomes_on by.setup p route)))
        (map (OfSet n p) (each_or_nobody route))
    on_route [] within = (for_nobody (codes "held route") (inl refl), tt)
    on_route (t ∷ ts) within = targets (t ∷ ts) within

    other : AreRowsOf by.setup (map row (other_end p ∷ [])) (OfSet n p None ∷ [])
    other = by_group (is_fa p.group)
      where
        by_group : (b : Bool) → AreRowsOf by.setup (row (if b then plain_end (codes "listed") else plain_end (codes "rejected")) ∷ [])
            (OfSet n p None ∷ [])
        by_group true = (for_nobody (codes "listed") (inr (inr refl)), tt)
        by_group false = (for_nobody (codes "rejected") (inr (inl refl)), tt)

    pub rows_of_set : IsSoundSetup by.setup → AreRowsOf by.setup (set_rows by n before p notes) (set_entries by.setup n p)
    rows_of_set sound = by_case (is_deliverable p)
      where
        by_case : (b : Bool)
            → AreRowsOf by.setup (map row (if b then map (outcome_cells by before p) (if b then outcomes_on by.setup p
            (route_of by.setup (element_of p.group.header 3)) else []) else other_end p ∷ []))
            (map (OfSet n p) (if b then each_or_nobody (route_of by.setup (element_of p.group.header 3)) else None ∷ []))
        by_case true = on_route (route_of by.setup (element_of p.group.header 3))
            (targets_within (length by.setup.partners) by.setup.routes (element_of p.group.header 3) sound.routes)
        by_case false = other

module _ (by : TrackedBy) (sound : IsSoundSetup by.setup) (n : ℕ) where
  pub sets_are : (before : List PlacedValue) (notes : GroupNotes) (ps : List PlacedValue)
      → AreRowsOf by.setup (sets_rows by n before notes ps) (flat_map (set_entries by.setup n) ps)
  sets_are before notes [] = tt
  sets_are before notes (p ∷ ps) =
      rows_append by.setup (set_rows by n before p notes) (sets_rows by n (before ++ p ∷ []) notes ps) (set_entries by.setup n p)
      (flat_map (set_entries by.setup n) ps) (rows_of_set by before p n notes sound) (sets_are (before ++ p ∷ []) notes ps)

  groups_are : (before : List PlacedValue) (x : JudgedValue) (notes : List GroupNotes) (k : ℕ) (groups : List GroupEntry)
      → AreRowsOf by.setup (groups_rows by n before x notes k groups) (flat_map (set_entries by.setup n) (sets_of_groups_from x k groups))
  groups_are before x notes k [] = tt
  groups_are before x notes k (g ∷ groups) =
      let here : List PlacedValue = sets_at x k g in
      subst (AreRowsOf by.setup (groups_rows by n before x notes k (g ∷ groups)))
      (sym (flat_map-append (set_entries by.setup n) here (sets_of_groups_from x (k + 1) groups)))
      (rows_append by.setup (sets_rows by n before (notes_at notes k) here) (groups_rows by n (before ++ here) x notes (k + 1) groups)
      (flat_map (set_entries by.setup n) here) (flat_map (set_entries by.setup n) (sets_of_groups_from x (k + 1) groups))
      (sets_are before (notes_at notes k) here) (groups_are (before ++ here) x notes (k + 1) groups))

  pub interchange_are : (before : List PlacedValue) (x : JudgedValue) (notes : Notes)
      → AreRowsOf by.setup (interchange_rows by n before x notes) (interchange_entries by.setup n x)
  interchange_are before x notes = by_refusal (is_refused x)
    where
      refused : IsRefusedRow (refused_row by n x) n x
      refused = record {
        interchange = record { columns = refl; number = refl; offset = refl; isa13 = refl };
        outcome = refl;
        named = refl;
      }

      by_refusal : (b : Bool)
          → AreRowsOf by.setup (if b then refused_row by n x ∷ []
          else groups_rows by n before x notes.groups 0 x.interchange.content.groups)
          (if b then OfRefused n x ∷ [] else flat_map (set_entries by.setup n) (sets_of x))
      by_refusal true = (refused, tt)
      by_refusal false = groups_are before x notes.groups 0 x.interchange.content.groups

pub all_are : (by : TrackedBy) → IsSoundSetup by.setup → (n : ℕ) (before : List PlacedValue) (xs : List JudgedValue) (ms : List Notes)
    → length ms ≡ length xs → AreRowsOf by.setup (rows_from by n before xs ms) (entries_from by.setup n xs)
all_are by sound n before [] ms same = tt
all_are by sound n before (x ∷ xs) [] same = absurd (omega (arith, same))
all_are by sound n before (x ∷ xs) (m ∷ ms) same =
    rows_append by.setup (interchange_rows by n before x m) (rows_from by (n + 1) (before ++ sets_of x) xs ms)
    (interchange_entries by.setup n x) (entries_from by.setup (n + 1) xs) (interchange_are by sound n before x m)
    (all_are by sound (n + 1) (before ++ sets_of x) xs ms (omega (arith, same)))

pub noted_length : (text : List ℕ) (known : List CheckedInterchange) → length (map notes_of known) ≡ length (judgements text known)
noted_length text known = length-map known notes_of ∙ sym (length-map known (judged text))

pub rows_of_sets : (text : List ℕ) (setup : SetupValue) (documents : List DocumentValue) (track : Track) → IsSoundSetup setup
    → IsTrack text setup documents track → HasRowsOfSets text setup track
rows_of_sets text setup documents track sound is =
    let by : TrackedBy = tracked_by setup documents is.known in
    record {
      known = is.known;
      outside = is.outside;
      is_known = is.is_known;
      rows = rows_from by 1 [] (judgements text is.known) by.night;
      table = is.table;
      are = all_are by sound 1 [] (judgements text is.known) by.night (noted_length text is.known);
    }
