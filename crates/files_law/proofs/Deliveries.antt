-- What rows say is delivered to a partner, in their order.
use Rattle.std.proofs.Common.{◌≡◌, ℕ, suc, ◌+◌, ◌-◌, ◌==◌, Bool, true, false, cond, ◌&&◌, ◌||◌, List, [], ◌∷◌}
use Rattle.std.proofs.Common.{◌++◌}
use Rattle.std.proofs.Common.{Option, Some, None, length, map, refl, sym, ap, subst, ◌∙◌, arith, append_assoc, append-nil, eqb-true, eq-eqb}
use Rattle.std.specs.Prelude.{codes, drop, slice_get, slice_index_or, if◌then◌else◌}
use Rattle.std.specs.Str.{bytes_eq}
use Rattle.std.specs.List.{filter, flat_map, list_any}
use Rattle.std.proofs.Math.Bool.{or-false}
use Rattle.std.proofs.Math.Seq.{take-length}
use Rattle.std.proofs.lemmas.Bool.{false≢true}
use Rattle.std.proofs.lemmas.List.Concat.{flat_map-append}
use Rattle.std.proofs.lemmas.List.Elements.{filter-append}
use Rattle.csv_fields.specs.declared.columns.TheConstants as column
use Rattle.x12_segs.specs.Words.{element_of}
use Rattle.env_index.specs.Words.{GroupEntry}
use Rattle.partner_setup.specs.declared.partner.Partner.{Partner}
use Rattle.partner_setup.specs.Setup.{SetupValue, route_of}
use Rattle.partner_setup.specs.Sound.{AreApart, IsSoundSetup}
use Rattle.partner_setup.proofs.ForAbove.{targets_apart}
use Rattle.answered_sets.specs.Judged.{JudgedValue, PlacedValue, all_sets, sets_of_groups_from, is_refused, sets_of}
use Rattle.mailbox.specs.declared.outcome.Outcome.TheVariants.{DeliveredTo, HeldForDelimiter}
use Rattle.mailbox.specs.Deliveries.{is_blocked, is_deliverable, is_delivered_to, is_delivery_to, outcome_at}
use Rattle.mailbox.specs.Delivering.{is_sent_by}
use Rattle.mailbox.specs.Deliveries.{outcome_by, outcomes_on}
use Rattle.mailbox.proofs.ForAbove.{not_sent, to_target}
use Rattle.track_table.specs.declared.notes.GroupNotes.{GroupNotes}
use Rattle.track_table.specs.declared.notes.Notes.{Notes}
use Rattle.track_table.specs.Cells.{delivered_end, head_cells, held_end}
use Rattle.track_table.specs.Hindrance.{hindrance_to}
use Rattle.track_table.specs.Rows.{TrackedBy, delivered_of, groups_rows, interchange_rows, notes_at, other_end, outcome_cells, refused_row}
use Rattle.track_table.specs.Rows.{rows_from, set_rows, sets_at, sets_rows}
use Rattle.track_table.specs.Mailed.{acknowledgments_to, groups_to, mailed_behind}
use Rattle.track_table.proofs.ForAbove.{apart_from, groups_stay}
use Rattle.files_law.specs.Entries.{AreRowsOf, Entry, OfRefused, OfSet, Row, each_or_nobody, entries_from, interchange_entries}
use Rattle.files_law.specs.Entries.{set_entries}
use Rattle.files_law.specs.Named.{Delivery, deliveries_to, delivery_of}
use Rattle.files_law.proofs.Told.{numbers_told}
use Rattle.files_law.proofs.TableRows.{IsHead, IsHeldEnd, end_is, end_to, head_is, held_is, interchange_are, mailed_to, rows_of_set}
use Rattle.files_law.proofs.TableRows.{sets_are}

pub deliveries_append : (place : ℕ) (setup : SetupValue) (rs qs : List Row) (es fs : List Entry) → AreRowsOf setup rs es
    → deliveries_to place (rs ++ qs) (es ++ fs) ≡ deliveries_to place rs es ++ deliveries_to place qs fs
deliveries_append place setup [] qs [] fs are = refl
deliveries_append place setup [] qs (e ∷ es) fs are = absurd are
deliveries_append place setup (r ∷ rs) qs [] fs are = absurd are
deliveries_append place setup (r ∷ rs) qs (e ∷ es) fs are =
    ap (λ (ds : List Delivery). delivery_of place r e ++ ds) (deliveries_append place setup rs qs es fs are.1)
    ∙ sym (append_assoc (delivery_of place r e) (deliveries_to place rs es) (deliveries_to place qs fs))

apart_tail : (t : ℕ) (ts : List ℕ) → AreApart (t ∷ ts) → AreApart ts
apart_tail t ts apart i j d before within = apart (suc i) (suc j) d (omega (arith, before)) (omega (arith, within))

-- the first of these targets is none of the others
apart_head : (t : ℕ) (ts : List ℕ) → AreApart (t ∷ ts) → list_any (λ (s : ℕ). s == t) ts ≡ false
apart_head t ts apart =
    subst (λ (rest : List ℕ). list_any (λ (s : ℕ). s == t) rest ≡ false) (take-length ts)
    (apart_from ts (length ts) t (λ i before within same. apart 0 (suc i) t (omega arith) (omega (arith, within)) (sym same)))

module _ (by : TrackedBy) (sound : IsSoundSetup by.setup) (place : ℕ) (partner : Partner)
    (at_place : slice_get by.setup.partners place ≡ Some partner) where
  -- the delivery of a set after these
  abbrev pub told : (before : List PlacedValue) → PlacedValue → Delivery
  told before p = record { set = p; numbers = numbers_told (mailed_to by before p place partner) }

  abbrev pub told_if : Bool → (before : List PlacedValue) → PlacedValue → List Delivery
  told_if b before p = cond b (told before p ∷ []) []

  module _ (before : List PlacedValue) (p : PlacedValue) (n : ℕ) (notes : GroupNotes) where
    abbrev row : Row → Row
    row end = head_cells by.setup by.documents n p notes ++ end

    head : IsHead n p (head_cells by.setup by.documents n p notes)
    head = head_is by.setup by.documents n p notes

    abbrev chosen : (here said : Bool) → Row → List Delivery
    chosen here said r = if here && said then record { set = p; numbers = drop column.RECEIVER_ISA13 r } ∷ [] else []

    abbrev says : Row → Bool
    says r = bytes_eq (slice_index_or r column.OUTCOME []) (codes "delivered")

    -- the row for one target
    abbrev one : (t : ℕ) → List Delivery
    one t = delivery_of place (row (outcome_cells by before p (outcome_at by.setup p t))) (OfSet n p (Some t))

    held_here : (name : List ℕ) → (end : Row) → IsHeldEnd name end → says (row end) ≡ false
    held_here name end is = ap (λ (text : List ℕ). bytes_eq text (codes "delivered")) (head.outcome end ∙ is.outcome)

    -- at the place of the partner
    here : (b : Bool) → is_blocked partner.delims p ≡ b
        → delivery_of place (row (outcome_cells by before p (outcome_at by.setup p place))) (OfSet n p (Some place))
        ≡ told_if (is_delivery_to place (outcome_at by.setup p place)) before p
    here b blocked =
        ap (λ (end : Row). chosen (place == place) (says (row end)) (row end)) (end_is by before p place partner at_place b blocked)
        ∙ ap (λ (c : Bool). chosen c (says (row (end_to by before p b place partner))) (row (end_to by before p b place partner))) same
        ∙ by_block b
        ∙ ap (λ (c : Bool). told_if c before p) (sym (ap (is_delivery_to place) (ap (λ (o : Option Partner). outcome_by o p place) at_place
        ∙ ap (λ (c : Bool). cond c (HeldForDelimiter place) (DeliveredTo place)) blocked) ∙ by_delivery b))
      where
        same : (place == place) ≡ true
        same = eq-eqb place place refl

        by_delivery : (c : Bool) → is_delivery_to place (cond c (HeldForDelimiter place) (DeliveredTo place)) ≡ cond c false true
        by_delivery true = refl
        by_delivery false = same

        by_block : (c : Bool) → chosen true (says (row (end_to by before p c place partner))) (row (end_to by before p c place partner))
            ≡ told_if (cond c false true) before p
        by_block true =
            let end : Row = held_end partner.name (hindrance_to partner.delims p) in
            ap (λ (said : Bool). chosen true said (row end))
            (held_here partner.name end (held_is partner.name (hindrance_to partner.delims p)))
        by_block false =
            let end : Row = delivered_end partner.name (mailed_to by before p place partner) in
            ap (λ (said : Bool). chosen true said (row end)) (ap (λ (text : List ℕ). bytes_eq text (codes "delivered")) (head.outcome end))
            ∙ ap (λ (numbers : List (List ℕ)). let d : Delivery = record { set = p; numbers = numbers } in d ∷ []) (head.last end)

    -- at another
    elsewhere : (t : ℕ) → (t == place) ≡ false → one t ≡ []
    elsewhere t other =
        ap (λ (c : Bool). chosen c (says (row (outcome_cells by before p (outcome_at by.setup p t))))
        (row (outcome_cells by before p (outcome_at by.setup p t)))) other

    abbrev all_for : List ℕ → List Delivery
    all_for ts =
        deliveries_to place (map row (map (outcome_cells by before p) (map (outcome_at by.setup p) ts))) (map (OfSet n p) (map Some ts))

    abbrev any_for : List ℕ → Bool
    any_for ts = list_any (is_delivery_to place) (map (outcome_at by.setup p) ts)

    on_targets : (ts : List ℕ) → AreApart ts → all_for ts ≡ told_if (any_for ts) before p
    on_targets [] apart = refl
    on_targets (t ∷ ts) apart = by_place (on_targets ts (apart_tail t ts apart)) (t == place) refl
      where
        none_then : (b : Bool) → any_for ts ≡ false
            → told_if b before p ++ told_if (any_for ts) before p ≡ told_if (b || any_for ts) before p
        none_then b none =
            ap (λ (c : Bool). told_if b before p ++ told_if c before p) none ∙ append-nil (told_if b before p)
            ∙ ap (λ (c : Bool). told_if c before p) (sym (ap (λ (c : Bool). b || c) none ∙ or-false b))

        by_place : all_for ts ≡ told_if (any_for ts) before p → (b : Bool) → (t == place) ≡ b
            → one t ++ all_for ts ≡ told_if (is_delivery_to place (outcome_at by.setup p t) || any_for ts) before p
        by_place rest true same =
            let is : t ≡ place = eqb-true t place same in
            let first : one t ≡ told_if (is_delivery_to place (outcome_at by.setup p t)) before p =
            subst (λ (s : ℕ). one s ≡ told_if (is_delivery_to place (outcome_at by.setup p s)) before p) (sym is)
            (here (is_blocked partner.delims p) refl) in
            let none : any_for ts ≡ false =
            subst (λ (s : ℕ). is_sent_by by.setup p s ts ≡ false) is (not_sent by.setup p ts t (apart_head t ts apart)) in
            ap (λ (ds : List Delivery). ds ++ all_for ts) first
            ∙ ap (λ (ds : List Delivery). told_if (is_delivery_to place (outcome_at by.setup p t)) before p ++ ds) rest
            ∙ none_then (is_delivery_to place (outcome_at by.setup p t)) none
        by_place rest false other =
            ap (λ (ds : List Delivery). ds ++ all_for ts) (elsewhere t other) ∙ rest
            ∙ ap (λ (b : Bool). told_if (b || any_for ts) before p)
            (sym (not_here (is_delivery_to place (outcome_at by.setup p t)) refl))
          where
            not_here : (b : Bool) → is_delivery_to place (outcome_at by.setup p t) ≡ b
                → is_delivery_to place (outcome_at by.setup p t) ≡ false
            not_here true is = absurd (false≢true (sym other ∙ eq-eqb t place (to_target by.setup p place t is)))
            not_here false is = is

    on_route : (route : List ℕ) → AreApart route
        → deliveries_to place (map row (map (outcome_cells by before p) (outcomes_on by.setup p route)))
        (map (OfSet n p) (each_or_nobody route))
        ≡ told_if (list_any (is_delivery_to place) (outcomes_on by.setup p route)) before p
    on_route [] apart = refl
    on_route (t ∷ ts) apart = on_targets (t ∷ ts) apart

    pub of_set : deliveries_to place (set_rows by n before p notes) (set_entries by.setup n p)
        ≡ told_if (is_delivered_to by.setup place p) before p
    of_set = by_case (is_deliverable p)
      where
        by_case : (b : Bool)
            → deliveries_to place (map (λ end. head_cells by.setup by.documents n p notes ++ end) (if b
            then map (outcome_cells by before p) (if b
            then outcomes_on by.setup p (route_of by.setup (element_of p.group.header 3)) else [])
            else other_end p ∷ []))
            (map (OfSet n p) (if b then each_or_nobody (route_of by.setup (element_of p.group.header 3)) else None ∷ []))
            ≡ told_if (list_any (is_delivery_to place) (if b then outcomes_on by.setup p (route_of by.setup (element_of p.group.header 3))
            else [])) before p
        by_case true = on_route (route_of by.setup (element_of p.group.header 3))
            (targets_apart by.setup.routes (element_of p.group.header 3) sound.apart)
        by_case false = refl

  -- those of sets, one after another
  abbrev pub all_told : (before : List PlacedValue) → List PlacedValue → List Delivery
  all_told before [] = []
  all_told before (p ∷ ps) = told_if (is_delivered_to by.setup place p) before p ++ all_told (before ++ p ∷ []) ps

  told_append : (before ps qs : List PlacedValue) → all_told before (ps ++ qs) ≡ all_told before ps ++ all_told (before ++ ps) qs
  told_append before [] qs = ap (λ (b : List PlacedValue). all_told b qs) (sym (append-nil before))
  told_append before (p ∷ ps) qs =
      ap (λ (ds : List Delivery). told_if (is_delivered_to by.setup place p) before p ++ ds) (told_append (before ++ p ∷ []) ps qs
      ∙ ap (λ (b : List PlacedValue). all_told (before ++ p ∷ []) ps ++ all_told b qs) (append_assoc before (p ∷ []) ps))
      ∙ sym (append_assoc (told_if (is_delivered_to by.setup place p) before p) (all_told (before ++ p ∷ []) ps)
      (all_told (before ++ p ∷ ps) qs))

  none_told : (before ps : List PlacedValue) → filter (is_delivered_to by.setup place) ps ≡ [] → all_told before ps ≡ []
  none_told before [] none = refl
  none_told before (p ∷ ps) none = by_one (none_told (before ++ p ∷ []) ps) (is_delivered_to by.setup place p) none
    where
      by_one : (filter (is_delivered_to by.setup place) ps ≡ [] → all_told (before ++ p ∷ []) ps ≡ []) → (b : Bool)
          → cond b (p ∷ filter (is_delivered_to by.setup place) ps) (filter (is_delivered_to by.setup place) ps) ≡ []
          → told_if b before p ++ all_told (before ++ p ∷ []) ps ≡ []
      by_one rest true some = cc
      by_one rest false none = rest none

  module _ (n : ℕ) where
    abbrev entries : List PlacedValue → List Entry
    entries ps = flat_map (set_entries by.setup n) ps

    of_sets : (before : List PlacedValue) (notes : GroupNotes) (ps : List PlacedValue)
        → deliveries_to place (sets_rows by n before notes ps) (entries ps) ≡ all_told before ps
    of_sets before notes [] = refl
    of_sets before notes (p ∷ ps) =
        deliveries_append place by.setup (set_rows by n before p notes) (sets_rows by n (before ++ p ∷ []) notes ps)
        (set_entries by.setup n p) (entries ps) (rows_of_set by before p n notes sound)
        ∙ ap (λ (ds : List Delivery). ds ++ deliveries_to place (sets_rows by n (before ++ p ∷ []) notes ps) (entries ps))
        (of_set before p n notes)
        ∙ ap (λ (ds : List Delivery). told_if (is_delivered_to by.setup place p) before p ++ ds) (of_sets (before ++ p ∷ []) notes ps)

    of_groups : (before : List PlacedValue) (x : JudgedValue) (notes : List GroupNotes) (k : ℕ) (groups : List GroupEntry)
        → deliveries_to place (groups_rows by n before x notes k groups) (entries (sets_of_groups_from x k groups))
        ≡ all_told before (sets_of_groups_from x k groups)
    of_groups before x notes k [] = refl
    of_groups before x notes k (g ∷ groups) =
        let here : List PlacedValue = sets_at x k g in
        let rest : List PlacedValue = sets_of_groups_from x (k + 1) groups in
        ap (deliveries_to place (groups_rows by n before x notes k (g ∷ groups))) (flat_map-append (set_entries by.setup n) here rest)
        ∙ deliveries_append place by.setup (sets_rows by n before (notes_at notes k) here)
        (groups_rows by n (before ++ here) x notes (k + 1) groups) (entries here) (entries rest)
        (sets_are by sound n before (notes_at notes k) here)
        ∙ ap (λ (ds : List Delivery). ds ++ deliveries_to place (groups_rows by n (before ++ here) x notes (k + 1) groups) (entries rest))
        (of_sets before (notes_at notes k) here)
        ∙ ap (λ (ds : List Delivery). all_told before here ++ ds) (of_groups (before ++ here) x notes (k + 1) groups)
        ∙ sym (told_append before here rest)

    of_interchange : (before : List PlacedValue) (x : JudgedValue) (notes : Notes)
        → deliveries_to place (interchange_rows by n before x notes) (interchange_entries by.setup n x) ≡ all_told before (sets_of x)
    of_interchange before x notes = by_refusal (is_refused x) refl
      where
        by_refusal : (b : Bool) → is_refused x ≡ b
            → deliveries_to place (if b then refused_row by n x ∷ []
            else groups_rows by n before x notes.groups 0 x.interchange.content.groups)
            (if b then OfRefused n x ∷ [] else flat_map (set_entries by.setup n) (sets_of x)) ≡ all_told before (sets_of x)
        by_refusal true refused =
            sym (none_told before (sets_of x) (groups_stay by.setup place x refused 0 x.interchange.content.groups))
        by_refusal false taken = of_groups before x notes.groups 0 x.interchange.content.groups

  pub of_all : (n : ℕ) (before : List PlacedValue) (xs : List JudgedValue) (ms : List Notes) → length ms ≡ length xs
      → deliveries_to place (rows_from by n before xs ms) (entries_from by.setup n xs) ≡ all_told before (all_sets xs)
  of_all n before [] ms same = refl
  of_all n before (x ∷ xs) [] same = absurd (omega (arith, same))
  of_all n before (x ∷ xs) (m ∷ ms) same =
      deliveries_append place by.setup (interchange_rows by n before x m) (rows_from by (n + 1) (before ++ sets_of x) xs ms)
      (interchange_entries by.setup n x) (entries_from by.setup (n + 1) xs) (interchange_are by sound n before x m)
      ∙ ap (λ (ds : List Delivery). ds ++ deliveries_to place (rows_from by (n + 1) (before ++ sets_of x) xs ms)
      (entries_from by.setup (n + 1) xs)) (of_interchange n before x m)
      ∙ ap (λ (ds : List Delivery). all_told before (sets_of x) ++ ds) (of_all (n + 1) (before ++ sets_of x) xs ms (omega (arith, same)))
      ∙ sym (told_append before (sets_of x) (all_sets xs))

  -- the same by the sets that are delivered to the partner
  abbrev pub told_behind : (done : List PlacedValue) → PlacedValue → Delivery
  told_behind done p = record {
    set = p;
    numbers = numbers_told (mailed_behind partner (acknowledgments_to place by.night) (groups_to place by.night) done p);
  }

  abbrev pub told_from : (done : List PlacedValue) → List PlacedValue → List Delivery
  told_from done [] = []
  told_from done (p ∷ ps) = told_behind done p ∷ told_from (done ++ p ∷ []) ps

  pub delivered_alone : (before ps : List PlacedValue)
      → all_told before ps ≡ told_from (delivered_of by.setup place before) (delivered_of by.setup place ps)
  delivered_alone before [] = refl
  delivered_alone before (p ∷ ps) = by_one (is_delivered_to by.setup place p) refl (delivered_alone (before ++ p ∷ []) ps)
    where
      more : (b : Bool) → is_delivered_to by.setup place p ≡ b
          → delivered_of by.setup place (before ++ p ∷ []) ≡ delivered_of by.setup place before ++ cond b (p ∷ []) []
      more b is = filter-append (is_delivered_to by.setup place) before (p ∷ [])
          ∙ ap (λ (c : Bool). delivered_of by.setup place before ++ cond c (p ∷ []) []) is

      by_one : (b : Bool) → is_delivered_to by.setup place p ≡ b
          → all_told (before ++ p ∷ []) ps
          ≡ told_from (delivered_of by.setup place (before ++ p ∷ [])) (delivered_of by.setup place ps)
          → told_if b before p ++ all_told (before ++ p ∷ []) ps
          ≡ told_from (delivered_of by.setup place before) (cond b (p ∷ delivered_of by.setup place ps) (delivered_of by.setup place ps))
      by_one true is rest =
          ap (λ (ds : List Delivery). told before p ∷ ds) (rest
          ∙ ap (λ (d : List PlacedValue). told_from d (delivered_of by.setup place ps)) (more true is))
      by_one false is rest =
          rest ∙ ap (λ (d : List PlacedValue). told_from d (delivered_of by.setup place ps)) (more false is ∙ append-nil (delivered_of
          by.setup place before))

  pub sets_told : (done ps : List PlacedValue) → map (λ (d : Delivery). d.set) (told_from done ps) ≡ ps
  sets_told done [] = refl
  sets_told done (p ∷ ps) = ap (λ (qs : List PlacedValue). p ∷ qs) (sets_told (done ++ p ∷ []) ps)
