-- The numbers of mailboxes, with a target more of a set's route, and after a set.
use Rattle.std.proofs.Common.{◌≡◌, ◌≢◌, ◌<◌, ℕ, zero, suc, ◌+◌, ◌==◌, Bool, true, false, cond, not, ◌&&◌, ◌||◌, List, [], ◌∷◌, ◌++◌}
use Rattle.std.proofs.Common.{Option, Some, None, get_or, length, map, take, refl, sym, ap, subst, ◌∙◌, arith}
use Rattle.std.proofs.Common.{append-nil, eqb-true, eq-eqb, true≢false}
use Rattle.std.specs.Prelude.{codes, slice_get, slice_set}
use Rattle.std.specs.List.{flat_map, list_any}
use Rattle.std.proofs.Math.Bool.{and-false, or-false}
use Rattle.std.proofs.lemmas.List.Elements.{filter-append}
use Rattle.x12_segs.specs.Words.{element_of}
use Rattle.env_index.specs.Words.{GroupEntry}
use Rattle.partner_setup.specs.declared.partner.Partner.{Partner}
use Rattle.partner_setup.specs.Setup.{SetupValue, route_of}
use Rattle.partner_setup.specs.Sound.{AreApart}
use Rattle.answered_sets.specs.declared.standing.GroupStanding.{GroupStanding}
use Rattle.answered_sets.specs.Judged.{JudgedValue, PlacedValue, sets_of_groups_from, is_fa, is_refused, sets_from, sets_of, standing_at}
use Rattle.mailbox.specs.declared.outcome.Outcome.{Outcome}
use Rattle.mailbox.specs.declared.outcome.Outcome.TheVariants.{DeliveredTo, HeldForDelimiter}
use Rattle.mailbox.specs.Deliveries.{is_blocked, is_deliverable, is_delivered_to, is_delivery_to, outcome_at, outcome_by}
use Rattle.mailbox.specs.Deliveries.{outcomes, outcomes_on}
use Rattle.mailbox.specs.Delivering.{is_sent_by, one_where}
use Rattle.mailbox.specs.Numbered.{group_key_of}
use Rattle.mailbox.proofs.ForAbove.{by_route, delivered_here, length_set, not_delivered, not_sent, nothing_leaves, sent_snoc, set_here}
use Rattle.mailbox.proofs.ForAbove.{set_there}
use Rattle.track_table.specs.Cells.{plain_end}
use Rattle.track_table.specs.Rows.{TrackedBy, delivered_of, ends_of, other_end, outcome_cells}
use Rattle.track_table.specs.Mailed.{acknowledgments_to, groups_to, mailed_behind}
use Rattle.track_table.specs.Walking.{AreAmid, AreBehind, CursorValue, HasRows, IsBehind, advanced, ends_text, mailed_next, outcome_texts}
use Rattle.track_table.specs.Walking.{row_text}
use Rattle.track_table.specs.declared.mailed.Mailed.{Mailed}
use Rattle.track_table.proofs.Behind.{behind_more, mailed_is}

pub held_here : (setup : SetupValue) (p : PlacedValue) (t to : ℕ) → outcome_at setup p t ≡ HeldForDelimiter to → to ≡ t
held_here setup p t to is = by_partner (slice_get setup.partners t) is
  where
    by_block : (partner : Partner) (b : Bool) → cond b (HeldForDelimiter t) (DeliveredTo t) ≡ HeldForDelimiter to → to ≡ t
    by_block partner true is = cc
    by_block partner false is = cc

    by_partner : (partner : Option Partner) → outcome_by partner p t ≡ HeldForDelimiter to → to ≡ t
    by_partner None is = cc
    by_partner (Some partner) is = by_block partner (is_blocked partner.delims p) is

module _ (by : TrackedBy) (before : List PlacedValue) (p : PlacedValue) where
  abbrev had : ℕ → List PlacedValue
  had q = delivered_of by.setup q before

  abbrev Behind : ℕ → Partner → List PlacedValue → CursorValue → Type 0
  Behind q partner sets c = IsBehind partner (acknowledgments_to q by.night) (groups_to q by.night) sets c

  -- before the first target
  pub amid_none : (cs : List CursorValue) → AreBehind by before cs → AreAmid by before p [] cs
  amid_none cs behind = record {
    count = behind.count;
    each = λ q partner c at_q at_c. subst (λ (sets : List PlacedValue). Behind q partner sets c) (sym (append-nil (had q)))
        (behind.each q partner c at_q at_c);
  }

  -- held for a target
  pub amid_held : (ts : List ℕ) (t : ℕ) (cs : List CursorValue) → ((q : ℕ) → is_delivery_to q (outcome_at by.setup p t) ≡ false)
      → AreAmid by before p ts cs → AreAmid by before p (ts ++ t ∷ []) cs
  amid_held ts t cs held amid = record {
    count = amid.count;
    each = λ q partner c at_q at_c. subst (λ (b : Bool). Behind q partner (had q ++ one_where b p) c)
        (sym (or-false (is_sent_by by.setup p q ts))
        ∙ ap (λ (b : Bool). is_sent_by by.setup p q ts || b) (sym (held q))
        ∙ sym (sent_snoc by.setup p q ts t))
        (amid.each q partner c at_q at_c);
  }

  -- who is no target yet has what it had
  pub amid_here : (ts : List ℕ) (t : ℕ) (partner : Partner) (c : CursorValue) (cs : List CursorValue)
      → list_any (λ (s : ℕ). s == t) ts ≡ false → slice_get by.setup.partners t ≡ Some partner → slice_get cs t ≡ Some c
      → AreAmid by before p ts cs → Behind t partner (had t) c
  amid_here ts t partner c cs none at_t at_c amid =
      subst (λ (sets : List PlacedValue). Behind t partner sets c)
      (ap (λ (b : Bool). had t ++ one_where b p) (not_sent by.setup p ts t none) ∙ append-nil (had t))
      (amid.each t partner c at_t at_c)

  -- delivered to a target
  pub amid_delivered : (ts : List ℕ) (t to : ℕ) (partner : Partner) (c : CursorValue) (cs ds : List CursorValue)
      → list_any (λ (s : ℕ). s == t) ts ≡ false → outcome_at by.setup p t ≡ DeliveredTo to
      → slice_get by.setup.partners t ≡ Some partner → slice_get cs t ≡ Some c
      → ds ≡ slice_set cs t (advanced c (group_key_of p)) → AreAmid by before p ts cs → AreAmid by before p (ts ++ t ∷ []) ds
  amid_delivered ts t to partner c cs ds none outcome at_t at_c set amid = record {
    count = ap (λ (es : List CursorValue). length es) set ∙ length_set cs t (advanced c (group_key_of p)) ∙ amid.count;
    each = λ q other e at_q at_e. by_place q other e at_q at_e (t == q) refl;
  }
    where
      delivery : (q : ℕ) → is_delivery_to q (outcome_at by.setup p t) ≡ (t == q)
      delivery q = ap (is_delivery_to q) outcome ∙ ap (λ (n : ℕ). n == q) (delivered_here by.setup p t to outcome)

      by_place : (q : ℕ) (other : Partner) (e : CursorValue) → slice_get by.setup.partners q ≡ Some other → slice_get ds q ≡ Some e
          → (b : Bool) → (t == q) ≡ b → Behind q other (had q ++ one_where (is_sent_by by.setup p q (ts ++ t ∷ [])) p) e
      by_place q other e at_q at_e true same =
          let q_is : t ≡ q = eqb-true t q same in
          let first : is_sent_by by.setup p q ts ≡ false =
          subst (λ (n : ℕ). is_sent_by by.setup p n ts ≡ false) q_is (not_sent by.setup p ts t none) in
          let now : is_sent_by by.setup p q (ts ++ t ∷ []) ≡ true = sent_snoc by.setup p q ts t
          ∙ ap (λ (b : Bool). b || is_delivery_to q (outcome_at by.setup p t)) first ∙ delivery q ∙ same in
          let partner_is : Some partner ≡ Some other = sym at_t ∙ ap (slice_get by.setup.partners) q_is ∙ at_q in
          let cursor_is : Some (advanced c (group_key_of p)) ≡ Some e =
          sym (ap (λ (es : List CursorValue). slice_get es t) set ∙ set_here cs t c (advanced c (group_key_of p)) at_c)
          ∙ ap (slice_get ds) q_is ∙ at_e in
          let partner_same : partner ≡ other = cc in
          let cursor_same : advanced c (group_key_of p) ≡ e = cc in
          let more : Behind t partner (had t ++ p ∷ []) (advanced c (group_key_of p)) =
          behind_more partner (acknowledgments_to t by.night) (groups_to t by.night) (had t) p c
          (amid_here ts t partner c cs none at_t at_c amid) in
          subst (λ (b : Bool). Behind q other (had q ++ one_where b p) e) (sym now)
          (subst (λ (d : CursorValue). Behind q other (had q ++ p ∷ []) d) cursor_same
          (subst (λ (r : Partner). Behind q r (had q ++ p ∷ []) (advanced c (group_key_of p))) partner_same
          (subst (λ (n : ℕ). Behind n partner (had n ++ p ∷ []) (advanced c (group_key_of p))) q_is more)))
      by_place q other e at_q at_e false apart =
          let now : is_sent_by by.setup p q (ts ++ t ∷ []) ≡ is_sent_by by.setup p q ts = sent_snoc by.setup p q ts t
          ∙ ap (λ (b : Bool). is_sent_by by.setup p q ts || b) (delivery q ∙ apart) ∙ or-false (is_sent_by by.setup p q ts) in
          let old : slice_get cs q ≡ Some e =
          sym (ap (λ (es : List CursorValue). slice_get es q) set
          ∙ set_there cs t q (advanced c (group_key_of p)) (λ e. true≢false (sym (eq-eqb t q e) ∙ apart))) ∙ at_e in
          subst (λ (b : Bool). Behind q other (had q ++ one_where b p) e) (sym now) (amid.each q other e at_q old)

  -- the numbers that a set is delivered under
  pub mailed_here : (ts : List ℕ) (t : ℕ) (partner : Partner) (c : CursorValue) (cs : List CursorValue) (mailed : Mailed)
      → list_any (λ (s : ℕ). s == t) ts ≡ false → slice_get by.setup.partners t ≡ Some partner → slice_get cs t ≡ Some c
      → mailed ≡ mailed_next c (group_key_of p) → AreAmid by before p ts cs
      → mailed ≡ mailed_behind partner (acknowledgments_to t by.night) (groups_to t by.night) (had t) p
  mailed_here ts t partner c cs mailed none at_t at_c is amid =
      is ∙ mailed_is partner (acknowledgments_to t by.night) (groups_to t by.night) (had t) p c
      (amid_here ts t partner c cs none at_t at_c amid)

  one_more : (q : ℕ) (b : Bool) → is_delivered_to by.setup q p ≡ b → delivered_of by.setup q (before ++ p ∷ []) ≡ had q ++ one_where b p
  one_more q b is = filter-append (is_delivered_to by.setup q) before (p ∷ [])
      ∙ ap (λ (c : Bool). had q ++ cond c (p ∷ []) []) is ∙ same b
    where
      same : (c : Bool) → had q ++ cond c (p ∷ []) [] ≡ had q ++ one_where c p
      same true = refl
      same false = refl

  -- after all targets of its route
  pub behind_all : (ts : List ℕ) (cs : List CursorValue) → ((q : ℕ) → is_delivered_to by.setup q p ≡ is_sent_by by.setup p q ts)
      → AreAmid by before p ts cs → AreBehind by (before ++ p ∷ []) cs
  behind_all ts cs sent amid = record {
    count = amid.count;
    each = λ q partner c at_q at_c. subst (λ (sets : List PlacedValue). Behind q partner sets c)
        (sym (one_more q (is_sent_by by.setup p q ts) (sent q))) (amid.each q partner c at_q at_c);
  }

  -- after a set that nobody gets
  pub behind_other : (cs : List CursorValue) → ((q : ℕ) → is_delivered_to by.setup q p ≡ false) → AreBehind by before cs
      → AreBehind by (before ++ p ∷ []) cs
  behind_other cs none behind = behind_all [] cs none (amid_none cs behind)

pub routed : (setup : SetupValue) (p : PlacedValue) (route : List ℕ) → is_deliverable p ≡ true
    → route ≡ route_of setup (element_of p.group.header 3) → outcomes setup p ≡ outcomes_on setup p route
routed setup p route is same =
    ap (λ (b : Bool). cond b (outcomes_on setup p (route_of setup (element_of p.group.header 3))) []) is
    ∙ ap (outcomes_on setup p) (sym same)

pub sent_by_route : (setup : SetupValue) (p : PlacedValue) (route : List ℕ) → is_deliverable p ≡ true
    → route ≡ route_of setup (element_of p.group.header 3) → (q : ℕ) → is_delivered_to setup q p ≡ is_sent_by setup p q route
sent_by_route setup p route is same q = ap (list_any (is_delivery_to q)) (routed setup p route is same) ∙ sym (by_route setup q p route)

-- no set of a refused interchange is delivered
pub groups_stay : (setup : SetupValue) (q : ℕ) (x : JudgedValue) → is_refused x ≡ true → (n : ℕ) (groups : List GroupEntry)
    → delivered_of setup q (sets_of_groups_from x n groups) ≡ []
groups_stay setup q x refused n [] = refl
groups_stay setup q x refused n (g ∷ groups) =
    let standing : GroupStanding = standing_at x.standings n in
    filter-append (is_delivered_to setup q) (sets_from x g standing 0 g.sets) (sets_of_groups_from x (n + 1) groups)
    ∙ ap (λ (ps : List PlacedValue). ps ++ delivered_of setup q (sets_of_groups_from x (n + 1) groups))
    (nothing_leaves setup q x g standing 0 g.sets
    (ap (λ (b : Bool). standing.clear && not (is_fa g) && not b) refused ∙ and-false (standing.clear && not (is_fa g))))
    ∙ groups_stay setup q x refused (n + 1) groups

pub behind_refused : (by : TrackedBy) (before : List PlacedValue) (x : JudgedValue) (cs : List CursorValue) → is_refused x ≡ true
    → AreBehind by before cs → AreBehind by (before ++ sets_of x) cs
behind_refused by before x cs refused behind = record {
  count = behind.count;
  each = λ q partner c at_q at_c. subst (λ (sets : List PlacedValue).
      IsBehind partner (acknowledgments_to q by.night) (groups_to q by.night) sets c)
      (sym (filter-append (is_delivered_to by.setup q) before (sets_of x)
      ∙ ap (λ (ps : List PlacedValue). delivered_of by.setup q before ++ ps)
      (groups_stay by.setup q x refused 0 x.interchange.content.groups)
      ∙ append-nil (delivered_of by.setup q before)))
      (behind.each q partner c at_q at_c);
}

-- no target stands twice
pub apart_from : (xs : List ℕ) (j t : ℕ) → ((i : ℕ) → i < j → i < length xs → get_or xs i t ≢ t)
    → list_any (λ (s : ℕ). s == t) (take j xs) ≡ false
apart_from xs zero t none = refl
apart_from [] (suc j) t none = refl
apart_from (y ∷ ys) (suc j) t none =
    by (y == t) refl (apart_from ys j t (λ i h k. none (suc i) (omega (arith, h)) (omega (arith, k))))
  where
    by : (b : Bool) → (y == t) ≡ b → list_any (λ (s : ℕ). s == t) (take j ys) ≡ false
        → list_any (λ (s : ℕ). s == t) (y ∷ take j ys) ≡ false
    by true e rest = absurd (none 0 (omega arith) (omega arith) (eqb-true y t e))
    by false e rest = ap (λ (b : Bool). b || list_any (λ (s : ℕ). s == t) (take j ys)) e ∙ rest

pub apart_before : (xs : List ℕ) (j t : ℕ) → AreApart xs → j < length xs → t ≡ get_or xs j t
    → list_any (λ (s : ℕ). s == t) (take j xs) ≡ false
apart_before xs j t apart within is = apart_from xs j t (λ i h k e. apart i j t h within (e ∙ is))

-- the rows of a set for all targets
pub texts_of_targets : (by : TrackedBy) (before : List PlacedValue) (line : List ℕ) (p : PlacedValue) (ts : List ℕ)
    → outcome_texts by before line p ts ≡ flat_map (row_text line) (map (outcome_cells by before p) (map (outcome_at by.setup p) ts))
texts_of_targets by before line p [] = refl
texts_of_targets by before line p (t ∷ ts) =
    ap (λ (text : List ℕ). row_text line (outcome_cells by before p (outcome_at by.setup p t)) ++ text)
    (texts_of_targets by before line p ts)

pub ends_routed : (by : TrackedBy) (before : List PlacedValue) (p : PlacedValue) (route : List ℕ) → is_deliverable p ≡ true
    → route ≡ route_of by.setup (element_of p.group.header 3)
    → ends_of by before p ≡ map (outcome_cells by before p) (outcomes_on by.setup p route)
ends_routed by before p route is same =
    ap (λ (b : Bool). cond b (map (outcome_cells by before p) (outcomes by.setup p)) (other_end p ∷ [])) is
    ∙ ap (map (outcome_cells by before p)) (routed by.setup p route is same)

pub ends_other : (by : TrackedBy) (before : List PlacedValue) (p : PlacedValue) → is_deliverable p ≡ false
    → ends_of by before p ≡ other_end p ∷ []
ends_other by before p is = ap (λ (b : Bool). cond b (map (outcome_cells by before p) (outcomes by.setup p)) (other_end p ∷ [])) is

-- one row of a set that nobody may get
pub other_rows : (by : TrackedBy) (line : List ℕ) (p : PlacedValue) (end : List (List ℕ)) (a b : List ℕ) (cs : List CursorValue)
    → is_deliverable p ≡ false → end ≡ other_end p → b ≡ a ++ row_text line end
    → HasRows by (λ before. ends_text by before line p) (p ∷ []) a b cs cs
other_rows by line p end a b cs is told text before behind = (
  text ∙ ap (λ (e : List (List ℕ)). a ++ row_text line e) told
      ∙ ap (λ (t : List ℕ). a ++ t) (sym (append-nil (row_text line (other_end p))))
      ∙ ap (λ (es : List (List (List ℕ))). a ++ flat_map (row_text line) es) (sym (ends_other by before p is)),
  behind_other by before p cs (λ q. not_delivered by.setup q p is) behind,
)

-- one row of a set that has no route
pub unrouted_rows : (by : TrackedBy) (line : List ℕ) (p : PlacedValue) (route a b : List ℕ) (cs : List CursorValue)
    → is_deliverable p ≡ true → route ≡ route_of by.setup (element_of p.group.header 3) → length route ≡ 0
    → b ≡ a ++ row_text line (plain_end (codes "held route")) → HasRows by (λ before. ends_text by before line p) (p ∷ []) a b cs cs
unrouted_rows by line p (t ∷ ts) a b cs is same none text before behind = absurd (omega (arith, none))
unrouted_rows by line p [] a b cs is empty none text before behind = (
  text ∙ ap (λ (t : List ℕ). a ++ t) (sym (append-nil (row_text line (plain_end (codes "held route")))))
      ∙ ap (λ (es : List (List (List ℕ))). a ++ flat_map (row_text line) es) (sym (ends_routed by before p [] is empty)),
  behind_other by before p cs (λ q. sent_by_route by.setup p [] is empty q) behind,
)

on_some : (setup : SetupValue) (p : PlacedValue) (route : List ℕ) → 0 < length route
    → outcomes_on setup p route ≡ map (outcome_at setup p) route
on_some setup p [] some = absurd (omega (arith, some))
on_some setup p (t ∷ ts) some = refl

-- a row for each target of a route
pub routed_rows : (by : TrackedBy) (line : List ℕ) (p : PlacedValue) (route : List ℕ) (a b : List ℕ) (cs ds : List CursorValue)
    → is_deliverable p ≡ true → route ≡ route_of by.setup (element_of p.group.header 3) → 0 < length route
    → ((before : List PlacedValue) → AreBehind by before cs
    → (b ≡ a ++ outcome_texts by before line p route) × AreAmid by before p route ds)
    → HasRows by (λ before. ends_text by before line p) (p ∷ []) a b cs ds
routed_rows by line p route a b cs ds is same some rows before behind =
    let row = rows before behind in (
      row.0 ∙ ap (λ (t : List ℕ). a ++ t) (texts_of_targets by before line p route
          ∙ ap (λ (os : List Outcome). flat_map (row_text line) (map (outcome_cells by before p) os)) (sym (on_some by.setup p route some))
          ∙ ap (flat_map (row_text line)) (sym (ends_routed by before p route is same))),
      behind_all by before p route ds (sent_by_route by.setup p route is same) row.1,
    )
