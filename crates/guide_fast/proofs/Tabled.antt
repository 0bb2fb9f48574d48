-- The table of a loop's nodes, at its number.
use Rattle.std.proofs.Common.{◌≡◌, ◌<◌, ◌≤◌, ℕ, zero, suc, length, get_or, arith, List, [], ◌∷◌, refl, sym, ap, subst, ◌∙◌}
use Rattle.std.proofs.Common.{Option, Some, None, true}
use Rattle.std.specs.Prelude.{slice_get, IfSome, MatchOption, Vec}
use Rattle.std.specs.List.{HoldsAt}
use Rattle.std.proofs.lemmas.Option.{slice_get-get_or}
use Rattle.std.specs.declared.alloc.Global.{Global}
use Rattle.guide_tree.specs.declared.node.Node.{Node, the_lemmas}
use Rattle.guide_tree.specs.declared.node.Node as node
use Rattle.guide_tree.specs.declared.node.Loop.{Loop}
use Rattle.guide_tree.specs.declared.rows.GuideRows.{GuideRows}
use Rattle.guide_tree.specs.declared.slot.Slot.{Slot}
use Rattle.guide_tree.specs.Words.{Tree, Trees, segment, loop, view, nodes_view, Segment, Place, fit_in, fit_next, guide_of}
use Rattle.guide_tree.specs.Words.{numbered_guide, numbered, GuideTree}
use Rattle.guide_tree.proofs.ForAbove.{view_loop}
use Rattle.guide_fast.specs.Tables.{trees_in, tables_of, HasTables, HasTablesIn}
use Rattle.guide_fast.proofs.Numbering.{has_tables}
use denote.Ref.{Bor}

table_there : (tables : List (List Node)) (k : ℕ) (x : List Node) (ts : Trees) → Some x ≡ slice_get tables k
    → slice_get (trees_in tables) k ≡ Some ts → nodes_view x ≡ ts
table_there [] zero x ts e f = cc
table_there [] (suc k) x ts e f = cc
table_there (t ∷ tables) zero x ts e f =
    let a : x ≡ t = cc in let b : nodes_view t ≡ ts = cc in ap nodes_view a ∙ b
table_there (t ∷ tables) (suc k) x ts e f = table_there tables k x ts e f

slice_get_past : (tables : List (List Node)) (k : ℕ) → length tables ≤ k → slice_get tables k ≡ None
slice_get_past [] zero l = refl
slice_get_past [] (suc k) l = refl
slice_get_past (t ∷ tables) zero l = absurd (omega (arith, l))
slice_get_past (t ∷ tables) (suc k) l = slice_get_past tables k (omega (arith, l))

table_missing : (tables : List (List Node)) (k : ℕ) (ts : Trees) → None ≡ slice_get tables k
    → slice_get (trees_in tables) k ≡ Some ts → ⊥
table_missing [] zero ts e f = cc
table_missing [] (suc k) ts e f = cc
table_missing (t ∷ tables) zero ts e f = cc
table_missing (t ∷ tables) (suc k) ts e f = table_missing tables k ts e f

inside_loop : (s : Segment) (l : Loop) (ts : Trees) (q : Place) → fit_in s (loop l ts) q ≡ fit_next s true ts q
inside_loop s l ts [] = refl
inside_loop s l ts (a ∷ q) = refl

abbrev HasShape : Tree → Option (Bor (List Node)) → Type 0
HasShape t r = MatchOption r ((x : Slot) × (t ≡ segment x)) (λ c. (l : Loop) × (t ≡ loop l (nodes_view c.now)))

abbrev IsTableOf : List (List Node) → Tree → Option (Bor (List Node)) → Type 0
IsTableOf tables t r = IfSome r (λ c. HasTables (trees_in tables) (nodes_view c.now))
    × ((s : Segment) (q : Place) → MatchOption r (fit_in s t q ≡ None) (λ c. fit_in s t q ≡ fit_next s true (nodes_view c.now) q))
    × HasShape t r

-- what a look at an index gives
abbrev pub IsLook : List (List Node) → ℕ → Option (Bor (List Node)) → Type 0
IsLook tables k r = IfSome r (λ c. c.now ≡ get_or tables k c.now)
    × MatchOption r (length tables ≤ k) (λ c. (k < length tables) × HoldsAt (λ y. c.now ≡ y) tables k)

at_number : (tables : List (List Node)) (l : Loop) (ts : Trees) (r : Option (Bor (List Node)))
    → IsLook tables l.number r → HasTablesIn (trees_in tables) (loop l ts) → IsTableOf tables (loop l ts) r
at_number tables l ts None e has = absurd (table_missing tables l.number ts (sym (slice_get_past tables l.number e.1)) has.0)
at_number tables l ts (Some c) e has =
    let there : Some c.now ≡ slice_get tables l.number = ap Some e.0 ∙ sym (slice_get-get_or tables l.number c.now e.1.0) in
    let same : nodes_view c.now ≡ ts = table_there tables l.number c.now ts there has.0 in (
      subst (HasTables (trees_in tables)) (sym same) has.1,
      λ s q. inside_loop s l ts q ∙ ap (λ (us : Trees). fit_next s true us q) (sym same),
      (l, ap (loop l) (sym same)),
    )

pub table_of_loop : (tables : List (List Node)) (n : Node) (l : Loop) (inner : Vec Node Global) (r : Option (Bor (List Node)))
    → n ≡ node.Loop l inner → IsLook tables l.number r → HasTablesIn (trees_in tables) (view n) → IsTableOf tables (view n) r
table_of_loop tables n l inner r e g has =
    let v : view n ≡ loop l (nodes_view inner.items) = view_loop n l inner e in
    subst (λ (t : Tree). IsTableOf tables t r) (sym v)
    (at_number tables l (nodes_view inner.items) r g (subst (HasTablesIn (trees_in tables)) v has))

-- the first table is the guide's
first_table : (tables : List (List Node)) (top : List Node) (ts : Trees) → trees_in tables ≡ tables_of ts → top ≡ get_or tables 0 top
    → nodes_view top ≡ ts
first_table [] top ts e f = cc
first_table (t ∷ tables) top ts e f = table_there (t ∷ tables) 0 top ts (ap Some f) (ap (λ (l : List Trees). slice_get l 0) e)

pub top_has : (rows : GuideRows) (tables : List (List Node)) (top : List Node)
    → trees_in tables ≡ tables_of (nodes_view rows.nodes.items) → guide_of rows ≡ numbered_guide rows → top ≡ get_or tables 0 top
    → HasTables (trees_in tables) (nodes_view top) × (nodes_view top ≡ nodes_view rows.nodes.items)
top_has rows tables top e n f =
    let ts : Trees = nodes_view rows.nodes.items in
    let m : ts ≡ numbered 1 ts = ap (λ (g : GuideTree). g.nodes) n in
    let same : nodes_view top ≡ ts = first_table tables top ts e f in (
      subst (λ (us : Trees). HasTables (trees_in tables) us) (sym same)
          (subst (λ (l : List Trees). HasTables l ts) (sym e)
          (subst (λ (us : Trees). HasTables (tables_of us) us) (sym m) (has_tables ts))),
      same,
    )

-- each node of a parent has its tables
pub tables_at : (tables : List Trees) (ns : List Node) (k : ℕ) (d : Node) → HasTables tables (nodes_view ns) → k < length ns
    → HasTablesIn tables (view (get_or ns k d))
tables_at tables [] k d has l = absurd (omega (arith, l))
tables_at tables (n ∷ ns) zero d has l = has.0
tables_at tables (n ∷ ns) (suc k) d has l = tables_at tables ns k d has.1 (omega (arith, l))
