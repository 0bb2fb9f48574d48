-- What is reported of the faults of a set can be quoted, where the names of its guide hold no delimiter.
use Rattle.std.proofs.Common.{◌≡◌, ℕ, zero, suc, ◌+◌, List, [], ◌∷◌, ◌++◌, take, drop, Option, Some, None, length, sym, subst}
use Rattle.std.proofs.Common.{inl, inr}
use Rattle.std.specs.Prelude.{IfSome, IsSomeAnd}
use Rattle.std.specs.List.{All}
use Rattle.std.proofs.lemmas.List.Elements.{All-contains, All-filter}
use Rattle.x12_bytes.specs.declared.delims.Delims.{Delims}
use Rattle.x12_write.specs.Undivided.{IsUndivided}
use Rattle.hub_kinds.specs.declared.codes.ElementCode.{ElementCode}
use Rattle.hub_kinds.specs.declared.codes.ElementCode.TheVariants as ik403
use Rattle.hub_kinds.specs.declared.codes.SegmentCode.{SegmentCode}
use Rattle.hub_kinds.specs.declared.codes.SegmentCode.TheVariants as ik304
use Rattle.hub_kinds.specs.declared.fault.ElemFault.{ElemFault}
use Rattle.hub_kinds.specs.declared.fault.Fault.{Fault}
use Rattle.guide_tree.specs.declared.rows.DependencyKind.{DependencyKind}
use Rattle.guide_tree.specs.declared.rows.DependencyKind.TheVariants as kind
use Rattle.guide_tree.specs.declared.rows.HlRule.{HlRule}
use Rattle.guide_tree.specs.declared.slot.Slot.{Slot}
use Rattle.guide_tree.specs.Words.{placing_of, Place, use_of, Segment, element_at, IsStructureFault, node_at, node_fault, past_code}
use Rattle.guide_tree.specs.Words.{GuideTree, Tree, Trees}
use Rattle.elem_rules.specs.Conditions.{condition_code}
use Rattle.elem_rules.specs.ElementFaults.{IsElementFault, fault_at}
use Rattle.loop_match.specs.LoopIds.{loop_id_of}
use Rattle.loop_match.specs.PlacedSegments.{PlacedSegment, placed_segments}
use Rattle.hl_check.specs.Hierarchy.{IsFaultAmong, IsHlFault, hl_fault, hls_of, is_hl}
use Rattle.depend_check.specs.Dependencies.{IsTargetBroken, element_fault, unused_fault, use_fault}
use Rattle.set_check.specs.SetFaults.{IsErrorIn, IsFaultUnder, IsRuleFault, IsSetFault, fault_of_element}
use Rattle.set_check.specs.SetParts.{SetParts, end_position}
use Rattle.ack_999.specs.ReadBack.{IsQuotableElement, IsQuotableFault}
use Rattle.night_law.specs.Quotable.{IsRowQuotable}
use Rattle.night_law.proofs.Naming.{AreNodesNamed, IsGuideNamed}
use Rattle.night_law.proofs.Headers.{at_index}
use Rattle.night_law.proofs.QuotingNames.{IsPlacedQuotable, innermost_has, loop_of, node_has, nothing}
use Rattle.night_law.proofs.QuotingNames.{placed_have, reference, rows_at, seat_has}

module _ (d : Delims) (separator : IsUndivided d (d.component ∷ [])) where
  abbrev Q : Fault → Type 0
  Q f = IsQuotableFault d f

  -- a fault of a node of the guide
  of_node : (ts : Trees) (position : ℕ) (code : SegmentCode) (parent q : Place) (node : Tree) (f : Fault) → AreNodesNamed d ts
      → node_at ts q ≡ Some node → f ≡ node_fault ts position code parent node → Q f
  of_node ts position code parent q node f names there is =
      let own : Q (node_fault ts position code parent node) =
      record { loop_id = innermost_has d ts parent node names (node_has d ts q node there names); elem = tt } in
      subst Q (sym is) own

  of_structure : (g : GuideTree) (body : List Segment) (given : List (Option Place)) (end : ℕ) (f : Fault) → IsGuideNamed d g
      → IsStructureFault g body given end f → Q f
  of_structure g body given end f names (inl past) =
      of_node g.nodes (past.index + 2) (past_code past.node) past.parent (past.parent ++ use_of past.child past.use_no ∷ []) past.node f
      names past.there past.is
  of_structure g body given end f names (inr (inl short)) =
      of_node g.nodes short.position short.code short.parent (short.parent ++ use_of short.child 0 ∷ []) short.node f names short.there
      short.is
  of_structure g body given end f names (inr (inr stray)) = subst Q (sym stray.is) (record { loop_id = nothing d; elem = tt })

  -- a fault of an element
  element_told : (delims : Delims) (s : Segment) (slot : Slot) (element component repetition : ℕ) (code : ElementCode) (e : ElemFault)
      → All (IsRowQuotable d) slot.elements → e ≡ fault_at delims s slot element component repetition code → IsQuotableElement d e
  element_told delims s slot element component repetition code e rows is =
      let own : IsQuotableElement d (fault_at delims s slot element component repetition code) =
      record { reference = reference d slot.elements element component rows; separator = separator } in
      subst (IsQuotableElement d) (sym is) own

  of_element : (delims : Delims) (s : Segment) (slot : Slot) (e : ElemFault) → All (IsRowQuotable d) slot.elements
      → IsElementFault delims s slot e → IsQuotableElement d e
  of_element delims s slot e rows (inl extra) =
      element_told delims s slot (length slot.elements + 1) 0 0 ik403.TooManyElements e rows extra.is
  of_element delims s slot e rows (inr (inl row)) =
      element_told delims s slot row.position row.w.component row.w.repetition row.w.code e rows row.is
  of_element delims s slot e rows (inr (inr broken)) =
      element_told delims s slot broken.position 0 0 (condition_code broken.condition.relation) e rows broken.is

  of_error : (ts : Trees) (parts : SetParts) (given : List (Option Place)) (f : Fault) → AreNodesNamed d ts
      → IsErrorIn ts parts given f → Q f
  of_error ts parts given f names error =
      let rows : All (IsRowQuotable d) error.slot.elements = rows_at d ts error.place error.slot error.leads names in
      let own : Q (fault_of_element (error.index + 2) error.segment (loop_id_of ts error.place) error.slot error.elem) = record {
        loop_id = loop_of d ts error.place names;
        elem = of_element parts.delims error.segment error.slot error.elem rows error.wrong;
      } in
      subst Q (sym error.is) own

  -- a fault of the hierarchy
  of_hl : (h : PlacedSegment) (element : ℕ) (code : ElementCode) (f : Fault) → IsPlacedQuotable d h → f ≡ hl_fault h element code → Q f
  of_hl h element code f placed is =
      let own : Q (hl_fault h element code) = record {
        loop_id = placed.0;
        elem = record { reference = reference d h.slot.elements element 0 placed.1; separator = separator };
      } in
      subst Q (sym is) own

  of_wrong_hl : (rule : HlRule) (delims : Delims) (earlier : List PlacedSegment) (h : PlacedSegment) (later : List PlacedSegment)
      (f : Fault) → IsPlacedQuotable d h → IsHlFault rule delims earlier h later f → Q f
  of_wrong_hl rule delims earlier h later f placed (inl number) = of_hl h 1 ik403.PatternFailure f placed number.1
  of_wrong_hl rule delims earlier h later f placed (inr (inl parent)) = of_hl h 2 ik403.PatternFailure f placed parent.1
  of_wrong_hl rule delims earlier h later f placed (inr (inr (inl level))) = of_hl h 3 ik403.CodeNotUsed f placed level.1
  of_wrong_hl rule delims earlier h later f placed (inr (inr (inr child))) = of_hl h 4 ik403.PatternFailure f placed child.1

  of_hierarchy : (o : Option HlRule) (delims : Delims) (hls : List PlacedSegment) (f : Fault) → All (IsPlacedQuotable d) hls
      → IsSomeAnd o (λ rule. IsFaultAmong rule delims hls f) → Q f
  of_hierarchy None delims hls f all fault = absurd fault
  of_hierarchy (Some rule) delims hls f all fault =
      of_wrong_hl rule delims (take fault.count hls) fault.hl (drop (fault.count + 1) hls) f
      (at_index (IsPlacedQuotable d) hls fault.count fault.hl fault.there all) fault.wrong

  -- a fault of a dependency
  of_use : (p : PlacedSegment) (element : ℕ) (code : ElementCode) (copy : List ℕ) (f : Fault) → IsPlacedQuotable d p
      → f ≡ element_fault p element code copy → Q f
  of_use p element code copy f placed is =
      let own : Q (element_fault p element code copy) = record {
        loop_id = placed.0;
        elem = record { reference = reference d p.slot.elements element 0 placed.1; separator = separator };
      } in
      subst Q (sym is) own

  of_broken : (ts : Trees) (delims : Delims) (end : ℕ) (placed : List PlacedSegment) (label : List ℕ) (k : DependencyKind) (element : ℕ)
      (f : Fault) → AreNodesNamed d ts → All (IsPlacedQuotable d) placed → IsTargetBroken ts delims end placed label k element f → Q f
  of_broken ts delims end placed label kind.Need zero f names all broken =
      let own : Q (unused_fault end broken.0) = record { loop_id = seat_has d ts label broken.0 broken.1 names; elem = tt } in
      subst Q (sym broken.3) own
  of_broken ts delims end placed label kind.Ban zero f names all broken =
      let own : Q (use_fault broken.0 ik304.DependentNotUsedPresent None) =
      record { loop_id = (All-contains (IsPlacedQuotable d) placed broken.0 all broken.1).0; elem = tt } in
      subst Q (sym broken.3) own
  of_broken ts delims end placed label kind.Need (suc e) f names all broken =
      of_use broken.0 (suc e) ik403.DependentMissing [] f (All-contains (IsPlacedQuotable d) placed broken.0 all broken.1.listed) broken.2
  of_broken ts delims end placed label kind.Ban (suc e) f names all broken =
      of_use broken.0 (suc e) ik403.DependentNotUsedPresent (element_at broken.0.segment (suc e)) f
      (All-contains (IsPlacedQuotable d) placed broken.0 all broken.1.listed) broken.2

  under : (g : GuideTree) (parts : SetParts) (given : List (Option Place)) (f : Fault) → IsGuideNamed d g
      → IsFaultUnder g parts given f → Q f
  under g parts given f names (inl structure) = of_structure g parts.body given (end_position parts) f names structure
  under g parts given f names (inr (inl error)) = of_error g.nodes parts given f names error
  under g parts given f names (inr (inr rule)) = of_rule rule.0
    where
      placed : All (IsPlacedQuotable d) (placed_segments g.nodes parts.body given)
      placed = placed_have d g.nodes parts.body given names

      of_rule : IsRuleFault g parts.delims parts.body given (end_position parts) f → Q f
      of_rule (inl fault) =
          of_hierarchy g.hl parts.delims (hls_of g.nodes parts.body given) f
          (All-filter (λ h. is_hl h.segment) (IsPlacedQuotable d) (placed_segments g.nodes parts.body given) placed) fault
      of_rule (inr fault) =
          of_broken g.nodes parts.delims (end_position parts) (placed_segments g.nodes parts.body given) fault.dependency.target
          fault.dependency.kind fault.dependency.element f names placed fault.broken

  -- each fault of a set by its guide
  pub of_set : (guide : Option GuideTree) (parts : SetParts) (f : Fault) → IfSome guide (IsGuideNamed d) → IsSetFault guide parts f → Q f
  of_set None parts f names fault = absurd fault
  of_set (Some g) parts f names fault = under g parts (placing_of g.nodes parts.body) f names fault
