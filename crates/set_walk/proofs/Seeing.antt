-- What was seen after ST, with one segment more; and once all were seen.
use Rattle.std.proofs.Common.{⊎_elim, ◌≡◌, ◌↔◌, ◌⊎◌, inl, inr, ℕ, ◌+◌, ◌<◌, Bool, true, false, true≢false, List, [], ◌∷◌, ◌++◌}
use Rattle.std.proofs.Common.{length, map, Option, Some, None, refl, sym, ap, subst, ◌∙◌, arith, if◌then◌else◌}
use Rattle.std.specs.Prelude.{is_some, IfSome, nat_lt, not, ◌&&◌, ◌||◌}
use Rattle.std.proofs.lemmas.Bool.{lt-ltb}
use Rattle.std.specs.List.{AllByRecursion, Contains, list_all}
use Rattle.std.proofs.lemmas.List.{append-nil, append_assoc, length-append}
use Rattle.std.proofs.lemmas.List.Elements.{Contains-append_left, Contains-append_right, Contains-append_cases}
use Rattle.x12_bytes.specs.declared.delims.Delims.{Delims}
use Rattle.hub_kinds.specs.declared.fault.Fault.{Fault}
use Rattle.x12_segs.specs.Words.{SegValue, elements_of, kind_of, trailer_kinds}
use Rattle.x12_segs.specs.Kinds.{may_stand_in_set}
use Rattle.x12_segs.specs.declared.kind.Kind.{Kind}
use Rattle.x12_segs.specs.declared.kind.Kind.TheVariants.{SetHeader}
use Rattle.guide_tree.specs.Words.{GuideTree, Segment, IsWellFormed, end_faults, IsStructureFault, pass, placing_from}
use Rattle.guide_law.proofs.ForAbove.{members}
use Rattle.elem_rules.proofs.ForAbove.{no_member}
use Rattle.loop_match.specs.declared.next.Step.{Step}
use Rattle.loop_match.specs.Steps.{place_view, last_of}
use Rattle.hl_check.specs.Hierarchy.{hl_segments, IsHierarchyWhole, IsHierarchyFault}
use Rattle.hl_check.proofs.ForAbove.{hierarchy_of_placed}
use Rattle.depend_check.specs.Dependencies.{IsDependencyFault}
use Rattle.depend_check.proofs.ForAbove.{dependencies_of_placed}
use Rattle.set_walk.specs.Depends.{AreRulesKept}
use Rattle.hl_check.specs.Names.{names_of}
use Rattle.set_walk.specs.Kept.{Slotted, slotted_view, segment_in, given_by, IsKept}
use Rattle.set_walk.specs.WalkedBody.{IsBodyFault, IsElementFaultIn, places_by}
use Rattle.set_walk.specs.WalkedSet.{IsWalkedSet, trailer_list}
use Rattle.set_walk.specs.Walked.{goes_on, is_trailer, IsErrorFrom, IsErrorBehind, IsKeptBehind, HasTaken, IsSeen, slotted_from, faults_of}
use Rattle.set_walk.specs.Walked.{last_in}
use Rattle.set_walk.specs.declared.ends.Ends.{Ends}
use Rattle.set_walk.specs.declared.seen.Seen.{Seen}
use Rattle.set_walk.specs.declared.seen.TheConstants.{MOST_SEGMENTS}
use Rattle.set_walk.specs.declared.walked.WalkedSet.{WalkedSet}
use Rattle.set_walk.proofs.Ending.{no_end, an_end, none_before, end_where_closed}
use Rattle.set_walk.proofs.Erring.{error_in, error_from}
use Rattle.set_walk.proofs.Keeping.{hierarchy_of, dependencies_of}
use Rattle.set_walk.proofs.Slotting.{placed_are, segments_are}

pub none_by : (o : Option SegValue) → is_some o ≡ false → o ≡ None
none_by None e = refl
none_by (Some x) e = absurd (true≢false e)

-- nothing
abbrev Begun : GuideTree → List SegValue → Fault → (found : List Fault) → List Step → Type 0
Begun g rest f found last =
    (Contains found f ⊎ IsErrorFrom g.nodes 2 (last_of (place_view last)) rest f) ↔ IsErrorFrom g.nodes 2 None rest f

pub seen_nothing : (g : GuideTree) (s : Seen) → s.walk.last.items ≡ [] → s.walk.count ≡ 0 → s.structure ≡ [] → s.errors ≡ []
    → s.kept.hls.items ≡ [] → s.kept.names.items ≡ [] → s.kept.labelled.items ≡ [] → s.trailer ≡ None → IsSeen g s []
seen_nothing g s last count structure errors hls names labelled trailer = record {
  body = [];
  all = sym (ap trailer_list trailer);
  trailer = trailer;
  count = count;
  few = omega (arith, count);
  room = subst (AllByRecursion (λ (a : Step). a.use_no < s.walk.count)) (sym last) tt;
  structure = λ end rest.
      ap (λ (l : List Fault). l ++ pass g end (s.walk.count + 2) (last_in s.walk) (map elements_of rest)
      (placing_from g.nodes (last_in s.walk) (map elements_of rest))) structure
      ∙ ap (λ (n : ℕ). pass g end (n + 2) (last_in s.walk) (map elements_of rest)
      (placing_from g.nodes (last_in s.walk) (map elements_of rest))) count
      ∙ ap (λ (l : List Step). pass g end 2 (last_of (place_view l)) (map elements_of rest)
      (placing_from g.nodes (last_of (place_view l)) (map elements_of rest))) last;
  errors = λ rest f. subst (λ (n : ℕ). (Contains s.errors f ⊎ IsErrorFrom g.nodes (n + 2) (last_in s.walk) rest f)
      ↔ IsErrorFrom g.nodes 2 None rest f) (sym count)
      (subst (λ (l : List Fault). Begun g rest f l s.walk.last.items) (sym errors)
      (subst (Begun g rest f []) (sym last) (λ h. ⊎_elim (λ a. absurd (no_member f a)) (λ b. b) h, λ h. inr h)));
  kept = λ rest. record {
    taken = [];
    kept = record {
      hls = ap (map slotted_view) hls;
      names = names ∙ sym (ap (map names_of) (ap (map segment_in) hls));
      labelled = ap (map slotted_view) labelled;
    };
    are = ap (λ (l : List Step). slotted_from g.nodes (last_of (place_view l)) rest) last;
  };
}

-- with one more segment of the body
pub seen_more : (g : GuideTree) (old new : Seen) (seg : SegValue) (done : List SegValue) → old.trailer ≡ None
    → is_trailer seg ≡ false → old.walk.count < 4294967295 → HasTaken g old new seg → IsSeen g old done → IsSeen g new (done ++ seg ∷ [])
seen_more g old new seg done none other few taken s =
    let all : done ≡ s.body =
    s.all ∙ ap (λ (o : Option SegValue). s.body ++ trailer_list o) none ∙ append-nil s.body in
    let one : length (s.body ++ seg ∷ []) ≡ length s.body + 1 = length-append s.body (seg ∷ []) in
    let before = s.count in
    let here = taken.count in
    let whole : (rest : List SegValue) → s.body ++ seg ∷ rest ≡ (s.body ++ seg ∷ []) ++ rest =
    λ rest. sym (append_assoc s.body (seg ∷ []) rest) in
    record {
      body = s.body ++ seg ∷ [];
      all = ap (λ (l : List SegValue). l ++ seg ∷ []) all
          ∙ sym (ap (λ (o : Option SegValue). (s.body ++ seg ∷ []) ++ trailer_list o) (taken.trailer ∙ none)
          ∙ append-nil (s.body ++ seg ∷ []));
      trailer = taken.trailer ∙ none ∙ sym (no_end seg done (sym s.trailer ∙ none) other);
      count = omega (arith, one, before, here);
      few = omega (arith, here, few);
      room = taken.room;
      structure = λ end rest. taken.structure end rest ∙ s.structure end (seg ∷ rest) ∙ ap (faults_of g end) (whole rest);
      errors = λ rest f. subst (λ (l : List SegValue). IsErrorBehind g.nodes new rest f ↔ IsErrorFrom g.nodes 2 None l f) (whole rest) (
        λ h. (s.errors (seg ∷ rest) f).0 ((taken.errors rest f).0 h),
        λ h. (taken.errors rest f).1 ((s.errors (seg ∷ rest) f).1 h),
      );
      kept = λ rest. subst (λ (l : List SegValue). IsKeptBehind g.nodes new rest (slotted_from g.nodes None l)) (whole rest)
          (taken.kept rest (slotted_from g.nodes None (s.body ++ seg ∷ rest)) (s.kept (seg ∷ rest)));
    }

-- with the SE
pub seen_trailer : (g : GuideTree) (old : Seen) (seg : SegValue) (done : List SegValue) → old.trailer ≡ None → is_trailer seg ≡ true
    → IsSeen g old done
    → IsSeen g (record { walk = old.walk; structure = old.structure; errors = old.errors; kept = old.kept; trailer = Some seg })
    (done ++ seg ∷ [])
seen_trailer g old seg done none end s =
    let all : done ≡ s.body =
    s.all ∙ ap (λ (o : Option SegValue). s.body ++ trailer_list o) none ∙ append-nil s.body in
    record {
      body = s.body;
      all = ap (λ (l : List SegValue). l ++ seg ∷ []) all;
      trailer = sym (an_end seg done (sym s.trailer ∙ none) end);
      count = s.count;
      few = s.few;
      room = s.room;
      structure = s.structure;
      errors = s.errors;
      kept = λ rest. record { taken = (s.kept rest).taken; kept = (s.kept rest).kept; are = (s.kept rest).are };
    }

with_ends : (header : SegValue) (body : List SegValue) (t : Option SegValue) (closed : Bool) → is_some t ≡ closed
    → length body + (if closed then 2 else 1) ≡ length (header ∷ (body ++ trailer_list t))
with_ends header body None true e = cc
with_ends header body (Some x) false e = cc
with_ends header body None false e = let n : length (body ++ []) ≡ length body + 0 = length-append body [] in omega (arith, n)
with_ends header body (Some x) true e = let n : length (body ++ x ∷ []) ≡ length body + 1 = length-append body (x ∷ []) in omega (arith, n)

-- what was found is what the body has
module _ (g : GuideTree) (s : Seen) (done : List SegValue) (well : IsWellFormed g) (seen : IsSeen g s done) (all : List Fault)
    (same : (f : Fault) → Contains all f
    ↔ Contains ((s.structure ++ end_faults (s.walk.count + 2) g.nodes (last_in s.walk)) ++ s.errors) f) where
  abbrev by_nodes : List Fault
  by_nodes = s.structure ++ end_faults (s.walk.count + 2) g.nodes (last_in s.walk)

  structure_is : by_nodes ≡ faults_of g (length seen.body + 2) seen.body
  structure_is = seen.structure (s.walk.count + 2) [] ∙ ap (faults_of g (s.walk.count + 2)) (append-nil seen.body)
      ∙ ap (λ (n : ℕ). faults_of g (n + 2) seen.body) seen.count

  of_nodes : (f : Fault) → Contains by_nodes f
      ↔ IsStructureFault g (map elements_of seen.body) (places_by g seen.body) (length seen.body + 2) f
  of_nodes f =
      let m = members g well (map elements_of seen.body) (length seen.body + 2) f in (
        λ h. m.0 (subst (λ (l : List Fault). Contains l f) structure_is h),
        λ h. subst (λ (l : List Fault). Contains l f) (sym structure_is) (m.1 h),
      )

  of_elements : (f : Fault) → Contains s.errors f ↔ IsElementFaultIn g.nodes 2 seen.body (places_by g seen.body) f
  of_elements f =
      let e = subst (λ (l : List SegValue). IsErrorBehind g.nodes s [] f ↔ IsErrorFrom g.nodes 2 None l f) (append-nil seen.body)
      (seen.errors [] f) in (
        λ h. error_in g.nodes 2 None seen.body f (e.0 (inl h)),
        λ h. ⊎_elim (λ a. a) (λ b. absurd b) (e.1 (error_from g.nodes 2 None seen.body f h)),
      )

  pub seen_faults : (f : Fault) → Contains all f ↔ IsBodyFault g seen.body f
  seen_faults f = (
    λ h. ⊎_elim (λ a. inl ((of_nodes f).0 a)) (λ b. inr ((of_elements f).0 b))
        (Contains-append_cases by_nodes s.errors f ((same f).0 h)),
    λ h. (same f).1 (⊎_elim
        (λ a. Contains-append_left by_nodes s.errors f ((of_nodes f).1 a))
        (λ b. Contains-append_right by_nodes s.errors f ((of_elements f).1 b)) h),
  )

-- the rules over the whole set hold of what was kept, and so of the body
module _ (g : GuideTree) (d : Delims) (s : Seen) (done : List SegValue) (well : IsWellFormed g) (seen : IsSeen g s done)
    (rules : AreRulesKept g d s.kept) where
  abbrev xs : List Slotted
  xs = slotted_from g.nodes None seen.body

  kept_are : IsKept s.kept xs
  kept_are =
      let k = seen.kept [] in
      subst (IsKept s.kept) (sym (append-nil k.taken) ∙ k.are ∙ ap (slotted_from g.nodes None) (append-nil seen.body)) k.kept

  pub no_hierarchy_fault : (f : Fault) → IsHierarchyFault g d (map elements_of seen.body) (places_by g seen.body) f → ⊥
  no_hierarchy_fault =
      (hierarchy_of_placed g d (map given_by xs) (map elements_of seen.body) (places_by g seen.body) (placed_are g seen.body)).1
      (subst (λ (l : List Segment). IsHierarchyWhole g.hl d (hl_segments l)) (sym (segments_are xs))
      (hierarchy_of g d s.kept xs kept_are rules.0))

  pub no_dependency_fault : (end : ℕ) (f : Fault) → IsDependencyFault g d (map elements_of seen.body) (places_by g seen.body) end f → ⊥
  no_dependency_fault end =
      (dependencies_of_placed g d (map given_by xs) (map elements_of seen.body) (places_by g seen.body) end well
      (placed_are g seen.body)).1
      (dependencies_of g d s.kept xs kept_are rules.1)

pub seen_whole : (g : GuideTree) (d : Delims) (closed : Bool) (header : SegValue) (s : Seen) (done : List SegValue) (w : WalkedSet)
    → IsWellFormed g → AreRulesKept g d s.kept → IsSeen g s done → is_some s.trailer ≡ closed → w.ends.header ≡ header
    → w.ends.trailer ≡ s.trailer → w.ends.segments ≡ s.walk.count + (if closed then 2 else 1)
    → ((f : Fault) → Contains w.faults f
    ↔ Contains ((s.structure ++ end_faults (s.walk.count + 2) g.nodes (last_in s.walk)) ++ s.errors) f)
    → IsWalkedSet g d closed (header ∷ done) w
seen_whole g d closed header s done w well rules seen ends first last counted found =
    let all : header ∷ done ≡ header ∷ (seen.body ++ trailer_list s.trailer) = ap (λ (l : List SegValue). header ∷ l) seen.all in
    record {
      body = seen.body;
      segments = all ∙ ap (λ (h : SegValue). h ∷ (seen.body ++ trailer_list s.trailer)) (sym first)
          ∙ ap (λ (o : Option SegValue). w.ends.header ∷ (seen.body ++ trailer_list o)) (sym last);
      closed_is = ap (λ (o : Option SegValue). is_some o) last ∙ ends;
      count = counted ∙ ap (λ (n : ℕ). n + (if closed then 2 else 1)) seen.count ∙ with_ends header seen.body s.trailer closed ends
          ∙ sym (ap length all);
      faults = seen_faults g s done well seen w.faults found;
      hierarchy = no_hierarchy_fault g d s done well seen rules;
      dependencies = no_dependency_fault g d s done well seen rules;
    }

-- in another order
pub with_order : (g : GuideTree) (d : Delims) (closed : Bool) (segs : List SegValue) (w v : WalkedSet) → IsWalkedSet g d closed segs w
    → v.ends ≡ w.ends → ((f : Fault) → Contains v.faults f ↔ Contains w.faults f) → IsWalkedSet g d closed segs v
with_order g d closed segs w v is ends same = record {
  body = is.body;
  segments = is.segments ∙ ap (λ (e : Ends). e.header ∷ (is.body ++ trailer_list e.trailer)) (sym ends);
  closed_is = ap (λ (e : Ends). is_some e.trailer) ends ∙ is.closed_is;
  count = ap (λ (e : Ends). e.segments) ends ∙ is.count;
  faults = λ f. (λ h. (is.faults f).0 ((same f).0 h), λ h. (same f).1 ((is.faults f).1 h));
  hierarchy = is.hierarchy;
  dependencies = is.dependencies;
}

-- once no segment is left
pub walked_whole : (g : GuideTree) (d : Delims) (closed : Bool) (header : SegValue) (s : Seen) (done left segs : List SegValue)
    (o : Option WalkedSet) (w : WalkedSet) → IsSeen g s done → segs ≡ header ∷ (done ++ left) → left ≡ []
    → IfSome o (λ v. (done : List SegValue) → IsSeen g s done → IsWalkedSet g d closed (header ∷ done) v) → o ≡ Some w
    → IsWalkedSet g d closed segs w
walked_whole g d closed header s done left segs o w seen are none found is =
    let all : segs ≡ header ∷ done =
    are ∙ ap (λ (l : List SegValue). header ∷ (done ++ l)) none ∙ ap (λ (l : List SegValue). header ∷ l) (append-nil done) in
    let whole : (done : List SegValue) → IsSeen g s done → IsWalkedSet g d closed (header ∷ done) w =
    subst (λ (x : Option WalkedSet).
    IfSome x (λ v. (done : List SegValue) → IsSeen g s done → IsWalkedSet g d closed (header ∷ done) v)) is found in
    subst (λ (l : List SegValue). IsWalkedSet g d closed l w) (sym all) (whole done seen)

-- a set's segments, of which these were seen: where one more comes, the walk goes on over it
or_true : (b : Bool) → (b || true) ≡ true
or_true true = refl
or_true false = refl

pub has_room : (g : GuideTree) (s : Seen) (seg header : SegValue) (done left segs : List SegValue) (inner : List Kind) (closed : Bool)
    → IsSeen g s done → segs ≡ header ∷ (done ++ seg ∷ left) → map kind_of segs ≡ SetHeader ∷ (inner ++ trailer_kinds closed)
    → list_all may_stand_in_set inner ≡ true → length segs < 4294967296 → goes_on s seg ≡ true
has_room g s seg header done left segs inner closed seen are kinds plain few =
    let all : kind_of header ∷ map kind_of (done ++ seg ∷ left) ≡ SetHeader ∷ (inner ++ trailer_kinds closed) =
    sym (ap (map kind_of) are) ∙ kinds in
    let rest : map kind_of (done ++ seg ∷ left) ≡ inner ++ trailer_kinds closed = cc in
    let none : s.trailer ≡ None = seen.trailer ∙ none_before done seg left inner closed rest plain in
    let is : done ≡ seen.body =
    seen.all ∙ ap (λ (o : Option SegValue). seen.body ++ trailer_list o) none ∙ append-nil seen.body in
    let long : length segs ≡ length (header ∷ (done ++ seg ∷ left)) = ap length are in
    let parts : length (done ++ seg ∷ left) ≡ length done + length (seg ∷ left) = length-append done (seg ∷ left) in
    let same : length done ≡ length seen.body = ap length is in
    let count = seen.count in
    let room : s.walk.count < MOST_SEGMENTS = omega (arith, long, parts, same, count, few) in
    ap (λ (o : Option SegValue). not (is_some o) && (is_trailer seg || nat_lt s.walk.count MOST_SEGMENTS)) none
    ∙ ap (λ (b : Bool). is_trailer seg || b) (lt-ltb s.walk.count MOST_SEGMENTS room) ∙ or_true (is_trailer seg)

-- and where none is left, the SE was seen exactly where the set is closed
pub has_end : (g : GuideTree) (s : Seen) (header : SegValue) (done segs : List SegValue) (inner : List Kind) (closed : Bool)
    → IsSeen g s done → segs ≡ header ∷ (done ++ []) → map kind_of segs ≡ SetHeader ∷ (inner ++ trailer_kinds closed)
    → list_all may_stand_in_set inner ≡ true → is_some s.trailer ≡ closed
has_end g s header done segs inner closed seen are kinds plain =
    let all : kind_of header ∷ map kind_of (done ++ []) ≡ SetHeader ∷ (inner ++ trailer_kinds closed) =
    sym (ap (map kind_of) are) ∙ kinds in
    let rest : map kind_of (done ++ []) ≡ inner ++ trailer_kinds closed = cc in
    ap (λ (o : Option SegValue). is_some o) seen.trailer
    ∙ end_where_closed done inner closed (ap (map kind_of) (sym (append-nil done)) ∙ rest) plain
