-- What has been read of an interchange so far, and what the segments to come make of it.
use Rattle.std.proofs.Common.{◌≡◌, ◌≢◌, ℕ, ◌+◌, List, [], ◌∷◌, ◌++◌, Bool, true, false, ◌||◌, Option, Some, None, refl, sym, ap, ◌∙◌}
use Rattle.std.proofs.Common.{arith, append_assoc}
use Rattle.x12_segs.specs.Words.{SegValue}
use Rattle.x12_segs.specs.declared.kind.Kind.{Kind}
use Rattle.x12_segs.specs.declared.kind.Kind.TheVariants.{InterchangeTrailer, GroupHeader, GroupTrailer, SetHeader, SetTrailer, Ta1}
use Rattle.x12_segs.specs.declared.kind.Kind.TheVariants.{Other}
use Rattle.env_index.specs.declared.entry.SetEnvelope.{SetEnvelope}
use Rattle.env_index.specs.Summary.{GroupEntry, Summary}
use Rattle.env_index.specs.Extents.{behind}
use Rattle.env_index.specs.Reading.{State, end_so_far, end_set, end_group, end_all, misplace, step, finished, nothing_read}
use Rattle.env_index.proofs.Tails.{GroupTail, SetTail, Tails, cut_off, no_segments, with_group, with_set, onto}

-- what is whole, before what an interchange goes on with
abbrev pub put : State → Summary → Summary
put s b = record {
  groups = s.groups ++ b.groups;
  ta1s = s.ta1s + b.ta1s;
  misplaced = s.misplaced || b.misplaced;
  trailer = b.trailer;
}

abbrev pub more_sets : List SetEnvelope → GroupTail → GroupTail
more_sets sets t = record t { sets = sets ++ t.sets }

abbrev pub longer : ℕ → ℕ → SetTail → SetTail
longer count end t = record t { count = count + t.count; end = λ so_far. t.end end }

abbrev pub resume_set : State → SegValue → Option SegValue → Tails → Summary
resume_set s group None t = put s (with_group group (more_sets s.sets t.in_group))
resume_set s group (Some set) t = put s (with_group group (more_sets s.sets (with_set set (longer s.count (end_so_far s set) t.in_set))))

abbrev pub resume_group : State → Option SegValue → Tails → Summary
resume_group s None t = put s t.in_body
resume_group s (Some group) t = resume_set s group s.set t

-- the summary, where the segments to come are these
abbrev pub resume : State → Tails → Summary
resume s t = resume_group s s.group t

abbrev open_at : State → Option SegValue → Option SegValue → State
open_at s group set = record s { group = group; set = set }

or_true : (b : Bool) → (b || true) ≡ true
or_true true = refl
or_true false = refl

append_nil : {A : Type 0} (xs : List A) → xs ++ [] ≡ xs
append_nil [] = refl
append_nil (x ∷ xs) = ap (λ ys. x ∷ ys) (append_nil xs)

-- an open set that goes on with nothing may be ended
ended_set_at : (s : State) (group set : Option SegValue) (t : Tails) → t.in_set ≡ cut_off t.in_group
    → resume (end_set None (open_at s group set)) t ≡ resume (open_at s group set) t
ended_set_at s None None t closes = refl
ended_set_at s None (Some set) t closes = refl
ended_set_at s (Some group) None t closes = refl
ended_set_at s (Some group) (Some set) t closes =
    let G : GroupTail = t.in_group in
    let e : ℕ → SetEnvelope = λ k. record { header = set; segments = k; trailer = None; end = end_so_far s set } in
    let F : List SetEnvelope → Summary = λ xs. put s (with_group group (record G { sets = xs })) in
    let n : s.count + 1 ≡ s.count + 0 + 1 = omega arith in
    ap F (append_assoc s.sets (e (s.count + 1) ∷ []) G.sets)
    ∙ ap (λ (k : ℕ). F (s.sets ++ (e k ∷ G.sets))) n
    ∙ ap (λ (u : SetTail). put s (with_group group (more_sets s.sets (with_set set (longer s.count (end_so_far s set) u))))) (sym closes)

pub ended_set : (s : State) (t : Tails) → t.in_set ≡ cut_off t.in_group → resume (end_set None s) t ≡ resume s t
ended_set s t closes = ended_set_at s s.group s.set t closes

-- an open group without open set that goes on with its end alone may be ended
abbrev group_end : Option SegValue → Summary → GroupTail
group_end trailer after = record { sets = []; close = trailer; misplaced = false; after = after }

ended_group : (s : State) (group : SegValue) (trailer : Option SegValue) (t u : Tails) → u.in_group ≡ group_end trailer t.in_body
    → resume (end_group trailer (open_at s (Some group) None)) t ≡ resume (open_at s (Some group) None) u
ended_group s group trailer t u ends =
    let B : Summary = t.in_body in
    let g : List SetEnvelope → GroupEntry = λ xs. record { header = group; sets = xs; trailer = trailer } in
    let F : List GroupEntry
    → Summary = λ gs. record {
      groups = gs;
      ta1s = s.ta1s + B.ta1s;
      misplaced = s.misplaced || B.misplaced;
      trailer = B.trailer;
    } in
    ap F (append_assoc s.groups (g s.sets ∷ []) B.groups)
    ∙ ap (λ (xs : List SetEnvelope). F (s.groups ++ (g xs ∷ B.groups))) (sym (append_nil s.sets))
    ∙ ap (λ (u : GroupTail). put s (with_group group (more_sets s.sets u))) (sym ends)

ended_group_trailer : (s : State) (group : SegValue) (set : Option SegValue) (trailer : Option SegValue) (t u : Tails)
    → u.in_set ≡ cut_off u.in_group → u.in_group ≡ group_end trailer t.in_body
    → resume (end_group trailer (end_set None (open_at s (Some group) set))) t ≡ resume (open_at s (Some group) set) u
ended_group_trailer s group None trailer t u closes ends = ended_group s group trailer t u ends
ended_group_trailer s group (Some set) trailer t u closes ends =
    ended_group (end_set None (open_at s (Some group) (Some set))) group trailer t u ends ∙ ended_set_at s (Some group) (Some set) u closes

ended_all_at : (s : State) (group set : Option SegValue) (t : Tails) → t.in_set ≡ cut_off t.in_group → t.in_group ≡ group_end None t.in_body
    → resume (end_all (open_at s group set)) t ≡ resume (open_at s group set) t
ended_all_at s None None t closes ends = refl
ended_all_at s None (Some set) t closes ends = refl
ended_all_at s (Some group) set t closes ends = ended_group_trailer s group set None t t closes ends

-- where all has ended nothing is open
all_closed : (s : State) (group set : Option SegValue) (t : Tails)
    → resume (end_all (open_at s group set)) t ≡ put (end_all (open_at s group set)) t.in_body
all_closed s None None t = refl
all_closed s None (Some set) t = refl
all_closed s (Some group) None t = refl
all_closed s (Some group) (Some set) t = refl

-- a segment out of place, before what goes on
misplaced_in_body : (s : State) (set : Option SegValue) (t u : Tails) → u.in_body ≡ record t.in_body { misplaced = true }
    → resume (misplace (open_at s None set)) t ≡ resume (open_at s None set) u
misplaced_in_body s set t u is =
    let B : Summary = t.in_body in
    ap (λ (m : Bool). (let r : Summary = record {
      groups = s.groups ++ B.groups;
      ta1s = s.ta1s + B.ta1s;
      misplaced = m;
      trailer = B.trailer;
    } in r)) (sym (or_true s.misplaced))
    ∙ ap (put s) (sym is)

misplaced_in_group : (s : State) (group : SegValue) (t u : Tails) → u.in_group ≡ record t.in_group { misplaced = true }
    → resume (misplace (open_at s (Some group) None)) t ≡ resume (open_at s (Some group) None) u
misplaced_in_group s group t u is =
    let r : Summary = with_group group (more_sets s.sets t.in_group) in
    ap (λ (m : Bool). (let x : Summary = record {
      groups = s.groups ++ r.groups;
      ta1s = s.ta1s + r.ta1s;
      misplaced = m;
      trailer = r.trailer;
    } in x)) (sym (or_true s.misplaced))
    ∙ ap (λ (g : GroupTail). put s (with_group group (more_sets s.sets g))) (sym is)

-- one more segment inside a set
longer_set : (s : State) (group set x : SegValue) (t u : Tails)
    → u.in_set ≡ record t.in_set { count = t.in_set.count + 1; end = λ so_far. t.in_set.end (behind x) }
    → resume (record (open_at s (Some group) (Some set)) { count = s.count + 1; last = Some x }) t
    ≡ resume (open_at s (Some group) (Some set)) u
longer_set s group set x t u is =
    let S : SetTail = t.in_set in
    let n : s.count + 1 + S.count ≡ s.count + (S.count + 1) = omega arith in
    ap (λ (k : ℕ). put s (with_group group (more_sets s.sets (with_set set (record S { count = k; end = λ so_far. S.end (behind x) }))))) n
    ∙ ap (λ (v : SetTail). put s (with_group group (more_sets s.sets (with_set set (longer s.count (end_so_far s set) v))))) (sym is)

step_at : (k : Kind) (x : SegValue) (s : State) (group set : Option SegValue) (t : Tails) → k ≢ InterchangeTrailer
    → resume (step k x (open_at s group set)) t ≡ resume (open_at s group set) (onto k x t)
step_at InterchangeTrailer x s group set t other = absurd (other refl)
step_at GroupHeader x s group set t other =
    sym (all_closed s group set (onto GroupHeader x t)) ∙ ended_all_at s group set (onto GroupHeader x t) refl refl
step_at GroupTrailer x s None set t other = misplaced_in_body s set t (onto GroupTrailer x t) refl
step_at GroupTrailer x s (Some group) set t other = ended_group_trailer s group set (Some x) t (onto GroupTrailer x t) refl refl
step_at SetHeader x s None set t other = misplaced_in_body s set t (onto SetHeader x t) refl
step_at SetHeader x s (Some group) set t other =
    header_in_front s group set ∙ ended_set_at s (Some group) set (onto SetHeader x t) refl
  where
    header_in_front : (s : State) (group : SegValue) (set : Option SegValue)
        → resume (step SetHeader x (open_at s (Some group) set)) t ≡ resume (end_set None (open_at s (Some group) set)) (onto SetHeader x t)
    header_in_front s group None = let n : 0 + t.in_set.count ≡ t.in_set.count = omega arith in
        ap (λ (k : ℕ). put s (with_group group (more_sets s.sets (with_set x (record t.in_set { count = k }))))) n
    header_in_front s group (Some set) = let n : 0 + t.in_set.count ≡ t.in_set.count = omega arith in
        ap (λ (k : ℕ). put s (with_group group
        (more_sets (end_set None (open_at s (Some group) (Some set))).sets (with_set x (record t.in_set { count = k }))))) n
step_at SetTrailer x s None set t other = misplaced_in_body s set t (onto SetTrailer x t) refl
step_at SetTrailer x s (Some group) None t other = misplaced_in_group s group t (onto SetTrailer x t) refl
step_at SetTrailer x s (Some group) (Some set) t other =
    let G : GroupTail = t.in_group in
    let e : ℕ → SetEnvelope = λ k. record { header = set; segments = k; trailer = Some x; end = behind x } in
    let F : List SetEnvelope → Summary = λ xs. put s (with_group group (record G { sets = xs })) in
    let n : s.count + 2 ≡ s.count + 1 + 1 = omega arith in
    ap F (append_assoc s.sets (e (s.count + 2) ∷ []) G.sets) ∙ ap (λ (k : ℕ). F (s.sets ++ (e k ∷ G.sets))) n
step_at Ta1 x s None set t other =
    let B : Summary = t.in_body in
    let n : s.ta1s + 1 + B.ta1s ≡ s.ta1s + (B.ta1s + 1) = omega arith in
    ap (λ (k : ℕ). (let r : Summary = record {
      groups = s.groups ++ B.groups;
      ta1s = k;
      misplaced = s.misplaced || B.misplaced;
      trailer = B.trailer;
    } in r)) n
step_at Ta1 x s (Some group) None t other = misplaced_in_group s group t (onto Ta1 x t) refl
step_at Ta1 x s (Some group) (Some set) t other = longer_set s group set x t (onto Ta1 x t) refl
step_at Other x s None set t other = misplaced_in_body s set t (onto Other x t) refl
step_at Other x s (Some group) None t other = misplaced_in_group s group t (onto Other x t) refl
step_at Other x s (Some group) (Some set) t other = longer_set s group set x t (onto Other x t) refl

-- a segment may be taken, or stand before what comes
pub step_onto : (k : Kind) (x : SegValue) (s : State) (t : Tails) → k ≢ InterchangeTrailer → resume (step k x s) t ≡ resume s (onto k x t)
step_onto k x s t other = step_at k x s s.group s.set t other

-- where nothing comes, or the IEA alone
abbrev pub last_tails : Option SegValue → Tails
last_tails None = no_segments
last_tails (Some x) = onto InterchangeTrailer x no_segments

finish_at : (trailer : Option SegValue) (s : State) (group set : Option SegValue)
    → finished trailer (end_all (open_at s group set)) ≡ resume (open_at s group set) (last_tails trailer)
finish_at trailer s group set =
    to_end trailer (end_all (open_at s group set)) ∙ sym (all_closed s group set (last_tails trailer))
    ∙ ended_all_at s group set (last_tails trailer) (closes trailer) (ends trailer)
  where
    closes : (trailer : Option SegValue) → (last_tails trailer).in_set ≡ cut_off (last_tails trailer).in_group
    closes None = refl
    closes (Some x) = refl

    ends : (trailer : Option SegValue) → (last_tails trailer).in_group ≡ group_end None (last_tails trailer).in_body
    ends None = refl
    ends (Some x) = refl

    or_false : (b : Bool) → (b || false) ≡ b
    or_false true = refl
    or_false false = refl

    to_end : (trailer : Option SegValue) (s : State) → finished trailer s ≡ put s (last_tails trailer).in_body
    to_end None s = let n : s.ta1s ≡ s.ta1s + 0 = omega arith in
        ap (λ (gs : List GroupEntry). (let r : Summary = record {
          groups = gs;
          ta1s = s.ta1s;
          misplaced = s.misplaced;
          trailer = None;
        } in r)) (sym (append_nil s.groups))
        ∙ ap (λ (k : ℕ). (let r : Summary = record {
          groups = s.groups ++ [];
          ta1s = k;
          misplaced = s.misplaced;
          trailer = None;
        } in r)) n
        ∙ ap (λ (m : Bool). (let r : Summary = record {
          groups = s.groups ++ [];
          ta1s = s.ta1s + 0;
          misplaced = m;
          trailer = None;
        } in r)) (sym (or_false s.misplaced))
    to_end (Some x) s = let n : s.ta1s ≡ s.ta1s + 0 = omega arith in
        ap (λ (gs : List GroupEntry). (let r : Summary = record {
          groups = gs;
          ta1s = s.ta1s;
          misplaced = s.misplaced;
          trailer = Some x;
        } in r)) (sym (append_nil s.groups))
        ∙ ap (λ (k : ℕ). (let r : Summary = record {
          groups = s.groups ++ [];
          ta1s = k;
          misplaced = s.misplaced;
          trailer = Some x;
        } in r)) n
        ∙ ap (λ (m : Bool). (let r : Summary = record {
          groups = s.groups ++ [];
          ta1s = s.ta1s + 0;
          misplaced = m;
          trailer = Some x;
        } in r)) (sym (or_false s.misplaced))

-- at the end all that is open ends
pub finish : (trailer : Option SegValue) (s : State) → finished trailer (end_all s) ≡ resume s (last_tails trailer)
finish trailer s = finish_at trailer s s.group s.set

-- before the first segment
pub resume_nothing : (t : Tails) → resume nothing_read t ≡ t.in_body
resume_nothing t =
    let n : 0 + t.in_body.ta1s ≡ t.in_body.ta1s = omega arith in
    ap (λ (k : ℕ). (let r : Summary = record t.in_body { ta1s = k } in r)) n
