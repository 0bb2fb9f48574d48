-- X12.5, interchange, and X12.6, functional group and transaction set: the tree of an interchange that has all its trailers.
use Rattle.std.proofs.Common.{◌≡◌, ℕ, suc, true, false, List, [], ◌∷◌, ◌++◌, length, map, refl, sym, ap, ◌∙◌, append_assoc}
use Rattle.std.specs.Prelude.{Some}
use Rattle.std.specs.List.{All, flat_map, list_all}
use Rattle.std.proofs.lemmas.Bool.{and_from, or_from}
use Rattle.std.proofs.lemmas.List.Elements.{All-head, All-tail}
use Rattle.x12_segs.specs.Words.{SegValue, elements_of}
use Rattle.x12_segs.specs.declared.kind.Kind.TheVariants.{Ta1}
use Rattle.env_index.specs.Words.{AGroup, ASet, ATa1, AreBodyMembers, AreMembers, Body, DerivesInterchange, Group, GroupEntry, InBody}
use Rattle.env_index.specs.Words.{InGroup}
use Rattle.env_index.specs.Words.{IsGroup, IsSet, OutOfBody, OutOfGroup, Set, body_items, group_items, in_body_items}
use Rattle.env_index.specs.Words.{in_group_items, groups_in, has_misplaced_in_group, has_set_headers, is_group_header, is_set_header}
use Rattle.env_index.specs.Words.{map_in_body, map_in_group, sets_in, group_entry}
use Rattle.env_index.specs.Summary.{has_misplaced}
use Rattle.env_index.specs.declared.entry.SetEnvelope.{SetEnvelope}
use Rattle.files_law.specs.Whole.{Elements, IsWhole, IsWholeGroup, IsWholeSet, Whole, WholeGroup, WholeSet, group_segments, is_gs, is_st}
use Rattle.files_law.specs.Whole.{kind_by, set_segments, whole_segments}

abbrev pub set_tree : WholeSet → Set Elements
set_tree s = record { header = s.header; inner = s.inner; trailer = Some s.trailer }

abbrev pub set_members : List WholeSet → List (InGroup Elements)
set_members [] = []
set_members (s ∷ sets) = ASet (set_tree s) ∷ set_members sets

abbrev pub group_tree : WholeGroup → Group Elements
group_tree g = record { header = g.header; members = set_members g.sets; trailer = Some g.trailer }

abbrev pub group_members : List WholeGroup → List (InBody Elements)
group_members [] = []
group_members (g ∷ groups) = AGroup (group_tree g) ∷ group_members groups

abbrev pub members_of : List Elements → List WholeGroup → List (InBody Elements)
members_of [] groups = group_members groups
members_of (x ∷ ta1s) groups = ATa1 x ∷ members_of ta1s groups

abbrev pub tree_of : Whole → Body Elements
tree_of w = record { members = members_of w.ta1s w.groups; trailer = Some w.trailer }

-- its segments
sets_items : (sets : List WholeSet) → flat_map in_group_items (set_members sets) ≡ flat_map set_segments sets
sets_items [] = refl
sets_items (s ∷ sets) = ap (λ (xs : List Elements). set_segments s ++ xs) (sets_items sets)

one_group_items : (g : WholeGroup) → group_items (group_tree g) ≡ group_segments g
one_group_items g = ap (λ (xs : List Elements). g.header ∷ (xs ++ g.trailer ∷ [])) (sets_items g.sets)

groups_items : (groups : List WholeGroup) → flat_map in_body_items (group_members groups) ≡ flat_map group_segments groups
groups_items [] = refl
groups_items (g ∷ groups) =
    ap (λ (xs : List Elements). xs ++ flat_map in_body_items (group_members groups)) (one_group_items g)
    ∙ ap (λ (xs : List Elements). group_segments g ++ xs) (groups_items groups)

members_items : (ta1s : List Elements) (groups : List WholeGroup)
    → flat_map in_body_items (members_of ta1s groups) ≡ ta1s ++ flat_map group_segments groups
members_items [] groups = groups_items groups
members_items (x ∷ ta1s) groups = ap (λ (xs : List Elements). x ∷ xs) (members_items ta1s groups)

tree_items : (w : Whole) → body_items (tree_of w) ≡ whole_segments w
tree_items w =
    ap (λ (xs : List Elements). xs ++ w.trailer ∷ []) (members_items w.ta1s w.groups)
    ∙ append_assoc w.ta1s (flat_map group_segments w.groups) (w.trailer ∷ [])

-- it is one
set_is : (s : WholeSet) (rest : List Elements) → IsWholeSet s → IsSet kind_by (set_tree s) rest
set_is s rest is = record { header = is.kind; inner = is.inner; trailer = is.trailer }

sets_are : (sets : List WholeSet) (rest : List Elements) → All IsWholeSet sets → AreMembers kind_by (set_members sets) rest
sets_are [] rest all = tt
sets_are (s ∷ sets) rest all = (
  set_is s (flat_map in_group_items (set_members sets) ++ rest) (All-head IsWholeSet s sets all),
  sets_are sets rest (All-tail IsWholeSet s sets all),
)

group_is : (g : WholeGroup) (rest : List Elements) → IsWholeGroup g → IsGroup kind_by (group_tree g) rest
group_is g rest is = record {
  header = is.kind;
  members = sets_are g.sets (g.trailer ∷ rest) is.sets;
  trailer = is.trailer;
}

groups_are : (groups : List WholeGroup) (rest : List Elements) → All IsWholeGroup groups
    → AreBodyMembers kind_by (group_members groups) rest
groups_are [] rest all = tt
groups_are (g ∷ groups) rest all = (
  group_is g (flat_map in_body_items (group_members groups) ++ rest) (All-head IsWholeGroup g groups all),
  groups_are groups rest (All-tail IsWholeGroup g groups all),
)

members_are : (number : ℕ) (w : Whole) → IsWhole number w → (ta1s : List Elements) → All (λ x. kind_by x ≡ Ta1) ta1s
    → AreBodyMembers kind_by (members_of ta1s w.groups) (w.trailer ∷ [])
members_are number w is [] all = groups_are w.groups (w.trailer ∷ []) is.groups
members_are number w is (x ∷ ta1s) all =
    (All-head (λ y. kind_by y ≡ Ta1) x ta1s all, members_are number w is ta1s (All-tail (λ y. kind_by y ≡ Ta1) x ta1s all))

pub whole_derives : (number : ℕ) (w : Whole) → IsWhole number w → DerivesInterchange kind_by (whole_segments w) (tree_of w)
whole_derives number w is = (tree_items w, record { members = members_are number w is w.ta1s is.ta1s; trailer = is.kind })

-- headers in their form, and nothing out of place
abbrev CleanSets : {X : Type 0} → (X → Elements) → List (InGroup X) → Type 0
CleanSets el [] = Unit {0}
CleanSets el (ASet s ∷ ms) = (is_st (el s.header) ≡ true) × CleanSets el ms
CleanSets el (OutOfGroup x ∷ ms) = ⊥

abbrev pub Clean : {X : Type 0} → (X → Elements) → List (InBody X) → Type 0
Clean el [] = Unit {0}
Clean el (ATa1 x ∷ ms) = Clean el ms
Clean el (AGroup g ∷ ms) = (is_gs (el g.header) ≡ true) × (CleanSets el g.members × Clean el ms)
Clean el (OutOfBody x ∷ ms) = ⊥

abbrev pub itself : Elements → Elements
itself x = x

clean_sets : (sets : List WholeSet) → All IsWholeSet sets → CleanSets itself (set_members sets)
clean_sets [] all = tt
clean_sets (s ∷ sets) all = ((All-head IsWholeSet s sets all).header, clean_sets sets (All-tail IsWholeSet s sets all))

clean_groups : (groups : List WholeGroup) → All IsWholeGroup groups → Clean itself (group_members groups)
clean_groups [] all = tt
clean_groups (g ∷ groups) all =
    let is : IsWholeGroup g = All-head IsWholeGroup g groups all in
    (is.header, (clean_sets g.sets is.sets, clean_groups groups (All-tail IsWholeGroup g groups all)))

pub clean_members : (ta1s : List Elements) (groups : List WholeGroup) → All IsWholeGroup groups → Clean itself (members_of ta1s groups)
clean_members [] groups all = clean_groups groups all
clean_members (x ∷ ta1s) groups all = clean_members ta1s groups all

clean_sets_before : (ms : List (InGroup SegValue)) → CleanSets itself (map (map_in_group elements_of) ms) → CleanSets elements_of ms
clean_sets_before [] clean = tt
clean_sets_before (ASet s ∷ ms) clean = (clean.0, clean_sets_before ms clean.1)
clean_sets_before (OutOfGroup x ∷ ms) clean = clean

pub clean_before : (ms : List (InBody SegValue)) → Clean itself (map (map_in_body elements_of) ms) → Clean elements_of ms
clean_before [] clean = tt
clean_before (ATa1 x ∷ ms) clean = clean_before ms clean
clean_before (AGroup g ∷ ms) clean = (clean.0, (clean_sets_before g.members clean.1.0, clean_before ms clean.1.1))
clean_before (OutOfBody x ∷ ms) clean = clean

-- as the index sees it
sets_sound : (ms : List (InGroup SegValue)) → CleanSets elements_of ms
    → (list_all (λ (set : SetEnvelope). is_set_header set.header) (sets_in ms) ≡ true) × (has_misplaced_in_group ms ≡ false)
sets_sound [] clean = (refl, refl)
sets_sound (ASet s ∷ ms) clean =
    let rest = sets_sound ms clean.1 in
    (and_from (is_set_header s.header) (list_all (λ (set : SetEnvelope). is_set_header set.header) (sets_in ms)) clean.0 rest.0, rest.1)
sets_sound (OutOfGroup x ∷ ms) clean = absurd clean

pub record AreSound (ms : List (InBody SegValue)) : Type 0 where
  pub headers : list_all (λ (g : GroupEntry). is_group_header g.header) (groups_in ms) ≡ true
  pub sets : list_all has_set_headers (groups_in ms) ≡ true
  pub placed : has_misplaced ms ≡ false

pub clean_sound : (ms : List (InBody SegValue)) → Clean elements_of ms → AreSound ms
clean_sound [] clean = record { headers = refl; sets = refl; placed = refl }
clean_sound (ATa1 x ∷ ms) clean =
    let rest = clean_sound ms clean in
    record { headers = rest.headers; sets = rest.sets; placed = rest.placed }
clean_sound (AGroup g ∷ ms) clean =
    let rest = clean_sound ms clean.1.1 in
    let here = sets_sound g.members clean.1.0 in
    record {
      headers = and_from (is_group_header g.header) (list_all (λ (g : GroupEntry). is_group_header g.header) (groups_in ms)) clean.0
          rest.headers;
      sets = and_from (has_set_headers (group_entry g)) (list_all has_set_headers (groups_in ms)) here.0 rest.sets;
      placed = or_from (has_misplaced_in_group g.members) (has_misplaced ms) here.1 rest.placed;
    }
clean_sound (OutOfBody x ∷ ms) clean = absurd clean

-- how many groups there are
abbrev counted : {X : Type 0} → List (InBody X) → ℕ
counted [] = 0
counted (ATa1 x ∷ ms) = counted ms
counted (AGroup g ∷ ms) = suc (counted ms)
counted (OutOfBody x ∷ ms) = counted ms

counted_entries : (ms : List (InBody SegValue)) → length (groups_in ms) ≡ counted ms
counted_entries [] = refl
counted_entries (ATa1 x ∷ ms) = counted_entries ms
counted_entries (AGroup g ∷ ms) = ap suc (counted_entries ms)
counted_entries (OutOfBody x ∷ ms) = counted_entries ms

counted_before : (ms : List (InBody SegValue)) → counted (map (map_in_body elements_of) ms) ≡ counted ms
counted_before [] = refl
counted_before (ATa1 x ∷ ms) = counted_before ms
counted_before (AGroup g ∷ ms) = ap suc (counted_before ms)
counted_before (OutOfBody x ∷ ms) = counted_before ms

counted_groups : (groups : List WholeGroup) → counted (group_members groups) ≡ length groups
counted_groups [] = refl
counted_groups (g ∷ groups) = ap suc (counted_groups groups)

counted_members : (ta1s : List Elements) (groups : List WholeGroup) → counted (members_of ta1s groups) ≡ length groups
counted_members [] groups = counted_groups groups
counted_members (x ∷ ta1s) groups = counted_members ta1s groups

pub groups_counted : (ms : List (InBody SegValue)) (w : Whole) → map (map_in_body elements_of) ms ≡ members_of w.ta1s w.groups
    → length (groups_in ms) ≡ length w.groups
groups_counted ms w same =
    counted_entries ms ∙ sym (counted_before ms) ∙ ap (λ (xs : List (InBody Elements)). counted xs) same ∙ counted_members w.ta1s w.groups
