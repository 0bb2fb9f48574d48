-- A body has the same structural faults.
use Rattle.std.proofs.Common.{◌≡◌, ℕ, ◌+◌, ◌⊎◌, inl, inr, List, [], ◌∷◌, ◌++◌, Option, Some, None, refl, sym, ap, ◌∙◌, subst}
use Rattle.std.specs.List.{Contains}
use Rattle.std.proofs.lemmas.List.Elements.{Contains-append_left, Contains-append_right, Contains-append_cases}
use Rattle.hub_kinds.specs.declared.fault.Fault.{Fault}
use Rattle.guide_tree.specs.Tree.{Trees}
use Rattle.guide_tree.specs.Words.{placing_of, IsPlacing, Has, IsStructureFault}
use Rattle.guide_law.specs.Law.{UsesAreCounted}
use Rattle.guide_law.proofs.ForAbove.{is_placing, triggers}
use Rattle.night_definition.specs.Segments.{Elements}
use Rattle.night_definition.specs.Places.{Place, Spot, Placed, placing}
use Rattle.night_definition.specs.Structure.{faults_in, stray_faults}
use Rattle.night_equal_set.specs.Placings.{place, places_of, PlacingsAreOne}
use Rattle.night_equal_set.specs.Strays.{StraysAreOne}
use Rattle.night_equal_structure.specs.Structures.{StructuresAreOne}
use Rattle.night_equal_structure.specs.UseFaults.{standings_of, UseFaultsAreOne}
use Rattle.night_equal_structure.proofs.Given.{given}
use Rattle.night_equal_structure.proofs.Standings.{given_of, here_root, here, past, pos, AreRising}
use Rattle.night_equal_structure.proofs.Rising.{placing_rises}
use Rattle.night_equal_structure.proofs.Uses.{place_use}
use Rattle.night_equal_structure.proofs.Found.{AreCounted}
use Rattle.night_equal_structure.proofs.Inside.{found, inside_to, to_inside}
use Rattle.night_equal_structure.proofs.Nodes.{leads_root}
use Rattle.night_equal_structure.proofs.Relations.{IsTreeFault, inside_old, old_inside}

given_places : (placed : List Placed) → given (given_of placed) ≡ places_of placed
given_places [] = refl
given_places (p ∷ placed) = by p.spot (given_places placed)
  where
    by : (o : Option Spot) → given (given_of placed) ≡ places_of placed
        → given (given_of (record p { spot = o } ∷ placed)) ≡ places_of (record p { spot = o } ∷ placed)
    by None more = ap (λ xs. None ∷ xs) more
    by (Some x) more = ap (λ xs. Some (place x.place) ∷ xs) more

-- nothing is after the whole guide
pos_end : (i end : ℕ) (g : List (Option Place)) → pos (past []) i g end ≡ end
pos_end i end [] = refl
pos_end i end (None ∷ g) = pos_end (i + 1) end g
pos_end i end (Some q ∷ g) = pos_end (i + 1) end g

root_found : (ts : Trees) (body : List Elements) (end : ℕ)
    → faults_in [] ts 0 (standings_of (placing ts None 2 body)) end ≡ found (given_of (placing ts None 2 body)) end [] [] ts 0
root_found ts body end =
    ap (λ xs. faults_in [] ts 0 xs end) (here_root ts None 2 body)
    ∙ ap (λ n. faults_in [] ts 0 (here [] 2 (given_of (placing ts None 2 body))) n)
    (sym (pos_end 2 end (given_of (placing ts None 2 body))))

are_counted : (ts : Trees) (body : List Elements) (g : List (Option Place)) → UsesAreCounted ts
    → IsPlacing ts None body (given g) → AreCounted g
are_counted ts body g counted pl pre k u v l h =
    subst (λ p. Has (given g) p) (sym (place_use pre k v))
    (counted body (given g) pl (place pre) k u v l (subst (λ p. Has (given g) p) (place_use pre k u) h))

pub use_faults_are : PlacingsAreOne → ((ts : Trees) → UsesAreCounted ts) → UseFaultsAreOne
use_faults_are same counted g body end f w = (
  (λ h. subst (λ xs. IsTreeFault g.nodes xs end f) places (inside_old g.nodes spots end g.nodes [] [] 0 f (leads_root g.nodes) tt
      (inside_to spots end uses rising g.nodes [] [] 0 f (subst (λ xs. Contains xs f) (root_found g.nodes body end) h)))),
  (λ h. subst (λ xs. Contains xs f) (sym (root_found g.nodes body end)) (to_inside spots end uses rising g.nodes [] [] 0 f
      (old_inside g.nodes spots end f (subst (λ xs. IsTreeFault g.nodes xs end f) (sym places) h)))),
)
  where
    spots : List (Option Place)
    spots = given_of (placing g.nodes None 2 body)

    places : given spots ≡ placing_of g.nodes body
    places = given_places (placing g.nodes None 2 body) ∙ same g.nodes 2 body

    placed : IsPlacing g.nodes None body (given spots)
    placed = subst (λ xs. IsPlacing g.nodes None body xs) (sym places) (is_placing g.nodes (triggers g w) body)

    rising : AreRising spots
    rising = (placing_rises g.nodes None body spots placed).1

    uses : AreCounted spots
    uses = are_counted g.nodes body spots (counted g.nodes) placed

pub structures_are : UseFaultsAreOne → StraysAreOne → StructuresAreOne
structures_are used strays g body end f w = (
  (λ h. to (Contains-append_cases lost inner f h)),
  (λ h. from h),
)
  where
    lost : List Fault
    lost = stray_faults g (placing g.nodes None 2 body)

    inner : List Fault
    inner = faults_in [] g.nodes 0 (standings_of (placing g.nodes None 2 body)) end

    to : Contains lost f ⊎ Contains inner f → IsStructureFault g body (placing_of g.nodes body) end f
    to (inl x) = inr (inr ((strays g body f).0 x))
    to (inr x) = parts ((used g body end f w).0 x)
      where
        parts : IsTreeFault g.nodes (placing_of g.nodes body) end f → IsStructureFault g body (placing_of g.nodes body) end f
        parts (inl y) = inl y
        parts (inr y) = inr (inl y)

    from : IsStructureFault g body (placing_of g.nodes body) end f → Contains (lost ++ inner) f
    from (inl y) = Contains-append_right lost inner f ((used g body end f w).1 (inl y))
    from (inr (inl y)) = Contains-append_right lost inner f ((used g body end f w).1 (inr y))
    from (inr (inr y)) = Contains-append_left lost inner f ((strays g body f).1 y)
