-- The computed placing is a placing.
use Rattle.std.proofs.Common.{◌≡◌, inl, inr, Bool, true, false, List, [], ◌∷◌, Option, Some, None, refl, ap, sym, subst}
use Rattle.std.proofs.Common.{◌∙◌, if◌then◌else◌, option_map}
use Rattle.guide_tree.specs.Words.{Trees, GuideTree, or_else, Segment, fits, Place, MayCome, FitsAt, IsPlacing, Candidate, nexts}
use Rattle.guide_tree.specs.Words.{first_fit, next_place_of, placing_from, placing_of}
use Rattle.guide_law.proofs.Residual.{AllTriggered}
use Rattle.guide_law.specs.Law.{NextsAreExact, IsPlacedOneWay, IsOnlyPlacing}
use Rattle.guide_law.proofs.Among.{in_contains, contains_in}
use Rattle.guide_law.proofs.Starting.{candidate}
use Rattle.guide_law.proofs.Coming.{nexts_come, come_in_nexts}
use Rattle.guide_tree.proofs.ForAbove.{In}

pub exact : (ts : Trees) → AllTriggered ts → NextsAreExact ts
exact ts t last c = (
  (λ h. nexts_come ts last c (contains_in (nexts ts last) c h)),
  (λ h. in_contains (nexts ts last) c (come_in_nexts ts last c t h.0 h.1)),
)

-- what is found stands in the list and is fitted; where nothing is found, nothing in it is
abbrev pub Found : Segment → List Candidate → Option Candidate → Type 0
Found s cs None = (c : Candidate) → In cs c → fits c.slot s ≡ false
Found s cs (Some c) = In cs c × (fits c.slot s ≡ true)

none_more : (s : Segment) (d : Candidate) (cs : List Candidate) → fits d.slot s ≡ false
    → ((c : Candidate) → In cs c → fits c.slot s ≡ false) → (c : Candidate) → In (d ∷ cs) c → fits c.slot s ≡ false
none_more s d cs e h c (inl x) = ap (λ (y : Candidate). fits y.slot s) (sym x) ∙ e
none_more s d cs e h c (inr x) = h c x

found_more : (s : Segment) (d : Candidate) (cs : List Candidate) (x : Option Candidate) → fits d.slot s ≡ false
    → Found s cs x → Found s (d ∷ cs) x
found_more s d cs None e h = none_more s d cs e h
found_more s d cs (Some c) e h = (inr h.0, h.1)

found_here : (s : Segment) (d : Candidate) (cs : List Candidate) (b : Bool) → fits d.slot s ≡ b
    → Found s cs (first_fit s cs) → Found s (d ∷ cs) (if b then Some d else first_fit s cs)
found_here s d cs true e h = (inl refl, e)
found_here s d cs false e h = found_more s d cs (first_fit s cs) e h

pub first_found : (s : Segment) (cs : List Candidate) → Found s cs (first_fit s cs)
first_found s [] = λ c h. absurd h
first_found s (d ∷ cs) = found_here s d cs (fits d.slot s) refl (first_found s cs)

no_fit : (ts : Trees) (last : Option Place) (s : Segment) (q : Place) → AllTriggered ts → Found s (nexts ts last) None → MayCome last q
    → FitsAt ts q s → ⊥
no_fit ts last s q t h m f =
    let e : fits f.0 s ≡ false = h (candidate q f.0) (come_in_nexts ts last (candidate q f.0) t m f.1) in
    let w : true ≡ false = sym f.2 ∙ e in cc

placed : (ts : Trees) (last : Option Place) (s : Segment) (body : List Segment) (x : Option Candidate)
    (rest : List (Option Place)) → AllTriggered ts → Found s (nexts ts last) x
    → IsPlacing ts (or_else (option_map (λ c. c.place) x) last) body rest
    → IsPlacing ts last (s ∷ body) (option_map (λ c. c.place) x ∷ rest)
placed ts last s body None rest t h pl = ((λ q m f. no_fit ts last s q t h m f), pl)
placed ts last s body (Some c) rest t h pl =
    let d = nexts_come ts last c h.0 in (d.0, (c.slot, d.1, h.1), pl)

pub placing_goes : (ts : Trees) (last : Option Place) (body : List Segment) → AllTriggered ts
    → IsPlacing ts last body (placing_from ts last body)
placing_goes ts last [] t = tt
placing_goes ts last (s ∷ body) t =
    placed ts last s body (first_fit s (nexts ts last)) (placing_from ts (or_else (next_place_of ts last s) last) body) t
    (first_found s (nexts ts last)) (placing_goes ts (or_else (next_place_of ts last s) last) body t)

pub is_placing : (ts : Trees) → AllTriggered ts → (body : List Segment) → IsPlacing ts None body (placing_of ts body)
is_placing ts t body = placing_goes ts None body t

pub only_placing : (g : GuideTree) → AllTriggered g.nodes → IsPlacedOneWay g → IsOnlyPlacing g
only_placing g t one body given = (
  (λ pl. one body given (placing_of g.nodes body) pl (is_placing g.nodes t body)),
  (λ e. subst (λ (x : List (Option Place)). IsPlacing g.nodes None body x) (sym e) (is_placing g.nodes t body)),
)
