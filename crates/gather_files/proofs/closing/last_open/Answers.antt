use Rattle.std.proofs.Common.{◌≡◌, ◌+◌, ◌++◌, ◌∷◌, [], ◌≤◌, ℕ, List, Option, Some, length, sym, ap, subst, arith}
use Rattle.env_index.proofs.ForAbove.{head_within}
use Rattle.whole_interchanges.specs.Scouting.{Advances, IsInside, Stands}
use Rattle.whole_interchanges.specs.declared.scout.Advanced.{Advanced}
use Rattle.whole_interchanges.specs.declared.scout.Inside.{Inside}
use Rattle.gather_files.specs.Gathered.{HoldsInterchanges}
use Rattle.gather_files.specs.Closing.{IsClosedBy}
use Rattle.gather_files.specs.declared.closing.OpenInterchange.{OpenInterchange}
use Rattle.gather_files.proofs.Behind.{inside_own}
use Rattle.gather_files.proofs.Sealing.{segment_closed}
use Rattle.gather_files.proofs.closing.last_open.Goals as goal

some_is : (a b : OpenInterchange) → Some a ≡ Some b → a ≡ b
some_is a b is = cc

pub returns-in-Some : goal.returns-in-Some
returns-in-Some c = λ last is.
    (let file : List ℕ = c.args.file.now in
    let a : Advanced = c.from_the_front-count.result in
    let i : Inside = c.in-Some.inside in
    let advances : Advances file 0 a = c.from_the_front-count.ensures in
    let stands : IsInside file a.scout.at i = subst (λ (o : Option Inside). Stands file a.scout.at o) c.in-Some.is advances.stands in
    let found : OpenInterchange = record { terminator = i.delims.terminator; number = a.count + 1 } in
    subst (IsClosedBy file) (some_is found last is)
    (record {
      own = inside_own file a.scout.at i stands;
      holds = subst (HoldsInterchanges (file ++ i.delims.terminator ∷ [])) (ap (λ (n : ℕ). n + 1) (sym advances.count))
          (segment_closed file a.scout.at advances.whole i advances.chain stands (c.is_last_segment.ensures c.if-is_last_segment.true));
      few = (let n : a.count + 1 ≤ length file = omega (arith, advances.few, head_within file a.scout.at stands.head) in n);
    }))
