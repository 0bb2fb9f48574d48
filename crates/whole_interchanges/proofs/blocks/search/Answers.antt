use Rattle.std.proofs.Common.{◌≡◌, ◌<◌, ◌/◌, ℕ, List, length, inl, inr, subst, sym, rules}
use Rattle.std.proofs.lemmas.List.Elements.{All-get_or}
use Rattle.std.specs.Prelude.{codes}
use Rattle.whole_interchanges.specs.Passing.{AreSearched, IsFree}
use Rattle.whole_interchanges.specs.declared.passing.Stretch.{Stretch}
use Rattle.whole_interchanges.proofs.blocks.search.Goals as goal

pub search_to-requires-in-Some-clause-searched : goal.search_to-requires-in-Some-clause-searched
search_to-requires-in-Some-clause-searched c =
    let read : List ℕ = c.args.read.now in
    let place : ℕ = c.saturating_sub.result / 4096 in
    let within : place < length c.args.blocks.list.now = search rules in
    let there : AreSearched read c.in-Some.block.now =
    subst (AreSearched read) (sym c.in-Some.ensures.lookup.1) (All-get_or (AreSearched read) c.args.blocks.list.now place
    c.in-Some.block.now within c.requires.blocks) in
    record {
      header = elim c.nearer-header.ensures [
        | inl is ↦ subst (λ (s : Stretch). IsFree read (codes "ISA") s) (sym is) c.requires.searched.header
        | inr is ↦ subst (λ (s : Stretch). IsFree read (codes "ISA") s) (sym is) there.header
      ];
      trailer = elim c.nearer-trailer.ensures [
        | inl is ↦ subst (λ (s : Stretch). IsFree read (codes "IEA") s) (sym is) c.requires.searched.trailer
        | inr is ↦ subst (λ (s : Stretch). IsFree read (codes "IEA") s) (sym is) there.trailer
      ];
    }
