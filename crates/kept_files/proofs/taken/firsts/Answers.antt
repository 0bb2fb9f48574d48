use Rattle.std.proofs.Common.{◌≡◌, ◌∙◌, List, ℕ, ap, arith, rules, map}
use Rattle.std.specs.List.{dedup}
use Rattle.std.proofs.lemmas.Fn.{dedup_same}
use Rattle.std.proofs.lemmas.List.{take_all}
use Rattle.kept_files.specs.Taken.{is_of_one}
use Rattle.kept_files.proofs.Cutting.{read_dedup}
use Rattle.kept_files.proofs.taken.firsts.Goals as goal
use denote.Ref.{Bor}

pub returns : goal.returns
returns c =
    let read : Bor (List ℕ) → List ℕ = λ key. key.now in
    let kept : c.dedup_by.new.self.items ≡ dedup (λ x y. is_of_one x.now y.now) c.loop-i.keys.items =
    dedup_same _ (λ x y. is_of_one x.now y.now) _ (λ x y b f' x' y' k. search rules) _ _ c.dedup_by.ensures.filtered in
    ap (map read) kept ∙ read_dedup read is_of_one c.loop-i.keys.items
    ∙ ap (dedup is_of_one) (c.loop-i.invariant ∙ take_all c.loop-i.i c.args.delivered.now (omega (arith)))
