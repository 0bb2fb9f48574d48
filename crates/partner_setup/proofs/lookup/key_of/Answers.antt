use Rattle.std.proofs.Common.{◌≡◌, ◌+◌, ◌<◌, ◌≤◌, ◌++◌, [], ◌∷◌, ℕ, List, length, get_or, take, set, sym, ap, ◌∙◌, append_assoc, arith}
use Rattle.std.proofs.Common.{length-set}
use Rattle.std.proofs.lemmas.List.{take_more, take_more_set}
use Rattle.partner_setup.proofs.lookup.key_of.Goals as goal

pub loop-i-preserved : goal.loop-i-preserved
loop-i-preserved c =
    let i : ℕ = c.loop-i.i in
    let key : List ℕ = c.loop-i.key in
    let id : List ℕ = c.args.id.now in
    let b : ℕ = get_or id i 0 in
    let len : length key ≡ 17 = c.loop-i.invariant.len in
    let test = c.loop-i-test.true in
    let short : length id ≤ 15 = c.requires.id in
    let within : i + 2 < length key = omega (arith, len, test, short) in
    record {
      written = ap (λ (n : ℕ). take n (set key (i + 2) b)) (let e : 2 + (i + 1) ≡ (i + 2) + 1 = omega arith in e)
          ∙ take_more_set key (i + 2) b within
          ∙ ap (λ (n : ℕ). take n key ++ b ∷ []) (let e : i + 2 ≡ 2 + i = omega arith in e)
          ∙ ap (λ (l : List ℕ). l ++ b ∷ []) c.loop-i.invariant.written
          ∙ append_assoc c.args.qualifier.now (take i id) (b ∷ [])
          ∙ ap (λ (l : List ℕ). c.args.qualifier.now ++ l) (sym (take_more id i 0 test));
      len = length-set key (i + 2) b ∙ len;
    }
