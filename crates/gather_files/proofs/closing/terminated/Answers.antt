use Rattle.std.proofs.Common.{◌≡◌, ◌∙◌, ◌++◌, ◌∷◌, [], ◌≤◌, ℕ, List, length, sym, ap, subst, arith, inr}
use Rattle.std.proofs.lemmas.List.{length-append}
use Rattle.env_index.proofs.ForAbove.{head_within}
use Rattle.night_equal.proofs.ForAbove.{heads}
use Rattle.gather_files.specs.Gathered.{HoldsInterchanges}
use Rattle.gather_files.specs.Closing.{PutsBehind}
use Rattle.gather_files.specs.EndsByLayers.{EndsByLayers}
use Rattle.gather_files.proofs.Behind.{nothing_behind, one_more}
use Rattle.gather_files.proofs.closing.terminated.Goals as goal

pub returns : goal.returns
returns c = λ held.
    (let file : List ℕ = c.args.file.now in
    let t : ℕ = c.args.last.terminator in
    let bytes : List ℕ = c.push.new.self.items in
    let is : bytes ≡ file ++ t ∷ [] = c.in_ok-push.ensures.items ∙ ap (λ (l : List ℕ). l ++ t ∷ []) c.in_ok-bytes.ensures.items in
    let puts : PutsBehind file bytes 1 =
    subst (λ (l : List ℕ). PutsBehind file l 1) (sym is) (one_more file file 0 t (nothing_behind file) (inr c.requires.own)) in
    let start : ℕ = c.requires.own.0 in
    let header : 106 ≤ length file = omega (arith, head_within file start (sym (heads file start) ∙ c.requires.own.1)) in
    let long : c.args.last.number ≤ length (file ++ t ∷ []) = omega (arith, c.requires.few, length-append file (t ∷ [])) in
    record {
      holds = subst (λ (l : List ℕ). HoldsInterchanges l c.args.last.number) (sym is) c.requires.holds;
      some = subst (λ (l : List ℕ). c.args.last.number ≤ length l) (sym is) long;
      ends = subst (λ (l : List ℕ). EndsByLayers held l 1 c.end_after-end.result) c.as_slice.ensures.value
          (c.end_after-end.ensures.ends held 1 (omega arith));
      whole = λ w. absurd (c.end_after-end.ensures.put w);
      few = omega arith;
      puts = inr (record { header = header; some = omega arith; puts = puts });
    })
