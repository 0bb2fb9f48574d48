use Rattle.std.proofs.Common.{◌≡◌, ◌<◌, ◌+◌, ◌∙◌, ◌++◌, ◌∷◌, [], ℕ, List, ap, append_assoc, drop, get_or, length, map, subst, sym}
use Rattle.std.specs.Borrow.{Bor}
use Rattle.std.proofs.lemmas.List.{drop_more, map-append}
use Rattle.explain_command.specs.Reports.{AreTold, paths_of}
use Rattle.explain_command.specs.declared.files.FileTold.{FileTold}
use Rattle.explain_command.proofs.Telling.{one_more}
use Rattle.explain_command.proofs.files.tell_files.Goals as goal

pub loop-path-preserved : goal.loop-path-preserved
loop-path-preserved g c =
    let i : ℕ = c.loop-path.path-index in
    let ps : List (Bor (List ℕ)) = c.args.paths.now in
    let texts : List (Bor (List ℕ)) → List (List ℕ) = map (λ (p : Bor (List ℕ)). p.now) in
    let none : Bor (List ℕ) = record { ref_ptr = (0, 0); now = [] } in
    let left : List (List ℕ) = texts (drop (i + 1) ps) in
    let lt : i < length ps = c.loop-path-test.true in
    let here : texts (drop i ps) ≡ (get_or ps i none).now ∷ left = ap texts (drop_more ps i none lt) in
    let old : List FileTold = c.loop-path.files.items in
    let file : FileTold = c.in_ok-told_at.field-0 in
    record {
      told =
          subst (AreTold c.args.names.now) (sym c.in_ok-push.ensures.items)
          (one_more c.args.names.now old file c.loop-path.invariant.told c.in_ok-told_at.ensures.told);
      paths =
          ap (λ (fs : List FileTold). paths_of fs ++ left) c.in_ok-push.ensures.items
          ∙ ap (λ (ns : List (List ℕ)). ns ++ left) (map-append (λ (f : FileTold). f.path.now) old (file ∷ []))
          ∙ append_assoc (paths_of old) (file.path.now ∷ []) left
          ∙ ap (λ (n : List ℕ). paths_of old ++ n ∷ left) c.in_ok-told_at.ensures.path
          ∙ ap (λ (ns : List (List ℕ)). paths_of old ++ ns) (sym here)
          ∙ c.loop-path.invariant.paths;
    }
