use Rattle.std.proofs.Common.{◌≡◌, ◌<◌, ◌≤◌, ◌∙◌, ◌+◌, ◌++◌, ◌∷◌, [], ℕ, List, Option, None}
use Rattle.std.proofs.Common.{length, map, take, get_or, sym, ap, subst, arith}
use Rattle.std.specs.Borrow.{Bor}
use Rattle.std.proofs.lemmas.List.{map-append, take_more}
use Rattle.gather_command.specs.Lines.{line_of_file}
use Rattle.gather_command.specs.Members.{AreGathered, no_total}
use Rattle.gather_command.specs.declared.total.Total.{Total}
use Rattle.gather_command.proofs.Members.{none_gathered, one_gathered}
use Rattle.gather_command.proofs.all.gather_all.Goals as goal

pub loop-path-init : goal.loop-path-init
loop-path-init g c =
    let was : Option (List ℕ) = g.W.Write.contents c.args.out.now in
    let nothing : no_total ≡ c.no_total-total.result = sym c.no_total-total.ensures in
    record {
      gathered = subst (λ (t : Total). AreGathered [] was was c.new-lines.result.items t) nothing
          (subst (λ (l : List ℕ). AreGathered [] was was l no_total) (sym c.new-lines.ensures.items) (none_gathered was));
      count = ap (λ (t : Total). t.taken + t.set_aside) (sym nothing);
      cut = subst (λ (t : Total). t.cut_off ≤ t.taken) nothing (omega arith);
      few = subst (λ (t : Total). t.bytes ≤ 4294967295) nothing (omega arith);
    }

pub loop-path-preserved : goal.loop-path-preserved
loop-path-preserved g c =
    let i : ℕ = c.loop-path.path-index in
    let was : Option (List ℕ) = g.W.Write.contents c.args.out.now in
    let now : Option (List ℕ) = g.W.Write.contents c.gather_path.new.out in
    let texts : List (Bor (List ℕ)) → List (List ℕ) = map (λ (p : Bor (List ℕ)). p.now) in
    let none : Bor (List ℕ) = record { ref_ptr = (0, 0); now = [] } in
    let path : Bor (List ℕ) = get_or c.args.paths.now i none in
    let lt : i < length c.args.paths.now = c.loop-path-test.true in
    let longer : texts (take (i + 1) c.args.paths.now) ≡ texts (take i c.args.paths.now) ++ path.now ∷ [] =
    ap texts (take_more c.args.paths.now i none lt) ∙ map-append (λ (p : Bor (List ℕ)). p.now) (take i c.args.paths.now) (path ∷ []) in
    let old : Total = c.loop-path.total in
    let gathered = c.in_ok-outcome.outcome in
    let lines : List ℕ = c.loop-path.lines.items ++ line_of_file path.now gathered old.bytes in
    record {
      gathered = subst (λ (ps : List (List ℕ)). AreGathered ps was now c.append_line.new.out.items c.with_file-total.result) (sym longer)
          (subst (λ (l : List ℕ). AreGathered (texts (take i c.args.paths.now) ++ path.now ∷ []) was now l c.with_file-total.result)
          (sym c.in_ok-append_line.ensures)
          (subst (λ (t : Total). AreGathered (texts (take i c.args.paths.now) ++ path.now ∷ []) was now lines t)
          (sym c.with_file-total.ensures.total)
          (one_gathered (texts (take i c.args.paths.now)) was (g.W.Write.contents c.loop-path.out) now c.loop-path.lines.items old path.now
          gathered None c.loop-path.invariant.gathered c.in_ok-outcome.ensures.gathered)));
      count = omega (arith, c.with_file-total.ensures.files, c.loop-path.invariant.count);
      cut = c.with_file-total.ensures.cut;
      few = c.with_file-total.ensures.bytes;
    }
