use Rattle.std.proofs.Common.{ap, sym, ◌∙◌, ◌≡◌, ◌++◌, List, ℕ, [], ◌∷◌, append_assoc, append-nil}
use Rattle.std.specs.List.{flat_map}
use Rattle.std.specs.Prelude.{codes}
use Rattle.x12_write.specs.Number.{set_number}
use Rattle.x12_write.specs.Segment.{before_rest}
use Rattle.x12_write.proofs.ForAbove.{before_rest-some}
use Rattle.ack_999.proofs.report.append_set_header.Goals as goal

-- two elements and what stands after them, without a break
in_row : (s : ℕ) (number version end : List ℕ)
    → s ∷ (number ++ (s ∷ (version ++ end))) ≡ flat_map (λ x. s ∷ x) (before_rest number (version ∷ [])) ++ end
in_row s number version end =
    rw (before_rest-some number version [])
    (sym (ap (λ (t : List ℕ). s ∷ t)
    (append_assoc number (s ∷ (version ++ [])) end ∙ ap (λ (t : List ℕ). number ++ (s ∷ t)) (append_assoc version [] end))))

-- what three calls append, one after the other
appended : (s t : ℕ) (out out1 out2 out3 number version : List ℕ)
    → out1 ≡ out ++ (83 ∷ 84 ∷ s ∷ 57 ∷ 57 ∷ 57 ∷ s ∷ []) → out2 ≡ out1 ++ number → out3 ≡ out2 ++ (s ∷ (version ++ t ∷ []))
    → out3 ≡ out ++ ((83 ∷ 84 ∷ s ∷ 57 ∷ 57 ∷ 57 ∷ (flat_map (λ x. s ∷ x) (before_rest number (version ∷ [])) ++ t ∷ [])) ++ [])
appended s t out out1 out2 out3 number version a b c =
    let id : List ℕ = 83 ∷ 84 ∷ s ∷ 57 ∷ 57 ∷ 57 ∷ s ∷ [] in
    let end : List ℕ = s ∷ (version ++ t ∷ []) in
    let all : List ℕ = 83 ∷ 84 ∷ s ∷ 57 ∷ 57 ∷ 57 ∷ (flat_map (λ x. s ∷ x) (before_rest number (version ∷ [])) ++ t ∷ []) in
    c ∙ ap (λ (x : List ℕ). x ++ end) (b ∙ ap (λ (x : List ℕ). x ++ number) a)
    ∙ append_assoc (out ++ id) number end ∙ append_assoc out id (number ++ end)
    ∙ ap (λ (x : List ℕ). out ++ (83 ∷ 84 ∷ s ∷ 57 ∷ 57 ∷ 57 ∷ x)) (in_row s number version (t ∷ []))
    ∙ ap (λ (x : List ℕ). out ++ x) (sym (append-nil all))

pub returns-clause-text : goal.returns-clause-text
returns-clause-text c =
    appended c.args.delims.now.element c.args.delims.now.terminator c.args.out.now.items c.extend_from_slice.new.self.items
    c.extend_from_slice-2.new.self.items c.extend_from_slice-3.new.self.items (set_number c.args.n) (codes "005010X231")
    c.in_ok-extend_from_slice.ensures.items
    (c.in_ok-extend_from_slice-2.ensures.items
    ∙ ap (λ (x : List ℕ). c.extend_from_slice.new.self.items ++ x) (c.bytes.ensures ∙ c.of_set.ensures))
    c.in_ok-extend_from_slice-3.ensures.items
