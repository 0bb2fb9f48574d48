use Rattle.std.proofs.Common.{ap, ◌∙◌, ◌≡◌, ◌++◌, List, ℕ, [], ◌∷◌, append_assoc, arith}
use Rattle.std.specs.List.{flat_map}
use Rattle.std.specs.Prelude.{codes, decimal}
use Rattle.std.proofs.lemmas.List.Concat.{flat_map-append}
use Rattle.std.proofs.lemmas.Result.{on_ok_weaker}
use Rattle.moment.specs.Moment.{date_of, time_of}
use Rattle.x12_write.specs.GroupParts.{names_of, stamp_of}
use Rattle.x12_write.specs.Segment.{end_text, trimmed}
use Rattle.x12_write.proofs.Trimming.{trimmed-behind}
use Rattle.x12_write.proofs.group.append_group_header.Goals as goal

-- what three calls append, one after the other
appended : (s : ℕ) (out out1 out2 out3 id end : List ℕ) (xs ys zs all : List (List ℕ))
    → all ≡ xs ++ (ys ++ zs)
    → out1 ≡ out ++ (id ++ flat_map (λ x. s ∷ x) xs) → out2 ≡ out1 ++ flat_map (λ x. s ∷ x) ys
    → out3 ≡ out2 ++ (flat_map (λ x. s ∷ x) zs ++ end)
    → out3 ≡ out ++ (id ++ flat_map (λ x. s ∷ x) all ++ end)
appended s out out1 out2 out3 id end xs ys zs all is a b c = rw (c, b, a, is) (simp (flat_map-append, append_assoc))

pub returns-clause-text : goal.returns-clause-text
returns-clause-text c =
    let h = c.args.header.now in
    let at = c.args.at.now in
    let before : List (List ℕ) = h.functional_id ∷ h.sender ∷ h.receiver ∷ date_of at ∷ time_of at ∷ decimal h.control ∷ [] in
    on_ok_weaker c.append_end.result
    (λ written. appended c.args.delims.now.element c.args.out.now.items c.append_names.new.out.items c.append_stamp.new.out.items
    c.append_end.new.out.items (codes "GS") (c.args.delims.now.terminator ∷ []) (names_of h) (stamp_of at h.control)
    (trimmed (h.version ∷ [])) (trimmed (before ++ codes "X" ∷ h.version ∷ []))
    (trimmed-behind before (codes "X") (h.version ∷ []) (omega arith))
    c.in_ok-append_names.ensures.text c.in_ok-append_stamp.ensures.text
    (written ∙ ap (λ (v : List ℕ). c.append_stamp.new.out.items ++ end_text c.args.delims.now (v ∷ [])) c.bytes.ensures))
    c.append_end.ensures.text
