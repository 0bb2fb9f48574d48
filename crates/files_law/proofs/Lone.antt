-- X12.5, interchange: one interchange that is written, alone.
use Rattle.std.proofs.Common.{◌≡◌, ℕ, ◌+◌, List, [], ◌∷◌, length, sym, ap, subst, ◌∙◌, append-nil, arith}
use Rattle.std.proofs.lemmas.List.Elements.{All-cons, All-nil}
use Rattle.env_index.specs.Words.{Chain, Extent, IsLone, count_outside, extents_of}
use Rattle.x12_write.specs.Group.{texts_in_row}
use Rattle.files_law.specs.Files.{HasInterchanges}
use Rattle.files_law.specs.Written.{AreClear, IsWritten, Written, texts_of, written_text}
use Rattle.files_law.proofs.Interchanges.{interchanges_read}

pub written_alone : (w : Written) → IsWritten w → AreClear (written_text w) 0 (w ∷ [])
    → IsLone (written_text w) (record { start = 0; end = length (written_text w) })
written_alone w written clear =
    let text : List ℕ = written_text w in
    let x : Extent = record { start = 0; end = length text } in
    let same : texts_in_row (texts_of (w ∷ [])) ≡ text = append-nil text in
    let read : HasInterchanges (text ∷ []) text =
    subst (λ (file : List ℕ). HasInterchanges (text ∷ []) file) same
    (interchanges_read (w ∷ []) (All-cons IsWritten w [] written (All-nil IsWritten))
    (subst (λ (file : List ℕ). AreClear file 0 (w ∷ [])) (sym same) clear)) in
    let whole : 0 + length text ≡ length text = omega arith in
    let extents : extents_of read.index.entries ≡ x ∷ [] =
    read.extents ∙ ap (λ (n : ℕ). (let y : Extent = record { start = 0; end = n } in y) ∷ []) whole in
    record {
      chain = subst (Chain text) extents read.is.chain;
      inside = ap (count_outside text 0) (sym extents) ∙ sym read.is.outside ∙ read.inside;
    }
