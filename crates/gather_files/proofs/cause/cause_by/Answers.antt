use Rattle.std.proofs.Common.{◌∙◌, ◌≡◌, ℕ, List, [], ◌∷◌, Bool, true, false, refl, ap, sym}
use Rattle.std.specs.Prelude.{codes}
use Rattle.std.proofs.lemmas.Bool.{both_ways}
use Rattle.gather_files.specs.declared.cause.Cause.TheVariants as cause
use Rattle.std.specs.Prelude.{cond}
use Rattle.gather_files.specs.Causes.{begins, cause_by, header_cause, is_compressed, is_utf16}
use Rattle.gather_files.proofs.cause.cause_by.Goals as goal

named : (file : List ℕ) → is_compressed file ≡ false → is_utf16 file ≡ false → begins (codes "ISA") file ≡ true
    → header_cause file ≡ cause_by file
named [] c u i = absurd (both_ways (begins (codes "ISA") []) refl i)
named (b ∷ bs) c u i =
    sym (ap (λ (t : Bool). cond t cause.Compressed (cond (is_utf16 (b ∷ bs)) cause.Utf16
    (cond (begins (codes "ISA") (b ∷ bs)) (header_cause (b ∷ bs)) cause.NoHeader))) c
    ∙ ap (λ (t : Bool). cond t cause.Utf16 (cond (begins (codes "ISA") (b ∷ bs)) (header_cause (b ∷ bs)) cause.NoHeader)) u
    ∙ ap (λ (t : Bool). cond t (header_cause (b ∷ bs)) cause.NoHeader) i)

pub returns-then-begins_isa : goal.returns-then-begins_isa
returns-then-begins_isa c =
    c.header_cause.ensures ∙ named c.args.first.now (sym c.is_compressed.ensures ∙ c.if-is_compressed.false)
    (sym c.is_utf16.ensures ∙ c.if-is_utf16.false) (sym c.begins_isa.ensures.value ∙ c.if-begins_isa.true)
