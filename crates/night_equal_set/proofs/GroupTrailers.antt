-- The codes of a group's trailer.
use Rattle.std.proofs.Common.{◌≡◌, ℕ, List, [], ◌∷◌, ◌++◌, Bool, true, false, not, Option, Some, None, refl, sym, ap, ◌∙◌}
use Rattle.hub_kinds.specs.declared.set_codes.GroupCode.{GroupCode}
use Rattle.hub_kinds.specs.declared.set_codes.GroupCode.TheVariants as ak905
use Rattle.ack_999.specs.declared.trailer.GroupTrailer.{GroupTrailer}
use Rattle.ack_999.specs.Group as old
use Rattle.night_definition.specs.Header.{number_of}
use Rattle.night_definition.specs.Segments.{Elements, element}
use Rattle.night_definition.specs.Setup.{is_number}
use Rattle.night_definition.specs.Sets.{code_if}
use Rattle.night_definition.specs.Answers.{are_same}
use Rattle.night_equal_set.specs.GroupTrailers.{codes_of_trailer, IsThatTrailer, GroupTrailersAreOne}

same_numbers : (m n : Option ℕ) → are_same m n ≡ old.are_same_number m n
same_numbers None None = refl
same_numbers None (Some b) = refl
same_numbers (Some a) None = refl
same_numbers (Some a) (Some b) = refl

counted : (m : Option ℕ) (n : ℕ) → is_number m n ≡ old.are_same_number m (Some n)
counted None n = refl
counted (Some a) n = refl

unless_is : (b : Bool) (c : GroupCode) → code_if (not b) c ≡ old.unless b c
unless_is true c = refl
unless_is false c = refl

-- by GE02 and GE01
abbrev by_texts : (control ge02 ge01 : List ℕ) → ℕ → List GroupCode
by_texts control ge02 ge01 sets =
    old.unless (old.are_same_number (number_of 9 ge02) (number_of 9 control)) ak905.ControlNumbersDiffer
    ++ old.unless (old.are_same_number (number_of 6 ge01) (Some sets)) ak905.SetCountWrong

pub group_trailers : GroupTrailersAreOne
group_trailers control None None sets is = refl
group_trailers control None (Some ge) sets is = absurd is
group_trailers control (Some t) None sets is = absurd is
group_trailers control (Some t) (Some ge) sets is =
    ap (λ b. code_if (not b) ak905.ControlNumbersDiffer ++ code_if
    (not (is_number (number_of 6 (element 1 ge)) sets)) ak905.SetCountWrong)
    (same_numbers (number_of 9 (element 2 ge)) (number_of 9 control))
    ∙ ap (λ xs. xs ++ code_if (not (is_number (number_of 6 (element 1 ge)) sets)) ak905.SetCountWrong)
    (unless_is (old.are_same_number (number_of 9 (element 2 ge)) (number_of 9 control)) ak905.ControlNumbersDiffer)
    ∙ ap (λ xs. old.unless (old.are_same_number (number_of 9 (element 2 ge)) (number_of 9 control)) ak905.ControlNumbersDiffer ++ xs)
    (ap (λ b. code_if (not b) ak905.SetCountWrong) (counted (number_of 6 (element 1 ge)) sets)
    ∙ unless_is (old.are_same_number (number_of 6 (element 1 ge)) (Some sets)) ak905.SetCountWrong)
    ∙ ap (λ a. by_texts control a (element 1 ge) sets) (sym is.0) ∙ ap (λ b. by_texts control t.control b sets) (sym is.1)
