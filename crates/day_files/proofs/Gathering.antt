-- Bytes that are gathered are what was read of a file.
use Rattle.std.proofs.Common.{◌≡◌, ◌∙◌, ℕ, Bool, false, List, [], Option, Some, ap, subst, sym}
use Rattle.night_definition.specs.Header.{is_head}
use Rattle.gather_command.specs.Members.{IsRead}
use Rattle.gather_files.specs.Causes.{cause_of}
use Rattle.gather_files.specs.Gathering.{GoesIn, IsGathered}
use Rattle.gather_files.specs.Lead.{led}
use Rattle.gather_files.specs.declared.gather.Gathered.{Gathered}
use Rattle.gather_files.specs.declared.gather.Gathered.TheVariants as gathered

put_first : (bytes closed : List ℕ) (g : Gathered) → IsGathered (Some bytes) (Some []) (Some closed) g → IsRead g bytes closed
put_first bytes closed (gathered.Taken taken) by = subst (λ (l : List ℕ). GoesIn (Some bytes) l taken) (sym by.written) by.goes_in
put_first bytes closed (gathered.SetAside cause) by =
    let none : closed ≡ [] = cc by.nothing in (
      subst (λ (file : List ℕ). is_head (led file) 0 ≡ false) (sym by.told_all) by.no_header,
      by.named ∙ ap (λ (file : List ℕ). cause_of (led file)) (sym by.told_all),
      none,
    )

pub read_by : (left : Option (List ℕ)) (was : List ℕ) (bytes closed : List ℕ) (g : Gathered) → left ≡ Some bytes → was ≡ []
    → IsGathered left (Some was) (Some closed) g → IsRead g bytes closed
read_by left was bytes closed g left_is was_is by =
    put_first bytes closed g
    (subst (λ (l : List ℕ). IsGathered (Some bytes) (Some l) (Some closed) g) was_is
    (subst (λ (o : Option (List ℕ)). IsGathered o (Some was) (Some closed) g) left_is by))
