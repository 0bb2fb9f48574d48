-- The codes of groups, worked: these and no others, in their order.
use Rattle.std.specs.Prelude.{ℕ, ◌≡◌, refl, true, false, List, [], ◌∷◌, Some, None, codes}
use Rattle.hub_kinds.specs.declared.set_codes.GroupCode.TheVariants as code
use Rattle.ack_999.specs.declared.support.GroupSupport.TheVariants.{Served, NotServed, VersionNotServed}
use Rattle.ack_999.specs.declared.trailer.GroupTrailer.{GroupTrailer}
use Rattle.ack_999.specs.Group.{group_codes_of, support_codes, earlier_group_codes}

abbrev trailer : List ℕ → List ℕ → GroupTrailer
trailer listed control = record { listed = listed; control = control }

served : support_codes Served ≡ []
served = refl

not_served : support_codes NotServed ≡ code.NotSupported ∷ []
not_served = refl

version_not_served : support_codes VersionNotServed ≡ code.VersionNotSupported ∷ []
version_not_served = refl

earlier_group : earlier_group_codes true ≡ code.ControlNumberNotUnique ∷ []
earlier_group = refl

first_group : earlier_group_codes false ≡ []
first_group = refl

-- numbers are compared as numbers
sound : group_codes_of Served (codes "12") (Some (trailer (codes "002") (codes "012"))) 2 false ≡ []
sound = refl

without_trailer : group_codes_of NotServed (codes "12") None 2 true
    ≡ code.NotSupported ∷ code.TrailerMissing ∷ code.ControlNumberNotUnique ∷ []
without_trailer = refl

two_wrong : group_codes_of VersionNotServed (codes "13") (Some (trailer (codes "2") (codes "12"))) 3 true
    ≡ code.VersionNotSupported ∷ code.ControlNumbersDiffer ∷ code.SetCountWrong ∷ code.ControlNumberNotUnique ∷ []
two_wrong = refl
