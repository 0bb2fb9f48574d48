-- Own: what a warning says of a setup that is accepted.
use Rattle.std.specs.Prelude.{ℕ, ◌+◌, List, [], ◌∷◌, ◌++◌, if◌then◌else◌}
use Rattle.hub_kinds.specs.Words.{contains_text}
use Rattle.partner_setup.specs.declared.rows.PartnerRow.{PartnerRow}
use Rattle.partner_setup.specs.declared.rows.RouteRow.{RouteRow}
use Rattle.setup_errors.specs.DoubtfulPartners.{delimiter_warnings}
use Rattle.setup_errors.specs.NamedAlike.{alike_warnings}
use Rattle.setup_errors.specs.Sentences.{filled, in_place}
use Rattle.setup_errors.specs.declared.kept_rows.KeptRows.{KeptRows}
use Rattle.setup_errors.specs.declared.words.TheConstants as say

-- all that rows name
abbrev pub names_in : {A : Type 0} → (named : A → List (List ℕ)) → List A → List (List ℕ)
names_in named [] = []
names_in named (r ∷ rs) = named r ++ names_in named rs

abbrev pub guides_of : PartnerRow → List (List ℕ)
guides_of p = p.guides

abbrev pub receivers_of : RouteRow → List (List ℕ)
receivers_of r = r.to

abbrev pub guide_warning : (named : List (List ℕ)) → (guide : List ℕ) → List (List ℕ)
guide_warning named guide =
    if contains_text named guide then [] else filled say.UNNAMED_GUIDE.now (guide ∷ []) ∷ []

abbrev pub guide_warnings : (named guides : List (List ℕ)) → List (List ℕ)
guide_warnings named [] = []
guide_warnings named (g ∷ gs) = guide_warning named g ++ guide_warnings named gs

-- a partner by its number, from 1 on: one that receives nothing, or else its delimiters
abbrev pub partner_warning : (reached : List (List ℕ)) → (number : ℕ) → PartnerRow → List (List ℕ)
partner_warning reached number p =
    if contains_text reached p.name then delimiter_warnings (in_place say.PARTNER.now number p.name) p
    else (in_place say.PARTNER.now number p.name ++ say.NO_ROUTE.now) ∷ []

abbrev pub partner_warnings : (reached : List (List ℕ)) → (number : ℕ) → List PartnerRow → List (List ℕ)
partner_warnings reached number [] = []
partner_warnings reached number (p ∷ ps) = partner_warning reached number p ++ partner_warnings reached (number + 1) ps

-- the partners whose name differs from an earlier one's in case alone; those that receive nothing, or by delimiters that texts often hold;
-- and then the guides that nothing is judged by
abbrev pub setup_warnings : KeptRows → List (List ℕ)
setup_warnings kept =
    alike_warnings kept.rows.partners
    ++ (partner_warnings (names_in receivers_of kept.rows.routes) 1 kept.rows.partners
    ++ guide_warnings (names_in guides_of kept.rows.partners) kept.guides)
