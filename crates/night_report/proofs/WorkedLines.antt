-- The lines of a report, on examples.
use Rattle.std.specs.Prelude.{◌≡◌, [], ◌∷◌, codes, refl, Some, None}
use Rattle.std.specs.Fmt.{digits}
use Rattle.hub_kinds.specs.declared.interchange.InterchangeFault.TheVariants as fault
use Rattle.hub_kinds.specs.declared.set_codes.GroupVerdict.TheVariants as group
use Rattle.night_report.specs.Lines.{control_shown, interchange_line, sent_line, ta1_line, fa_line, answered_line, held_line}
use Rattle.night_report.specs.Lines.{total_line}

accepted_interchange :
    interchange_line 2 220 (codes "ACME") (codes "000000007") None
    ≡ codes "interchange 2 at 220 from ACME control 000000007 accepted\n"
unfolding digits
accepted_interchange = refl

refused_interchange :
    interchange_line 3 456 (codes "?") (codes "?") (Some fault.Duplicate)
    ≡ codes "interchange 3 at 456 from ? control ? refused 9\n"
unfolding digits
refused_interchange = refl

no_ta1 : ta1_line 0 ≡ []
no_ta1 = refl

one_ta1 : ta1_line 1 ≡ codes "ta1 1\n"
unfolding digits
one_ta1 = refl

sent_ta1 : sent_line (codes "R") (codes "023") ≡ codes "ta1 sent R 023\n"
sent_ta1 = refl

listed_group : fa_line (codes "5") 1 ≡ codes "group FA 5 listed sets 1\n"
unfolding digits
listed_group = refl

accepted_group : answered_line (codes "PO") (codes "12") group.Accepted 3 2 ≡ codes "group PO 12 A sets 3 accepted 2\n"
unfolding digits
accepted_group = refl

group_with_errors : answered_line (codes "PO") (codes "12") group.AcceptedWithErrors 1 1 ≡ codes "group PO 12 E sets 1 accepted 1\n"
unfolding digits
group_with_errors = refl

partly_accepted_group : answered_line (codes "PO") (codes "12") group.PartlyAccepted 2 1 ≡ codes "group PO 12 P sets 2 accepted 1\n"
unfolding digits
partly_accepted_group = refl

rejected_group : answered_line (codes "IN") (codes "6") group.Rejected 1 0 ≡ codes "group IN 6 R sets 1 accepted 0\n"
unfolding digits
rejected_group = refl

held_set : held_line 12 (codes "delimiter" ∷ codes "BOLT" ∷ []) ≡ codes "held set 12 delimiter BOLT\n"
unfolding digits
held_set = refl

totals :
    total_line (record { interchanges = 3; refused = 2; groups = 1; sets = 40; accepted = 5; held = 6 }) 7
    ≡ codes "total interchanges 3 refused 2 groups 1 sets 40 accepted 5 held 6 outside 7\n"
unfolding digits
totals = refl

-- ISA13 stands at 90 to 98 of a header
control :
    control_shown (codes "ISA*00*          *00*          *01*ACME           *ZZ*HUB            *260228*0900*^*00501*000000007*0*P*>~")
    ≡ codes "000000007"
control = refl

control_with_a_space :
    control_shown (codes "ISA*00*          *00*          *01*ACME           *ZZ*HUB            *260228*0900*^*00501*00000007 *0*P*>~")
    ≡ codes "?"
control_with_a_space = refl
