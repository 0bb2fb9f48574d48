-- Whether nights were clean, on examples of reports and their parts.
use Rattle.std.specs.Prelude.{◌≡◌, ◌++◌, codes, refl, true, false}
use Rattle.night_report.specs.Clean.{is_clean}

-- a night without interchanges
empty_night : is_clean (codes "total interchanges 0 refused 0 groups 0 sets 0 accepted 0 held 0 outside 0\n") ≡ true
empty_night = refl

accepted_group :
    is_clean (codes "interchange 1 at 0 from ACME control 000000007 accepted\n"
    ++ codes "group PO 12 A sets 1 accepted 1\n"
    ++ codes "total interchanges 1 refused 0 groups 1 sets 1 accepted 1 held 0 outside 0\n") ≡ true
accepted_group = refl

group_with_errors :
    is_clean (codes "interchange 1 at 0 from ACME control 000000007 accepted\n"
    ++ codes "group PO 12 E sets 1 accepted 1\n"
    ++ codes "total interchanges 1 refused 0 groups 1 sets 1 accepted 1 held 0 outside 0\n") ≡ true
group_with_errors = refl

partly_accepted_group :
    is_clean (codes "interchange 1 at 0 from ACME control 000000007 accepted\n"
    ++ codes "group PO 12 P sets 1 accepted 1\n"
    ++ codes "total interchanges 1 refused 0 groups 1 sets 1 accepted 1 held 0 outside 0\n") ≡ false
partly_accepted_group = refl

rejected_group :
    is_clean (codes "interchange 1 at 0 from ACME control 000000007 accepted\n"
    ++ codes "group PO 12 R sets 1 accepted 1\n"
    ++ codes "total interchanges 1 refused 0 groups 1 sets 1 accepted 1 held 0 outside 0\n") ≡ false
rejected_group = refl

-- a group of acknowledgments has no verdict
listed_group :
    is_clean (codes "interchange 1 at 0 from ACME control 000000007 accepted\n"
    ++ codes "group FA 5 listed sets 1\n"
    ++ codes "total interchanges 1 refused 0 groups 1 sets 1 accepted 1 held 0 outside 0\n") ≡ true
listed_group = refl

refused_interchange :
    is_clean (codes "interchange 1 at 0 from ACME control 000000007 refused 1\n"
    ++ codes "total interchanges 1 refused 0 groups 1 sets 1 accepted 1 held 0 outside 0\n") ≡ false
refused_interchange = refl

held_set :
    is_clean (codes "interchange 1 at 0 from ACME control 000000007 accepted\n"
    ++ codes "group PO 12 A sets 1 accepted 1\n"
    ++ codes "held set 1 route\n"
    ++ codes "total interchanges 1 refused 0 groups 1 sets 1 accepted 1 held 0 outside 0\n") ≡ false
held_set = refl

three_outside :
    is_clean (codes "interchange 1 at 0 from ACME control 000000007 accepted\n"
    ++ codes "group PO 12 A sets 1 accepted 1\n"
    ++ codes "total interchanges 1 refused 0 groups 1 sets 1 accepted 1 held 0 outside 3\n") ≡ false
three_outside = refl

ten_outside :
    is_clean (codes "interchange 1 at 0 from ACME control 000000007 accepted\n"
    ++ codes "group PO 12 A sets 1 accepted 1\n"
    ++ codes "total interchanges 1 refused 0 groups 1 sets 1 accepted 1 held 0 outside 10\n") ≡ false
ten_outside = refl

-- a word in another place says nothing
partner_named_held :
    is_clean (codes "interchange 1 at 0 from held control 000000007 accepted\n"
    ++ codes "group PO 12 A sets 1 accepted 1\n"
    ++ codes "total interchanges 1 refused 0 groups 1 sets 1 accepted 1 held 0 outside 0\n") ≡ true
partner_named_held = refl

partner_named_refused :
    is_clean (codes "interchange 1 at 0 from refused control 000000007 accepted\n"
    ++ codes "group PO 12 A sets 1 accepted 1\n"
    ++ codes "total interchanges 1 refused 0 groups 1 sets 1 accepted 1 held 0 outside 0\n") ≡ true
partner_named_refused = refl

partner_named_group :
    is_clean (codes "interchange 1 at 0 from group control 000000007 accepted\n"
    ++ codes "group PO 12 A sets 1 accepted 1\n"
    ++ codes "total interchanges 1 refused 0 groups 1 sets 1 accepted 1 held 0 outside 0\n") ≡ true
partner_named_group = refl

partner_named_P :
    is_clean (codes "interchange 1 at 0 from P control 000000007 accepted\n"
    ++ codes "group P R A sets 1 accepted 1\n"
    ++ codes "total interchanges 1 refused 0 groups 1 sets 1 accepted 1 held 0 outside 0\n") ≡ true
partner_named_P = refl

word_that_begins_so :
    is_clean (codes "heldback set 1 route\n"
    ++ codes "total interchanges 1 refused 0 groups 1 sets 1 accepted 1 held 0 outside 0\n") ≡ true
word_that_begins_so = refl

-- an empty word in front
two_spaces : is_clean (codes " held set 1 route\ntotal interchanges 1 refused 0 groups 1 sets 1 accepted 1 held 0 outside 0\n") ≡ true
two_spaces = refl

empty_line : is_clean (codes "\ntotal interchanges 1 refused 0 groups 1 sets 1 accepted 1 held 0 outside 0\n") ≡ true
empty_line = refl

-- nothing at all has no last word
no_line : is_clean (codes "") ≡ false
no_line = refl

-- what no LF ends is no line
line_without_end : is_clean (codes "total interchanges 1 refused 0 groups 1 sets 1 accepted 1 held 0 outside 0") ≡ false
line_without_end = refl

behind_the_last_line :
    is_clean (codes "total interchanges 1 refused 0 groups 1 sets 1 accepted 1 held 0 outside 0\n"
    ++ codes "held set 1 route") ≡ true
behind_the_last_line = refl

-- the last line alone reports what is outside
outside_in_front :
    is_clean (codes "total interchanges 1 refused 0 groups 1 sets 1 accepted 1 held 0 outside 3\n"
    ++ codes "total interchanges 1 refused 0 groups 1 sets 1 accepted 1 held 0 outside 0\n") ≡ true
outside_in_front = refl
