-- The tables at the key `nodes`, by what stands there.
use Rattle.std.proofs.Common.{◌≡◌, List, [], Option, Some, None, Ordering, Less, Equal, Greater, nat_cmp, codes, refl, ap}
use Rattle.std.specs.Ordering.{match_ordering}
use Rattle.std.specs.Cmp.Lexicographic.{slice_cmp}
use Rattle.toml.specs.Data.{Data, Items, Members, no_members, member, get_member, string, integer, float, boolean, datetime, array, table}
use Rattle.toml.specs.Data.{as_array}
use Rattle.key_errors.specs.NodeTables.{inner_tables, list_tables, tables_in}

abbrev pub list_at : Option Data → List Members
list_at None = []
list_at (Some d) = list_tables d

at_key : (o : Ordering) (r : List Members) (a : Option Data) (d : Data) → r ≡ list_at a
    → match_ordering o r (list_tables d) r ≡ list_at (match_ordering o a (Some d) a)
at_key Less r a d e = e
at_key Equal r a d e = refl
at_key Greater r a d e = e

pub inner_is : (ms : Members) → inner_tables ms ≡ list_at (get_member (codes "nodes") ms)
inner_is no_members = refl
inner_is (member k d ms) =
    at_key (slice_cmp nat_cmp (codes "nodes") k) (inner_tables ms) (get_member (codes "nodes") ms) d (inner_is ms)

pub no_list : (d : Data) → None ≡ as_array d → list_tables d ≡ []
no_list (string s) e = refl
no_list (integer z) e = refl
no_list (float x) e = refl
no_list (boolean b) e = refl
no_list (datetime t) e = refl
no_list (array ds) e = cc
no_list (table ms) e = refl

same_items : (ds es : Items) → Some ds ≡ as_array (array es) → ds ≡ es
same_items ds es e = cc

pub that_list : (d : Data) (ds : Items) → Some ds ≡ as_array d → tables_in ds ≡ list_tables d
that_list (string s) ds e = cc
that_list (integer z) ds e = cc
that_list (float x) ds e = cc
that_list (boolean b) ds e = cc
that_list (datetime t) ds e = cc
that_list (array es) ds e = ap tables_in (same_items ds es e)
that_list (table ms) ds e = cc
