-- The table of the sets of a night: two partners.
use Rattle.std.specs.Prelude.{◌≡◌, [], ◌∷◌, ◌++◌, codes}
use Rattle.set_documents.specs.Given.{usual}
use Rattle.track_definition.specs.Rows.{table_of}
use Rattle.night_examples.specs.NightTwoPartners.{text, setup}

abbrev pub Computes : Type 0
Computes = table_of text setup usual ≡
    (codes "interchange,offset,sender,isa13,fault,ta1,gs01,gs06,gs02,gs03,group_verdict,group_codes,st01,st02,document"
    ++ codes ",verdict,codes,faults,outcome,byte,segment,receiver,receiver_isa13,receiver_gs06,receiver_st02" ++ (13 ∷ [])
    ++ codes "\n1,0,ACME,000000007,,,PO,12,ACME,BOLT,A,,850,0001,PO100,A,,0,delivered,,,BOLT,000000002,2,0001" ++ (13 ∷ [])
    ++ codes "\n2,236,BOLT,000000003,,,PO,3,BOLT,ACME,A,,850,0001,B7,A,,0,delivered,,,ACME,000000002,2,0001" ++ (13 ∷ [])
    ++ codes "\n")
