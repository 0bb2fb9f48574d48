-- The table of the sets of a night: numbers begin again.
use Rattle.std.specs.Prelude.{◌≡◌, [], ◌∷◌, ◌++◌, codes}
use Rattle.set_documents.specs.Given.{usual}
use Rattle.track_definition.specs.Rows.{table_of}
use Rattle.night_examples.specs.NightNumbersBeginAgain.{text, setup}

abbrev pub Computes : Type 0
Computes = table_of text setup usual ≡
    (codes "interchange,offset,sender,isa13,fault,ta1,gs01,gs06,gs02,gs03,group_verdict,group_codes,st01,st02,document"
    ++ codes ",verdict,codes,faults,outcome,byte,segment,receiver,receiver_isa13,receiver_gs06,receiver_st02" ++ (13 ∷ [])
    ++ codes "\n1,0,ACME,000000007,,,PO,12,ACME,ACME,A,,850,0001,PO100,A,,0,delivered,,,ACME,999999999,2,0001" ++ (13 ∷ [])
    ++ codes "\n1,0,ACME,000000007,,,PO,12,ACME,ACME,A,,850,0002,PO100,A,,0,delivered,,,ACME,000000001,3,0002" ++ (13 ∷ [])
    ++ codes "\n1,0,ACME,000000007,,,PO,12,ACME,ACME,A,,850,0003,PO100,A,,0,delivered,,,ACME,000000002,4,0003" ++ (13 ∷ [])
    ++ codes "\n")
