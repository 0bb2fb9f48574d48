-- A complete night: random sender unknown.
use Rattle.std.specs.Prelude.{ℕ, ◌≡◌, List, [], ◌∷◌, ◌++◌, codes, Some}
use Rattle.partner_setup.specs.declared.partner.Partner.{Partner}
use Rattle.partner_setup.specs.declared.rows.Usage.TheVariants as usage
use Rattle.night_definition.specs.Setup.{Setup}
use Rattle.night_definition.specs.Night.{night_of}
use Rattle.night_examples.specs.Guide18.{guide_18}
use Rattle.night_examples.specs.Guide7.{guide_7}
use Rattle.night_examples.specs.Guide8.{guide_8}

abbrev pub text : List ℕ
text = (codes "ISA*00*          *00*          *99*BOLT           *ZZ*HUB            *260228*0900*^*00501*000000001*0*P*>~"
    ++ (13 ∷ []) ++ codes "\nIEA*0*000000001~" ++ (13 ∷ [])
    ++ codes "\nISA@00@          @00@          @ZZ@BOLT           @ZZ@HUB            @260228@0900@ @00501@000000002@1@P@"
    ++ codes ">~GS@PO@BOLT@BOLT@20260228@0900@1@X@005010~" ++ (13 ∷ []) ++ codes "\nST@850@000000009@OTHER~" ++ (13 ∷ [])
    ++ codes "\nBEG@00@SA@BB --C @.C-0X0BAAC-BX  .0@20260228~" ++ (13 ∷ []) ++ codes "\nN9@01~" ++ (13 ∷ [])
    ++ codes "\nMSG@B - X-" ++ (233 ∷ []) ++ codes "BXCA1B" ++ (233 ∷ []) ++ codes "A C-AXXX CX-0A" ++ (128 ∷ [])
    ++ codes " 1X00B.B1000.  BX .X--X.B.1C.0 X C1 B A-100" ++ (128 ∷ []) ++ codes ".XB B -CBCA BA11C.XBCXCB" ++ (233 ∷ [])
    ++ codes "C1-..0- A--.0X-.-01 BC1A101A1010CABX1B.-" ++ (233 ∷ 128 ∷ []) ++ codes "XXCX-X..1C--X. .01CCA00A" ++ (128 ∷ [])
    ++ codes "AC1 AA0CX  X0B -XB.AXX -AA-. BX. -B" ++ (128 ∷ []) ++ codes " .X  .-.10BX" ++ (128 ∷ [])
    ++ codes ".C.0 - XB.X1AC1.XA1" ++ (128 ∷ []) ++ codes ".00" ++ (233 ∷ []) ++ codes "CX-00 .AA0~" ++ (13 ∷ [])
    ++ codes "\nN1@VN@@C.@CBC-A-.0X1 11BA.  1-X-XB~" ++ (13 ∷ [])
    ++ codes "\nPO1@@631@EA@272738816@AX@-0@.AAC01---XAX0.BC0.XC. .X-B0C~" ++ (13 ∷ []) ++ codes "\nCTT@-784~SE@8@000000009~"
    ++ (13 ∷ []) ++ codes "\nGE@1@1~IEA@1@000000002~" ++ (13 ∷ []) ++ codes "\n")

abbrev pub partner_1 : Partner
partner_1 = record {
  name = codes "BOLT";
  qualifier = codes "ZZ";
  id = codes "BOLT";
  code = codes "BOLT";
  delims = record { element = 126; component = 42; repetition = Some 28; terminator = 29 };
  cap = 1;
  counters = record { interchange = 1; group = 1; set = 1 };
  guides = (0 ∷ 1 ∷ 2 ∷ []);
}

abbrev pub setup : Setup
setup = record {
  hub = record { qualifier = codes "ZZ"; id = codes "HUB"; code = codes "HUB"; usage = usage.Test };
  partners = partner_1 ∷ [];
  routes = record { code = codes "BOLT"; to = (0 ∷ []) } ∷ record { code = codes "XX"; to = (0 ∷ []) } ∷ [];
  guides = guide_18 ∷ guide_7 ∷ guide_8 ∷ [];
}

abbrev pub Computes : Type 0
Computes = night_of text setup (codes "202603011530") ≡ record {
  acks = (codes "ISA~00~          ~00~          ~ZZ~HUB            ~ZZ~BOLT           ~260301~1530~" ++ (28 ∷ [])
      ++ codes "~00501~000000001~0~T~*" ++ (29 ∷ []) ++ codes "TA1~000000002~260228~0900~A~000" ++ (29 ∷ [])
      ++ codes "GS~FA~HUB~BOLT~20260301~1530~1~X~005010X231" ++ (29 ∷ []) ++ codes "ST~999~0001~005010X231" ++ (29 ∷ [])
      ++ codes "AK1~PO~1~005010" ++ (29 ∷ []) ++ codes "AK2~850~000000009~OTHER" ++ (29 ∷ []) ++ codes "IK5~A" ++ (29 ∷ [])
      ++ codes "AK9~A~1~1~1" ++ (29 ∷ []) ++ codes "SE~6~0001" ++ (29 ∷ []) ++ codes "GE~1~1" ++ (29 ∷ [])
      ++ codes "IEA~1~000000001" ++ (29 ∷ [])) ∷ [];
  boxes = (codes "ISA~00~          ~00~          ~ZZ~HUB            ~ZZ~BOLT           ~260301~1530~" ++ (28 ∷ [])
      ++ codes "~00501~000000002~0~T~*" ++ (29 ∷ []) ++ codes "GS~PO~BOLT~BOLT~20260301~1530~2~X~005010" ++ (29 ∷ [])
      ++ codes "ST~850~0001~OTHER" ++ (29 ∷ []) ++ codes "BEG~00~SA~BB --C ~.C-0X0BAAC-BX  .0~20260228" ++ (29 ∷ [])
      ++ codes "N9~01" ++ (29 ∷ []) ++ codes "MSG~B - X-" ++ (233 ∷ []) ++ codes "BXCA1B" ++ (233 ∷ [])
      ++ codes "A C-AXXX CX-0A" ++ (128 ∷ []) ++ codes " 1X00B.B1000.  BX .X--X.B.1C.0 X C1 B A-100" ++ (128 ∷ [])
      ++ codes ".XB B -CBCA BA11C.XBCXCB" ++ (233 ∷ []) ++ codes "C1-..0- A--.0X-.-01 BC1A101A1010CABX1B.-" ++ (233 ∷ 128 ∷ [])
      ++ codes "XXCX-X..1C--X. .01CCA00A" ++ (128 ∷ []) ++ codes "AC1 AA0CX  X0B -XB.AXX -AA-. BX. -B" ++ (128 ∷ [])
      ++ codes " .X  .-.10BX" ++ (128 ∷ []) ++ codes ".C.0 - XB.X1AC1.XA1" ++ (128 ∷ []) ++ codes ".00" ++ (233 ∷ [])
      ++ codes "CX-00 .AA0" ++ (29 ∷ []) ++ codes "N1~VN~~C.~CBC-A-.0X1 11BA.  1-X-XB" ++ (29 ∷ [])
      ++ codes "PO1~~631~EA~272738816~AX~-0~.AAC01---XAX0.BC0.XC. .X-B0C" ++ (29 ∷ []) ++ codes "CTT~-784" ++ (29 ∷ [])
      ++ codes "SE~8~0001" ++ (29 ∷ []) ++ codes "GE~1~2" ++ (29 ∷ []) ++ codes "IEA~1~000000002" ++ (29 ∷ [])) ∷ [];
  report = (codes "interchange 1 at 0 from ? control 000000001 refused 8\ninterchange 2 at 126 from BOLT control 000000002 ac"
      ++ codes "cepted\nta1 sent A 000\ngroup PO 1 A sets 1 accepted 1\ntotal interchanges 2 refused 1 groups 1 sets 1 acc"
      ++ codes "epted 1 held 0 outside 0\n");
  next = record { interchange = 3; group = 3; set = 2 } ∷ [];
}
