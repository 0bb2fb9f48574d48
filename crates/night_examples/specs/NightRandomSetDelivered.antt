-- A complete night: random set delivered.
use Rattle.std.specs.Prelude.{ℕ, ◌≡◌, List, [], ◌∷◌, ◌++◌, codes, Some}
use Rattle.partner_setup.specs.declared.partner.Partner.{Partner}
use Rattle.partner_setup.specs.declared.rows.Usage.TheVariants as usage
use Rattle.night_definition.specs.Setup.{Setup}
use Rattle.night_definition.specs.Night.{night_of}
use Rattle.night_examples.specs.Guide19.{guide_19}
use Rattle.night_examples.specs.Guide7.{guide_7}
use Rattle.night_examples.specs.Guide8.{guide_8}

abbrev pub text : List ℕ
text = (codes "ISA~00~          ~00~          ~01~E_9            ~ZZ~HUB            ~260228~0900~ ~00501~000000001~0~P~#%"
    ++ codes "\nGS~SH~E_9~FIVE FIVE~20260228~0900~1~X~005010%\nST~856~0001%\nDD~02%\nAAA%\nSE~4~0001%\nST~856~0002%DD%\n"
    ++ codes "AAA%\nSE~4~0002%\nST~856~0003%\nDD%\nAAA%\nSE~4~0003%\nGE~3~1%\nGS~PO~E_9~E_9~20260228~0900~2~X~005010%\nG"
    ++ codes "E~0~2%\nIEA~2~000000001%\n  ISA!00!          !00!          !ZZ!ACME           !ZZ!HUB            !260228!0"
    ++ codes "900!{!00501!000000002!1!P!;" ++ (30 ∷ 13 ∷ []) ++ codes "\nGS!SH!ACME!FIVE FIVE!20260228!0900!1!X!005010"
    ++ (30 ∷ []) ++ codes "ST!856!0001" ++ (30 ∷ 13 ∷ []) ++ codes "\nDD!02{B" ++ (30 ∷ 13 ∷ []) ++ codes "\nAAA"
    ++ (30 ∷ 13 ∷ []) ++ codes "\nSE!4!0001" ++ (30 ∷ 13 ∷ []) ++ codes "\nGE!1!1" ++ (30 ∷ 13 ∷ [])
    ++ codes "\nIEA!1!000000002" ++ (30 ∷ 13 ∷ [])
    ++ codes "\nISA=00=          =00=          =01=E_9            =ZZ=HUB            =260228=0900=0=00501=000000003=0=P="
    ++ codes "~@GS=SH=E_9=E_9=20260228=0900=1=X=005010@\nST=856=0001@\nDD=B@\nAAA@\nSE=4=0001@\nGE=1=1@\nIEA=1=000000003"
    ++ codes "@\n")

abbrev pub partner_1 : Partner
partner_1 = record {
  name = codes "FIVEFIVE";
  qualifier = codes "01";
  id = codes "FIVE FIVE";
  code = codes "FIVE FIVE";
  delims = record { element = 28; component = 31; repetition = Some 91; terminator = 10 };
  cap = 2;
  counters = record { interchange = 1; group = 1; set = 999999999 };
  guides = (0 ∷ []);
}

abbrev pub partner_2 : Partner
partner_2 = record {
  name = codes "ACME";
  qualifier = codes "ZZ";
  id = codes "ACME";
  code = codes "ACME";
  delims = record { element = 126; component = 28; repetition = Some 64; terminator = 10 };
  cap = 2;
  counters = record { interchange = 1; group = 1; set = 1 };
  guides = (0 ∷ []);
}

abbrev pub partner_3 : Partner
partner_3 = record {
  name = codes "E9";
  qualifier = codes "01";
  id = codes "E_9";
  code = codes "E_9";
  delims = record { element = 58; component = 125; repetition = Some 61; terminator = 29 };
  cap = 3;
  counters = record { interchange = 1; group = 1; set = 1 };
  guides = (0 ∷ 1 ∷ []);
}

abbrev pub setup : Setup
setup = record {
  hub = record { qualifier = codes "ZZ"; id = codes "HUB"; code = codes "HUB"; usage = usage.Test };
  partners = partner_1 ∷ partner_2 ∷ partner_3 ∷ [];
  routes = record { code = codes "E_9"; to = (1 ∷ []) } ∷ record { code = codes "XX"; to = (1 ∷ []) } ∷ [];
  guides = guide_19 ∷ guide_7 ∷ guide_8 ∷ [];
}

abbrev pub Computes : Type 0
Computes = night_of text setup (codes "202603011530") ≡ record {
  acks = [] ∷ (codes "ISA~00~          ~00~          ~ZZ~HUB            ~ZZ~ACME           ~260301~1530~@~00501~000000001~0~T~"
      ++ (28 ∷ [])
      ++ codes "\nTA1~000000002~260228~0900~A~000\nGS~FA~HUB~ACME~20260301~1530~1~X~005010X231\nST~999~0001~005010X231\nAK"
      ++ codes "1~SH~1~005010\nAK2~856~0001\nIK5~A\nAK9~A~1~1~1\nSE~6~0001\nGE~1~1\nIEA~1~000000001\n") ∷
      (codes "ISA:00:          :00:          :ZZ:HUB            :01:E_9            :260301:1530:=:00501:000000001:0:T:}"
      ++ (29 ∷ []) ++ codes "GS:FA:HUB:E_9:20260301:1530:1:X:005010X231" ++ (29 ∷ []) ++ codes "ST:999:0001:005010X231"
      ++ (29 ∷ []) ++ codes "AK1:SH:1:005010" ++ (29 ∷ []) ++ codes "AK2:856:0001" ++ (29 ∷ []) ++ codes "IK5:A" ++ (29 ∷ [])
      ++ codes "AK2:856:0002" ++ (29 ∷ []) ++ codes "IK5:A" ++ (29 ∷ []) ++ codes "AK2:856:0003" ++ (29 ∷ []) ++ codes "IK5:A"
      ++ (29 ∷ []) ++ codes "AK9:A:3:3:3" ++ (29 ∷ []) ++ codes "SE:10:0001" ++ (29 ∷ []) ++ codes "ST:999:0002:005010X231"
      ++ (29 ∷ []) ++ codes "AK1:PO:2:005010" ++ (29 ∷ []) ++ codes "AK9:A:0:0:0" ++ (29 ∷ []) ++ codes "SE:4:0002"
      ++ (29 ∷ []) ++ codes "GE:2:1" ++ (29 ∷ []) ++ codes "IEA:1:000000001" ++ (29 ∷ [])
      ++ codes "ISA:00:          :00:          :ZZ:HUB            :01:E_9            :260301:1530:=:00501:000000002:0:T:}"
      ++ (29 ∷ []) ++ codes "GS:FA:HUB:E_9:20260301:1530:2:X:005010X231" ++ (29 ∷ []) ++ codes "ST:999:0001:005010X231"
      ++ (29 ∷ []) ++ codes "AK1:SH:1:005010" ++ (29 ∷ []) ++ codes "AK2:856:0001" ++ (29 ∷ []) ++ codes "IK5:A" ++ (29 ∷ [])
      ++ codes "AK9:A:1:1:1" ++ (29 ∷ []) ++ codes "SE:6:0001" ++ (29 ∷ []) ++ codes "GE:1:2" ++ (29 ∷ [])
      ++ codes "IEA:1:000000002" ++ (29 ∷ [])) ∷ [];
  boxes = [] ∷ (codes "ISA~00~          ~00~          ~ZZ~HUB            ~ZZ~ACME           ~260301~1530~@~00501~000000002~0~T~"
      ++ (28 ∷ [])
      ++ codes "\nGS~SH~E_9~ACME~20260301~1530~2~X~005010\nST~856~0001\nDD~B\nAAA\nSE~4~0001\nGE~1~2\nIEA~1~000000002\n") ∷ [] ∷ [];
  report = (codes "interchange 1 at 0 from E9 control 000000001 accepted\ngroup SH 1 A sets 3 accepted 3\nheld set 1 route\nh"
      ++ codes "eld set 2 route\nheld set 3 route\ngroup PO 2 A sets 0 accepted 0\ninterchange 2 at 329 from ACME control "
      ++ codes "000000002 accepted\nta1 sent A 000\ngroup SH 1 A sets 1 accepted 1\nheld set 1 route\ninterchange 3 at 552"
      ++ codes " from E9 control 000000003 accepted\ngroup SH 1 A sets 1 accepted 1\ntotal interchanges 3 refused 0 groups"
      ++ codes " 4 sets 5 accepted 5 held 4 outside 0\n");
  next = record { interchange = 1; group = 1; set = 999999999 } ∷ record { interchange = 3; group = 3; set = 2 }
      ∷ record { interchange = 3; group = 3; set = 1 } ∷ [];
}
