-- A complete night: each interchange fault.
use Rattle.std.specs.Prelude.{ℕ, ◌≡◌, List, [], ◌∷◌, ◌++◌, codes, Some}
use Rattle.partner_setup.specs.declared.partner.Partner.{Partner}
use Rattle.partner_setup.specs.declared.rows.Usage.TheVariants as usage
use Rattle.night_definition.specs.Setup.{Setup}
use Rattle.night_definition.specs.Night.{night_of}
use Rattle.night_examples.specs.Guide1.{guide_1}
use Rattle.night_examples.specs.Guide2.{guide_2}

abbrev pub text : List ℕ
text = (codes "ISA*00*          *00*          *01*ACME           *ZZ*HUB            *260228*0900*^*00501*000000011*0*P*>~"
    ++ codes "IEA*0*000000012~ISA*00*          *00*          *01*ACME           *ZZ*HUB            *260228*0900*^*00501*"
    ++ codes "000000012*0*P*>~IEA*1*000000012~ISA*00*          *00*          *01*ACME           *ZZ*HUB            *2602"
    ++ codes "28*0900*^*00501*000000013*0*P*>~REF*DP*7~IEA*0*000000013~ISA*00*          *00*          *01*ACME          "
    ++ codes " *ZZ*HUB            *260228*0900*^*00501*000000014*0*P*>~GS*P*ACME*BOLT*20260228*0900*12*X*005010~GE*0*12~"
    ++ codes "IEA*1*000000014~ISA*00*          *00*          *01*ACME           *ZZ*HUB            *260228*0900*^*00501*"
    ++ codes "000000015*0*P*>~GS*PO*ACME*BOLT*20260228*0900*12*X*005010~ST*850*~SE*2*~GE*1*12~IEA*1*000000015~ISA*00*   "
    ++ codes "       *00*          *01*ACME           *ZZ*HUB            *260228*0900*^*00501*00000001A*0*P*>~IEA*0*0000"
    ++ codes "0001A~ISA*00*          *00*          *01*CARL           *ZZ*HUB            *260228*0900*^*00501*000000017*"
    ++ codes "0*P*>~IEA*0*000000017~ISA*00*          *00*          *01*ACME           *ZZ*HUB            *26022A*0900*^*"
    ++ codes "00501*000000018*0*P*>~IEA*0*000000019~ISA*00*          *00*          *01*ACME           *ZZ*HUB           "
    ++ codes " *260228*09A0*^*00501*000000019*0*P*>~IEA*0*000000018~ISA*00*          *00*          *01*ACME           *Z"
    ++ codes "Z*HUB            *260228*0900*^*00501*000000020*1*P*>~")

abbrev pub partner_1 : Partner
partner_1 = record {
  name = codes "ACME";
  qualifier = codes "01";
  id = codes "ACME";
  code = codes "ACME";
  delims = record { element = 42; component = 62; repetition = Some 94; terminator = 126 };
  cap = 2;
  counters = record { interchange = 1; group = 1; set = 1 };
  guides = (0 ∷ 1 ∷ []);
}

abbrev pub partner_2 : Partner
partner_2 = record {
  name = codes "BOLT";
  qualifier = codes "ZZ";
  id = codes "BOLT";
  code = codes "BOLT";
  delims = record { element = 124; component = 58; repetition = Some 94; terminator = 33 };
  cap = 1;
  counters = record { interchange = 1; group = 1; set = 1 };
  guides = (0 ∷ []);
}

abbrev pub setup : Setup
setup = record {
  hub = record { qualifier = codes "ZZ"; id = codes "HUB"; code = codes "HUB"; usage = usage.Production };
  partners = partner_1 ∷ partner_2 ∷ [];
  routes = record { code = codes "ACME"; to = (0 ∷ []) } ∷ record { code = codes "BOLT"; to = (1 ∷ []) } ∷ [];
  guides = guide_1 ∷ guide_2 ∷ [];
}

abbrev pub Computes : Type 0
Computes = night_of text setup (codes "202603011530") ≡ record {
  acks = (codes "ISA*00*          *00*          *ZZ*HUB            *01*ACME           *260301*1530*^*00501*000000001*0*P*>~"
      ++ codes "TA1*000000011*260228*0900*R*001~IEA*0*000000001~ISA*00*          *00*          *ZZ*HUB            *01*ACME"
      ++ codes "           *260301*1530*^*00501*000000002*0*P*>~TA1*000000012*260228*0900*R*021~IEA*0*000000002~ISA*00*   "
      ++ codes "       *00*          *ZZ*HUB            *01*ACME           *260301*1530*^*00501*000000003*0*P*>~TA1*000000"
      ++ codes "013*260228*0900*R*022~IEA*0*000000003~ISA*00*          *00*          *ZZ*HUB            *01*ACME          "
      ++ codes " *260301*1530*^*00501*000000004*0*P*>~TA1*000000014*260228*0900*R*024~IEA*0*000000004~ISA*00*          *00"
      ++ codes "*          *ZZ*HUB            *01*ACME           *260301*1530*^*00501*000000005*0*P*>~TA1*000000015*260228"
      ++ codes "*0900*R*024~IEA*0*000000005~ISA*00*          *00*          *ZZ*HUB            *01*ACME           *260301*1"
      ++ codes "530*^*00501*000000006*0*P*>~TA1*000000020*260228*0900*R*023~IEA*0*000000006~") ∷ [] ∷ [];
  boxes = [] ∷ [] ∷ [];
  report = (codes "interchange 1 at 0 from ACME control 000000011 refused 3\nta1 sent R 001\ninterchange 2 at 122 from ACME c"
      ++ codes "ontrol 000000012 refused 4\nta1 sent R 021\ninterchange 3 at 244 from ACME control 000000013 refused 5\nta"
      ++ codes "1 sent R 022\ninterchange 4 at 375 from ACME control 000000014 refused 6\nta1 sent R 024\ninterchange 5 at"
      ++ codes " 546 from ACME control 000000015 refused 7\nta1 sent R 024\ninterchange 6 at 732 from ACME control ? refus"
      ++ codes "ed 2\ninterchange 7 at 854 from ? control 000000017 refused 8\ninterchange 8 at 976 from ACME control 0000"
      ++ codes "00018 refused 3\ninterchange 9 at 1098 from ACME control 000000019 refused 3\ninterchange 10 at 1220 from "
      ++ codes "ACME control 000000020 refused 1\nta1 sent R 023\ntotal interchanges 10 refused 10 groups 0 sets 0 accepte"
      ++ codes "d 0 held 0 outside 0\n");
  next = record { interchange = 7; group = 1; set = 1 } ∷ record { interchange = 1; group = 1; set = 1 } ∷ [];
}
