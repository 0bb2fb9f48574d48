-- A complete night: numbers begin again.
use Rattle.std.specs.Prelude.{ℕ, ◌≡◌, List, [], ◌∷◌, ◌++◌, codes, Some}
use Rattle.partner_setup.specs.declared.partner.Partner.{Partner}
use Rattle.partner_setup.specs.declared.rows.Usage.TheVariants as usage
use Rattle.night_definition.specs.Setup.{Setup}
use Rattle.night_definition.specs.Night.{night_of}
use Rattle.night_examples.specs.Guide1.{guide_1}
use Rattle.night_examples.specs.Guide2.{guide_2}

abbrev pub text : List ℕ
text = (codes "ISA*00*          *00*          *01*ACME           *ZZ*HUB            *260228*0900*^*00501*000000007*0*P*>~"
    ++ codes "GS*PO*ACME*ACME*20260228*0900*12*X*005010~ST*850*0001~BEG*00*SA*PO100**20260228~PO1*1*5*EA*2.50~SE*4*0001~"
    ++ codes "ST*850*0002~BEG*00*SA*PO100**20260228~PO1*1*5*EA*2.50~SE*4*0002~ST*850*0003~BEG*00*SA*PO100**20260228~PO1*"
    ++ codes "1*5*EA*2.50~SE*4*0003~GE*3*12~IEA*1*000000007~")

abbrev pub partner_1 : Partner
partner_1 = record {
  name = codes "ACME";
  qualifier = codes "01";
  id = codes "ACME";
  code = codes "ACME";
  delims = record { element = 42; component = 62; repetition = Some 94; terminator = 126 };
  cap = 1;
  counters = record { interchange = 999999998; group = 1; set = 1 };
  guides = (0 ∷ 1 ∷ []);
}

abbrev pub partner_2 : Partner
partner_2 = record {
  name = codes "BOLT";
  qualifier = codes "ZZ";
  id = codes "BOLT";
  code = codes "BOLT";
  delims = record { element = 124; component = 58; repetition = Some 94; terminator = 33 };
  cap = 1;
  counters = record { interchange = 1; group = 1; set = 1 };
  guides = (0 ∷ []);
}

abbrev pub setup : Setup
setup = record {
  hub = record { qualifier = codes "ZZ"; id = codes "HUB"; code = codes "HUB"; usage = usage.Production };
  partners = partner_1 ∷ partner_2 ∷ [];
  routes = record { code = codes "ACME"; to = (0 ∷ []) } ∷ record { code = codes "BOLT"; to = (1 ∷ []) } ∷ [];
  guides = guide_1 ∷ guide_2 ∷ [];
}

abbrev pub Computes : Type 0
Computes = night_of text setup (codes "202603011530") ≡ record {
  acks = (codes "ISA*00*          *00*          *ZZ*HUB            *01*ACME           *260301*1530*^*00501*999999998*0*P*>~"
      ++ codes "GS*FA*HUB*ACME*20260301*1530*1*X*005010X231~ST*999*0001*005010X231~AK1*PO*12*005010~AK2*850*0001~IK5*A~AK2"
      ++ codes "*850*0002~IK5*A~AK2*850*0003~IK5*A~AK9*A*3*3*3~SE*10*0001~GE*1*1~IEA*1*999999998~") ∷ [] ∷ [];
  boxes = (codes "ISA*00*          *00*          *ZZ*HUB            *01*ACME           *260301*1530*^*00501*999999999*0*P*>~"
      ++ codes "GS*PO*ACME*ACME*20260301*1530*2*X*005010~ST*850*0001~BEG*00*SA*PO100**20260228~PO1*1*5*EA*2.50~SE*4*0001~G"
      ++ codes "E*1*2~IEA*1*999999999~ISA*00*          *00*          *ZZ*HUB            *01*ACME           *260301*1530*^*"
      ++ codes "00501*000000001*0*P*>~GS*PO*ACME*ACME*20260301*1530*3*X*005010~ST*850*0002~BEG*00*SA*PO100**20260228~PO1*1"
      ++ codes "*5*EA*2.50~SE*4*0002~GE*1*3~IEA*1*000000001~ISA*00*          *00*          *ZZ*HUB            *01*ACME    "
      ++ codes "       *260301*1530*^*00501*000000002*0*P*>~GS*PO*ACME*ACME*20260301*1530*4*X*005010~ST*850*0003~BEG*00*SA"
      ++ codes "*PO100**20260228~PO1*1*5*EA*2.50~SE*4*0003~GE*1*4~IEA*1*000000002~") ∷ [] ∷ [];
  report = (codes "interchange 1 at 0 from ACME control 000000007 accepted\ngroup PO 12 A sets 3 accepted 3\ntotal interchang"
      ++ codes "es 1 refused 0 groups 1 sets 3 accepted 3 held 0 outside 0\n");
  next = record { interchange = 3; group = 5; set = 4 } ∷ record { interchange = 1; group = 1; set = 1 } ∷ [];
}
