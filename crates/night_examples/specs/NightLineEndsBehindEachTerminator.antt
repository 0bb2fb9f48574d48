-- A complete night: line ends behind each terminator.
use Rattle.std.specs.Prelude.{ℕ, ◌≡◌, List, [], ◌∷◌, ◌++◌, codes, Some}
use Rattle.partner_setup.specs.declared.partner.Partner.{Partner}
use Rattle.partner_setup.specs.declared.rows.Usage.TheVariants as usage
use Rattle.night_definition.specs.Setup.{Setup}
use Rattle.night_definition.specs.Night.{night_of}
use Rattle.night_examples.specs.Guide1.{guide_1}
use Rattle.night_examples.specs.Guide2.{guide_2}

abbrev pub text : List ℕ
text = (codes "ISA*00*          *00*          *01*ACME           *ZZ*HUB            *260228*0900*^*00501*000000007*0*P*>~"
    ++ (13 ∷ []) ++ codes "\nGS*PO*ACME*BOLT*20260228*0900*12*X*005010~" ++ (13 ∷ []) ++ codes "\nST*850*0001~" ++ (13 ∷ [])
    ++ codes "\nBEG*00*SA*PO100**20260228~" ++ (13 ∷ []) ++ codes "\nPO1*1*5*EA*2.50~" ++ (13 ∷ []) ++ codes "\nSE*4*0001~"
    ++ (13 ∷ []) ++ codes "\nGE*1*12~" ++ (13 ∷ []) ++ codes "\nIEA*1*000000007~" ++ (13 ∷ []) ++ codes "\n")

abbrev pub partner_1 : Partner
partner_1 = record {
  name = codes "ACME";
  qualifier = codes "01";
  id = codes "ACME";
  code = codes "ACME";
  delims = record { element = 42; component = 62; repetition = Some 94; terminator = 126 };
  cap = 2;
  counters = record { interchange = 1; group = 1; set = 1 };
  guides = (0 ∷ 1 ∷ []);
}

abbrev pub partner_2 : Partner
partner_2 = record {
  name = codes "BOLT";
  qualifier = codes "ZZ";
  id = codes "BOLT";
  code = codes "BOLT";
  delims = record { element = 124; component = 58; repetition = Some 94; terminator = 33 };
  cap = 1;
  counters = record { interchange = 1; group = 1; set = 1 };
  guides = (0 ∷ []);
}

abbrev pub setup : Setup
setup = record {
  hub = record { qualifier = codes "ZZ"; id = codes "HUB"; code = codes "HUB"; usage = usage.Production };
  partners = partner_1 ∷ partner_2 ∷ [];
  routes = record { code = codes "ACME"; to = (0 ∷ []) } ∷ record { code = codes "BOLT"; to = (1 ∷ []) } ∷ [];
  guides = guide_1 ∷ guide_2 ∷ [];
}

abbrev pub Computes : Type 0
Computes = night_of text setup (codes "202603011530") ≡ record {
  acks = (codes "ISA*00*          *00*          *ZZ*HUB            *01*ACME           *260301*1530*^*00501*000000001*0*P*>~"
      ++ codes "GS*FA*HUB*ACME*20260301*1530*1*X*005010X231~ST*999*0001*005010X231~AK1*PO*12*005010~AK2*850*0001~IK5*A~AK9"
      ++ codes "*A*1*1*1~SE*6*0001~GE*1*1~IEA*1*000000001~") ∷ [] ∷ [];
  boxes = [] ∷ (codes "ISA|00|          |00|          |ZZ|HUB            |ZZ|BOLT           |260301|1530|^|00501|000000001|0|P|:!"
      ++ codes "GS|PO|ACME|BOLT|20260301|1530|1|X|005010!ST|850|0001!BEG|00|SA|PO100||20260228!PO1|1|5|EA|2.50!SE|4|0001!G"
      ++ codes "E|1|1!IEA|1|000000001!") ∷ [];
  report = (codes "interchange 1 at 0 from ACME control 000000007 accepted\ngroup PO 12 A sets 1 accepted 1\ntotal interchang"
      ++ codes "es 1 refused 0 groups 1 sets 1 accepted 1 held 0 outside 0\n");
  next = record { interchange = 2; group = 2; set = 1 } ∷ record { interchange = 2; group = 2; set = 2 } ∷ [];
}
