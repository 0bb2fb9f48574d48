-- A complete night: acknowledgments asked for without sets.
use Rattle.std.specs.Prelude.{ℕ, ◌≡◌, List, [], ◌∷◌, ◌++◌, codes, Some}
use Rattle.partner_setup.specs.declared.partner.Partner.{Partner}
use Rattle.partner_setup.specs.declared.rows.Usage.TheVariants as usage
use Rattle.night_definition.specs.Setup.{Setup}
use Rattle.night_definition.specs.Night.{night_of}
use Rattle.night_examples.specs.Guide1.{guide_1}
use Rattle.night_examples.specs.Guide2.{guide_2}

abbrev pub text : List ℕ
text = (codes "ISA*00*          *00*          *01*ACME           *ZZ*HUB            *260228*0900*^*00501*000000007*1*P*>~"
    ++ codes "TA1*000000001*260228*0900*A*000~GS*FA*ACME*HUB*20260228*0900*5*X*005010X231~ST*999*0001*005010X231~SE*2*00"
    ++ codes "01~GE*1*5~IEA*1*000000007~ISA*00*          *00*          *01*ACME           *ZZ*HUB            *260228*090"
    ++ codes "0*^*00501*000000008*1*P*>~TA1*000000002*260228*0900*A*000~IEA*0*000000008~")

abbrev pub partner_1 : Partner
partner_1 = record {
  name = codes "ACME";
  qualifier = codes "01";
  id = codes "ACME";
  code = codes "ACME";
  delims = record { element = 42; component = 62; repetition = Some 94; terminator = 126 };
  cap = 2;
  counters = record { interchange = 1; group = 1; set = 1 };
  guides = (0 ∷ 1 ∷ []);
}

abbrev pub partner_2 : Partner
partner_2 = record {
  name = codes "BOLT";
  qualifier = codes "ZZ";
  id = codes "BOLT";
  code = codes "BOLT";
  delims = record { element = 124; component = 58; repetition = Some 94; terminator = 33 };
  cap = 1;
  counters = record { interchange = 1; group = 1; set = 1 };
  guides = (0 ∷ []);
}

abbrev pub setup : Setup
setup = record {
  hub = record { qualifier = codes "ZZ"; id = codes "HUB"; code = codes "HUB"; usage = usage.Production };
  partners = partner_1 ∷ partner_2 ∷ [];
  routes = record { code = codes "ACME"; to = (0 ∷ []) } ∷ record { code = codes "BOLT"; to = (1 ∷ []) } ∷ [];
  guides = guide_1 ∷ guide_2 ∷ [];
}

abbrev pub Computes : Type 0
Computes = night_of text setup (codes "202603011530") ≡ record {
  acks = (codes "ISA*00*          *00*          *ZZ*HUB            *01*ACME           *260301*1530*^*00501*000000001*0*P*>~"
      ++ codes "TA1*000000007*260228*0900*A*000~IEA*0*000000001~") ∷ [] ∷ [];
  boxes = [] ∷ [] ∷ [];
  report = (codes "interchange 1 at 0 from ACME control 000000007 accepted\nta1 sent A 000\nta1 1\ngroup FA 5 listed sets 1\n"
      ++ codes "interchange 2 at 238 from ACME control 000000008 accepted\nta1 1\ntotal interchanges 2 refused 0 groups 0 "
      ++ codes "sets 0 accepted 0 held 0 outside 0\n");
  next = record { interchange = 2; group = 1; set = 1 } ∷ record { interchange = 1; group = 1; set = 1 } ∷ [];
}
