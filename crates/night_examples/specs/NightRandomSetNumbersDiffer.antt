-- A complete night: random set numbers differ.
use Rattle.std.specs.Prelude.{ℕ, ◌≡◌, List, [], ◌∷◌, ◌++◌, codes, Some}
use Rattle.partner_setup.specs.declared.partner.Partner.{Partner}
use Rattle.partner_setup.specs.declared.rows.Usage.TheVariants as usage
use Rattle.night_definition.specs.Setup.{Setup}
use Rattle.night_definition.specs.Night.{night_of}
use Rattle.night_examples.specs.Guide23.{guide_23}
use Rattle.night_examples.specs.Guide7.{guide_7}
use Rattle.night_examples.specs.Guide8.{guide_8}

abbrev pub text : List ℕ
text = (codes "ISA*00*          *00*          *01*BOLT           *ZZ*HUB            *260228*0900*^*00501*000000001*1*P*>~"
    ++ codes "\nIEA*0*000000001~\nISA*00*          *00*          *01*BOLT           *ZZ*HUB            *26022A*0900*0*00"
    ++ codes "501*000000002*0*P*>~GS*QQ*BOLT*BOLT*20260228*0900*1*X*005010~\nST*856*0001~\nSE*2*0007~\nGE*1*1~\nIEA*1*00"
    ++ codes "0000002~\n")

abbrev pub partner_1 : Partner
partner_1 = record {
  name = codes "BOLT";
  qualifier = codes "01";
  id = codes "BOLT";
  code = codes "BOLT";
  delims = record { element = 35; component = 126; repetition = Some 42; terminator = 58 };
  cap = 1;
  counters = record { interchange = 999999999; group = 1; set = 9998 };
  guides = (0 ∷ 2 ∷ 1 ∷ []);
}

abbrev pub partner_2 : Partner
partner_2 = record {
  name = codes "D1";
  qualifier = codes "ZZ";
  id = codes "D-1";
  code = codes "D-1";
  delims = record { element = 59; component = 58; repetition = Some 28; terminator = 10 };
  cap = 3;
  counters = record { interchange = 1; group = 1; set = 9998 };
  guides = (2 ∷ 1 ∷ []);
}

abbrev pub setup : Setup
setup = record {
  hub = record { qualifier = codes "ZZ"; id = codes "HUB"; code = codes "HUB"; usage = usage.Test };
  partners = partner_1 ∷ partner_2 ∷ [];
  routes = record { code = codes "BOLT"; to = (1 ∷ []) } ∷ record { code = codes "D-1"; to = (0 ∷ []) } ∷ [];
  guides = guide_23 ∷ guide_7 ∷ guide_8 ∷ [];
}

abbrev pub Computes : Type 0
Computes = night_of text setup (codes "202603011530") ≡ record {
  acks = (codes "ISA#00#          #00#          #ZZ#HUB            #01#BOLT           #260301#1530#*#00501#999999999#0#T#~:"
      ++ codes "GS#FA#HUB#BOLT#20260301#1530#1#X#005010X231:ST#999#0001#005010X231:AK1#QQ#1#005010:AK2#856#0001:IK5#R#3:AK"
      ++ codes "9#R#1#1#0:SE#6#0001:GE#1#1:IEA#1#999999999:") ∷ [] ∷ [];
  boxes = [] ∷ [] ∷ [];
  report = (codes "interchange 1 at 0 from BOLT control 000000001 accepted\ninterchange 2 at 124 from BOLT control 000000002 "
      ++ codes "accepted\ngroup QQ 1 R sets 1 accepted 0\ntotal interchanges 2 refused 0 groups 1 sets 1 accepted 0 held 0"
      ++ codes " outside 0\n");
  next = record { interchange = 1; group = 2; set = 9998 } ∷ record { interchange = 1; group = 1; set = 9998 } ∷ [];
}
