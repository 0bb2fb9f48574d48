-- A complete night: random set held.
use Rattle.std.specs.Prelude.{ℕ, ◌≡◌, List, [], ◌∷◌, ◌++◌, codes, Some}
use Rattle.partner_setup.specs.declared.partner.Partner.{Partner}
use Rattle.partner_setup.specs.declared.rows.Usage.TheVariants as usage
use Rattle.night_definition.specs.Setup.{Setup}
use Rattle.night_definition.specs.Night.{night_of}
use Rattle.night_examples.specs.Guide20.{guide_20}
use Rattle.night_examples.specs.Guide21.{guide_21}
use Rattle.night_examples.specs.Guide22.{guide_22}
use Rattle.night_examples.specs.Guide7.{guide_7}
use Rattle.night_examples.specs.Guide8.{guide_8}

abbrev pub text : List ℕ
text = (codes "ISA%00%          %00%          %01%ACME           %ZZ%HUB            %260228%0900%&%00501%000000001%1%P%"
    ++ (30 ∷ [])
    ++ codes "[GS%QQ%ACME%E_9%20260228%0900%1%X%005010[ST%856%0001[SE%2%0001[GE%1%1[IEA%1%000000001[ISA*00*          *00"
    ++ codes "*          *01*ACME           *ZZ*HUB            *260228*0900*^*00501*000000002*1*P*>~GS*PO*ACME*E_9*20260"
    ++ codes "228*0900*1*X*005010~ST*856*0001~REF~REF~SE*4*0001~GE*1*1~IEA*1*000000002~")

abbrev pub partner_1 : Partner
partner_1 = record {
  name = codes "E9";
  qualifier = codes "01";
  id = codes "E_9";
  code = codes "E_9";
  delims = record { element = 28; component = 59; repetition = Some 35; terminator = 126 };
  cap = 99999;
  counters = record { interchange = 5; group = 1; set = 1 };
  guides = (3 ∷ 1 ∷ 2 ∷ 4 ∷ []);
}

abbrev pub partner_2 : Partner
partner_2 = record {
  name = codes "ACME";
  qualifier = codes "01";
  id = codes "ACME";
  code = codes "ACME";
  delims = record { element = 62; component = 64; repetition = Some 124; terminator = 31 };
  cap = 99999;
  counters = record { interchange = 1; group = 1; set = 999999999 };
  guides = (2 ∷ 0 ∷ []);
}

abbrev pub setup : Setup
setup = record {
  hub = record { qualifier = codes "ZZ"; id = codes "HUB"; code = codes "HUB CODE"; usage = usage.Test };
  partners = partner_1 ∷ partner_2 ∷ [];
  routes = record { code = codes "ACME"; to = (1 ∷ []) } ∷ record { code = codes "XX"; to = (0 ∷ []) } ∷ [];
  guides = guide_20 ∷ guide_21 ∷ guide_22 ∷ guide_7 ∷ guide_8 ∷ [];
}

abbrev pub Computes : Type 0
Computes = night_of text setup (codes "202603011530") ≡ record {
  acks = [] ∷ (codes "ISA>00>          >00>          >ZZ>HUB            >01>ACME           >260301>1530>|>00501>000000001>0>T>@"
      ++ (31 ∷ []) ++ codes "TA1>000000001>260228>0900>A>000" ++ (31 ∷ [])
      ++ codes "GS>FA>HUB CODE>ACME>20260301>1530>1>X>005010X231" ++ (31 ∷ []) ++ codes "ST>999>0001>005010X231" ++ (31 ∷ [])
      ++ codes "AK1>QQ>1>005010" ++ (31 ∷ []) ++ codes "AK2>856>0001" ++ (31 ∷ []) ++ codes "IK5>A" ++ (31 ∷ [])
      ++ codes "AK9>A>1>1>1" ++ (31 ∷ []) ++ codes "SE>6>0001" ++ (31 ∷ []) ++ codes "GE>1>1" ++ (31 ∷ [])
      ++ codes "IEA>1>000000001" ++ (31 ∷ [])
      ++ codes "ISA>00>          >00>          >ZZ>HUB            >01>ACME           >260301>1530>|>00501>000000002>0>T>@"
      ++ (31 ∷ []) ++ codes "TA1>000000002>260228>0900>A>000" ++ (31 ∷ [])
      ++ codes "GS>FA>HUB CODE>ACME>20260301>1530>2>X>005010X231" ++ (31 ∷ []) ++ codes "ST>999>0001>005010X231" ++ (31 ∷ [])
      ++ codes "AK1>PO>1>005010" ++ (31 ∷ []) ++ codes "AK2>856>0001" ++ (31 ∷ []) ++ codes "IK5>A" ++ (31 ∷ [])
      ++ codes "AK9>A>1>1>1" ++ (31 ∷ []) ++ codes "SE>6>0001" ++ (31 ∷ []) ++ codes "GE>1>2" ++ (31 ∷ [])
      ++ codes "IEA>1>000000002" ++ (31 ∷ [])) ∷ [];
  boxes = [] ∷ [] ∷ [];
  report = (codes "interchange 1 at 0 from ACME control 000000001 accepted\nta1 sent A 000\ngroup QQ 1 A sets 1 accepted 1\nh"
      ++ codes "eld set 1 route\ninterchange 2 at 191 from ACME control 000000002 accepted\nta1 sent A 000\ngroup PO 1 A s"
      ++ codes "ets 1 accepted 1\nheld set 1 route\ntotal interchanges 2 refused 0 groups 2 sets 2 accepted 2 held 2 outsi"
      ++ codes "de 0\n");
  next = record { interchange = 5; group = 1; set = 1 } ∷ record { interchange = 3; group = 3; set = 999999999 } ∷ [];
}
