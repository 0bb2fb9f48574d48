-- A complete night: random isa13 without digits.
use Rattle.std.specs.Prelude.{ℕ, ◌≡◌, List, [], ◌∷◌, ◌++◌, codes, Some}
use Rattle.partner_setup.specs.declared.partner.Partner.{Partner}
use Rattle.partner_setup.specs.declared.rows.Usage.TheVariants as usage
use Rattle.night_definition.specs.Setup.{Setup}
use Rattle.night_definition.specs.Night.{night_of}
use Rattle.night_examples.specs.Guide12.{guide_12}
use Rattle.night_examples.specs.Guide7.{guide_7}
use Rattle.night_examples.specs.Guide8.{guide_8}

abbrev pub text : List ℕ
text = (codes "ISA*00*          *00*          *99*BOLT           *ZZ*HUB            *260228*0900*^*00501*000000001*0*P*>~"
    ++ codes "\nGS*PO*BOLT*BOLT*20260228*0900*1*X*005010~\nST*990*0001~\nREF*.1*1528^831*01*A*2~\nSE*3*0001~\nST*990*000"
    ++ codes "2~\nHL*1**O~\nREF* B*-2592^252*01*01*9~\nSE*4*0002~\nST*990*0003~\nREF*XA*13*01*A*6.~SE*3*0003~\nGE*3*1~\n"
    ++ codes "IEA*1*000000001~\nISA" ++ (29 ∷ []) ++ codes "00" ++ (29 ∷ []) ++ codes "          " ++ (29 ∷ []) ++ codes "00"
    ++ (29 ∷ []) ++ codes "          " ++ (29 ∷ []) ++ codes "ZZ" ++ (29 ∷ []) ++ codes "FIVE FIVE      " ++ (29 ∷ [])
    ++ codes "ZZ" ++ (29 ∷ []) ++ codes "HUB            " ++ (29 ∷ []) ++ codes "26022A" ++ (29 ∷ []) ++ codes "0900"
    ++ (29 ∷ []) ++ codes "^" ++ (29 ∷ []) ++ codes "00501" ++ (29 ∷ []) ++ codes "00000000A" ++ (29 ∷ []) ++ codes "1"
    ++ (29 ∷ []) ++ codes "P" ++ (29 ∷ []) ++ codes "*+TA1" ++ (29 ∷ []) ++ codes "000000002" ++ (29 ∷ []) ++ codes "260228"
    ++ (29 ∷ []) ++ codes "0900" ++ (29 ∷ []) ++ codes "A" ++ (29 ∷ []) ++ codes "000+GS" ++ (29 ∷ []) ++ codes "PO"
    ++ (29 ∷ []) ++ codes "FIVE FIVE" ++ (29 ∷ []) ++ codes "FIVE FIVE" ++ (29 ∷ []) ++ codes "20260228" ++ (29 ∷ [])
    ++ codes "0900" ++ (29 ∷ []) ++ codes "1" ++ (29 ∷ []) ++ codes "X" ++ (29 ∷ []) ++ codes "005010+ST" ++ (29 ∷ [])
    ++ codes "990" ++ (29 ∷ []) ++ codes "0001+REF" ++ (29 ∷ []) ++ codes "0X" ++ (29 ∷ 29 ∷ []) ++ codes "01" ++ (29 ∷ [])
    ++ codes "01+SE" ++ (29 ∷ []) ++ codes "3" ++ (29 ∷ []) ++ codes "0001+GE" ++ (29 ∷ []) ++ codes "1" ++ (29 ∷ [])
    ++ codes "1+TA1" ++ (29 ∷ []) ++ codes "000000002" ++ (29 ∷ []) ++ codes "260228" ++ (29 ∷ []) ++ codes "0900"
    ++ (29 ∷ []) ++ codes "A" ++ (29 ∷ []) ++ codes "000+GS" ++ (29 ∷ []) ++ codes "PO" ++ (29 ∷ []) ++ codes "FIVE FIVE"
    ++ (29 ∷ []) ++ codes "NOBODY" ++ (29 ∷ []) ++ codes "20260228" ++ (29 ∷ []) ++ codes "0900" ++ (29 ∷ []) ++ codes "2"
    ++ (29 ∷ []) ++ codes "X" ++ (29 ∷ []) ++ codes "005010+ST" ++ (29 ∷ []) ++ codes "990" ++ (29 ∷ []) ++ codes "0001+REF"
    ++ (29 ∷ []) ++ codes "X." ++ (29 ∷ []) ++ codes "358" ++ (29 ∷ []) ++ codes "01" ++ (29 ∷ []) ++ codes "A" ++ (29 ∷ [])
    ++ codes "5+SE" ++ (29 ∷ []) ++ codes "3" ++ (29 ∷ []) ++ codes "0001+GE" ++ (29 ∷ []) ++ codes "1" ++ (29 ∷ [])
    ++ codes "2+IEA" ++ (29 ∷ []) ++ codes "2" ++ (29 ∷ []) ++ codes "000000002+")

abbrev pub partner_1 : Partner
partner_1 = record {
  name = codes "FIVEFIVE";
  qualifier = codes "ZZ";
  id = codes "FIVE FIVE";
  code = codes "FIVE FIVE";
  delims = record { element = 42; component = 125; repetition = Some 58; terminator = 94 };
  cap = 1;
  counters = record { interchange = 5; group = 1; set = 9998 };
  guides = (2 ∷ 0 ∷ 1 ∷ []);
}

abbrev pub partner_2 : Partner
partner_2 = record {
  name = codes "BOLT";
  qualifier = codes "ZZ";
  id = codes "BOLT";
  code = codes "BOLT";
  delims = record { element = 29; component = 42; repetition = Some 28; terminator = 38 };
  cap = 3;
  counters = record { interchange = 999999999; group = 1; set = 1 };
  guides = (0 ∷ 1 ∷ []);
}

abbrev pub setup : Setup
setup = record {
  hub = record { qualifier = codes "ZZ"; id = codes "HUB"; code = codes "HUB"; usage = usage.Test };
  partners = partner_1 ∷ partner_2 ∷ [];
  routes = record { code = codes "FIVE FIVE"; to = (0 ∷ []) } ∷ record { code = codes "BOLT"; to = (1 ∷ []) }
      ∷ record { code = codes "XX"; to = (1 ∷ []) } ∷ [];
  guides = guide_12 ∷ guide_7 ∷ guide_8 ∷ [];
}

abbrev pub Computes : Type 0
Computes = night_of text setup (codes "202603011530") ≡ record {
  acks = [] ∷ [] ∷ [];
  boxes = [] ∷ [] ∷ [];
  report = (codes "interchange 1 at 0 from ? control 000000001 refused 8\ninterchange 2 at 323 from FIVEFIVE control ? refuse"
      ++ codes "d 2\ntotal interchanges 2 refused 2 groups 0 sets 0 accepted 0 held 0 outside 0\n");
  next = record { interchange = 5; group = 1; set = 9998 } ∷ record { interchange = 999999999; group = 1; set = 1 } ∷ [];
}
