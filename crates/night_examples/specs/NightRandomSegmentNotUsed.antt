-- A complete night: random segment not used.
use Rattle.std.specs.Prelude.{ℕ, ◌≡◌, List, [], ◌∷◌, ◌++◌, codes, Some}
use Rattle.partner_setup.specs.declared.partner.Partner.{Partner}
use Rattle.partner_setup.specs.declared.rows.Usage.TheVariants as usage
use Rattle.night_definition.specs.Setup.{Setup}
use Rattle.night_definition.specs.Night.{night_of}
use Rattle.night_examples.specs.Guide13.{guide_13}
use Rattle.night_examples.specs.Guide14.{guide_14}
use Rattle.night_examples.specs.Guide15.{guide_15}
use Rattle.night_examples.specs.Guide7.{guide_7}
use Rattle.night_examples.specs.Guide8.{guide_8}

abbrev pub text : List ℕ
text = (codes "ISA@00@          @00@          @ZZ@FIVE FIVE      @ZZ@HUB            @260228@0900@0@00501@000000001@0@P@"
    ++ (133 ∷ []) ++ codes "]GS@PO@FIVE FIVE@BOLT@20260228@0900@1@X@005010]ST@856@12]REF]CC1@.0CA@CC@17" ++ (133 ∷ [])
    ++ codes "0900" ++ (133 ∷ []) ++ codes "C. -CX.]CC1@CC@CC@5." ++ (133 ∷ []) ++ codes "235959" ++ (133 ∷ [])
    ++ codes "A-CB0A]SE@5@12]GE@1@1]GS@PO@FIVE FIVE@FIVE FIVE@20260228@0900@2@X@005010]ST@856@0001]SE@2@0001]GE@1@2]GS@P"
    ++ codes "O@FIVE FIVE@BOLT@20260228@0900@3@X@005010]ST@856@0001]SE@2@0001]GE@1@3]IEA@3@000000001]")

abbrev pub partner_1 : Partner
partner_1 = record {
  name = codes "FIVEFIVE";
  qualifier = codes "ZZ";
  id = codes "FIVE FIVE";
  code = codes "FIVE FIVE";
  delims = record { element = 62; component = 35; repetition = Some 60; terminator = 13 };
  cap = 1;
  counters = record { interchange = 1; group = 1; set = 1 };
  guides = (0 ∷ 4 ∷ []);
}

abbrev pub partner_2 : Partner
partner_2 = record {
  name = codes "E9";
  qualifier = codes "01";
  id = codes "E_9";
  code = codes "E_9";
  delims = record { element = 123; component = 31; repetition = Some 42; terminator = 93 };
  cap = 2;
  counters = record { interchange = 5; group = 1; set = 999999999 };
  guides = (3 ∷ 2 ∷ 0 ∷ []);
}

abbrev pub partner_3 : Partner
partner_3 = record {
  name = codes "BOLT";
  qualifier = codes "ZZ";
  id = codes "BOLT";
  code = codes "BOLT";
  delims = record { element = 31; component = 36; repetition = Some 93; terminator = 10 };
  cap = 1;
  counters = record { interchange = 5; group = 1; set = 999999999 };
  guides = (4 ∷ 0 ∷ 1 ∷ 3 ∷ []);
}

abbrev pub setup : Setup
setup = record {
  hub = record { qualifier = codes "ZZ"; id = codes "HUB"; code = codes "HUB CODE"; usage = usage.Test };
  partners = partner_1 ∷ partner_2 ∷ partner_3 ∷ [];
  routes = record { code = codes "FIVE FIVE"; to = (2 ∷ []) } ∷ record { code = codes "BOLT"; to = (0 ∷ []) }
      ∷ record { code = codes "XX"; to = (0 ∷ []) } ∷ [];
  guides = guide_13 ∷ guide_14 ∷ guide_15 ∷ guide_7 ∷ guide_8 ∷ [];
}

abbrev pub Computes : Type 0
Computes = night_of text setup (codes "202603011530") ≡ record {
  acks = (codes "ISA>00>          >00>          >ZZ>HUB            >ZZ>FIVE FIVE      >260301>1530><>00501>000000001>0>T>#"
      ++ (13 ∷ []) ++ codes "GS>FA>HUB CODE>FIVE FIVE>20260301>1530>1>X>005010X231" ++ (13 ∷ [])
      ++ codes "ST>999>0001>005010X231" ++ (13 ∷ []) ++ codes "AK1>PO>1>005010" ++ (13 ∷ []) ++ codes "AK2>856>12" ++ (13 ∷ [])
      ++ codes "IK3>REF>2>L1>I4" ++ (13 ∷ []) ++ codes "IK3>CC1>3>L1>8" ++ (13 ∷ []) ++ codes "IK4>1>>7>.0CA" ++ (13 ∷ [])
      ++ codes "IK4>2>9774>5>CC" ++ (13 ∷ []) ++ codes "IK3>CC1>4>L1>8" ++ (13 ∷ []) ++ codes "IK4>1>>4>CC" ++ (13 ∷ [])
      ++ codes "IK4>2>9774>5>CC" ++ (13 ∷ []) ++ codes "IK5>R>5>I5>7" ++ (13 ∷ []) ++ codes "AK9>R>1>1>0" ++ (13 ∷ [])
      ++ codes "SE>13>0001" ++ (13 ∷ []) ++ codes "ST>999>0002>005010X231" ++ (13 ∷ []) ++ codes "AK1>PO>2>005010" ++ (13 ∷ [])
      ++ codes "AK2>856>0001" ++ (13 ∷ []) ++ codes "IK5>A" ++ (13 ∷ []) ++ codes "AK9>A>1>1>1" ++ (13 ∷ [])
      ++ codes "SE>6>0002" ++ (13 ∷ []) ++ codes "ST>999>0003>005010X231" ++ (13 ∷ []) ++ codes "AK1>PO>3>005010" ++ (13 ∷ [])
      ++ codes "AK2>856>0001" ++ (13 ∷ []) ++ codes "IK5>A" ++ (13 ∷ []) ++ codes "AK9>A>1>1>1" ++ (13 ∷ [])
      ++ codes "SE>6>0003" ++ (13 ∷ []) ++ codes "GE>3>1" ++ (13 ∷ []) ++ codes "IEA>1>000000001" ++ (13 ∷ [])) ∷ [] ∷ [] ∷ [];
  boxes = (codes "ISA>00>          >00>          >ZZ>HUB            >ZZ>FIVE FIVE      >260301>1530><>00501>000000002>0>T>#"
      ++ (13 ∷ []) ++ codes "GS>PO>FIVE FIVE>FIVE FIVE>20260301>1530>2>X>005010" ++ (13 ∷ []) ++ codes "ST>856>0001"
      ++ (13 ∷ []) ++ codes "SE>2>0001" ++ (13 ∷ []) ++ codes "GE>1>2" ++ (13 ∷ []) ++ codes "IEA>1>000000002" ++ (13 ∷ [])) ∷ [] ∷
      (codes "ISA" ++ (31 ∷ []) ++ codes "00" ++ (31 ∷ []) ++ codes "          " ++ (31 ∷ []) ++ codes "00" ++ (31 ∷ [])
      ++ codes "          " ++ (31 ∷ []) ++ codes "ZZ" ++ (31 ∷ []) ++ codes "HUB            " ++ (31 ∷ []) ++ codes "ZZ"
      ++ (31 ∷ []) ++ codes "BOLT           " ++ (31 ∷ []) ++ codes "260301" ++ (31 ∷ []) ++ codes "1530" ++ (31 ∷ [])
      ++ codes "]" ++ (31 ∷ []) ++ codes "00501" ++ (31 ∷ []) ++ codes "000000005" ++ (31 ∷ []) ++ codes "0" ++ (31 ∷ [])
      ++ codes "T" ++ (31 ∷ []) ++ codes "$\nGS" ++ (31 ∷ []) ++ codes "PO" ++ (31 ∷ []) ++ codes "FIVE FIVE" ++ (31 ∷ [])
      ++ codes "BOLT" ++ (31 ∷ []) ++ codes "20260301" ++ (31 ∷ []) ++ codes "1530" ++ (31 ∷ []) ++ codes "1" ++ (31 ∷ [])
      ++ codes "X" ++ (31 ∷ []) ++ codes "005010\nST" ++ (31 ∷ []) ++ codes "856" ++ (31 ∷ []) ++ codes "999999999\nSE"
      ++ (31 ∷ []) ++ codes "2" ++ (31 ∷ []) ++ codes "999999999\nGE" ++ (31 ∷ []) ++ codes "1" ++ (31 ∷ []) ++ codes "1\nIEA"
      ++ (31 ∷ []) ++ codes "1" ++ (31 ∷ []) ++ codes "000000005\n") ∷ [];
  report = (codes "interchange 1 at 0 from FIVEFIVE control 000000001 accepted\ngroup PO 1 R sets 1 accepted 0\ngroup PO 2 A "
      ++ codes "sets 1 accepted 1\ngroup PO 3 A sets 1 accepted 1\ntotal interchanges 1 refused 0 groups 3 sets 3 accepted"
      ++ codes " 2 held 0 outside 0\n");
  next = record { interchange = 3; group = 3; set = 2 } ∷ record { interchange = 5; group = 1; set = 999999999 }
      ∷ record { interchange = 6; group = 2; set = 1 } ∷ [];
}
