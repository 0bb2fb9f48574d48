-- A complete night: random segment too seldom.
use Rattle.std.specs.Prelude.{ℕ, ◌≡◌, List, [], ◌∷◌, ◌++◌, codes, Some}
use Rattle.partner_setup.specs.declared.partner.Partner.{Partner}
use Rattle.partner_setup.specs.declared.rows.Usage.TheVariants as usage
use Rattle.night_definition.specs.Setup.{Setup}
use Rattle.night_definition.specs.Night.{night_of}
use Rattle.night_examples.specs.Guide16.{guide_16}
use Rattle.night_examples.specs.Guide17.{guide_17}
use Rattle.night_examples.specs.Guide7.{guide_7}
use Rattle.night_examples.specs.Guide8.{guide_8}

abbrev pub text : List ℕ
text = (codes "ISA^00^          ^00^          ^ZZ^C.X            ^ZZ^HUB            ^260228^0900^%^00501^000000001^1^P^=$"
    ++ codes "GS^SH^C.X^E_9^20260228^0900^1^X^005010$ST^850^0001^BAD VALUE$BB$SE^3^0001$GE^1^1$IEA^1^000000001$ISA$00$  "
    ++ codes "        $00$          $ZZ$C.X            $ZZ$HUB            $260228$0900$ $00501$000000002$0$P${=GS$FA$C.X"
    ++ codes "$C.X$20260228$0900$1$X$005010=GE$0$1=GS$SH$C.X$E_9$20260228$0900$2$X$005010=GE$0$2=IEA$2$000000002=ISA*00*"
    ++ codes "          *00*          *ZZ*C.X            *ZZ*HUB            *260228*0900*U*00501*000000003*1*P*>~IEA*0*0"
    ++ codes "00000003~")

abbrev pub partner_1 : Partner
partner_1 = record {
  name = codes "CX";
  qualifier = codes "ZZ";
  id = codes "C.X";
  code = codes "C.X";
  delims = record { element = 35; component = 60; repetition = Some 58; terminator = 10 };
  cap = 3;
  counters = record { interchange = 5; group = 1; set = 1 };
  guides = (3 ∷ 2 ∷ 0 ∷ []);
}

abbrev pub partner_2 : Partner
partner_2 = record {
  name = codes "E9";
  qualifier = codes "01";
  id = codes "E_9";
  code = codes "E_9";
  delims = record { element = 42; component = 124; repetition = Some 29; terminator = 63 };
  cap = 1;
  counters = record { interchange = 999999998; group = 1; set = 999999999 };
  guides = (0 ∷ 3 ∷ 2 ∷ []);
}

abbrev pub setup : Setup
setup = record {
  hub = record { qualifier = codes "ZZ"; id = codes "HUB"; code = codes "HUB CODE"; usage = usage.Production };
  partners = partner_1 ∷ partner_2 ∷ [];
  routes = record { code = codes "C.X"; to = (0 ∷ []) } ∷ record { code = codes "E_9"; to = (1 ∷ []) } ∷ record {
    code = codes "XX";
    to = (0 ∷ []);
  } ∷ [];
  guides = guide_16 ∷ guide_17 ∷ guide_7 ∷ guide_8 ∷ [];
}

abbrev pub Computes : Type 0
Computes = night_of text setup (codes "202603011530") ≡ record {
  acks = (codes "ISA#00#          #00#          #ZZ#HUB            #ZZ#C.X            #260301#1530#:#00501#000000005#0#P#<\n"
      ++ codes "TA1#000000001#260228#0900#A#000\nGS#FA#HUB CODE#C.X#20260301#1530#1#X#005010X231\nST#999#0001#005010X231\n"
      ++ codes "AK1#SH#1#005010\nAK2#850#0001\nIK3#BB#3##I8\nIK5#R#I5\nAK9#R#1#1#0\nSE#7#0001\nGE#1#1\nIEA#1#000000005\nIS"
      ++ codes "A#00#          #00#          #ZZ#HUB            #ZZ#C.X            #260301#1530#:#00501#000000006#0#P#<\nG"
      ++ codes "S#FA#HUB CODE#C.X#20260301#1530#2#X#005010X231\nST#999#0001#005010X231\nAK1#SH#2#005010\nAK9#A#0#0#0\nSE#4"
      ++ codes "#0001\nGE#1#2\nIEA#1#000000006\n") ∷ [] ∷ [];
  boxes = [] ∷ [] ∷ [];
  report = (codes "interchange 1 at 0 from CX control 000000001 accepted\nta1 sent A 000\ngroup SH 1 R sets 1 accepted 0\nint"
      ++ codes "erchange 2 at 203 from CX control 000000002 accepted\ngroup FA 1 listed sets 0\ngroup SH 2 A sets 0 accept"
      ++ codes "ed 0\ninterchange 3 at 417 from CX control 000000003 accepted\ntotal interchanges 3 refused 0 groups 2 set"
      ++ codes "s 1 accepted 0 held 0 outside 0\n");
  next = record { interchange = 7; group = 3; set = 1 } ∷ record { interchange = 999999998; group = 1; set = 999999999 } ∷ [];
}
