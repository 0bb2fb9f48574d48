-- A complete night: random group without sets.
use Rattle.std.specs.Prelude.{ℕ, ◌≡◌, List, [], ◌∷◌, ◌++◌, codes, Some}
use Rattle.partner_setup.specs.declared.partner.Partner.{Partner}
use Rattle.partner_setup.specs.declared.rows.Usage.TheVariants as usage
use Rattle.night_definition.specs.Setup.{Setup}
use Rattle.night_definition.specs.Night.{night_of}
use Rattle.night_examples.specs.Guide5.{guide_5}
use Rattle.night_examples.specs.Guide6.{guide_6}
use Rattle.night_examples.specs.Guide7.{guide_7}
use Rattle.night_examples.specs.Guide8.{guide_8}

abbrev pub text : List ℕ
text = (codes "ISA*00*          *00*          *01*D-1            *ZZ*HUB            *260228*0900*^*00501*000000001*0*P*>~"
    ++ codes "GS*QQ*D-1*E_9*20260228*0900*1*X*005010~GE*0*1~IEA*1*000000001~ISA}00}          }00}          }01}ACME     "
    ++ codes "      }ZZ}HUB            }260228}0900} }00501}000000002}0}P}^" ++ (133 ∷ [])
    ++ codes "GS}SH}ACME}D-1}20260228}0900}1}X}005010" ++ (133 ∷ 13 ∷ []) ++ codes "\nST}856}0001" ++ (133 ∷ 13 ∷ [])
    ++ codes "\nBSN}00}BBC0CAB-C0A C.0A.XA-  0A0..B }20260228}09005912" ++ (133 ∷ 13 ∷ []) ++ codes "\nHL}1}}S"
    ++ (133 ∷ 13 ∷ []) ++ codes "\nTD5}B0}}XA00XC.101- XXA.C0.CA.X1X1.1.-X--XBB.A.0AX- .0 000.AX 1BX--B 1 .CCA.X }X"
    ++ (133 ∷ 13 ∷ []) ++ codes "\nTD5}}}}1" ++ (133 ∷ 13 ∷ []) ++ codes "\nMAN}A}A" ++ (133 ∷ 13 ∷ []) ++ codes "\nHL}2}1}O"
    ++ (133 ∷ 13 ∷ []) ++ codes "\nLIN}} 1}BBA .0XBBACX1AX1.A0 -.C A AC.AX1.-AC-" ++ (133 ∷ 13 ∷ [])
    ++ codes "\nSN1}C-01C0- 1B}161836576}1-" ++ (133 ∷ 13 ∷ []) ++ codes "\nTD5}-}}1--XX 1BX10 B.C..1.-.C.0 BC"
    ++ (133 ∷ 13 ∷ []) ++ codes "\nMAN}X }- -1>*0&X11~ A.0" ++ (133 ∷ 13 ∷ []) ++ codes "\nDTM}A-X}20240229"
    ++ (133 ∷ 13 ∷ []) ++ codes "\nSE}13}0001" ++ (133 ∷ 13 ∷ []) ++ codes "\nGE}1}1" ++ (133 ∷ 13 ∷ [])
    ++ codes "\nIEA}1}000000002" ++ (133 ∷ 13 ∷ []) ++ codes "\n")

abbrev pub partner_1 : Partner
partner_1 = record {
  name = codes "ACME";
  qualifier = codes "01";
  id = codes "ACME";
  code = codes "ACME";
  delims = record { element = 28; component = 60; repetition = Some 29; terminator = 125 };
  cap = 2;
  counters = record { interchange = 1; group = 1; set = 1 };
  guides = (2 ∷ 1 ∷ 3 ∷ []);
}

abbrev pub partner_2 : Partner
partner_2 = record {
  name = codes "D1";
  qualifier = codes "01";
  id = codes "D-1";
  code = codes "D-1";
  delims = record { element = 60; component = 43; repetition = Some 63; terminator = 28 };
  cap = 1;
  counters = record { interchange = 999999999; group = 1; set = 999999999 };
  guides = (0 ∷ 3 ∷ 2 ∷ []);
}

abbrev pub partner_3 : Partner
partner_3 = record {
  name = codes "E9";
  qualifier = codes "ZZ";
  id = codes "E_9";
  code = codes "E_9";
  delims = record { element = 60; component = 30; repetition = Some 63; terminator = 43 };
  cap = 3;
  counters = record { interchange = 1; group = 1; set = 1 };
  guides = (0 ∷ 3 ∷ 2 ∷ []);
}

abbrev pub setup : Setup
setup = record {
  hub = record { qualifier = codes "ZZ"; id = codes "HUB"; code = codes "HUB CODE"; usage = usage.Production };
  partners = partner_1 ∷ partner_2 ∷ partner_3 ∷ [];
  routes = record { code = codes "ACME"; to = (2 ∷ []) } ∷ record { code = codes "D-1"; to = (2 ∷ []) } ∷ record {
    code = codes "E_9";
    to = (0 ∷ []);
  } ∷ [];
  guides = guide_5 ∷ guide_6 ∷ guide_7 ∷ guide_8 ∷ [];
}

abbrev pub Computes : Type 0
Computes = night_of text setup (codes "202603011530") ≡ record {
  acks = (codes "ISA" ++ (28 ∷ []) ++ codes "00" ++ (28 ∷ []) ++ codes "          " ++ (28 ∷ []) ++ codes "00" ++ (28 ∷ [])
      ++ codes "          " ++ (28 ∷ []) ++ codes "ZZ" ++ (28 ∷ []) ++ codes "HUB            " ++ (28 ∷ []) ++ codes "01"
      ++ (28 ∷ []) ++ codes "ACME           " ++ (28 ∷ []) ++ codes "260301" ++ (28 ∷ []) ++ codes "1530"
      ++ (28 ∷ 29 ∷ 28 ∷ []) ++ codes "00501" ++ (28 ∷ []) ++ codes "000000001" ++ (28 ∷ []) ++ codes "0" ++ (28 ∷ [])
      ++ codes "P" ++ (28 ∷ []) ++ codes "<}GS" ++ (28 ∷ []) ++ codes "FA" ++ (28 ∷ []) ++ codes "HUB CODE" ++ (28 ∷ [])
      ++ codes "ACME" ++ (28 ∷ []) ++ codes "20260301" ++ (28 ∷ []) ++ codes "1530" ++ (28 ∷ []) ++ codes "1" ++ (28 ∷ [])
      ++ codes "X" ++ (28 ∷ []) ++ codes "005010X231}ST" ++ (28 ∷ []) ++ codes "999" ++ (28 ∷ []) ++ codes "0001" ++ (28 ∷ [])
      ++ codes "005010X231}AK1" ++ (28 ∷ []) ++ codes "SH" ++ (28 ∷ []) ++ codes "1" ++ (28 ∷ []) ++ codes "005010}AK2"
      ++ (28 ∷ []) ++ codes "856" ++ (28 ∷ []) ++ codes "0001}IK5" ++ (28 ∷ []) ++ codes "A}AK9" ++ (28 ∷ []) ++ codes "A"
      ++ (28 ∷ []) ++ codes "1" ++ (28 ∷ []) ++ codes "1" ++ (28 ∷ []) ++ codes "1}SE" ++ (28 ∷ []) ++ codes "6" ++ (28 ∷ [])
      ++ codes "0001}GE" ++ (28 ∷ []) ++ codes "1" ++ (28 ∷ []) ++ codes "1}IEA" ++ (28 ∷ []) ++ codes "1" ++ (28 ∷ [])
      ++ codes "000000001}") ∷
      (codes "ISA<00<          <00<          <ZZ<HUB            <01<D-1            <260301<1530<?<00501<999999999<0<P<+"
      ++ (28 ∷ []) ++ codes "GS<FA<HUB CODE<D-1<20260301<1530<1<X<005010X231" ++ (28 ∷ []) ++ codes "ST<999<0001<005010X231"
      ++ (28 ∷ []) ++ codes "AK1<QQ<1<005010" ++ (28 ∷ []) ++ codes "AK9<A<0<0<0" ++ (28 ∷ []) ++ codes "SE<4<0001"
      ++ (28 ∷ []) ++ codes "GE<1<1" ++ (28 ∷ []) ++ codes "IEA<1<999999999" ++ (28 ∷ [])) ∷ [] ∷ [];
  boxes = [] ∷ [] ∷ (codes "ISA<00<          <00<          <ZZ<HUB            <ZZ<E_9            <260301<1530<?<00501<000000001<0<P<"
      ++ (30 ∷ [])
      ++ codes "+GS<SH<ACME<E_9<20260301<1530<1<X<005010+ST<856<0001+BSN<00<BBC0CAB-C0A C.0A.XA-  0A0..B <20260228<0900591"
      ++ codes "2+HL<1<<S+TD5<B0<<XA00XC.101- XXA.C0.CA.X1X1.1.-X--XBB.A.0AX- .0 000.AX 1BX--B 1 .CCA.X <X+TD5<<<<1+MAN<A<"
      ++ codes "A+HL<2<1<O+LIN<< 1<BBA .0XBBACX1AX1.A0 -.C A AC.AX1.-AC-+SN1<C-01C0- 1B<161836576<1-+TD5<-<<1--XX 1BX10 B."
      ++ codes "C..1.-.C.0 BC+MAN<X <- -1>*0&X11~ A.0+DTM<A-X<20240229+SE<13<0001+GE<1<1+IEA<1<000000001+") ∷ [];
  report = (codes "interchange 1 at 0 from D1 control 000000001 accepted\ngroup QQ 1 A sets 0 accepted 0\ninterchange 2 at 16"
      ++ codes "8 from ACME control 000000002 accepted\ngroup SH 1 A sets 1 accepted 1\ntotal interchanges 2 refused 0 gro"
      ++ codes "ups 2 sets 1 accepted 1 held 0 outside 0\n");
  next = record { interchange = 2; group = 2; set = 1 } ∷ record { interchange = 1; group = 2; set = 999999999 }
      ∷ record { interchange = 2; group = 2; set = 2 } ∷ [];
}
