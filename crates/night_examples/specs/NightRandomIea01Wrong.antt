-- A complete night: random iea01 wrong.
use Rattle.std.specs.Prelude.{ℕ, ◌≡◌, List, [], ◌∷◌, ◌++◌, codes, Some}
use Rattle.partner_setup.specs.declared.partner.Partner.{Partner}
use Rattle.partner_setup.specs.declared.rows.Usage.TheVariants as usage
use Rattle.night_definition.specs.Setup.{Setup}
use Rattle.night_definition.specs.Night.{night_of}
use Rattle.night_examples.specs.Guide7.{guide_7}
use Rattle.night_examples.specs.Guide8.{guide_8}
use Rattle.night_examples.specs.Guide9.{guide_9}

abbrev pub text : List ℕ
text = (codes "ISA}00}          }00}          }ZZ}E_9            }ZZ}HUB            }260228}0900}[}00501}000000001}0}P}"
    ++ (29 ∷ [])
    ++ codes "^IEA}0}000000001^ISA*00*ISA;00;          ;00;          ;ZZ;E_9            ;ZZ;HUB            ;260228;0900;"
    ++ codes "{;00501;000000002;0;P;" ++ (29 ∷ 31 ∷ []) ++ codes "GS;PO;E_9;E_9;20260228;0900;01;X;005010" ++ (31 ∷ [])
    ++ codes "\nST;856;0001" ++ (31 ∷ []) ++ codes "\nSE;2;0001" ++ (31 ∷ []) ++ codes "\nIEA;9;000000002" ++ (31 ∷ [])
    ++ codes "\nISA*00*          *00*          *ZZ*E_9            *ZZ*HUB            *260228*0900*^*00501*000000001*1*P*"
    ++ codes ">~GS*PO*E_9*E_9*20260228*0900*12*X*005010~ST*856*0001*CCCCCCCCCCCCCCCCCCCCCCCCCCCCCCCCCCC~SE*2*0001~GE*1*1"
    ++ codes "2~IEA*1*000000001~")

abbrev pub partner_1 : Partner
partner_1 = record {
  name = codes "E9";
  qualifier = codes "ZZ";
  id = codes "E_9";
  code = codes "E_9";
  delims = record { element = 60; component = 33; repetition = Some 61; terminator = 123 };
  cap = 2;
  counters = record { interchange = 1; group = 1; set = 9998 };
  guides = (0 ∷ []);
}

abbrev pub setup : Setup
setup = record {
  hub = record { qualifier = codes "ZZ"; id = codes "HUB"; code = codes "HUB CODE"; usage = usage.Production };
  partners = partner_1 ∷ [];
  routes = record { code = codes "E_9"; to = (0 ∷ []) } ∷ record { code = codes "XX"; to = (0 ∷ []) } ∷ [];
  guides = guide_9 ∷ guide_7 ∷ guide_8 ∷ [];
}

abbrev pub Computes : Type 0
Computes = night_of text setup (codes "202603011530") ≡ record {
  acks = (codes "ISA<00<          <00<          <ZZ<HUB            <ZZ<E_9            <260301<1530<=<00501<000000001<0<P<!{"
      ++ codes "TA1<000000002<260228<0900<R<021{IEA<0<000000001{ISA<00<          <00<          <ZZ<HUB            <ZZ<E_9 "
      ++ codes "           <260301<1530<=<00501<000000002<0<P<!{TA1<000000001<260228<0900<R<025{IEA<0<000000002{") ∷ [];
  boxes = [] ∷ [];
  report = (codes "interchange 1 at 0 from E9 control 000000001 accepted\ninterchange 2 at 129 from E9 control 000000002 refu"
      ++ codes "sed 4\nta1 sent R 021\ninterchange 3 at 317 from E9 control 000000001 refused 9\nta1 sent R 025\ntotal int"
      ++ codes "erchanges 3 refused 2 groups 0 sets 0 accepted 0 held 0 outside 7\n");
  next = record { interchange = 3; group = 1; set = 9998 } ∷ [];
}
