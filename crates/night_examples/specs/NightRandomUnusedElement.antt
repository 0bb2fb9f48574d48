-- A complete night: random unused element.
use Rattle.std.specs.Prelude.{ℕ, ◌≡◌, List, [], ◌∷◌, ◌++◌, codes, Some}
use Rattle.partner_setup.specs.declared.partner.Partner.{Partner}
use Rattle.partner_setup.specs.declared.rows.Usage.TheVariants as usage
use Rattle.night_definition.specs.Setup.{Setup}
use Rattle.night_definition.specs.Night.{night_of}
use Rattle.night_examples.specs.Guide24.{guide_24}
use Rattle.night_examples.specs.Guide25.{guide_25}
use Rattle.night_examples.specs.Guide26.{guide_26}
use Rattle.night_examples.specs.Guide7.{guide_7}
use Rattle.night_examples.specs.Guide8.{guide_8}

abbrev pub text : List ℕ
text = (codes "ISA&00&          &00&          &01&E_9            &ZZ&HUB            &260228&0900&|&00501&000000001&1&P&"
    ++ (29 ∷ [])
    ++ codes "{GS&PO&E_9&E_9&20260228&0900&1&X&005010{\nST&856&0001{\nEE{\nSE&3&0001{\nST&856&0002{\nEE{\nSE&3&0002{\nGE"
    ++ codes "&2&1{\nIEA&1&000000001{\nISA$00$          $00$          $01$E_9            $ZZ$HUB            $260228$0900"
    ++ codes "$|$00501$000000002$0$P$#[\nGS$PO$E_9$E_9$20260228$0900$1$X$005010[\nST$856$0001[\nBB$" ++ (233 ∷ [])
    ++ codes "0C$CC$ -[\nEE[\nSE$4$0001[\nST$856$0002[\nBB$X.A$CC$00BA[\nEE[\nSE$4$0002[\nST$856$0003[\nEE[\nSE$3$0003[\n"
    ++ codes "GE$3$1[\nIEA$1$000000002[\nISA" ++ (28 ∷ []) ++ codes "00" ++ (28 ∷ []) ++ codes "          " ++ (28 ∷ [])
    ++ codes "00" ++ (28 ∷ []) ++ codes "          " ++ (28 ∷ []) ++ codes "01" ++ (28 ∷ []) ++ codes "E_9            "
    ++ (28 ∷ []) ++ codes "ZZ" ++ (28 ∷ []) ++ codes "HUB            " ++ (28 ∷ []) ++ codes "260228" ++ (28 ∷ [])
    ++ codes "0900" ++ (28 ∷ []) ++ codes " " ++ (28 ∷ []) ++ codes "00501" ++ (28 ∷ []) ++ codes "000000003" ++ (28 ∷ [])
    ++ codes "0" ++ (28 ∷ []) ++ codes "P" ++ (28 ∷ []) ++ codes "^\nGS" ++ (28 ∷ []) ++ codes "SH" ++ (28 ∷ [])
    ++ codes "E_9" ++ (28 ∷ []) ++ codes "E_9" ++ (28 ∷ []) ++ codes "20260228" ++ (28 ∷ []) ++ codes "0900" ++ (28 ∷ [])
    ++ codes "1" ++ (28 ∷ []) ++ codes "X" ++ (28 ∷ []) ++ codes "005010\nST" ++ (28 ∷ []) ++ codes "856" ++ (28 ∷ [])
    ++ codes "0001\nAAA" ++ (28 ∷ []) ++ codes "CC\nSE" ++ (28 ∷ []) ++ codes "3" ++ (28 ∷ []) ++ codes "0001\nGE"
    ++ (28 ∷ []) ++ codes "1" ++ (28 ∷ []) ++ codes "1\nIEA" ++ (28 ∷ []) ++ codes "1" ++ (28 ∷ []) ++ codes "000000003\n")

abbrev pub partner_1 : Partner
partner_1 = record {
  name = codes "E9";
  qualifier = codes "01";
  id = codes "E_9";
  code = codes "E_9";
  delims = record { element = 93; component = 124; repetition = Some 35; terminator = 42 };
  cap = 2;
  counters = record { interchange = 999999999; group = 1; set = 9998 };
  guides = (0 ∷ 3 ∷ 2 ∷ 1 ∷ []);
}

abbrev pub setup : Setup
setup = record {
  hub = record { qualifier = codes "ZZ"; id = codes "HUB"; code = codes "HUB"; usage = usage.Test };
  partners = partner_1 ∷ [];
  routes = record { code = codes "E_9"; to = (0 ∷ []) } ∷ record { code = codes "XX"; to = (0 ∷ []) } ∷ [];
  guides = guide_24 ∷ guide_25 ∷ guide_26 ∷ guide_7 ∷ guide_8 ∷ [];
}

abbrev pub Computes : Type 0
Computes = night_of text setup (codes "202603011530") ≡ record {
  acks = (codes "ISA]00]          ]00]          ]ZZ]HUB            ]01]E_9            ]260301]1530]#]00501]999999999]0]T]|*"
      ++ codes "TA1]000000001]260228]0900]A]000*GS]FA]HUB]E_9]20260301]1530]1]X]005010X231*ST]999]0001]005010X231*AK1]PO]1"
      ++ codes "]005010*AK2]856]0001*IK5]A*AK2]856]0002*IK5]A*AK9]A]2]2]2*SE]8]0001*GE]1]1*IEA]1]999999999*ISA]00]        "
      ++ codes "  ]00]          ]ZZ]HUB            ]01]E_9            ]260301]1530]#]00501]000000001]0]T]|*GS]FA]HUB]E_9]2"
      ++ codes "0260301]1530]2]X]005010X231*ST]999]0001]005010X231*AK1]PO]1]005010*AK2]856]0001*IK3]BB]2]]8*IK4]2]2763]I10"
      ++ codes "]CC*IK5]R]I5*AK2]856]0002*IK3]BB]2]]8*IK4]2]2763]I10]CC*IK5]R]I5*AK2]856]0003*IK5]A*AK9]P]3]3]1*SE]14]0001"
      ++ codes "*GE]1]2*IEA]1]000000001*ISA]00]          ]00]          ]ZZ]HUB            ]01]E_9            ]260301]1530]"
      ++ codes "#]00501]000000002]0]T]|*GS]FA]HUB]E_9]20260301]1530]3]X]005010X231*ST]999]0001]005010X231*AK1]SH]1]005010*"
      ++ codes "AK2]856]0001*IK3]AAA]2]]8*IK4]1]]6]CC*IK5]R]5*AK9]R]1]1]0*SE]8]0001*GE]1]3*IEA]1]000000002*") ∷ [];
  boxes = (codes "ISA]00]          ]00]          ]ZZ]HUB            ]01]E_9            ]260301]1530]#]00501]000000003]0]T]|*"
      ++ codes "GS]PO]E_9]E_9]20260301]1530]4]X]005010*ST]856]9998*EE*SE]3]9998*ST]856]9999*EE*SE]3]9999*GE]2]4*IEA]1]0000"
      ++ codes "00003*ISA]00]          ]00]          ]ZZ]HUB            ]01]E_9            ]260301]1530]#]00501]000000004]"
      ++ codes "0]T]|*GS]PO]E_9]E_9]20260301]1530]5]X]005010*ST]856]10000*EE*SE]3]10000*GE]1]5*IEA]1]000000004*") ∷ [];
  report = (codes "interchange 1 at 0 from E9 control 000000001 accepted\nta1 sent A 000\ngroup PO 1 A sets 2 accepted 2\nint"
      ++ codes "erchange 2 at 227 from E9 control 000000002 accepted\ngroup PO 1 P sets 3 accepted 1\ninterchange 3 at 513"
      ++ codes " from E9 control 000000003 accepted\ngroup SH 1 R sets 1 accepted 0\ntotal interchanges 3 refused 0 groups"
      ++ codes " 3 sets 6 accepted 3 held 0 outside 0\n");
  next = record { interchange = 5; group = 6; set = 10001 } ∷ [];
}
