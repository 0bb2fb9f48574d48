-- A complete night: random interchange truncated.
use Rattle.std.specs.Prelude.{ℕ, ◌≡◌, List, [], ◌∷◌, ◌++◌, codes, Some}
use Rattle.partner_setup.specs.declared.partner.Partner.{Partner}
use Rattle.partner_setup.specs.declared.rows.Usage.TheVariants as usage
use Rattle.night_definition.specs.Setup.{Setup}
use Rattle.night_definition.specs.Night.{night_of}
use Rattle.night_examples.specs.Guide10.{guide_10}
use Rattle.night_examples.specs.Guide11.{guide_11}
use Rattle.night_examples.specs.Guide7.{guide_7}
use Rattle.night_examples.specs.Guide8.{guide_8}

abbrev pub text : List ℕ
text = (codes "ISA" ++ (30 ∷ []) ++ codes "00" ++ (30 ∷ []) ++ codes "          " ++ (30 ∷ []) ++ codes "00" ++ (30 ∷ [])
    ++ codes "          " ++ (30 ∷ []) ++ codes "ZZ" ++ (30 ∷ []) ++ codes "BOLT           " ++ (30 ∷ []) ++ codes "ZZ"
    ++ (30 ∷ []) ++ codes "HUB            " ++ (30 ∷ []) ++ codes "260228" ++ (30 ∷ []) ++ codes "0900" ++ (30 ∷ [])
    ++ codes " " ++ (30 ∷ []) ++ codes "00501" ++ (30 ∷ []) ++ codes "000000001" ++ (30 ∷ []) ++ codes "1" ++ (30 ∷ [])
    ++ codes "P" ++ (30 ∷ []) ++ codes "+&" ++ (13 ∷ []) ++ codes "\nIEA" ++ (30 ∷ []) ++ codes "0" ++ (30 ∷ [])
    ++ codes "000000001&" ++ (13 ∷ []) ++ codes "\nISA" ++ (30 ∷ []) ++ codes "00" ++ (30 ∷ []) ++ codes "          "
    ++ (30 ∷ []) ++ codes "00" ++ (30 ∷ []) ++ codes "          " ++ (30 ∷ []) ++ codes "01" ++ (30 ∷ [])
    ++ codes "NOBODY         " ++ (30 ∷ []) ++ codes "ZZ" ++ (30 ∷ []) ++ codes "HUB            " ++ (30 ∷ [])
    ++ codes "260228" ++ (30 ∷ []) ++ codes "0900" ++ (30 ∷ []) ++ codes "0" ++ (30 ∷ []) ++ codes "00501" ++ (30 ∷ [])
    ++ codes "00000000A" ++ (30 ∷ []) ++ codes "1" ++ (30 ∷ []) ++ codes "P" ++ (30 ∷ []) ++ codes "#;GS" ++ (30 ∷ [])
    ++ codes "SH" ++ (30 ∷ []) ++ codes "C.X" ++ (30 ∷ []) ++ codes "BOLT" ++ (30 ∷ []) ++ codes "20260228" ++ (30 ∷ [])
    ++ codes "0900" ++ (30 ∷ []) ++ codes "1" ++ (30 ∷ []) ++ codes "X" ++ (30 ∷ []) ++ codes "005010;GE" ++ (30 ∷ [])
    ++ codes "0" ++ (30 ∷ []) ++ codes "1;GS" ++ (30 ∷ []) ++ codes "SH" ++ (30 ∷ []) ++ codes "C.X" ++ (30 ∷ [])
    ++ codes "C.X" ++ (30 ∷ []) ++ codes "20260228" ++ (30 ∷ []) ++ codes "0900" ++ (30 ∷ []) ++ codes "2" ++ (30 ∷ [])
    ++ codes "X" ++ (30 ∷ []) ++ codes "005010;GE" ++ (30 ∷ []) ++ codes "0" ++ (30 ∷ []) ++ codes "2;IEA" ++ (30 ∷ [])
    ++ codes "9" ++ (30 ∷ []) ++ codes "000000")

abbrev pub partner_1 : Partner
partner_1 = record {
  name = codes "BOLT";
  qualifier = codes "ZZ";
  id = codes "BOLT";
  code = codes "BOLT";
  delims = record { element = 61; component = 43; repetition = Some 36; terminator = 30 };
  cap = 1;
  counters = record { interchange = 1; group = 1; set = 1 };
  guides = (3 ∷ 2 ∷ 0 ∷ []);
}

abbrev pub partner_2 : Partner
partner_2 = record {
  name = codes "CX";
  qualifier = codes "01";
  id = codes "C.X";
  code = codes "C.X";
  delims = record { element = 63; component = 62; repetition = Some 42; terminator = 30 };
  cap = 1;
  counters = record { interchange = 1; group = 1; set = 9998 };
  guides = (3 ∷ 1 ∷ 0 ∷ []);
}

abbrev pub setup : Setup
setup = record {
  hub = record { qualifier = codes "ZZ"; id = codes "HUB"; code = codes "HUB CODE"; usage = usage.Production };
  partners = partner_1 ∷ partner_2 ∷ [];
  routes = record { code = codes "BOLT"; to = (0 ∷ []) } ∷ record { code = codes "C.X"; to = (1 ∷ []) } ∷ record {
    code = codes "XX";
    to = (0 ∷ []);
  } ∷ [];
  guides = guide_10 ∷ guide_11 ∷ guide_7 ∷ guide_8 ∷ [];
}

abbrev pub Computes : Type 0
Computes = night_of text setup (codes "202603011530") ≡ record {
  acks = [] ∷ [] ∷ [];
  boxes = [] ∷ [] ∷ [];
  report = (codes "interchange 1 at 0 from BOLT control 000000001 accepted\ninterchange 2 at 126 from ? control ? refused 1\n"
      ++ codes "total interchanges 2 refused 1 groups 0 sets 0 accepted 0 held 0 outside 0\n");
  next = record { interchange = 1; group = 1; set = 1 } ∷ record { interchange = 1; group = 1; set = 9998 } ∷ [];
}
