-- A complete night: random wrong character.
use Rattle.std.specs.Prelude.{ℕ, ◌≡◌, List, [], ◌∷◌, ◌++◌, codes, Some}
use Rattle.partner_setup.specs.declared.partner.Partner.{Partner}
use Rattle.partner_setup.specs.declared.rows.Usage.TheVariants as usage
use Rattle.night_definition.specs.Setup.{Setup}
use Rattle.night_definition.specs.Night.{night_of}
use Rattle.night_examples.specs.Guide27.{guide_27}
use Rattle.night_examples.specs.Guide28.{guide_28}
use Rattle.night_examples.specs.Guide7.{guide_7}
use Rattle.night_examples.specs.Guide8.{guide_8}

abbrev pub text : List ℕ
text = (codes "ISA?00?          ?00?          ?ZZ?D-1            ?ZZ?HUB            ?260228?0900?" ++ (133 ∷ [])
    ++ codes "?00501?000000001?0?P?]" ++ (28 ∷ []) ++ codes "GS?QQ?D-1?D-1?20260228?0900?1?X?005010" ++ (28 ∷ [])
    ++ codes "ST?991?0001" ++ (28 ∷ []) ++ codes "HL?1??A" ++ (28 ∷ []) ++ codes "AAA?0900591" ++ (133 ∷ []) ++ codes "2359"
    ++ (133 ∷ []) ++ codes "0900591?8??01?]01" ++ (28 ∷ []) ++ codes "CC1?A" ++ (28 ∷ []) ++ codes "CC1?A" ++ (28 ∷ [])
    ++ codes "CC1?A" ++ (28 ∷ []) ++ codes "EE?2359?]95808]?3" ++ (28 ∷ []) ++ codes "EE?2359?-6.]-13]337??2359"
    ++ (133 ∷ []) ++ codes "0900" ++ (28 ∷ []) ++ codes "EE?235959?]602]3388?1" ++ (28 ∷ []) ++ codes "AAA??-4??01"
    ++ (28 ∷ []) ++ codes "CC1?A" ++ (28 ∷ []) ++ codes "CC1?A" ++ (28 ∷ []) ++ codes "SE?13?0001" ++ (28 ∷ [])
    ++ codes "GE?1?1" ++ (28 ∷ []) ++ codes "IEA?1?000000001" ++ (28 ∷ []) ++ codes "ISA" ++ (29 ∷ []) ++ codes "00"
    ++ (29 ∷ []) ++ codes "          " ++ (29 ∷ []) ++ codes "00" ++ (29 ∷ []) ++ codes "          " ++ (29 ∷ [])
    ++ codes "ZZ" ++ (29 ∷ []) ++ codes "D-1            " ++ (29 ∷ []) ++ codes "ZZ" ++ (29 ∷ []) ++ codes "HUB            "
    ++ (29 ∷ []) ++ codes "260228" ++ (29 ∷ []) ++ codes "0900" ++ (29 ∷ []) ++ codes " " ++ (29 ∷ []) ++ codes "00501"
    ++ (29 ∷ []) ++ codes "000000002" ++ (29 ∷ []) ++ codes "1" ++ (29 ∷ []) ++ codes "P" ++ (29 ∷ []) ++ codes "*"
    ++ (28 ∷ []) ++ codes "IEA" ++ (29 ∷ []) ++ codes "0" ++ (29 ∷ []) ++ codes "000000002" ++ (28 ∷ []))

abbrev pub partner_1 : Partner
partner_1 = record {
  name = codes "D1";
  qualifier = codes "ZZ";
  id = codes "D-1";
  code = codes "D-1";
  delims = record { element = 38; component = 29; repetition = Some 28; terminator = 63 };
  cap = 1;
  counters = record { interchange = 999999998; group = 1; set = 999999999 };
  guides = (2 ∷ 1 ∷ 3 ∷ 0 ∷ []);
}

abbrev pub setup : Setup
setup = record {
  hub = record { qualifier = codes "ZZ"; id = codes "HUB"; code = codes "HUB CODE"; usage = usage.Test };
  partners = partner_1 ∷ [];
  routes = record { code = codes "D-1"; to = (0 ∷ []) } ∷ record { code = codes "XX"; to = (0 ∷ []) } ∷ [];
  guides = guide_27 ∷ guide_28 ∷ guide_7 ∷ guide_8 ∷ [];
}

abbrev pub Computes : Type 0
Computes = night_of text setup (codes "202603011530") ≡ record {
  acks = (codes "ISA&00&          &00&          &ZZ&HUB            &ZZ&D-1            &260301&1530&" ++ (28 ∷ [])
      ++ codes "&00501&999999998&0&T&" ++ (29 ∷ [])
      ++ codes "?GS&FA&HUB CODE&D-1&20260301&1530&1&X&005010X231?ST&999&0001&005010X231?AK1&QQ&1&005010?AK2&991&0001?IK3&C"
      ++ codes "C1&4&L4&8?IK4&1" ++ (29 ∷ []) ++ codes "1" ++ (29 ∷ []) ++ codes "1&9353&6&A?IK3&CC1&5&L4&8?IK4&1" ++ (29 ∷ [])
      ++ codes "1" ++ (29 ∷ []) ++ codes "1&9353&6&A?IK3&CC1&6&L4&8?IK4&1" ++ (29 ∷ []) ++ codes "1" ++ (29 ∷ [])
      ++ codes "1&9353&6&A?IK3&EE&9&L2&5?IK3&CC1&11&L4&8?IK4&1" ++ (29 ∷ []) ++ codes "1" ++ (29 ∷ [])
      ++ codes "1&9353&6&A?IK3&CC1&12&L4&8?IK4&1" ++ (29 ∷ []) ++ codes "1" ++ (29 ∷ [])
      ++ codes "1&9353&6&A?IK5&R&5?AK9&R&1&1&0?SE&17&0001?GE&1&1?IEA&1&999999998?") ∷ [];
  boxes = [] ∷ [];
  report = (codes "interchange 1 at 0 from D1 control 000000001 accepted\ngroup QQ 1 R sets 1 accepted 0\ninterchange 2 at 34"
      ++ codes "7 from D1 control 000000002 accepted\ntotal interchanges 2 refused 0 groups 1 sets 1 accepted 0 held 0 out"
      ++ codes "side 0\n");
  next = record { interchange = 999999999; group = 2; set = 999999999 } ∷ [];
}
