-- The files of a night make its guides and its setup: one order.
use Rattle.std.specs.Prelude.{pos, ◌≡◌, true, [], ◌∷◌, codes, Some}
use Rattle.toml.specs.Data.{Members, string, integer, boolean, array, table, no_items, item, no_members, member}
use Rattle.night_definition.specs.GuideFile.{guide_of_table}
use Rattle.night_definition.specs.SetupFile.{setup_of_tables}
use Rattle.night_examples.specs.NightOneOrder.{setup}
use Rattle.night_examples.specs.Guide1 as Guide1
use Rattle.night_examples.specs.Guide2 as Guide2

abbrev guide_1_table : Members
guide_1_table = (member (codes "dictionary") (array
    (item (string (codes "AMT"))
    (item (string (codes "CUR"))
    (item (string (codes "FOB"))
    (item (string (codes "PER"))
    (item (string (codes "SAC")) no_items))))))
    (member (codes "group") (string (codes "PO"))
    (member (codes "name") (string (codes "H850"))
    (member (codes "nodes") (array
    (item (table ((member (codes "elements") (array
    (item (string (codes "353 M ID 2 2 = 00 05 ! 01 04"))
    (item (string (codes "92 M ID 2 2 = NE SA"))
    (item (string (codes "324 M AN 1 22"))
    (item (string (codes "328 O AN 1 30"))
    (item (string (codes "373 M DT 8 8")) no_items))))))
    (member (codes "max") (integer (pos 1))
    (member (codes "min") (integer (pos 1))
    (member (codes "seg") (string (codes "BEG")) no_members))))))
    (item (table ((member (codes "conditions") (array
    (item (string (codes "R0203")) no_items))
    (member (codes "elements") (array
    (item (string (codes "128 M ID 2 3"))
    (item (string (codes "127 O AN 1 50"))
    (item (string (codes "352 O AN 1 80")) no_items))))
    (member (codes "max") (integer (pos 12))
    (member (codes "min") (integer (pos 0))
    (member (codes "seg") (string (codes "REF")) no_members)))))))
    (item (table ((member (codes "conditions") (array
    (item (string (codes "R0203")) no_items))
    (member (codes "elements") (array
    (item (string (codes "374 M ID 3 3"))
    (item (string (codes "373 O DT 8 8"))
    (item (string (codes "337 O TM 4 8")) no_items))))
    (member (codes "max") (integer (pos 10))
    (member (codes "min") (integer (pos 0))
    (member (codes "seg") (string (codes "DTM")) no_members)))))))
    (item (table ((member (codes "loop") (string (codes "N9"))
    (member (codes "max") (integer (pos 2))
    (member (codes "min") (integer (pos 0))
    (member (codes "nodes") (array
    (item (table ((member (codes "elements") (array
    (item (string (codes "128 M ID 2 3"))
    (item (string (codes "127 O AN 1 50")) no_items)))
    (member (codes "max") (integer (pos 1))
    (member (codes "min") (integer (pos 1))
    (member (codes "seg") (string (codes "N9")) no_members))))))
    (item (table ((member (codes "elements") (array
    (item (string (codes "933 M AN 1 264 wide")) no_items))
    (member (codes "max") (integer (pos 10))
    (member (codes "min") (integer (pos 0))
    (member (codes "seg") (string (codes "MSG")) no_members)))))) no_items))) no_members))))))
    (item (table ((member (codes "loop") (string (codes "N1"))
    (member (codes "max") (integer (pos 2))
    (member (codes "min") (integer (pos 0))
    (member (codes "nodes") (array
    (item (table ((member (codes "conditions") (array
    (item (string (codes "R0203"))
    (item (string (codes "P0304")) no_items)))
    (member (codes "elements") (array
    (item (string (codes "98 M ID 2 3 = BT ST VN"))
    (item (string (codes "93 O AN 1 60 wide"))
    (item (string (codes "66 O ID 1 2"))
    (item (string (codes "67 O AN 2 80")) no_items)))))
    (member (codes "max") (integer (pos 1))
    (member (codes "min") (integer (pos 1))
    (member (codes "seg") (string (codes "N1")) no_members)))))))
    (item (table ((member (codes "elements") (array
    (item (string (codes "166 M AN 1 55 wide"))
    (item (string (codes "166 O AN 1 55 wide")) no_items)))
    (member (codes "max") (integer (pos 2))
    (member (codes "min") (integer (pos 0))
    (member (codes "seg") (string (codes "N3")) no_members))))))
    (item (table ((member (codes "elements") (array
    (item (string (codes "19 O AN 2 30 wide"))
    (item (string (codes "156 O ID 2 2"))
    (item (string (codes "116 O ID 3 15"))
    (item (string (codes "26 O ID 2 3")) no_items)))))
    (member (codes "max") (integer (pos 1))
    (member (codes "min") (integer (pos 0))
    (member (codes "seg") (string (codes "N4")) no_members)))))) no_items)))) no_members))))))
    (item (table ((member (codes "loop") (string (codes "PO1"))
    (member (codes "max") (integer (pos 99999))
    (member (codes "min") (integer (pos 1))
    (member (codes "nodes") (array
    (item (table ((member (codes "conditions") (array
    (item (string (codes "C0504"))
    (item (string (codes "P0607")) no_items)))
    (member (codes "elements") (array
    (item (string (codes "350 O AN 1 20"))
    (item (string (codes "330 M R 1 5"))
    (item (string (codes "355 M ID 2 2 = CA EA ! DZ"))
    (item (string (codes "212 O R 1 9"))
    (item (string (codes "639 O ID 2 2"))
    (item (string (codes "235 O ID 2 2"))
    (item (string (codes "234 O AN 1 48")) no_items))))))))
    (member (codes "max") (integer (pos 1))
    (member (codes "min") (integer (pos 1))
    (member (codes "seg") (string (codes "PO1")) no_members)))))))
    (item (table ((member (codes "elements") (array
    (item (string (codes "349 M ID 1 1 = F"))
    (item (string (codes "750 O ID 2 3"))
    (item (string (codes "559 N"))
    (item (string (codes "751 N"))
    (item (string (codes "352 O AN 1 80 wide")) no_items))))))
    (member (codes "max") (integer (pos 5))
    (member (codes "min") (integer (pos 0))
    (member (codes "seg") (string (codes "PID")) no_members)))))) no_items))) no_members))))))
    (item (table ((member (codes "elements") (array
    (item (string (codes "354 M N0 1 6")) no_items))
    (member (codes "max") (integer (pos 1))
    (member (codes "min") (integer (pos 0))
    (member (codes "seg") (string (codes "CTT")) no_members)))))) no_items))))))))
    (member (codes "set") (string (codes "850"))
    (member (codes "tolerate_element") (array
    (item (string (codes "5")) no_items))
    (member (codes "version") (string (codes "005010")) no_members)))))))

abbrev guide_2_table : Members
guide_2_table = (member (codes "depends") (array
    (item (table ((member (codes "at") (integer (pos 3))
    (member (codes "codes") (array
    (item (string (codes "P")) no_items))
    (member (codes "element") (integer (pos 0))
    (member (codes "kind") (string (codes "need"))
    (member (codes "slot") (string (codes "HL"))
    (member (codes "target") (string (codes "MAN")) no_members)))))))) no_items))
    (member (codes "dictionary") (array
    (item (string (codes "FOB"))
    (item (string (codes "PER"))
    (item (string (codes "PKG"))
    (item (string (codes "SAC")) no_items)))))
    (member (codes "group") (string (codes "SH"))
    (member (codes "hl") (table ((member (codes "pairs") (array
    (item (string (codes "/S"))
    (item (string (codes "S/O"))
    (item (string (codes "O/P"))
    (item (string (codes "O/I"))
    (item (string (codes "P/I")) no_items))))))
    (member (codes "sequential") (boolean true) no_members))))
    (member (codes "name") (string (codes "H856"))
    (member (codes "nodes") (array
    (item (table ((member (codes "elements") (array
    (item (string (codes "353 M ID 2 2 = 00 ! 01"))
    (item (string (codes "396 M AN 2 30"))
    (item (string (codes "373 M DT 8 8"))
    (item (string (codes "337 M TM 4 8"))
    (item (string (codes "1005 O ID 4 4")) no_items))))))
    (member (codes "max") (integer (pos 1))
    (member (codes "min") (integer (pos 1))
    (member (codes "seg") (string (codes "BSN")) no_members))))))
    (item (table ((member (codes "loop") (string (codes "HL"))
    (member (codes "max") (integer (pos 99999))
    (member (codes "min") (integer (pos 1))
    (member (codes "nodes") (array
    (item (table ((member (codes "elements") (array
    (item (string (codes "628 M AN 1 12"))
    (item (string (codes "734 O AN 1 12"))
    (item (string (codes "735 M ID 1 2 = I O P S ! T"))
    (item (string (codes "736 O ID 1 1 = 0 1")) no_items)))))
    (member (codes "label") (string (codes "HL"))
    (member (codes "max") (integer (pos 1))
    (member (codes "min") (integer (pos 1))
    (member (codes "seg") (string (codes "HL")) no_members)))))))
    (item (table ((member (codes "elements") (array
    (item (string (codes "350 O AN 1 20"))
    (item (string (codes "235 M ID 2 2"))
    (item (string (codes "234 M AN 1 48")) no_items))))
    (member (codes "max") (integer (pos 1))
    (member (codes "min") (integer (pos 0))
    (member (codes "seg") (string (codes "LIN")) no_members))))))
    (item (table ((member (codes "elements") (array
    (item (string (codes "350 O AN 1 20"))
    (item (string (codes "382 M R 1 9"))
    (item (string (codes "355 M ID 2 2")) no_items))))
    (member (codes "max") (integer (pos 1))
    (member (codes "min") (integer (pos 0))
    (member (codes "seg") (string (codes "SN1")) no_members))))))
    (item (table ((member (codes "elements") (array
    (item (string (codes "324 M AN 1 22")) no_items))
    (member (codes "max") (integer (pos 1))
    (member (codes "min") (integer (pos 0))
    (member (codes "seg") (string (codes "PRF")) no_members))))))
    (item (table ((member (codes "conditions") (array
    (item (string (codes "C0203")) no_items))
    (member (codes "elements") (array
    (item (string (codes "133 O ID 1 2"))
    (item (string (codes "66 O ID 1 2"))
    (item (string (codes "67 O AN 2 80"))
    (item (string (codes "91 O ID 1 2")) no_items)))))
    (member (codes "max") (integer (pos 3))
    (member (codes "min") (integer (pos 0))
    (member (codes "seg") (string (codes "TD5")) no_members)))))))
    (item (table ((member (codes "conditions") (array
    (item (string (codes "R0203")) no_items))
    (member (codes "elements") (array
    (item (string (codes "128 M ID 2 3"))
    (item (string (codes "127 O AN 1 50"))
    (item (string (codes "352 O AN 1 80")) no_items))))
    (member (codes "max") (integer (pos 20))
    (member (codes "min") (integer (pos 0))
    (member (codes "seg") (string (codes "REF")) no_members)))))))
    (item (table ((member (codes "elements") (array
    (item (string (codes "88 M ID 1 2"))
    (item (string (codes "87 M AN 1 48")) no_items)))
    (member (codes "label") (string (codes "MAN"))
    (member (codes "max") (integer (pos 10))
    (member (codes "min") (integer (pos 0))
    (member (codes "seg") (string (codes "MAN")) no_members)))))))
    (item (table ((member (codes "conditions") (array
    (item (string (codes "R0203")) no_items))
    (member (codes "elements") (array
    (item (string (codes "374 M ID 3 3"))
    (item (string (codes "373 O DT 8 8"))
    (item (string (codes "337 O TM 4 8")) no_items))))
    (member (codes "max") (integer (pos 10))
    (member (codes "min") (integer (pos 0))
    (member (codes "seg") (string (codes "DTM")) no_members)))))))
    (item (table ((member (codes "loop") (string (codes "N1"))
    (member (codes "max") (integer (pos 5))
    (member (codes "min") (integer (pos 0))
    (member (codes "nodes") (array
    (item (table ((member (codes "conditions") (array
    (item (string (codes "R0203"))
    (item (string (codes "P0304")) no_items)))
    (member (codes "elements") (array
    (item (string (codes "98 M ID 2 3"))
    (item (string (codes "93 O AN 1 60 wide"))
    (item (string (codes "66 O ID 1 2"))
    (item (string (codes "67 O AN 2 80")) no_items)))))
    (member (codes "max") (integer (pos 1))
    (member (codes "min") (integer (pos 1))
    (member (codes "seg") (string
    (codes "N1")) no_members))))))) no_items)) no_members)))))) no_items)))))))))) no_members)))))) no_items)))
    (member (codes "set") (string (codes "856"))
    (member (codes "version") (string (codes "005010")) no_members))))))))

abbrev setup_table : Members
setup_table = (member (codes "hub") (table ((member (codes "code") (string (codes "HUB"))
    (member (codes "id") (string (codes "HUB"))
    (member (codes "qualifier") (string (codes "ZZ"))
    (member (codes "usage") (string (codes "P")) no_members))))))
    (member (codes "partner") (array
    (item (table ((member (codes "cap") (integer (pos 2))
    (member (codes "code") (string (codes "ACME"))
    (member (codes "component") (string (codes ">"))
    (member (codes "element") (string (codes "*"))
    (member (codes "guides") (array
    (item (string (codes "H850"))
    (item (string (codes "H856")) no_items)))
    (member (codes "id") (string (codes "ACME"))
    (member (codes "name") (string (codes "ACME"))
    (member (codes "qualifier") (string (codes "01"))
    (member (codes "repetition") (string (codes "^"))
    (member (codes "terminator") (string (codes "~")) no_members))))))))))))
    (item (table ((member (codes "cap") (integer (pos 1))
    (member (codes "code") (string (codes "BOLT"))
    (member (codes "component") (string (codes ":"))
    (member (codes "element") (string (codes "|"))
    (member (codes "guides") (array
    (item (string (codes "H850")) no_items))
    (member (codes "id") (string (codes "BOLT"))
    (member (codes "name") (string (codes "BOLT"))
    (member (codes "qualifier") (string (codes "ZZ"))
    (member (codes "repetition") (string (codes "^"))
    (member (codes "terminator") (string (codes "!")) no_members)))))))))))) no_items)))
    (member (codes "route") (array
    (item (table ((member (codes "code") (string (codes "ACME"))
    (member (codes "to") (string (codes "ACME")) no_members))))
    (item (table ((member (codes "code") (string (codes "BOLT"))
    (member (codes "to") (string (codes "BOLT")) no_members)))) no_items))) no_members)))

abbrev counters_table : Members
counters_table = (member (codes "counter") (array
    (item (table ((member (codes "interchange") (integer (pos 1))
    (member (codes "partner") (string (codes "ACME"))
    (member (codes "set") (integer (pos 1)) no_members)))))
    (item (table ((member (codes "interchange") (integer (pos 1))
    (member (codes "partner") (string (codes "BOLT"))
    (member (codes "set") (integer (pos 1)) no_members))))) no_items)))
    (member (codes "version") (integer (pos 1)) no_members))

pub record Computes : Type 0 where
  pub guide_1 : guide_of_table guide_1_table ≡ Some Guide1.guide_1
  pub guide_2 : guide_of_table guide_2_table ≡ Some Guide2.guide_2
  pub made : setup_of_tables setup_table counters_table (Guide1.guide_1 ∷ Guide2.guide_2 ∷ []) ≡ Some setup
