-- X12.6, functional group header (GS): what it names the group by.
use Rattle.x12_segs.specs.Words.{SegValue, element_of}
use Rattle.env_index.specs.declared.header_elements.GroupElements.{GroupElements}

-- GS01, GS06 and GS08
abbrev pub group_elements : SegValue → GroupElements
group_elements header = record {
  functional_id = element_of header 1;
  control = element_of header 6;
  version = element_of header 8;
}
