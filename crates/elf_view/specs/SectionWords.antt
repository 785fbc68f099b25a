-- The meaning of the code's sections.
use Rattle.std.specs.Prelude.{Result, Ok, Err}
use Rattle.std.specs.Option.{option_map}
use Rattle.elf_view.specs.SectionTable.{SectionView}
use Rattle.elf_view.specs.declared.faults.SectionFault.{SectionFault}
use Rattle.elf_view.specs.declared.sections.Section.{Section}

abbrev pub section_view : Section → SectionView
section_view s = record {
  name = s.name;
  kind = s.kind;
  flags = s.flags;
  addr = s.addr;
  offset = s.offset;
  size = s.size;
  link = s.link;
  info = s.info;
  addralign = s.addralign;
  entsize = s.entsize;
  bytes = option_map (λ bytes. bytes.now) s.bytes;
}

abbrev pub section_result : Result Section SectionFault → Result SectionView SectionFault
section_result (Ok s) = Ok (section_view s)
section_result (Err fault) = Err fault
