-- The meaning of the code's views of a core's notes.
use Rattle.std.specs.Option.{option_map}
use Rattle.core_notes.specs.DescriptorWords.{psinfo_bytes, auxv_bytes, siginfo_bytes}
use Rattle.core_notes.specs.FileWords.{files_bytes}
use Rattle.core_notes.specs.Typed.{FirstDescs}
use Rattle.core_notes.specs.declared.first_notes.FirstNotes.{FirstNotes}

-- the descriptors of the notes that were found
abbrev pub first_view : FirstNotes → FirstDescs
first_view f = record {
  psinfo = option_map psinfo_bytes f.psinfo;
  auxv = option_map auxv_bytes f.auxv;
  siginfo = option_map siginfo_bytes f.siginfo;
  files = option_map files_bytes f.files;
}
