-- Words and frames as the program has them.
use Rattle.std.specs.Prelude.{ℕ, List, option_map}
use Rattle.std.specs.Borrow.{Bor}
use Rattle.crash_signatures.specs.Frames.{FileSaid, FrameSaid}
use Rattle.crash_signatures.specs.Words.{WordSaid}
use Rattle.crash_signatures.specs.declared.frames.FrameFacts.{FrameFacts}
use Rattle.crash_signatures.specs.declared.frames.MappedFile.{MappedFile}
use Rattle.crash_signatures.specs.declared.words.Word.{Word}

abbrev pub said : Word → WordSaid
said w = record { text = w.text.items; is_mark = w.is_mark }

abbrev pub file_said : MappedFile → FileSaid
file_said f = record { path = f.path.now; start = f.start; offset = f.offset }

abbrev pub frame_said : FrameFacts → FrameSaid
frame_said f = record {
  pc = f.pc;
  is_signal = f.is_signal;
  function = option_map (λ (name : Bor (List ℕ)). name.now) f.function;
  file = option_map file_said f.file;
  is_vdso = f.is_vdso;
  has_files = f.has_files;
}
