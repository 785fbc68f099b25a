-- The meaning of the code's parts of a CIE.
use Rattle.call_frames.specs.CommonEntry.{HeadView, FactorsView, DataView, CieView}
use Rattle.call_frames.specs.declared.common.Head.{Head}
use Rattle.call_frames.specs.declared.common.Factors.{Factors}
use Rattle.call_frames.specs.declared.common.Data.{Data}
use Rattle.call_frames.specs.declared.common.Cie.{Cie}

abbrev pub head_view : Head → HeadView
head_view h = record { version = h.version; letters = h.letters.now; rest = h.rest.now }

abbrev pub factors_view : Factors → FactorsView
factors_view f = record { code_align = f.code_align; data_align = f.data_align; column = f.column; rest = f.rest.now }

abbrev pub data_view : Data → DataView
data_view d = record { encoding = d.encoding; rest = d.rest.now }

abbrev pub cie_view : Cie → CieView
cie_view c = record {
  code_align = c.code_align;
  data_align = c.data_align;
  column = c.column;
  signal = c.signal;
  encoding = c.encoding;
  augmented = c.augmented;
  program = c.program.now;
}
