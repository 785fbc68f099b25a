-- The meaning of the code's typed notes: the bytes of their descriptors.
use Rattle.std.specs.Prelude.{ℕ, List}
use Rattle.core_notes.specs.Descriptor.{pairs_between}
use Rattle.core_notes.specs.declared.auxiliary.Auxv.{Auxv}
use Rattle.core_notes.specs.declared.auxiliary.AuxvPair.{AuxvPair}
use Rattle.core_notes.specs.declared.auxiliary.AuxvPairs.{AuxvPairs}
use Rattle.core_notes.specs.declared.thread_state.Status.{Status}
use Rattle.core_notes.specs.declared.process_info.PsInfo.{PsInfo}
use Rattle.core_notes.specs.declared.signal_info.SigInfo.{SigInfo}

abbrev pub status_bytes : Status → List ℕ
status_bytes s = s.desc.now

abbrev pub psinfo_bytes : PsInfo → List ℕ
psinfo_bytes p = p.desc.now

abbrev pub siginfo_bytes : SigInfo → List ℕ
siginfo_bytes s = s.desc.now

abbrev pub auxv_bytes : Auxv → List ℕ
auxv_bytes a = a.desc.now

-- the pairs that are still to come
abbrev pub pairs_left : AuxvPairs → List AuxvPair
pairs_left p = pairs_between p.desc.now p.index p.left
