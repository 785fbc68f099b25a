-- The verdict on the image of a case, and the line that prints it.
use Rattle.std.specs.Prelude.{ℕ, nat_lt, length, if◌then◌else◌, List, [], ◌∷◌, ◌++◌, Option, None, Some, codes, decimal}
use Rattle.core_checks.specs.Whole.{whole_length}
use Rattle.elf_view.specs.Sound.{first_fault}
use Rattle.elf_view.specs.declared.faults.ElfFault.{ElfFault}
use Rattle.elf_view.specs.declared.faults.Want.TheVariants as want
use Rattle.image_replies.specs.Core.{core_fault_of}
use Rattle.image_replies.specs.Reasons.{core_reason, elf_reason}
use Rattle.image_replies.specs.declared.core_image.CoreFault.{CoreFault}
use Rattle.journal_layout.specs.declared.entry.Kind.{Kind}
use Rattle.journal_layout.specs.declared.entry.Kind.TheVariants as kind
use Rattle.script_streams.specs.Replies.{no_reply}
use Rattle.archive_checks.specs.declared.verdict.Verdict.{Verdict}
use Rattle.archive_checks.specs.declared.verdict.Verdict.TheVariants.{Sound, Cut, Core, Exec}

-- whether a sound core of so many bytes was cut: its program headers want more
abbrev pub cut_verdict : ℕ → Option ℕ → Verdict
cut_verdict has None = Sound
cut_verdict has (Some whole) = if nat_lt has whole then Cut has whole else Sound

-- the first fault of a core, or whether it was cut
abbrev pub core_verdict : Option CoreFault → ℕ → Option ℕ → Verdict
core_verdict None has whole = cut_verdict has whole
core_verdict (Some fault) has whole = Core fault

-- the first fault of an executable, if there is one
abbrev pub exec_verdict : Option ElfFault → Verdict
exec_verdict None = Sound
exec_verdict (Some fault) = Exec fault

-- the verdict on the bytes of an image
abbrev pub verdict_of : Kind → List ℕ → Verdict
verdict_of kind.Core b = core_verdict (core_fault_of b) (length b) (whole_length b)
verdict_of kind.Exec b = exec_verdict (first_fault want.Exec b)

-- `sound, cut: HAS of WHOLE bytes`
abbrev pub cut_words : ℕ → ℕ → List ℕ
cut_words has whole = codes "sound, cut: " ++ (decimal has ++ (codes " of " ++ (decimal whole ++ codes " bytes\n")))

-- `sound`, and whether it was cut; or `no FIELD`
abbrev pub verdict_words : Verdict → List ℕ
verdict_words Sound = codes "sound\n"
verdict_words (Cut has whole) = cut_words has whole
verdict_words (Core fault) = no_reply (core_reason fault)
verdict_words (Exec fault) = no_reply (elf_reason fault)

-- `case N `
abbrev pub case_start : ℕ → List ℕ
case_start seq = codes "case " ++ (decimal seq ++ 32 ∷ [])

-- `case N sound`, with a cut of a core if there was one, or `case N no FIELD`
abbrev pub verdict_line : ℕ → Verdict → List ℕ
verdict_line seq verdict = case_start seq ++ verdict_words verdict

-- the same of the bytes of an image
abbrev pub image_line : ℕ → Kind → List ℕ → List ℕ
image_line seq kind b = verdict_line seq (verdict_of kind b)

-- `case N no NoCase`
abbrev pub gone_line : ℕ → List ℕ
gone_line seq = case_start seq ++ no_reply (codes "NoCase")
