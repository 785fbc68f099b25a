-- An image, out of its archive.
use Rattle.std.specs.Prelude.{ℕ, Result, Ok, Err, Vec}
use Rattle.std.specs.Global.{Global}
use Rattle.disk_model.specs.declared.disk.Disk as disk
use Rattle.intake.specs.Calls.{ImageCall}
use Rattle.inspector_cli.specs.declared.extract.ImageFault.{ImageFault}
use Rattle.inspector_cli.specs.declared.extract.ImageFault.TheVariants.{Open, Archive}
use Rattle.inspector_cli.specs.Life.{OpensThen, IsOpeningRefused}

-- An archive is opened, and an image of it read, or why not; the disk that is handed back is the one after that.
abbrev pub ReadsImage : {D : Type 0} → disk.Ghosts D → ℕ → ℕ → D → Result (Vec ℕ Global) ImageFault → D → Type 0
ReadsImage g limit seq before (Ok image) after = OpensThen g limit before after (λ opened closed. ImageCall g opened seq (Ok image) closed)
ReadsImage g limit seq before (Err (Archive f)) after = OpensThen g limit before after (λ opened closed. ImageCall g opened seq (Err f) closed)
ReadsImage g limit seq before (Err (Open f)) after = IsOpeningRefused g limit before after f
