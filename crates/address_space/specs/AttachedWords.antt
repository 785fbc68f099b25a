-- The meaning of the code's executables.
use Rattle.address_space.specs.Source.{ExecutableView}
use Rattle.address_space.specs.declared.attached.Attached.{Attached}

-- an executable, as it is handed over
abbrev pub attached_view : Attached → ExecutableView
attached_view x = record { path = x.path.now; image = x.image.now }
