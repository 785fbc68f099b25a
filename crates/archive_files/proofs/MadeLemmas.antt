-- What a stop leaves of an archive that was made.
use Rattle.std.proofs.Common.{ℕ, Bool, true, false, List, [], refl, sym, subst}
use Rattle.disk_model.specs.declared.disk.Disk as disk
use Rattle.intake.specs.Durable.{Durable}
use Rattle.journal_layout.specs.Standing.{fresh}
use Rattle.journal_layout.specs.Stands.{Stands}
use Rattle.journal_layout.specs.declared.shape.Half.TheVariants.{A}
use Rattle.journal_layout.specs.declared.shape.Shape.{Shape}
use Rattle.archive_files.specs.Making.{HaveNoCase, IsFresh, nothing_yet}

-- no case of version 1 of the layout
abbrev pub none_in_one : Durable
none_in_one = record { cases = []; next = 1; version = 1 }

pub no_case_is_left : {D : Type 0} (g : disk.Ghosts D) (shape : Shape) (after : D) (keeps_labels : Bool) → IsFresh g shape keeps_labels after → (c : List ℕ) → g.may_leave after c → HaveNoCase c
no_case_is_left g shape after true made c may = (nothing_yet, made.1 c may, refl)
no_case_is_left g shape after false made c may = (
  none_in_one,
  record { standing = fresh shape A 1 1; stands = subst (λ (b : List ℕ). Stands b (fresh shape A 1 1)) (sym (made.1 c may)) made.0; is = refl },
  refl,
)
