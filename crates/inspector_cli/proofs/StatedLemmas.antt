-- Bytes that are hashed while they are taken.
use Rattle.std.proofs.Common.{◌≡◌, ℕ, zero, suc, Bool, List, [], Option, Ok, arith, subst, sym}
use Rattle.std.proofs.lemmas.List.{append-nil}
use Rattle.disk_model.specs.declared.disk.Disk as disk
use Rattle.intake.specs.Parts.{Parts}
use Rattle.script_streams.specs.Replies.{Printing}
use Rattle.sha2.specs.declared.Sha256.{Sha256}
use Rattle.inspector_cli.specs.declared.session.Order.{Order}
use Rattle.inspector_cli.specs.Fitting.{Going}
use Rattle.inspector_cli.specs.Stated.{HashesOn, IsHashed}
use Rattle.inspector_cli.specs.Storing.{TakesNext}

-- none more
pub hashes_none : (hasher : Option Sha256) → HashesOn hasher hasher []
hashes_none hasher digest raw hashed = subst (IsHashed digest hasher) (sym (append-nil raw)) hashed

-- where a file ends, those so far are hashed
pub hashed_at_end : {D : Type 0} (g : disk.Ghosts D) (order : Order) (file file' : Option (List ℕ)) (fails fails' : ℕ) (begun new : Parts D) (raw : List ℕ) (gone : List (Going D)) (fit : Bool) (hasher hasher' : Option Sha256) (t : Printing) (digest : Option (List ℕ)) (count : ℕ)
    → count ≡ 0 → TakesNext g order file file' fails fails' begun raw gone fit (HashesOn hasher hasher') t new (Ok count) → IsHashed digest hasher raw → IsHashed digest hasher' raw
hashed_at_end g order file file' fails fails' begun new raw gone fit hasher hasher' t digest (suc n) is next hashed = absurd (omega (arith, is))
hashed_at_end g order file file' fails fails' begun new raw gone fit hasher hasher' t digest zero is (more, states, next, none) hashed =
    subst (IsHashed digest hasher') (append-nil raw) (next.4 digest raw hashed)
