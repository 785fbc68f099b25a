-- A file that did not take another's place, and was let go.
use Rattle.std.proofs.Common.{◌≡◌, true, Err, rules}
use Rattle.disk_model.specs.declared.file_fault.FileFault.{FileFault}
use Rattle.whole_files.specs.declared.facts.FileFacts.{FileFacts}
use Rattle.whole_files.specs.declared.faults.NameFault.{NameFault}
use Rattle.whole_files.specs.declared.faults.NameFault.TheVariants.{Unnamed, Exchanged, Named}
use Rattle.whole_files.specs.Whole.{IsUnnamed, EndsSo, IsRenamedSo}

pub let_go : (fault : NameFault) (f g : FileFacts) → IsRenamedSo (Err fault) f → g.is_let_go ≡ true
    → g.is_named ≡ f.is_named → g.has_replaced ≡ f.has_replaced → EndsSo true (Err fault) g
let_go (Unnamed fault) f g is gone named replaced = search rules
let_go Exchanged f g is gone named replaced = search rules
let_go (Named number) f g is gone named replaced = absurd is

-- A call before the rename failed.
pub not_renamed : (fault : NameFault) (f : FileFacts) → (why : FileFault) × (fault ≡ Unnamed why) → IsUnnamed f → IsRenamedSo (Err fault) f
not_renamed (Unnamed fault) f is part = part
not_renamed Exchanged f is part = part
not_renamed (Named number) f (why, is) part = search rules
