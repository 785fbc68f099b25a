use Rattle.std.proofs.Common.{◌≡◌, ◌↔◌, ℕ, List, ap, subst}
use Rattle.std.specs.Prelude.{IfOk, IsTrue}
use Rattle.address_space.specs.Disjoint.{AreDisjoint, AreFilesDisjoint}
use Rattle.core_notes.specs.FileList.{FileView}
use Rattle.address_space.specs.TableWords.{has_file_table, has_table}
use Rattle.elf_view.specs.Header.{segments_of}
use Rattle.address_space.specs.SpaceWords.{space_of}
use Rattle.address_space.specs.Source.{Space}
use Rattle.memory_replies.proofs.SpaceLemmas.{plain_is}
use Rattle.memory_replies.proofs.attached.indexed_space.Goals as goal

pub returns-clause-memory : goal.returns-clause-memory
returns-clause-memory c =
    subst (λ (t : Space). IfOk c.indexed.result (λ s. space_of s ≡ t)) (plain_is c.elf.result c.files.result _ _ c.elf.ensures.image c.files.ensures c.notes.ensures) c.indexed.ensures.same

pub returns-clause-table : goal.returns-clause-table
returns-clause-table c =
    subst (λ (b : List ℕ). IfOk c.indexed.result (λ s. IsTrue (has_table s) ↔ AreDisjoint (segments_of b))) c.elf.ensures.image c.indexed.ensures.table

pub returns-clause-files : goal.returns-clause-files
returns-clause-files c =
    subst (λ (fs : List FileView). IfOk c.indexed.result (λ s. IsTrue (has_file_table s) ↔ AreFilesDisjoint fs))
    (ap (λ (t : Space). t.files) (plain_is c.elf.result c.files.result _ _ c.elf.ensures.image c.files.ensures c.notes.ensures)) c.indexed.ensures.files
