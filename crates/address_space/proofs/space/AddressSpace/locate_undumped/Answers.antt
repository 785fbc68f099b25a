use Rattle.std.proofs.Common.{◌+◌, ap, ◌∙◌}
use Rattle.elf_view.specs.Field.{part}
use Rattle.core_notes.specs.FileWords.{file_view}
use Rattle.address_space.specs.Source.{undumped, filed, entry_at, executable_named, content_by}
use Rattle.address_space.specs.SpaceWords.{space_of}
use Rattle.address_space.proofs.Places.{extended, undumped_apart, with_number}
use Rattle.address_space.proofs.space.AddressSpace.locate_undumped.Goals as goal

pub returns-in-Some-clause-stretch : goal.returns-in-Some-clause-stretch
returns-in-Some-clause-stretch c i =
    let space = space_of c.args.self.now in
    let at = c.args.at in
    let file = file_view c.in-Some.file in
    let entry = with_number file_view c.file_at-length.result.0 c.in-Some.file (entry_at space.files at) c.in-Some.is c.file_at-length.ensures.first in
    let alike = c.file_at-length.ensures.alike in
    extended (λ b. undumped space b i (entry_at space.files b)) (λ b. filed b i (entry.0, file) (executable_named space file.name)) at c.args.limit c.file_at-length.result.1 c.locate_in_file.result.1
    (c.locate_in_file.ensures.stretch i entry.0)
    (λ k h. ap (undumped space (at + k) i) (alike.same k h ∙ entry.1))
    alike.within
    (λ h. undumped_apart space at (at + c.file_at-length.result.1) i (entry_at space.files at) (entry_at space.files (at + c.file_at-length.result.1)) (alike.longest h))

pub returns-in-Some-clause-content : goal.returns-in-Some-clause-content
returns-in-Some-clause-content c b i =
    let space = space_of c.args.self.now in
    let at = c.args.at in
    let file = file_view c.in-Some.file in
    let entry = with_number file_view c.file_at-length.result.0 c.in-Some.file (entry_at space.files at) c.in-Some.is c.file_at-length.ensures.first in
    ap (λ e. content_by (λ bytes k. part bytes k c.locate_in_file.result.1) at (undumped space at i e)) entry.1 ∙ c.locate_in_file.ensures.content b i entry.0
