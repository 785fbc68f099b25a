use Rattle.std.proofs.Common.{ap, sym, subst, ◌∙◌}
use Rattle.elf_view.specs.ViewWords.{image_of}
use Rattle.address_space.specs.Source.{Space, place_at}
use Rattle.address_space.specs.Pieces.{content_from}
use Rattle.address_space.specs.Ranges.{IsStretch, place_number}
use Rattle.address_space.proofs.Filled.{own_front, own_space}
use Rattle.address_space.proofs.space.AddressSpace.locate.Goals as goal

pub returns-clause-stretch : goal.returns-clause-stretch
returns-clause-stretch c =
    let image = c.image-image.result.now in
    subst (λ (s : Space). IsStretch (place_at s) c.args.at c.args.limit c.place-placed.result.length) (own_space c.args.self.now image c.image-image.ensures)
    (c.place-placed.ensures.stretch image (own_front (image_of c.args.self.now.elf) image c.image-image.ensures))

pub returns-clause-number : goal.returns-clause-number
returns-clause-number c =
    let image = c.image-image.result.now in
    ap (λ (s : Space). place_number (place_at s c.args.at)) (sym (own_space c.args.self.now image c.image-image.ensures))
    ∙ c.place-placed.ensures.number image (own_front (image_of c.args.self.now.elf) image c.image-image.ensures)

pub returns-clause-content : goal.returns-clause-content
returns-clause-content c =
    let image = c.image-image.result.now in
    ap (λ (s : Space). content_from s c.args.at c.place-placed.result.length) (sym (own_space c.args.self.now image c.image-image.ensures))
    ∙ c.place-placed.ensures.content image (own_front (image_of c.args.self.now.elf) image c.image-image.ensures)
    ∙ sym c.read_in.ensures
