use Rattle.std.proofs.Common.{[], rules}
use Rattle.inspector_cli.proofs.extract.write_image.Goals as goal

pub returns : goal.returns
returns g c =
    let told = c.print.ensures _ _ _ [] c.new-reply.ensures.told in
    let taken = c.finish.ensures.delivered _ _ _ c.args.image.now told in
    record { delivered = search (told.same, c.finish.ensures.same, taken, rules) }
