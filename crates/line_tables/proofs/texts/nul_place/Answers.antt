use Rattle.call_frames.proofs.Letters.{nul_is}
use Rattle.line_tables.proofs.texts.nul_place.Goals as goal

pub returns : goal.returns
returns c = nul_is c.args.bytes.now c.memchr.result c.memchr.ensures
