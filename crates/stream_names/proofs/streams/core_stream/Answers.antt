use Rattle.std.proofs.Common.{◌∙◌, ap}
use Rattle.stream_names.specs.Streams.{core_stream}
use Rattle.stream_names.proofs.streams.core_stream.Goals as goal

pub returns : goal.returns
returns c = record { refused_or_begun = c.process_stream.ensures ∙ ap (core_stream c.args.naming.now) c.read.ensures }
