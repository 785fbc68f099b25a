use Rattle.frame_replies.proofs.SourceLemmas.{first_of_its_path}
use Rattle.frame_replies.proofs.source_reader.SourceReader.source_at.Goals as goal

pub read-requires : goal.read-requires
read-requires c = first_of_its_path _ _ _ c.in-Some.ensures
