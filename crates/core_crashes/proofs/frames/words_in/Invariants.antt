use Rattle.std.proofs.Common.{◌≡◌, map, take}
use Rattle.arrayvec.specs.ArrayVec.{array_vec_len}
use Rattle.crash_signatures.specs.WordViews.{said}
use Rattle.frame_replies.specs.FrameValues.{frame_view}
use Rattle.image_replies.specs.CoreWords.{core_bytes}
use Rattle.core_crashes.specs.Walks.{word_in}
use Rattle.core_crashes.proofs.frames.words_in.Given as goal

-- the words of those that went by
abbrev pub invariant-loop-frame : goal.invariant-loop-frame
invariant-loop-frame l = record {
  words : map said l.words.items ≡ map (word_in (core_bytes l.core)) (map frame_view (take l.frame-index l.frames));
  count : array_vec_len l.words ≡ l.frame-index;
}
