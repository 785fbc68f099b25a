use Rattle.std.proofs.Common.{◌≡◌, take, map}
use Rattle.address_space.specs.SpaceWords.{core_of, space_of}
use Rattle.image_replies.specs.CoreWords.{core_bytes}
use Rattle.memory_replies.specs.Places.{known_among}
use Rattle.memory_replies.specs.Memory.{attached_view, memory_of}
use Rattle.memory_replies.specs.NamedWords.{named_view}
use Rattle.memory_replies.proofs.attached.space_and_images.Given as goal

-- those that went by are attached, and read where their symbols have no fault
abbrev pub invariant-loop-executable : goal.invariant-loop-executable
invariant-loop-executable l = record {
  attached : space_of l.space ≡ memory_of (core_bytes l.core) (map attached_view (take l.executable-index l.attached));
  named : map named_view l.images.list.items ≡ known_among (map attached_view (take l.executable-index l.attached));
  core : core_of l.space ≡ core_bytes l.core;
}
