use Rattle.std.proofs.Common.{◌≡◌, length, take}
use Rattle.build_replies.specs.Mapped.{AreIdsFor, names_of}
use Rattle.build_replies.proofs.ids.all_ids.Given as goal

-- those of the names that went by
abbrev pub invariant-loop-i : goal.invariant-loop-i
invariant-loop-i l = record {
  all : l.i-end ≡ length (names_of l.mapped);
  so_far : AreIdsFor l.image l.mapped (take l.i (names_of l.mapped)) l.ids.items;
}
