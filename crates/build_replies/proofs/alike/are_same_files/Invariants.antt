use Rattle.std.proofs.Common.{◌≡◌, take, length, map}
use Rattle.build_replies.specs.Mapped.{id_view}
use Rattle.build_replies.proofs.alike.are_same_files.Given as goal

-- those that went by are the same
abbrev pub invariant-loop-i : goal.invariant-loop-i
invariant-loop-i l = record {
  long : length l.a ≡ length l.b;
  are : map id_view (take l.i l.a) ≡ map id_view (take l.i l.b);
}
