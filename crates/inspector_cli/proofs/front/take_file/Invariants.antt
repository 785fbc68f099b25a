use Rattle.std.proofs.Common.{◌≡◌, ◌≤◌, ◌*◌, ℕ, false, true, List, [], length, Ok}
use Rattle.std.specs.List.{flat_map}
use Rattle.std.specs.Io.KnownBytes.{Consumes}
use Rattle.intake.specs.Parts.{state_of}
use Rattle.script_streams.specs.Replies.{PrintsText, printing}
use Rattle.inspector_cli.specs.Fitting.{Going, IsServed, IsWithin, TakesWhile, going_text}
use Rattle.inspector_cli.specs.Stated.{IsHashed}
use Rattle.inspector_cli.proofs.front.take_file.Given as goal

abbrev pub invariant-loop : goal.invariant-loop
invariant-loop g l = record {
  gone : List (Going _);
  told : PrintsText (printing g.O.Output l.fn.reply l.reply) (flat_map going_text gone);
  raw : List ℕ;
  consumed : Consumes (g.I.Input.remaining l.initial.file) (g.I.Input.remaining l.file) raw;
  counted : l.counter ≤ length raw;
  failures : g.I.Input.failures l.file ≡ g.I.Input.failures l.initial.file;
  takes : TakesWhile g.D.Disk l.fn.order l.fn.archive raw gone (Ok tt) l.archive;
  unasked : l.fn.fit ≡ false → gone ≡ [];
  length : l.taken ≡ length raw;
  within : IsWithin l.fn.cut l.taken;
  stated : IsWithin l.fn.stated.length l.taken;
  hashed : IsHashed l.fn.stated.digest l.hasher raw;
  few : l.taken ≤ 4096 * l.counter;
  served : l.fn.fit ≡ true → IsServed (state_of l.fn.archive) → IsServed (state_of l.archive);
}
