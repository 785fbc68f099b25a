use Rattle.std.proofs.Common.{◌≡◌, List, ◌++◌, length}
use Rattle.std.specs.List.{list_any}
use Rattle.stream_names.specs.declared.part.Part.{Part}
use Rattle.stream_names.specs.Template.{parts_of}
use Rattle.stream_names.specs.Expansion.{parts_text, is_pid_part}
use Rattle.stream_names.specs.Naming.{KeepsText, template_bytes}
use Rattle.stream_names.proofs.template.Template.expand.Given as goal

abbrev pub invariant-loop-part : goal.invariant-loop-part
invariant-loop-part l = record {
  done : List Part;
  cut : done ++ parts_of l.rest ≡ parts_of (template_bytes l.fn.self);
  keeps : KeepsText (parts_text l.facts done) l.text;
  shows_pid : l.shows_pid ≡ list_any is_pid_part done;
}

abbrev pub decreases-loop-part : goal.decreases-loop-part
decreases-loop-part l = length l.rest
