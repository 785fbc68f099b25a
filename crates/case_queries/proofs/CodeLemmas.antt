-- What is shown at an address of an executable, of what is stored under the name of its debug file.
use Rattle.std.proofs.Common.{ℕ, List, [], Result, Ok, Err, refl, subst, sym}
use Rattle.std.proofs.lemmas.List.{append-nil}
use Rattle.address_space.specs.Source.{ExecutableView}
use Rattle.archive_replies.specs.Reasons.{reason_of}
use Rattle.disk_model.specs.declared.disk.Disk as disk
use Rattle.intake.specs.Parts.{Parts, state_of}
use Rattle.intake.specs.declared.faults.ArchiveFault.{ArchiveFault}
use Rattle.journal_layout.specs.declared.entry.Kind.{Kind}
use Rattle.frame_replies.specs.Line.{line_answer}
use Rattle.memory_replies.specs.Answers.{Answers}
use Rattle.memory_replies.specs.SymbolDebug.{symbol_with_debug}
use Rattle.script_lines.specs.Queries.{ask_line, ask_symbol_by_build}
use Rattle.script_streams.specs.Replies.{no_reply}
use Rattle.case_queries.specs.CodeQueries.{code_answer, code_query}
use Rattle.case_queries.specs.Collecting.{CollectsAll, gathered_with, own_debugs}
use Rattle.case_queries.specs.Inspecting.{debug_image}
use Rattle.case_queries.specs.Steps.{Shows}
use Rattle.case_queries.specs.declared.code.CodeQuery.{CodeQuery}
use Rattle.case_queries.specs.declared.code.CodeQuery.TheVariants.{Function, Line}
use Rattle.case_queries.proofs.GatherLemmas.{alone, unread}

module _ {D : Type 0} (g : disk.Ghosts D) (old new : Parts D) (kind : Kind) (b : List ℕ) (v : ℕ) where
  pub executable_shown : (q : CodeQuery) (xs : List ExecutableView) (reply : List ℕ) → CollectsAll g old (own_debugs b (state_of old).cases) (Ok xs) new
      → Answers (code_answer q b (debug_image b xs) v) reply → Shows g old kind (code_query q v) b reply new
  executable_shown Function xs reply collects shown = (
    gathered_with (own_debugs b (state_of old).cases) xs [] (Ok []),
    alone g (ask_symbol_by_build v) b old new xs refl collects,
    subst (λ (ys : List ExecutableView). Answers (symbol_with_debug b (debug_image b ys) v) reply) (sym (append-nil xs)) shown,
  )
  executable_shown Line xs reply collects shown = (
    gathered_with (own_debugs b (state_of old).cases) xs [] (Ok []),
    alone g (ask_line v) b old new xs refl collects,
    subst (λ (ys : List ExecutableView). Answers (line_answer b (debug_image b ys) v) reply) (sym (append-nil xs)) shown,
  )

  pub executable_unread : (q : CodeQuery) (f : ArchiveFault) → CollectsAll g old (own_debugs b (state_of old).cases) (Err f) new → Shows g old kind (code_query q v) b (no_reply (reason_of f)) new
  executable_unread Function f collects = (Err f, unread g (ask_symbol_by_build v) b old new f collects, refl)
  executable_unread Line f collects = (Err f, unread g (ask_line v) b old new f collects, refl)
