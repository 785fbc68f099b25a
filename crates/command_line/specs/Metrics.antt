-- The facts of an archive as the text of Prometheus and of OpenMetrics.
use Rattle.std.specs.Prelude.{ℕ, ◌==◌, List, [], ◌∷◌, ◌++◌, Option, None, Some, codes, decimal, if◌then◌else◌}
use Rattle.std.specs.List.{flat_map}
use Rattle.case_tables.specs.declared.archive_screen.ArchiveFacts.{ArchiveFacts}
use Rattle.handler_files.specs.Counters.{counters, outcome_word, reason_if_lost, reason_word}
use Rattle.handler_files.specs.Counts.{count_of}
use Rattle.handler_files.specs.declared.counters.Counter.{Counter}
use Rattle.handler_files.specs.declared.counts.Counts.{Counts}
use Rattle.handler_files.specs.declared.reasons.Reason.{Reason}

-- a byte of a label's value: a backslash, a quote and a line break have a backslash before them
abbrev pub label_byte : ℕ → List ℕ
label_byte c = if c == 92 then 92 ∷ 92 ∷ [] else if c == 34 then 92 ∷ 34 ∷ [] else if c == 10 then 92 ∷ 110 ∷ [] else c ∷ []

-- `NAME{archive="PATH"} VALUE`
abbrev pub sample_text : List ℕ → List ℕ → ℕ → List ℕ
sample_text name path value =
    name ++ (codes "{archive=\"" ++ (flat_map label_byte path ++ (codes "\"} " ++ (decimal value ++ codes "\n"))))

-- its help, its type, and its sample
unfoldable pub metric_text : List ℕ → List ℕ → List ℕ → List ℕ → ℕ → List ℕ
metric_text name kind help path value =
    codes "# HELP " ++ (name ++ (codes " " ++ (help ++ (codes "\n# TYPE " ++ (name ++ (codes " " ++ (kind ++ (codes "\n" ++ sample_text name path value))))))))

-- a number that rises and falls
abbrev pub gauge : List ℕ → List ℕ → List ℕ → ℕ → List ℕ
gauge name help path value = metric_text name (codes "gauge") help path value

-- the time of the newest core, if one has a time
abbrev pub newest_text : List ℕ → ℕ → List ℕ
newest_text path newest =
    if newest == 0 then []
    else gauge (codes "corekeep_newest_core_timestamp_seconds") (codes "The time of the newest core.") path newest

-- the label with the reason, if a core is lost
abbrev pub reason_label : Option Reason → List ℕ
reason_label None = []
reason_label (Some reason) = codes ",reason=\"" ++ (reason_word reason ++ codes "\"")

-- `corekeep_handled_total{archive="PATH",outcome="OUTCOME"} COUNT`, and with a reason for lost cores
unfoldable pub handled_sample : List ℕ → Counter → ℕ → List ℕ
handled_sample path counter count =
    codes "corekeep_handled_total{archive=\"" ++ (flat_map label_byte path ++ (codes "\",outcome=\"" ++ (outcome_word counter ++ (codes "\""
    ++ (reason_label (reason_if_lost counter) ++ (codes "} " ++ (decimal count ++ codes "\n")))))))

-- a sample for each of these counters, in their order
abbrev pub handled_samples : List ℕ → List Counter → List ℕ → List ℕ
handled_samples path which counts = flat_map (λ counter. handled_sample path counter (count_of counts counter)) which

-- the handler's counters, if there are counts
abbrev pub handled_text : List ℕ → Option Counts → List ℕ
handled_text path None = []
handled_text path (Some counts) =
    codes "# HELP corekeep_handled_total Cores that the handler stored, cut, kept in the spool or lost, and cases that it dropped for them.\n# TYPE corekeep_handled_total counter\n"
    ++ handled_samples path counters counts.counts

-- all of them, in their order
abbrev pub metrics_text : List ℕ → ArchiveFacts → Option Counts → List ℕ
metrics_text path f counts =
    gauge (codes "corekeep_cores") (codes "Cores in the archive.") path f.cores
    ++ (gauge (codes "corekeep_executables") (codes "Executables in the archive.") path f.executables
    ++ (gauge (codes "corekeep_pinned") (codes "Cases that are pinned.") path f.pinned
    ++ (gauge (codes "corekeep_data_blocks") (codes "Data blocks of 4096 bytes.") path f.data_blocks
    ++ (gauge (codes "corekeep_free_blocks") (codes "Data blocks that no case has.") path f.free_blocks
    ++ (gauge (codes "corekeep_half_bytes") (codes "Bytes of a half of the journal.") path f.half
    ++ (gauge (codes "corekeep_used_bytes") (codes "Bytes in use of the half of the journal that counts.") path f.used
    ++ (metric_text (codes "corekeep_cases_stored_total") (codes "counter") (codes "Cases that were ever stored: the highest number that was given.") path f.last_number
    ++ (newest_text path f.newest ++ (handled_text path counts ++ codes "# EOF\n")))))))))
