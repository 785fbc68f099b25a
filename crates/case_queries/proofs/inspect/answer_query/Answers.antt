use Rattle.std.proofs.Common.{refl}
use Rattle.intake.specs.Parts.{state_of}
use Rattle.script_lines.specs.Queries.{query_of, image_query, memory_query, ask_by_build, ask_line, ask_symbol, ask_symbol_by_build}
use Rattle.script_streams.specs.Replies.{no_reply}
use Rattle.case_queries.specs.InspectLaws.{inspected}
use Rattle.case_queries.specs.Steps.{kind_asked}
use Rattle.case_queries.proofs.AskLemmas.{reason_told, kind_told}
use Rattle.case_queries.proofs.inspect.answer_query.Goals as goal

pub returns-in-Err-clause-answers : goal.returns-in-Err-clause-answers
returns-in-Err-clause-answers g c = (
  no_reply c.in-Err.reason.now,
  inspected g.D.Disk c.args.archive.now c.args.seq (query_of c.args.query.now) (no_reply c.in-Err.reason.now) c.args.archive.now
      (reason_told g.D.Disk c.args.archive.now c.args.seq (query_of c.args.query.now) c.in-Err.reason.now (kind_asked (state_of c.args.archive.now) c.args.seq (query_of c.args.query.now)) c.in-Err.ensures.asked),
  (c.in-Err.reason.now, refl),
  c.print_no.ensures,
)

pub returns-in-Image-clause-answers : goal.returns-in-Image-clause-answers
returns-in-Image-clause-answers g c =
    let told = c.answer_by_front.ensures.answers in
    let asked = rw c.in-Image.is at c.in-Ok.ensures.asked in
    rw c.in-Image.is (told.0, inspected g.D.Disk c.args.archive.now c.args.seq (image_query c.in-Image.query) told.0 c.answer_by_front.new.archive (kind_told g.D.Disk c.args.archive.now c.answer_by_front.new.archive c.args.seq (image_query c.in-Image.query) c.in-Ok.kind _ told.0 asked told.1), told.2, told.3)

pub returns-in-Memory-clause-answers : goal.returns-in-Memory-clause-answers
returns-in-Memory-clause-answers g c =
    let told = c.answer_by_memory.ensures.answers in
    let asked = rw c.in-Memory.is at c.in-Ok.ensures.asked in
    rw c.in-Memory.is (told.0, inspected g.D.Disk c.args.archive.now c.args.seq (memory_query c.in-Memory.query) told.0 c.answer_by_memory.new.archive (kind_told g.D.Disk c.args.archive.now c.answer_by_memory.new.archive c.args.seq (memory_query c.in-Memory.query) c.in-Ok.kind _ told.0 asked told.1), told.2, told.3)

pub returns-in-ByBuild-clause-answers : goal.returns-in-ByBuild-clause-answers
returns-in-ByBuild-clause-answers g c =
    let told = c.answer_with_builds.ensures.answers in
    let asked = rw c.in-ByBuild.is at c.in-Ok.ensures.asked in
    let query = ask_by_build (memory_query c.in-ByBuild.query) in
    rw c.in-ByBuild.is (told.0, inspected g.D.Disk c.args.archive.now c.args.seq query told.0 c.answer_with_builds.new.archive (kind_told g.D.Disk c.args.archive.now c.answer_with_builds.new.archive c.args.seq query c.in-Ok.kind _ told.0 asked told.1), told.2, told.3)

pub returns-in-Symbol-clause-answers : goal.returns-in-Symbol-clause-answers
returns-in-Symbol-clause-answers g c =
    let told = c.answer_symbol.ensures.answers in
    let asked = rw c.in-Symbol.is at c.in-Ok.ensures.asked in
    rw c.in-Symbol.is (told.0, inspected g.D.Disk c.args.archive.now c.args.seq (ask_symbol c.in-Symbol.address) told.0 c.answer_symbol.new.archive (kind_told g.D.Disk c.args.archive.now c.answer_symbol.new.archive c.args.seq (ask_symbol c.in-Symbol.address) c.in-Ok.kind _ told.0 asked told.1), told.2, told.3)

pub returns-in-SymbolByBuild-clause-answers : goal.returns-in-SymbolByBuild-clause-answers
returns-in-SymbolByBuild-clause-answers g c =
    let told = c.answer_code.ensures.answers in
    let asked = rw c.in-SymbolByBuild.is at c.in-Ok.ensures.asked in
    let query = ask_symbol_by_build c.in-SymbolByBuild.address in
    rw c.in-SymbolByBuild.is (told.0, inspected g.D.Disk c.args.archive.now c.args.seq query told.0 c.answer_code.new.archive (kind_told g.D.Disk c.args.archive.now c.answer_code.new.archive c.args.seq query c.in-Ok.kind _ told.0 asked told.1), told.2, told.3)

pub returns-in-Line-clause-answers : goal.returns-in-Line-clause-answers
returns-in-Line-clause-answers g c =
    let told = c.answer_code-in-Line.ensures.answers in
    let asked = rw c.in-Line.is at c.in-Ok.ensures.asked in
    let query = ask_line c.in-Line.address in
    rw c.in-Line.is (told.0, inspected g.D.Disk c.args.archive.now c.args.seq query told.0 c.answer_code-in-Line.new.archive (kind_told g.D.Disk c.args.archive.now c.answer_code-in-Line.new.archive c.args.seq query c.in-Ok.kind _ told.0 asked told.1), told.2, told.3)
