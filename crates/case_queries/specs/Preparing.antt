-- Executables that are prepared for the frames of all cores that use the same ones.
use Rattle.std.specs.Prelude.{◌≡◌, List, map, Ok}
use Rattle.address_space.specs.Source.{ExecutableView}
use Rattle.address_space.specs.SpaceWords.{attached_view}
use Rattle.build_replies.specs.Builds.{NamedId}
use Rattle.build_replies.specs.Choosing.{choice_of}
use Rattle.build_replies.specs.Mapped.{id_view}
use Rattle.disk_model.specs.declared.disk.Disk as disk
use Rattle.intake.specs.Parts.{Parts}
use Rattle.journal_layout.specs.Case.{Case}
use Rattle.case_queries.specs.Collecting.{Collects, debugs_by, wanted_by}
use Rattle.case_queries.specs.CollectingWords.{executable_view, read_as}
use Rattle.case_queries.specs.declared.prepared.PreparedExecutables.{PreparedExecutables}

-- the executables and the debug files
abbrev pub prepared_views : PreparedExecutables → List ExecutableView
prepared_views p = map attached_view p.attached.items

-- The same of these are chosen for a core that has these mapped files as for the files for which they were prepared.
abbrev pub AreChosenFor : PreparedExecutables → List NamedId → Type 0
AreChosenFor p told = choice_of told (prepared_views p) ≡ choice_of (map id_view p.files.items) (prepared_views p)

-- They serve such a core of an archive with these cases: they are the ones that would be read for it, and the same of them are chosen.
pub record Serves (p : PreparedExecutables) (told : List NamedId) (cases : List Case) : Type 0 where
  pub wanted : map read_as p.stored.now ≡ wanted_by told cases
  pub debugs : map read_as p.debug_files.now ≡ debugs_by told (map executable_view p.stored.now) cases
  pub chosen : AreChosenFor p told

-- Reading them may still give these, with no byte read and nothing changed.
abbrev pub StayPrepared : {D : Type 0} → disk.Ghosts D → Parts D → PreparedExecutables → Type 0
StayPrepared g a p =
    Collects g a (map read_as p.stored.now) (Ok (map executable_view p.stored.now)) a × Collects g a (map read_as p.debug_files.now) (Ok (map executable_view p.debug_files.now)) a
