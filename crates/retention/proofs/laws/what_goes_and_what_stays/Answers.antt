use Rattle.retention.proofs.KindLemmas.{old_go, spare_go, pinned_go, old_stay, spare_stay, pinned_stay}
use Rattle.retention.proofs.laws.what_goes_and_what_stays.Goals as goal

pub returns : goal.returns
returns c = record {
  old_go = old_go;
  spare_go = spare_go;
  pinned_go = pinned_go;
  old_stay = old_stay;
  spare_stay = spare_stay;
  pinned_stay = pinned_stay;
}
