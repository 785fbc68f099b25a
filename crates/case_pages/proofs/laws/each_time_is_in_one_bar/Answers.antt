use Rattle.case_pages.proofs.BarLemmas.{each_in_one}
use Rattle.case_pages.proofs.laws.each_time_is_in_one_bar.Goals as goal

pub returns : goal.returns
returns c = each_in_one
