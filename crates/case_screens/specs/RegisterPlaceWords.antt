-- The meaning of a `RegisterPlace`.
use Rattle.thread_regs.specs.RegisterWords.{reg_number}
use Rattle.case_screens.specs.RegisterPlaces.{Place}
use Rattle.case_screens.specs.declared.register_places.RegisterPlace.{RegisterPlace}

abbrev pub place_said : RegisterPlace → Place
place_said p = record { register = reg_number p.register; past = p.past }
