use Rattle.script_lines.specs.declared.query.ImageQuery.TheVariants.{Header, Notes, Threads, Registers, Process, Signal, AuxiliaryVector, Files, Maps}
use Rattle.case_queries.specs.Inspecting.{want_of}
use Rattle.case_queries.proofs.by_front.a_front_answers.Goals as goal

pub returns : goal.returns
returns c kind Header b n sound = c.a_sound_front_answers.ensures.header (want_of kind) b n sound.0 sound.1
returns c kind Notes b n sound = c.a_sound_front_answers.ensures.notes b n sound.0 sound.1
returns c kind Threads b n sound = c.a_sound_front_answers.ensures.threads b n sound.0 sound.1
returns c kind (Registers thread) b n sound = c.a_sound_front_answers.ensures.regs b n thread sound.0 sound.1
returns c kind Process b n sound = c.a_sound_front_answers.ensures.process b n sound.0 sound.1
returns c kind Signal b n sound = c.a_sound_front_answers.ensures.signal b n sound.0 sound.1
returns c kind AuxiliaryVector b n sound = c.a_sound_front_answers.ensures.auxv b n sound.0 sound.1
returns c kind Files b n sound = c.a_sound_front_answers.ensures.files b n sound.0 sound.1
returns c kind Maps b n sound = c.a_sound_front_shows_the_mappings.ensures b n sound.0 sound.1
