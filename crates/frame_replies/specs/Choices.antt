-- Of the executables that are stored: on which a frame may stand.
use Rattle.std.specs.Prelude.{◌≡◌, ℕ, List, [], map, Option, Some, Result}
use Rattle.std.specs.List.{AllByRecursion}
use Rattle.std.specs.Option.{option_and_then}
use Rattle.address_space.specs.Source.{ExecutableView, SpotView, entry_at, spot_of}
use Rattle.build_ids.specs.BuildId.{build_id_of}
use Rattle.build_replies.specs.Builds.{name_of, once}
use Rattle.build_replies.specs.Choosing.{Choice, choice_for, debugs_under, told_id, under_names}
use Rattle.build_replies.specs.ChoosingLaws.{HasCode}
use Rattle.memory_replies.specs.Memory.{mapped_files}
use Rattle.unwind.specs.Code.{ProcessView, looked_up}
use Rattle.unwind.specs.declared.frame.Frame.{Frame}
use Rattle.frame_replies.specs.FrameLines.{unwound_answer}
use Rattle.frame_replies.specs.FrameRegisters.{one_frame_answer}
use Rattle.frame_replies.specs.Processes.{of_thread, process_in, state_of}

-- the process with what is chosen of the executables that are stored
abbrev pub process_of : List ℕ → List ExecutableView → ProcessView
process_of b stored = process_in b (choice_for b stored)

-- if the core tells a build ID for a file of that name, the image has it
abbrev pub IsBuildOf : List ℕ → List ℕ → List ℕ → Type 0
IsBuildOf b path image = (id : List ℕ) → told_id b path ≡ Some id → build_id_of image ≡ Some id

abbrev pub IsOwnBuild : List ℕ → ExecutableView → Type 0
IsOwnBuild b x = IsBuildOf b x.path x.image

-- the place in the mapped file of the address that is looked up for a frame
abbrev pub spot_of_frame : ProcessView → Frame → Option SpotView
spot_of_frame p f = option_and_then (λ a. spot_of a (entry_at p.space.files a)) (looked_up f)

-- the path alone decides: whatever is stored under the name of a file is used, with its debug file
abbrev pub by_path_alone : List ℕ → List ExecutableView → Choice
by_path_alone b stored = record {
  used = under_names stored (once (map name_of (mapped_files b)));
  others = [];
  debugs = debugs_under stored (once (map name_of (mapped_files b)));
}

-- its code has bytes
abbrev pub AreNoDebugFiles : List ExecutableView → Type 0
AreNoDebugFiles stored = AllByRecursion HasCode stored

abbrev pub unwind_by_path : List ℕ → List ExecutableView → ℕ → Result (List ℕ) (List ℕ)
unwind_by_path b stored t = of_thread (unwound_answer b (by_path_alone b stored)) (state_of b t)

abbrev pub frame_by_path : List ℕ → List ExecutableView → ℕ → ℕ → Result (List ℕ) (List ℕ)
frame_by_path b stored t i = of_thread (one_frame_answer b (by_path_alone b stored) i) (state_of b t)
