-- Names of functions: the texts that compilers add to them, those by which a process ends itself, and those at the outer end of a stack.
use Rattle.std.specs.Prelude.{ℕ, Bool, ◌||◌, List, [], ◌∷◌, codes}
use Rattle.std.specs.List.{list_any}
use Rattle.std.specs.Str.{bytes_eq}

-- the list has this text
abbrev pub is_among : List (List ℕ) → List ℕ → Bool
is_among names text = list_any (λ name. bytes_eq name text) names

-- the texts that compilers put after a function's name
abbrev pub endings : List (List ℕ)
endings =
    codes "part" ∷ codes "isra" ∷ codes "constprop" ∷ codes "cold" ∷ codes "lto_priv" ∷ codes "llvm" ∷ codes "localalias" ∷ codes "clone" ∷ []

-- the GNU C library: signals sent to oneself, failed assertions and checks
abbrev pub c_deaths : List (List ℕ)
c_deaths =
    codes "raise" ∷ codes "gsignal" ∷ codes "__GI_raise" ∷ codes "__raise" ∷ codes "__libc_raise" ∷ codes "pthread_kill" ∷ codes "__pthread_kill"
    ∷ codes "__GI___pthread_kill" ∷ codes "__pthread_kill_internal" ∷ codes "__pthread_kill_implementation" ∷ codes "tgkill" ∷ codes "tkill"
    ∷ codes "kill" ∷ codes "__kill" ∷ codes "__GI_kill" ∷ codes "abort" ∷ codes "__GI_abort" ∷ codes "__libc_message" ∷ codes "__libc_message_impl"
    ∷ codes "__libc_fatal" ∷ codes "__assert" ∷ codes "__assert_fail" ∷ codes "__GI___assert_fail" ∷ codes "__assert_fail_base"
    ∷ codes "__assert_perror_fail" ∷ codes "__libc_assert_fail" ∷ codes "__fortify_fail" ∷ codes "__fortify_fail_abort" ∷ codes "__chk_fail"
    ∷ codes "__stack_chk_fail" ∷ codes "__stack_chk_fail_local" ∷ codes "malloc_printerr" ∷ []

-- the C++ library and the unwinder of exceptions
abbrev pub cxx_deaths : List (List ℕ)
cxx_deaths =
    codes "_ZSt9terminatev" ∷ codes "_ZN10__cxxabiv111__terminateEPFvvE" ∷ codes "_ZN9__gnu_cxx27__verbose_terminate_handlerEv" ∷ codes "__cxa_throw"
    ∷ codes "__cxa_rethrow" ∷ codes "__cxa_call_terminate" ∷ codes "__cxa_call_unexpected" ∷ codes "__cxa_pure_virtual"
    ∷ codes "__cxa_throw_bad_array_new_length" ∷ codes "__clang_call_terminate" ∷ codes "_ZSt20__throw_length_errorPKc"
    ∷ codes "_ZSt20__throw_out_of_rangePKc" ∷ codes "_ZSt24__throw_out_of_range_fmtPKcz" ∷ codes "_ZSt17__throw_bad_allocv"
    ∷ codes "_ZSt19__throw_logic_errorPKc" ∷ codes "_Unwind_RaiseException" ∷ codes "_Unwind_Resume" ∷ codes "_Unwind_Resume_or_Rethrow" ∷ []

-- Rust's panics
abbrev pub rust_deaths : List (List ℕ)
rust_deaths =
    codes "rust_begin_unwind" ∷ codes "rust_panic" ∷ codes "__rust_start_panic" ∷ codes "panic_abort" ∷ []

-- GLib's fatal messages and assertions
abbrev pub glib_deaths : List (List ℕ)
glib_deaths =
    codes "g_log" ∷ codes "g_logv" ∷ codes "g_log_default_handler" ∷ codes "g_log_writer_default" ∷ codes "g_log_structured"
    ∷ codes "g_log_structured_array" ∷ codes "g_assertion_message" ∷ codes "g_assertion_message_expr" ∷ codes "_g_log_abort" ∷ []

-- a function by which a process ends itself, or that leads there
unfoldable pub is_death : List ℕ → Bool
is_death name = is_among c_deaths name || is_among cxx_deaths name || is_among rust_deaths name || is_among glib_deaths name

-- the callers of `main`, and those of a thread's first function
abbrev pub outer_names : List (List ℕ)
outer_names =
    codes "_start" ∷ codes "start" ∷ codes "_start_c" ∷ codes "__libc_start_main" ∷ codes "__libc_start_main_impl" ∷ codes "__libc_start_call_main"
    ∷ codes "generic_start_main" ∷ codes "start_thread" ∷ codes "__start_thread" ∷ codes "thread_start" ∷ codes "__thread_start" ∷ codes "clone"
    ∷ codes "__clone" ∷ codes "clone3" ∷ codes "__clone3" ∷ []

-- a function that calls `main`, or a thread's first function
unfoldable pub is_outer : List ℕ → Bool
is_outer name = is_among outer_names name
