-- The six words of a CPU's statistics, and the statistics of the words. Written by tools/records.py.
use Rattle.std.specs.Prelude.{ℕ, Bool, true, false, ◌≡◌, refl, List, [], ◌∷◌, ◌++◌, eqb, length, get_or}
use Rattle.cpu_stats.specs.declared.CpuStats.{CpuStats}
use Rattle.cpu_stats.specs.State.{state_number, state_of, state_back}

abbrev pub stats_size : ℕ
stats_size = 6

unfoldable pub stats_words : CpuStats → List ℕ
stats_words c =
    state_number c.state ∷
    c.user ∷
    c.kernel ∷
    c.idle ∷
    c.context_switches ∷
    c.syscall_switches ∷ []

unfoldable pub stats_of : List ℕ → CpuStats
stats_of w =
    record {
      state = state_of (get_or w 0 0);
      user = get_or w 1 0;
      kernel = get_or w 2 0;
      idle = get_or w 3 0;
      context_switches = get_or w 4 0;
      syscall_switches = get_or w 5 0;
    }

pub stats_of_words : (c : CpuStats) → stats_of (stats_words c) ≡ c
unfolding stats_words stats_of
stats_of_words c = λ j.
    record {
      state = state_back c.state j;
      user = c.user;
      kernel = c.kernel;
      idle = c.idle;
      context_switches = c.context_switches;
      syscall_switches = c.syscall_switches;
    }

pub length_stats_words : (c : CpuStats) → length (stats_words c) ≡ stats_size
unfolding stats_words
length_stats_words c = refl
