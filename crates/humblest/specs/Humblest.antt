-- The humblest priority that still gets the CPU (document 02, No. 12). Assumes nothing.
use Rattle.std.specs.Prelude.{Bool, true, false, ℕ, zero, suc, List, if◌then◌else◌, Err, Ok, Result}
use Rattle.machine.specs.Encode.{decode}
use Rattle.calls.specs.Call.{check}
use Rattle.candidate.specs.Candidate.{candidate}
use Rattle.priority_trial.specs.Works.{works}
use Rattle.humblest.specs.declared.Humblest.{Humblest}

abbrev pub refused : ℕ → Humblest
refused r = record { refusal = r; found = 0; priority = 0 }

abbrev pub none : Humblest
none = refused 0

abbrev pub found : ℕ → Humblest
found p = record { refusal = 0; found = 1; priority = p }

-- how many priorities there are, from 0
abbrev pub priorities : ℕ
priorities = 40

-- the greatest number below b that passes the test
unfoldable pub greatest : (ℕ → Bool) → (b : ℕ) → Humblest
greatest f zero = none
greatest f (suc p) = if f p then found p else greatest f p

-- refusal 5, or the search
unfoldable pub humblest_of : List ℕ → (time : ℕ) → Result (ℕ × ℕ) ℕ → Humblest
humblest_of m time (Err r) = refused r
humblest_of m time (Ok (k, x)) = greatest (works m k time x) priorities

-- refusals 1 to 4 come first
unfoldable pub humblest_by : List ℕ → (cpu time context : ℕ) → Result (ℕ × ℕ) ℕ → Humblest
humblest_by m cpu time context (Err r) = refused r
humblest_by m cpu time context (Ok (c, n)) = humblest_of m time (candidate (decode m) cpu context)

abbrev pub humblest : List ℕ → (cpu time context : ℕ) → Humblest
humblest m cpu time context = humblest_by m cpu time context (check m time)
