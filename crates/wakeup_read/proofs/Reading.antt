-- The wake-ups read in order, one lemma for each need. Assumes nothing.
use mathlib.Core.Path.{◌≡◌, refl, sym, ap, ◌∙◌}
use mathlib.Core.Bool.{Bool, true, false}
use mathlib.Core.List.{List, [], ◌∷◌, ◌++◌, map, append_assoc, append-nil, map-append}
use Prim.Native.Nat.{ℕ, ◌+◌, ◌<◌, ◌≤◌}
use native.Mathlib.Omega.{arith}
use native.Mathlib.Numerals.{add-one}
use Rattle.std.proofs.lemmas.List.{take_more_set}
use lib.ListN.{length, get_or, set, take}
use lib.Seq.{take-suc, take_all}
use Rattle.columns.specs.Common.{keep}
use Rattle.columns.proofs.Tests.{by_test}
use Rattle.context.specs.declared.Context.{Context}
use Rattle.entries.specs.declared.Timer.{Timer}
use Rattle.percpu.specs.Layout.{no_timer}
use Rattle.table.specs.First.{lead}
use Rattle.timers.proofs.Table.{due_kept}
use Rattle.machine.specs.Machine.{Machine, context_at, cpu_at}
use Rattle.machine.specs.Encode.{encode, cpu_place}
use Rattle.machine.specs.Shape.{Fits}
use Rattle.model.specs.State.{state_of}
use Rattle.model.specs.Wakeup as definition
use Rattle.model.specs.Wakeup.{local_wakeup, timer_wakeup, wakeups}
use Rattle.stages.proofs.Lent.{timers_counted}
use Rattle.wakeup_judge.specs.declared.Wakeup.{Wakeup}
use Rattle.wakeup_judge.specs.Judge.{live_at, wakeup_of}
use Rattle.wakeup_read.specs.Read.{wakeups_in, live_wakeups, TimerRead, NameRead, max_wakeups}
use Rattle.wakeup_read.proofs.Items.{local_counted}
use Rattle.percpu.specs.Places.{timers_count, local_count}
use Rattle.entries.specs.Order.{is_due}
use Rattle.wakeup_judge.proofs.Judging.{live_gone}

-- one wake-up more in the scratch
pub wakeups_next : (d : List Wakeup) (n : ℕ) (w : Wakeup) → n < length d → wakeups_in (set d n w) (n + 1) ≡ wakeups_in d n ++ (wakeup_of w ∷ [])
wakeups_next d n w h = ap (map wakeup_of) (take_more_set d n w h) ∙ map-append wakeup_of (take n d) (w ∷ [])

-- the live ones of one timer, and of two lists
pub live_one : (sched : ℕ) (cs : List Context) (t : Timer) → live_at sched t (context_at cs t.context_ref) ≡ true → live_wakeups sched cs (t ∷ []) ≡ timer_wakeup t ∷ []
unfolding live_wakeups
live_one sched cs t e = rw e

pub live_none : (sched : ℕ) (cs : List Context) (t : Timer) → live_at sched t (context_at cs t.context_ref) ≡ false → live_wakeups sched cs (t ∷ []) ≡ []
unfolding live_wakeups
live_none sched cs t e = rw e

live_append : (sched : ℕ) (cs : List Context) (a b : List Timer) → live_wakeups sched cs (a ++ b) ≡ live_wakeups sched cs a ++ live_wakeups sched cs b
unfolding live_wakeups
live_append sched cs [] b = refl
live_append sched cs (t ∷ ts) b =
    by_test (live_at sched t (context_at cs t.context_ref))
    (λ e. rw e (ap (λ (l : List definition.Wakeup). timer_wakeup t ∷ l) (live_append sched cs ts b)))
    (λ e. rw e (live_append sched cs ts b))

-- a timer read
module _ {c n : ℕ} {m : List ℕ} (sched : ℕ) (t : Timer) (q : Context) (r : Bool) where
  judged_at : ((M : Machine) → m ≡ encode M → Fits c n M → q ≡ context_at M.contexts t.context_ref) → r ≡ live_at sched t q
      → (M : Machine) → m ≡ encode M → Fits c n M → r ≡ live_at sched t (context_at M.contexts t.context_ref)
  judged_at f g M e o = g ∙ ap (live_at sched t) (f M e o)

  pub timer_live : (d d' : List Wakeup) (len : ℕ) → ((M : Machine) → m ≡ encode M → Fits c n M → q ≡ context_at M.contexts t.context_ref) → r ≡ live_at sched t q → r ≡ true
      → wakeups_in d' (len + 1) ≡ wakeups_in d len ++ (timer_wakeup t ∷ [])
      → (len + 1 ≤ len + 1) × ((M : Machine) → m ≡ encode M → Fits c n M → wakeups_in d' (len + 1) ≡ wakeups_in d len ++ live_wakeups sched M.contexts (t ∷ []))
  timer_live d d' len f g y p =
      (omega arith, λ M e o. p ∙ ap (λ (l : List definition.Wakeup). wakeups_in d len ++ l) (sym (live_one sched M.contexts t (sym (judged_at f g M e o) ∙ y))))

  pub timer_dropped : (d : List Wakeup) (len : ℕ) → ((M : Machine) → m ≡ encode M → Fits c n M → q ≡ context_at M.contexts t.context_ref) → r ≡ live_at sched t q → r ≡ false
      → (len ≤ len + 1) × ((M : Machine) → m ≡ encode M → Fits c n M → wakeups_in d len ≡ wakeups_in d len ++ live_wakeups sched M.contexts (t ∷ []))
  timer_dropped d len f g y =
      (omega arith, λ M e o. sym (ap (λ (l : List definition.Wakeup). wakeups_in d len ++ l) (live_none sched M.contexts t (sym (judged_at f g M e o) ∙ y)) ∙ append-nil (wakeups_in d len)))

-- a timer of a gone context
pub timer_gone : {c n : ℕ} {m : List ℕ} (sched : ℕ) (t : Timer) (d : List Wakeup) (len : ℕ) → ((M : Machine) → m ≡ encode M → Fits c n M → (context_at M.contexts t.context_ref).gone ≡ true)
    → (len ≤ len + 1) × ((M : Machine) → m ≡ encode M → Fits c n M → wakeups_in d len ≡ wakeups_in d len ++ live_wakeups sched M.contexts (t ∷ []))
timer_gone sched t d len f = (
  omega arith,
  λ M e o.
      sym (ap (λ (l : List definition.Wakeup). wakeups_in d len ++ l) (live_none sched M.contexts t (sym (live_gone sched t (context_at M.contexts t.context_ref) (f M e o))))
      ∙ append-nil (wakeups_in d len)),
)

-- the loop over the due timers
pub record TimersLoop (c n k count : ℕ) (m : List ℕ) (d : List Wakeup) (len i : ℕ) : Type 0 where
  pub few : len ≤ i
  pub size : length d ≡ max_wakeups
  pub read : (M : Machine) → m ≡ encode M → Fits c n M → wakeups_in d len ≡ live_wakeups (cpu_at M k).block.sched_ctxt M.contexts (take i (cpu_at M k).timers)

pub timers_start : (c n k count : ℕ) (m : List ℕ) (d : List Wakeup) → length d ≡ max_wakeups → TimersLoop c n k count m d 0 0
unfolding live_wakeups
timers_start c n k count m d s = record { few = omega arith; size = s; read = λ M e o. refl }

module _ {c n k count : ℕ} {m : List ℕ} {d d' : List Wakeup} {len i : ℕ} (h : k < c) (l : TimersLoop c n k count m d len i) (b : i < count) where
  pub timers_next : {r : ℕ} {t : Timer} (sched : ℕ) → count ≤ get_or m (cpu_place n k + timers_count) 0
      → ((M : Machine) → m ≡ encode M → Fits c n M → sched ≡ (cpu_at M k).block.sched_ctxt) → TimerRead c n k i m t
      → (r ≤ len + 1) × ((M : Machine) → m ≡ encode M → Fits c n M → wakeups_in d' r ≡ wakeups_in d len ++ live_wakeups sched M.contexts (t ∷ []))
      → length d' ≡ length d → TimersLoop c n k count m d' r (i + 1)
  timers_next {r} {t} sched g s a f z =
      record {
        few = omega (arith, l.few, f.0);
        size = z ∙ l.size;
        read = λ M e o.
            let w : i < length (cpu_at M k).timers = omega (arith, timers_counted m k h M e o)
            in let S = (cpu_at M k).block.sched_ctxt
            in f.1 M e o
            ∙ ap (λ (y : ℕ). wakeups_in d len ++ live_wakeups y M.contexts (t ∷ [])) (s M e o)
            ∙ ap (λ (y : List definition.Wakeup). y ++ live_wakeups S M.contexts (t ∷ [])) (l.read M e o)
            ∙ sym (live_append S M.contexts (take i (cpu_at M k).timers) (t ∷ []))
            ∙ ap (λ (y : Timer). live_wakeups S M.contexts (take i (cpu_at M k).timers ++ (y ∷ []))) (a.is M e o)
            ∙ ap (live_wakeups S M.contexts) (sym (take-suc (cpu_at M k).timers i no_timer w) ∙ ap (λ (y : ℕ). take y (cpu_at M k).timers) (sym (add-one i)));
      }

pub timers_end : {c n k count : ℕ} {m : List ℕ} {d : List Wakeup} {len i : ℕ} (time : ℕ) → k < c → TimersLoop c n k count m d len i → i ≤ count → count ≤ i → count ≤ 64
    → ((M : Machine) → m ≡ encode M → Fits c n M → count ≡ lead (is_due time) (cpu_at M k).timers)
    → (len ≤ 64) × ((M : Machine) → m ≡ encode M → Fits c n M → wakeups_in d len ≡ live_wakeups (cpu_at M k).block.sched_ctxt M.contexts (keep (is_due time) (cpu_at M k).timers))
timers_end {k = k} {count = count} {i = i} time h l a b s f =
    let q : i ≡ count = omega arith
    in (
      omega (arith, l.few),
      λ M e o.
          l.read M e o
          ∙ ap (λ (y : ℕ). live_wakeups (cpu_at M k).block.sched_ctxt M.contexts (take y (cpu_at M k).timers)) (q ∙ f M e o)
          ∙ ap (live_wakeups (cpu_at M k).block.sched_ctxt M.contexts) (sym (due_kept time (cpu_at M k).timers (o.cpu k h).timers_rise).0),
    )

-- the loop over the local list, behind the wake-ups that were read
pub record LocalLoop (c n k from count : ℕ) (m : List ℕ) (d₀ d : List Wakeup) (i : ℕ) : Type 0 where
  pub size : length d ≡ max_wakeups
  pub read : (M : Machine) → m ≡ encode M → Fits c n M → wakeups_in d (from + i) ≡ wakeups_in d₀ from ++ map local_wakeup (take i (cpu_at M k).local_wakeup_list)

pub local_start : (c n k from count : ℕ) (m : List ℕ) (d : List Wakeup) → length d ≡ max_wakeups → LocalLoop c n k from count m d d 0
local_start c n k from count m d s =
    record { size = s; read = λ M e o. let z : from + 0 ≡ from = omega arith in ap (wakeups_in d) z ∙ sym (append-nil (wakeups_in d from)) }

module _ {c n k from count : ℕ} {m : List ℕ} {d₀ d : List Wakeup} {i : ℕ} (h : k < c) (l : LocalLoop c n k from count m d₀ d i) where
  pub local_next : {x : ℕ} (d' : List Wakeup) → i < count → count ≡ get_or m (cpu_place n k + local_count) 0 → NameRead c n k i m x
      → wakeups_in d' (from + i + 1) ≡ wakeups_in d (from + i) ++ (local_wakeup x ∷ []) → length d' ≡ length d → LocalLoop c n k from count m d₀ d' (i + 1)
  local_next {x} d' b g a p z =
      record {
        size = z ∙ l.size;
        read = λ M e o.
            let w : i < length (cpu_at M k).local_wakeup_list = omega (arith, local_counted m k h M e o)
            in let j : from + (i + 1) ≡ from + i + 1 = omega arith
            in let L = (cpu_at M k).local_wakeup_list
            in ap (wakeups_in d') j ∙ p
            ∙ ap (λ (y : List definition.Wakeup). y ++ (local_wakeup x ∷ [])) (l.read M e o)
            ∙ append_assoc (wakeups_in d₀ from) (map local_wakeup (take i L)) (local_wakeup x ∷ [])
            ∙ ap (λ (y : List definition.Wakeup). wakeups_in d₀ from ++ y)
            (sym (map-append local_wakeup (take i L) (x ∷ []))
            ∙ ap (λ (y : ℕ). map local_wakeup (take i L ++ (y ∷ []))) (a.is M e o)
            ∙ ap (map local_wakeup) (sym (take-suc L i 0 w) ∙ ap (λ (y : ℕ). take y L) (sym (add-one i))));
      }

  pub local_end : i ≤ count → count ≤ i → from ≤ 64 → count ≤ 64 → ((M : Machine) → m ≡ encode M → Fits c n M → count ≡ length (cpu_at M k).local_wakeup_list)
      → (from + count ≤ max_wakeups) × ((M : Machine) → m ≡ encode M → Fits c n M → wakeups_in d (from + count) ≡ wakeups_in d₀ from ++ map local_wakeup (cpu_at M k).local_wakeup_list)
  local_end a b g s f = (
    omega arith,
    λ M e o.
        let q : count ≡ i = omega arith in
        let w : length (cpu_at M k).local_wakeup_list ≤ i = omega (arith, f M e o)
        in ap (λ (y : ℕ). wakeups_in d (from + y)) q ∙ l.read M e o ∙ ap (λ (y : List ℕ). wakeups_in d₀ from ++ map local_wakeup y) (take_all i (cpu_at M k).local_wakeup_list w),
  )

-- all of them
pub all_read : {c n : ℕ} {m : List ℕ} (k a r time : ℕ) (d d' : List Wakeup)
    → ((M : Machine) → m ≡ encode M → Fits c n M → wakeups_in d a ≡ live_wakeups (cpu_at M k).block.sched_ctxt M.contexts (keep (is_due time) (cpu_at M k).timers))
    → (r ≤ max_wakeups) × ((M : Machine) → m ≡ encode M → Fits c n M → wakeups_in d' r ≡ wakeups_in d a ++ map local_wakeup (cpu_at M k).local_wakeup_list)
    → (r ≤ max_wakeups) × ((M : Machine) → m ≡ encode M → Fits c n M → wakeups_in d' r ≡ wakeups time (state_of k M))
unfolding wakeups live_wakeups
all_read k a r time d d' f g = (g.0, λ M e o. g.1 M e o ∙ ap (λ (l : List definition.Wakeup). l ++ map local_wakeup (cpu_at M k).local_wakeup_list) (f M e o))
