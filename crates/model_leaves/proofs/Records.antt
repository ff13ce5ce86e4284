-- The records of a well-formed machine are in their ranges, where no raised word is over `top`. Assumes nothing.
use mathlib.Core.Path.{◌≡◌, sym, subst}
use mathlib.Core.Bool.{true, false}
use mathlib.Core.List.{[]}
use Prim.Native.Nat.{ℕ, ◌≤◌}
use lib.Dec.{eqb}
use lib.ListN.{get_or}
use borrow.Author.Tests.{le-leb}
use Rattle.columns.specs.Common.{every}
use Rattle.columns.proofs.Tests.{by_test}
use Rattle.context.specs.declared.Context.{Context}
use Rattle.context.specs.Status.{status_of}
use Rattle.context.specs.Words.{context_words, context_of, record_size}
use Rattle.image_ranges.specs.Ranges.{within, gone_most, context_most_to, wake_marked, key_marked, context_in_range_to}
use Rattle.model_leaves.proofs.WellFormed.{gone_context, ContextFormed}
use Rattle.model_leaves.proofs.Words.{mark_most, status_most, within_front}
use Rattle.numbers.specs.Limits.{max_id}

-- what a call can raise of a record
pub record ContextRaised (top : ℕ) (x : Context) : Type 0 where
  pub active_cpu_time : x.active_cpu_time ≤ top
  pub sched_cpu_time : x.sched_cpu_time ≤ top
  pub vtime : x.vtime ≤ top
  pub vd : x.vd ≤ top
  pub key_vd : x.queue_key_vd ≤ top

gone_in_range : (top c id : ℕ) → id ≤ max_id → context_in_range_to top c (context_words (gone_context id)) ≡ true
unfolding context_in_range_to within every gone_most context_words context_of status_of
gone_in_range top c id h = rw (le-leb id max_id h)

module _ (top c : ℕ) (x : Context) (o : ContextFormed c x) (r : ContextRaised top x) where
  -- of a live one
  module _ (l : x.gone ≡ false) where
    words_within : within (context_most_to top c) (context_words x) record_size ≡ true
    unfolding context_words context_most_to
    words_within =
        let f = o.fixed_formed l in
        let g = o.changing_formed l in
        within_front (context_words x) [] (context_most_to top c) (
          mark_most x.gone,
          (
            o.id,
            (
              status_most x.status,
              (
                mark_most x.running,
                (
                  mark_most x.currently_scheduled,
                  (
                    g.cpu_id,
                    (
                      g.schedule_time,
                      (
                        g.switch_time,
                        (
                          r.active_cpu_time,
                          (
                            r.sched_cpu_time,
                            (
                              f.sched_affinity,
                              (
                                mark_most x.inside_syscall,
                                (
                                  mark_most x.has_wake,
                                  (
                                    g.wake,
                                    (
                                      mark_most x.userspace,
                                      (
                                        mark_most x.being_sigkilled,
                                        (f.prio, (r.vtime, (r.vd, (g.rem_slice, (mark_most x.is_active, (mark_most x.has_queue_key, (r.key_vd, (g.key_rem_slice, (f.lock, (f.addr_space, tt)))))))))),
                                      ),
                                    ),
                                  ),
                                ),
                              ),
                            ),
                          ),
                        ),
                      ),
                    ),
                  ),
                ),
              ),
            ),
          ),
        )

    is_live : eqb (get_or (context_words x) 0 0) 1 ≡ false
    unfolding context_words
    is_live = rw l

    wake_is_marked : wake_marked (context_words x) ≡ true
    unfolding context_words wake_marked
    wake_is_marked = by_test x.has_wake (λ t. rw t) (λ t. rw (t, (o.changing_formed l).no_wake t))

    key_is_marked : key_marked (context_words x) ≡ true
    unfolding context_words key_marked
    key_is_marked = by_test x.has_queue_key (λ t. rw t) (λ t. let z = (o.changing_formed l).no_key t in rw (t, z.0, z.1))

    live_in_range : context_in_range_to top c (context_words x) ≡ true
    unfolding context_in_range_to
    live_in_range = rw (is_live, words_within, wake_is_marked, key_is_marked)

  pub record_in_range : context_in_range_to top c (context_words x) ≡ true
  record_in_range =
      by_test x.gone (λ t. subst (λ (y : Context). context_in_range_to top c (context_words y) ≡ true) (sym (o.gone t)) (gone_in_range top c x.debug_id o.id)) (λ t. live_in_range t)
