-- The block of CPU k lent, and back: what a change of the block is as a stage. Assumes nothing.
use Rattle.std.specs.Prelude.{if◌then◌else◌}
use mathlib.Core.Path.{◌≡◌, refl, sym, ap, ◌∙◌, subst}
use mathlib.Core.Bool.{Bool, true, false, not, ◌&&◌, ◌||◌}
use Prim.Native.Nat.{ℕ, zero, suc, ◌+◌, ◌-◌, ◌*◌, ◌<◌, ◌≤◌}
use native.Mathlib.Omega.{arith}
use mathlib.Core.List.{List, [], ◌∷◌, ◌++◌}
use lib.Dec.{leb, ltb, eqb}
use lib.ListN.{length, get_or, set, take, drop, length-append}
use borrow.Author.Tests.{leb-true, leb-false, lt-ltb, le-ltb}
use borrow.Rule.Slice.PartMut.{put_mid}
use lib.Seq.{set-get_or}
use Rattle.columns.specs.Blocks.{part, part_is}
use Rattle.columns.proofs.Tests.{by_test}
use Rattle.columns.proofs.Tabulate.{part_get}
use Rattle.cpu_stats.specs.Words.{stats_words}
use Rattle.context.specs.declared.Context.{Context}
use Rattle.entries.specs.declared.Entry.{Entry}
use Rattle.entries.specs.declared.Key.{Key}
use Rattle.entries.specs.declared.Timer.{Timer}
use Rattle.entries.specs.Order.{entry_before, sooner, superseded}
use Rattle.entries.specs.Queue.{queue_insert, queue_remove, timer_insert}
use Rattle.entries.specs.Sorted.{Sorted}
use Rattle.percpu.specs.declared.PercpuBlock.{PercpuBlock}
use Rattle.percpu.specs.Cpu.{Cpu}
use Rattle.percpu.specs.Words.{block_words}
use Rattle.percpu.specs.With.{cpu_block, cpu_queue, cpu_queue_len, cpu_timers, cpu_local_wakeup_list, cpu_remainder}
use Rattle.percpu.specs.Layout.{cpu_words, counts, entry_at, no_entry}
use Rattle.percpu.proofs.Read.{entry_is, remainder_is}
use Rattle.run_queue.specs.Put.{no_room}
use Rattle.timers.specs.Put.{timer_put, newest, no_room as no-timer-room}
use Rattle.machine.specs.Machine.{Machine, cpu_at, no_cpu, set_context, set_cpu}
use Rattle.machine.specs.Encode.{encode, cpu_place}
use Rattle.machine.specs.Shape.{ContextFits, EntryFits, CpuFits, Fits, Image, Went}
use Rattle.machine.proofs.Places.{lent_is, back_is}
use Rattle.machine.proofs.Steps.{fits_cpu, fits_context}
use Rattle.machine.proofs.LookUps.{block_word}
use Rattle.model.specs.State.{State, state_of, put_context, on_cpu, insert_entry, insert_timer, insert_newest_timer, push_local, remove_key}
use Rattle.stages.specs.Stage.{put_state, StageAt, Stage, Staged}
use Rattle.stages.specs.Read.{BlockFits, EntryRead}
use Rattle.stages.proofs.Compose.{staged}
use Rattle.stages.proofs.Fitting.{fits_inserted, fits_removed, fits_block, fits_remainder, fits_timers_left, fits_timer_inserted, fits_local}
use Rattle.percpu.specs.Places.{queue_count, timers_count, remainder_place, block_size}
use Rattle.ticks.specs.Ticks.{max_remainder}

-- the count of the queue
module _ {c n : ℕ} (m : List ℕ) (k : ℕ) (h : k < c) (M : Machine) (e : m ≡ encode M) (o : Fits c n M) where
  pub queue_counted : get_or m (cpu_place n k + queue_count) 0 ≡ length (cpu_at M k).queue
  unfolding cpu_words block_words stats_words counts
  queue_counted = block_word m k M e o 21 h (omega arith)

  pub timers_counted : get_or m (cpu_place n k + timers_count) 0 ≡ length (cpu_at M k).timers
  unfolding cpu_words block_words stats_words counts
  timers_counted = block_word m k M e o 22 h (omega arith)

  pub remainder_read : get_or m (cpu_place n k + remainder_place) 0 ≡ (cpu_at M k).remainder
  remainder_read = block_word m k M e o remainder_place h (omega arith) ∙ remainder_is (cpu_at M k)

pub remainder_small : {c n : ℕ} {m : List ℕ} (i : Image c n m) (k : ℕ) → k < c → get_or m (cpu_place n k + remainder_place) 0 ≤ max_remainder
remainder_small {m = m} i k h = rw (remainder_read m k h i.M i.eq i.fits) (i.fits.cpu k h).remainder

pub queue_small : {c n : ℕ} {m : List ℕ} (i : Image c n m) (k : ℕ) → k < c → get_or m (cpu_place n k + queue_count) 0 ≤ 64
queue_small {m = m} i k h = rw (queue_counted m k h i.M i.eq i.fits) (i.fits.cpu k h).queue

pub timers_small : {c n : ℕ} {m : List ℕ} (i : Image c n m) (k : ℕ) → k < c → get_or m (cpu_place n k + timers_count) 0 ≤ 64
timers_small {m = m} i k h = rw (timers_counted m k h i.M i.eq i.fits) (i.fits.cpu k h).timers

module _ {c n : ℕ} {m : List ℕ} (i : Image c n m) (k : ℕ) {at : ℕ} (z : at ≡ cpu_place n k) (h : k < c) (l : List ℕ) where
  abbrev lent : List ℕ
  lent = take (at + block_size - at) (drop at m)

  abbrev back : List ℕ
  back = put_mid at (at + block_size - at) m l

  -- a change that needs no room
  pub staged_cpu : (F : Cpu → Cpu) → ((p : Cpu) → CpuFits n p → lent ≡ cpu_words p → l ≡ cpu_words (F p)) → ((p : Cpu) → CpuFits n p → CpuFits n (F p))
      → Staged c n k m back false (λ (s : State). on_cpu F s)
  staged_cpu F f g =
      staged i
      (λ M e o.
      record {
        room = refl;
        after = λ y. back_is m k z h M e o (F (cpu_at M k)) l (f (cpu_at M k) (o.cpu k h) (lent_is m k z h M e o));
        fits = λ y. fits_cpu M k (F (cpu_at M k)) o (g (cpu_at M k) (o.cpu k h));
        answer = λ y. refl;
      })

  -- an insertion: T says that there is no room
  pub staged_insert : (r : Bool) (F : Cpu → Cpu) (T : Cpu → Bool)
      → ((p : Cpu) → CpuFits n p → lent ≡ cpu_words p → (r ≡ T p) × (r ≡ false → l ≡ cpu_words (F p))) → ((p : Cpu) → CpuFits n p → T p ≡ false → CpuFits n (F p))
      → Staged c n k m back r (λ (s : State). record { contexts = s.contexts; cpu = F s.cpu; no_room = s.no_room || T s.cpu })
  staged_insert r F T f g =
      staged i
      (λ M e o.
      let a = f (cpu_at M k) (o.cpu k h) (lent_is m k z h M e o)
      in record {
        room = a.0;
        after = λ y. back_is m k z h M e o (F (cpu_at M k)) l (a.1 y);
        fits = λ y. fits_cpu M k (F (cpu_at M k)) o (g (cpu_at M k) (o.cpu k h) (sym a.0 ∙ y));
        answer = λ y. refl;
      })

  pub staged_block : (b : PercpuBlock) → BlockFits n b → ((p : Cpu) → lent ≡ cpu_words p → l ≡ cpu_words (cpu_block b p)) → Staged c n k m back false (λ (s : State). on_cpu (λ (p : Cpu). cpu_block b p) s)
  staged_block b q f = staged_cpu (λ (p : Cpu). cpu_block b p) (λ p o z. f p z) (λ p o. fits_block n b p q o)

  pub staged_remainder : (x : ℕ) → x ≤ max_remainder → ((p : Cpu) → lent ≡ cpu_words p → l ≡ cpu_words (cpu_remainder x p)) → Staged c n k m back false (λ (s : State). on_cpu (cpu_remainder x) s)
  staged_remainder x q f = staged_cpu (cpu_remainder x) (λ p o z. f p z) (λ p o. fits_remainder n x p q o)

  pub staged_entry : (r : Bool) (e : Entry) → EntryFits n e
      → ((p : Cpu) → lent ≡ cpu_words p → length p.queue ≤ 64 → Sorted entry_before p.queue
      → (r ≡ no_room e p) × (r ≡ false → l ≡ cpu_words (cpu_queue_len (length (queue_insert e p.queue)) (cpu_queue (queue_insert e p.queue) p))))
      → Staged c n k m back r (λ (s : State). insert_entry e s)
  staged_entry r e q f =
      staged_insert r (λ (p : Cpu). cpu_queue_len (length (queue_insert e p.queue)) (cpu_queue (queue_insert e p.queue) p)) (λ (p : Cpu). no_room e p)
      (λ p o z. f p z o.queue o.keys_rise) (λ p o t. fits_inserted n _ e p q o t)

  pub staged_removal : (key : Key)
      → ((p : Cpu) → lent ≡ cpu_words p → length p.queue ≤ 64 → Sorted entry_before p.queue
      → l ≡ cpu_words (cpu_queue_len (length (queue_remove key p.queue)) (cpu_queue (queue_remove key p.queue) p)))
      → Staged c n k m back false (λ (s : State). remove_key key s)
  staged_removal key f =
      staged_cpu (λ (p : Cpu). cpu_queue_len (length (queue_remove key p.queue)) (cpu_queue (queue_remove key p.queue) p))
      (λ p o z. f p z o.queue o.keys_rise) (λ p o. fits_removed n _ key p o)

  pub staged_timer : (r : Bool) (t : Timer) → t.context_ref < n
      → ((p : Cpu) → lent ≡ cpu_words p → length p.timers ≤ 64 → Sorted sooner p.timers → (r ≡ no-timer-room t p) × (l ≡ cpu_words (timer_put t p)))
      → Staged c n k m back r (λ (s : State). insert_timer t s)
  staged_timer r t q f =
      staged_insert r (λ (p : Cpu). cpu_timers (timer_insert t p.timers) p) (λ (p : Cpu). no-timer-room t p)
      (λ p o z.
      let a = f p z o.timers o.timers_rise
      in (a.0, λ y. let w : no-timer-room t p ≡ false = sym a.0 ∙ y in a.1 ∙ rw w))
      (λ p o w. fits_timer_inserted n t p q o w)

  pub staged_newest : (r : Bool) (t : Timer) → t.context_ref < n
      → ((p : Cpu) → lent ≡ cpu_words p → length p.timers ≤ 64 → Sorted sooner p.timers → (r ≡ no-timer-room t (newest t p)) × (l ≡ cpu_words (timer_put t (newest t p))))
      → Staged c n k m back r (λ (s : State). insert_newest_timer t s)
  staged_newest r t q f =
      staged_insert r (λ (p : Cpu). cpu_timers (timer_insert t (newest t p).timers) p) (λ (p : Cpu). no-timer-room t (newest t p))
      (λ p o z.
      let a = f p z o.timers o.timers_rise
      in (a.0, λ y. let w : no-timer-room t (newest t p) ≡ false = sym a.0 ∙ y in a.1 ∙ rw w))
      (λ p o w. fits_timer_inserted n t (newest t p) q (fits_timers_left n (λ (u : Timer). not (superseded t u)) p o) w)

  pub staged_name : (r : Bool) (x name : ℕ) → x < n → name ≡ x
      → ((p : Cpu) → lent ≡ cpu_words p → (r ≡ leb 64 (length p.local_wakeup_list)) × (r ≡ false → l ≡ cpu_words (cpu_local_wakeup_list (p.local_wakeup_list ++ (name ∷ [])) p)))
      → Staged c n k m back r (λ (s : State). push_local x s)
  staged_name r x name q w f =
      staged_insert r (λ (p : Cpu). cpu_local_wakeup_list (p.local_wakeup_list ++ (x ∷ [])) p) (λ (p : Cpu). ltb 64 (length (p.local_wakeup_list ++ (x ∷ []))))
      (λ p o z. let a = f p z in (a.0 ∙ one_more p.local_wakeup_list x, λ y. rw w at (a.1 y)))
      (λ p o t. fits_local n x p q t o)
    where
      one_more : (l : List ℕ) (x : ℕ) → leb 64 (length l) ≡ ltb 64 (length (l ++ (x ∷ [])))
      one_more l x =
          by_test (leb 64 (length l))
          (λ t. t ∙ sym (lt-ltb 64 (length (l ++ (x ∷ []))) (rw (length-append) (let b : 64 ≤ length l = leb-true _ _ t in omega arith))))
          (λ t. t ∙ sym (le-ltb 64 (length (l ++ (x ∷ []))) (rw (length-append) (let b : length l < 64 = leb-false _ _ t in omega arith))))

same : (k x : ℕ) (q : Context) (M : Machine) → set_context x q M ≡ put_state k (put_context x q (state_of k M)) M
unfolding cpu_at
same k x q M = λ j. record { contexts = set M.contexts x q; cpus = sym (set-get_or M.cpus k no_cpu) j }

-- a record stored
pub staged_context : {c n : ℕ} {m m' : List ℕ} (k x : ℕ) (q : Context) → k < c → Went c n m m' (λ (M : Machine). set_context x q M) → Image c n m → Staged c n k m m' false (λ (s : State). put_context x q s)
staged_context k x q h w i =
    staged i
    (λ M e o.
    let a = w.step M e o
    in let z : set_context x q M ≡ put_state k (put_context x q (state_of k M)) M = same k x q M
    in record {
      room = refl;
      after = λ y. a.0 ∙ ap encode z;
      fits = λ y. subst (Fits _ _) z a.1;
      answer = λ y. refl;
    })

pub entry_read : {c n : ℕ} {m : List ℕ} (i : Image c n m) (k j : ℕ) {at : ℕ} → at ≡ cpu_place n k → (h : k < c) → j < get_or m (cpu_place n k + queue_count) 0 → (r : Entry)
    → r ≡ entry_at (take (at + block_size - at) (drop at m)) j → EntryRead c n k j m r
entry_read {c} {n} {m} i k j {at} p h b r e =
    record {
      is = reads;
      fits = subst (EntryFits n) (sym (reads i.M i.eq i.fits)) ((i.fits.cpu k h).entry j (rw (queue_counted m k h i.M i.eq i.fits) at b));
    }
  where
    reads : (M : Machine) → m ≡ encode M → Fits c n M → r ≡ get_or (cpu_at M k).queue j no_entry
    reads M z o =
        e ∙ ap (λ (l : List ℕ). entry_at l j) (lent_is m k p h M z o) ∙ entry_is (cpu_at M k) j (rw (queue_counted m k h M z o) at b) (o.cpu k h).queue
