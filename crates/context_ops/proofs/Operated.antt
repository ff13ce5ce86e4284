-- Operations 4 to 7, from what the code's calls and tests said. Assumes nothing.
use Rattle.std.specs.Prelude.{None, Option, Some, Err, Ok, Result}
use mathlib.Core.Path.{◌≡◌, refl, sym, ap, ◌∙◌, subst}
use mathlib.Core.Bool.{true, false}
use Prim.Native.Nat.{ℕ, ◌+◌, ◌-◌, ◌<◌, ◌≤◌}
use native.Mathlib.Omega.{arith}
use mathlib.Core.List.{List, [], ◌++◌}
use lib.ListN.{length, get_or, set, take, drop, length-append}
use borrow.Author.Tests.{lt-ltb, le-ltb}
use borrow.Rule.Slice.PartMut.{put_mid}
use Rattle.percpu.specs.Cpu.{Cpu}
use Rattle.percpu.specs.With.{cpu_local_wakeup_list, cpu_ipi_context_wakeup_list}
use Rattle.percpu.specs.Layout.{cpu_words}
use Rattle.machine.proofs.Places.{lent_is, back_is}
use Rattle.context_ops.specs.Named.{named}
use Rattle.context_ops.proofs.Resolved.{found}
use Rattle.wakeup_lists.specs.declared.WakeupList.TheVariants.{Local, Ipi}
use Rattle.context_ops.proofs.Waking.{counted}
use lib.Seq.{get_or-set_same, set-get_or}
use Rattle.columns.specs.Common.{mark}
use Rattle.columns.proofs.Tests.{by_test}
use Rattle.context.specs.declared.Context.{Context}
use Rattle.context.specs.Block.{Changed}
use Rattle.context.specs.declared.Status.{Status}
use Rattle.context.specs.Status.{is_runnable, is_soft_blocked}
use Rattle.context.specs.Block.{blocked_as, unblocked}
use Rattle.machine.specs.Machine.{Machine, context_at, cpu_at, no_context, set_context}
use Rattle.machine.specs.Encode.{encode, cpu_place}
use Rattle.machine.specs.LookUp.{get_percpu_block}
use Rattle.machine.specs.Shape.{ContextFits, Fits, Image}
use Rattle.answer.specs.declared.Answer.{Answer}
use Rattle.machine.specs.Outcome.{Outcome, finished}
use Rattle.context_ops.specs.Wakeup.{other_cpu, wakeup_on, wakeup_context}
use Rattle.context_ops.specs.Operations.{unblock_context, drain_ipi_context_wakeups, block_with}
use Rattle.context_ops.specs.Reply.{reply, replied, reply_to, reply_on}
use Rattle.percpu.specs.Places.{local_count, ipi_count, block_size}

-- a record stored where it was
pub store_same : (M : Machine) (x : ℕ) → set_context x (context_at M.contexts x) M ≡ M
store_same M x = λ i. record { contexts = set-get_or M.contexts x no_context i; cpus = M.cpus }

-- the other CPU does not depend on the contexts
other_same : (k w x : ℕ) (q : Context) (M : Machine) → other_cpu k w (set_context x q M) ≡ other_cpu k w M
unfolding other_cpu get_percpu_block cpu_at
other_same k w x q M = refl

pub woken_by : {a : Answer} {m' : List ℕ} {c n : ℕ} (m : List ℕ) (k x r : ℕ) (q : Context) (M : Machine) (p : Option ℕ) → Fits c n M → x < n → p ≡ other_cpu k q.cpu_id M
    → reply a m' ≡ replied m (wakeup_on k x r (set_context x q M) p) → reply a m' ≡ replied m (wakeup_context k x r (set_context x q M))
unfolding wakeup_context
woken_by m k x r q M p o h e g =
    let b : x < length M.contexts = omega (arith, o.contexts)
    in let s : context_at (set M.contexts x q) x ≡ q = get_or-set_same M.contexts x q no_context b
    in g ∙ rw (s, other_same k q.cpu_id x q M, ← e)

-- blocking and unblocking keep a record's ranges
pub fits_unblocked : {c : ℕ} (q : Context) → ContextFits c q → ContextFits c (unblocked q).context
unfolding unblocked
fits_unblocked q o =
    by_test (is_soft_blocked q.status) (λ t. rw t (record { cpu_id = o.cpu_id; prio = o.prio; rem_slice = o.rem_slice })) (λ t. rw t o)

pub fits_blocked : {c : ℕ} (s : Status) (q : Context) → ContextFits c q → ContextFits c (blocked_as s q).context
unfolding blocked_as
fits_blocked s q o =
    by_test (is_runnable q.status) (λ t. rw t (record { cpu_id = o.cpu_id; prio = o.prio; rem_slice = o.rem_slice })) (λ t. rw t o)

pub fits_at : {c n : ℕ} {m : List ℕ} (i : Image c n m) (x : ℕ) (q : Context) → x < n → ((M : Machine) → m ≡ encode M → Fits c n M → q ≡ context_at M.contexts x) → ContextFits c q
fits_at i x q h f = rw (f i.M i.eq i.fits) (i.fits.context x h)

-- 4: q is the record, u what unblocking it gives
module _ (m : List ℕ) (k x : ℕ) (M : Machine) (q : Context) (hq : q ≡ context_at M.contexts x) (u : Changed) (hu : u ≡ unblocked q) where
  same : u ≡ unblocked (context_at M.contexts x)
  same = hu ∙ ap unblocked hq

  pub unblock_done : {a : Answer} {m' : List ℕ} → u.done ≡ true → reply a m' ≡ replied m (wakeup_context k x 1 (set_context x u.context M)) → reply a m' ≡ replied m (unblock_context k x M)
  unfolding unblock_context
  unblock_done t g =
      let d : (unblocked (context_at M.contexts x)).done ≡ true = sym (ap (λ (v : Changed). v.done) same) ∙ t
      in g ∙ rw d (ap (λ (v : Changed). replied m (wakeup_context k x 1 (set_context x v.context M))) same)

  pub unblock_runnable : {a : Answer} {m' : List ℕ} → u.done ≡ false → is_runnable q.status ≡ true → reply a m' ≡ replied m (wakeup_context k x 0 (set_context x q M)) → reply a m' ≡ replied m (unblock_context k x M)
  unfolding unblock_context
  unblock_runnable t r g =
      let d : (unblocked (context_at M.contexts x)).done ≡ false = sym (ap (λ (v : Changed). v.done) same) ∙ t
      in let e : is_runnable (context_at M.contexts x).status ≡ true = sym (ap (λ (v : Context). is_runnable v.status) hq) ∙ r
      in g ∙ rw (d, e) (ap (λ (v : Context). replied m (wakeup_context k x 0 (set_context x v M))) hq ∙ ap (λ (N : Machine). replied m (wakeup_context k x 0 N)) (store_same M x))

  pub unblock_nothing : u.done ≡ false → is_runnable q.status ≡ false → m ≡ encode M
      → reply (record { refusal = 0; result = 0; interrupt = 0; rule = 0 }) m ≡ replied m (unblock_context k x M)
  unfolding unblock_context replied
  unblock_nothing t r z =
      let d : (unblocked (context_at M.contexts x)).done ≡ false = sym (ap (λ (v : Changed). v.done) same) ∙ t
      in let e : is_runnable (context_at M.contexts x).status ≡ false = sym (ap (λ (v : Context). is_runnable v.status) hq) ∙ r
      in rw (d, e) (λ i. record { answer = record { refusal = 0; result = 0; interrupt = 0; rule = 0 }; image = z i })

-- a changed record stored
pub stored_reply : {m' : List ℕ} (m : List ℕ) (r : ℕ) (M : Machine) → m' ≡ encode M → reply (record { refusal = 0; result = r; interrupt = 0; rule = 0 }) m' ≡ replied m (finished r M)
unfolding replied
stored_reply m r M z = λ i. record { answer = record { refusal = 0; result = r; interrupt = 0; rule = 0 }; image = z i }

-- 6 and 7
pub blocked_reply : {a : Answer} {m' : List ℕ} (m : List ℕ) (s : Status) (x : ℕ) (M : Machine) (q : Context) (b : Changed) → q ≡ context_at M.contexts x → b ≡ blocked_as s q
    → reply a m' ≡ replied m (finished (mark b.done) (set_context x b.context M)) → reply a m' ≡ replied m (block_with s x M)
unfolding block_with
blocked_reply m s x M q b hq hb g =
    g ∙ ap (λ (v : Changed). replied m (finished (mark v.done) (set_context x v.context M))) (hb ∙ ap (blocked_as s) hq)

pub fits_unblocked_as : {c : ℕ} {q : Context} {u : Changed} → u ≡ unblocked q → ContextFits c q → ContextFits c u.context
fits_unblocked_as {c} {q} e o = subst (λ (v : Changed). ContextFits c v.context) (sym e) (fits_unblocked q o)

pub fits_blocked_as : {c : ℕ} {q : Context} {u : Changed} (s : Status) → u ≡ blocked_as s q → ContextFits c q → ContextFits c u.context
fits_blocked_as {c} {q} s e o = subst (λ (v : Changed). ContextFits c v.context) (sym e) (fits_blocked s q o)

-- 5: local and ipi are the counts as the code read them
module _ {c n : ℕ} (m : List ℕ) (k : ℕ) (h : k < c) (M : Machine) (e : m ≡ encode M) (o : Fits c n M) {at : ℕ} (p : at ≡ cpu_place n k) (local ipi : ℕ)
    (hl : local ≡ get_or m (at + local_count) 0) (hi : ipi ≡ get_or m (at + ipi_count) 0) where
  abbrev both : List ℕ
  both = (cpu_at M k).local_wakeup_list ++ (cpu_at M k).ipi_context_wakeup_list

  length_both : length both ≡ local + ipi
  length_both = length-append (cpu_at M k).local_wakeup_list (cpu_at M k).ipi_context_wakeup_list ∙ rw (← counted m M e o Local k h, ← counted m M e o Ipi k h, ← p, ← hl, ← hi)

  pub drain_full : {a : Answer} → a ≡ record { refusal = 9; result = 0; interrupt = 0; rule = 0 } → 64 < local + ipi → reply a m ≡ replied m (drain_ipi_context_wakeups k M)
  unfolding replied drain_ipi_context_wakeups
  drain_full z g = rw (lt-ltb 64 (length both) (rw length_both g)) (ap (λ (b : Answer). reply b m) z)

  pub drained : {l : List ℕ} → local + ipi ≤ 64
      → ((p : Cpu) → take (at + block_size - at) (drop at m) ≡ cpu_words p → length p.ipi_context_wakeup_list ≤ 64
      → l ≡ cpu_words (cpu_local_wakeup_list (p.local_wakeup_list ++ p.ipi_context_wakeup_list) (cpu_ipi_context_wakeup_list [] p)))
      → reply (record { refusal = 0; result = 0; interrupt = 0; rule = 0 }) (put_mid at (at + block_size - at) m l) ≡ replied m (drain_ipi_context_wakeups k M)
  unfolding replied drain_ipi_context_wakeups
  drained {l} g f =
      let z = back_is m k p h M e o _ l (f (cpu_at M k) (lent_is m k p h M e o) (o.cpu k h).ipi)
      in rw (le-ltb 64 (length both) (rw length_both g)) (λ i. record { answer = record { refusal = 0; result = 0; interrupt = 0; rule = 0 }; image = z i })

-- the counts are small
pub counts_small : {c n : ℕ} {m : List ℕ} (i : Image c n m) (k : ℕ) {at : ℕ} → at ≡ cpu_place n k → k < c → (get_or m (at + local_count) 0 ≤ 64) × (get_or m (at + ipi_count) 0 ≤ 64)
counts_small {m = m} i k p h =
    (rw (p, counted m i.M i.eq i.fits Local k h) (i.fits.cpu k h).local, rw (p, counted m i.M i.eq i.fits Ipi k h) (i.fits.cpu k h).ipi)

-- the reply to a call, by whom it names
pub refused_call : {a : Answer} (m : List ℕ) (f : ℕ → ℕ → Outcome) (r : ℕ) (w v : Result (ℕ × ℕ) ℕ) → w ≡ v → w ≡ Err r → a ≡ record { refusal = r; result = 0; interrupt = 0; rule = 0 } → reply a m ≡ reply_to m f v
unfolding reply_to
refused_call m f r w v e g z = rw (← e, g) (ap (λ (b : Answer). reply b m) z)

pub found_call : {a : Answer} {m' : List ℕ} (m : List ℕ) (f : ℕ → ℕ → Outcome) (k x : ℕ) (w v : Result (ℕ × ℕ) ℕ) → w ≡ v → w ≡ Ok (k, x) → reply a m' ≡ replied m (f k x) → reply a m' ≡ reply_to m f v
unfolding reply_to
found_call m f k x w v e g z = rw (← e, g) z

pub absent_call : {a : Answer} (m : List ℕ) (f : ℕ → Outcome) (w v : Option ℕ) → w ≡ v → w ≡ None → a ≡ record { refusal = 5; result = 0; interrupt = 0; rule = 0 } → reply a m ≡ reply_on m f v
unfolding reply_on
absent_call m f w v e g z = rw (← e, g) (ap (λ (b : Answer). reply b m) z)

pub present_call : {a : Answer} {m' : List ℕ} (m : List ℕ) (f : ℕ → Outcome) (k : ℕ) (w v : Option ℕ) → w ≡ v → w ≡ Some k → reply a m' ≡ replied m (f k) → reply a m' ≡ reply_on m f v
unfolding reply_on
present_call m f k w v e g z = rw (← e, g) z

-- what is named lies below the sizes
pub found_below : {c n : ℕ} {m : List ℕ} (i : Image c n m) (cpu context k x : ℕ) (w : Result (ℕ × ℕ) ℕ) → ((M : Machine) → m ≡ encode M → Fits c n M → w ≡ named M cpu context) → w ≡ Ok (k, x) → (k < c) × (x < n)
found_below i cpu context k x w f e =
    let t = found i.M cpu context k x (sym e ∙ f i.M i.eq i.fits)
    in (omega (arith, t.cpu_is.is, t.cpu_is.below, i.fits.cpus), omega (arith, t.context_is.is, t.context_is.below, i.fits.contexts))
