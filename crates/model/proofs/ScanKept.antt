-- The scan and the clean-up keep the invariant; what leaves the queue is gone or not runnable.
use Rattle.std.specs.Prelude.{None, Option}
use mathlib.Core.Path.{◌≡◌, refl, subst, sym, ap, ◌∙◌}
use mathlib.Core.Bool.{Bool, true, false, ◌&&◌}
use mathlib.Core.List.{List, [], ◌∷◌, ◌++◌}
use mathlib.Core.Logic.{◌⊎◌, inl, inr, ◌≢◌}
use Prim.Native.Nat.{ℕ, ◌<◌}
use lib.Dec.{eqb}
use lib.ListN.{length, set}
use lib.Seq.{set-get_or, get_or-set_same, get_or-set_other}
use borrow.Author.Tests.{eqb-true, eqb-false, eq-eqb}
use Rattle.columns.specs.Common.{fold}
use Rattle.context.specs.declared.Context.{Context}
use Rattle.context.specs.Status.{is_runnable}
use Rattle.entries.specs.declared.Key.{Key}
use Rattle.entries.specs.declared.Entry.{Entry}
use Rattle.entries.specs.Order.{entry_before}
use Rattle.entries.specs.Queue.{queue_remove, keyed}
use Rattle.percpu.specs.Cpu.{Cpu}
use Rattle.machine.specs.Machine.{context_at, no_context}
use Rattle.model.specs.Scan.{Scan, Visit, pass, gone, blocked, no_addr_space, ready, is_ready, is_ready_in, is_eligible, visited, scan_step, scan_start, scan}
use Rattle.model.specs.Choice.{without_keys}
use Rattle.model.proofs.Cases.{by_test, never, pick}
use Rattle.model.proofs.Lists.{All, In, all_at}
use Rattle.model.proofs.Sorted.{in_remove}
use Rattle.model.proofs.Queues.{run, fixed, on, Inv, inv_same}
use Rattle.model.proofs.Moves.{inv_take, still_in}
use Rattle.model.proofs.Judged.{put_to_sleep, judge_cases}
use Rattle.model.proofs.Scanned.{Distinct, Fresh, beyond, verdict, step_is, step_best, all_fresh, found_stays, start_fresh}

-- gone, or not runnable
abbrev pub Lost : Context → Type 0
Lost c = (c.gone ≡ true) ⊎ (is_runnable c.status ≡ false)

-- an entry that the scan takes out
abbrev pub is_removed : Visit → Bool
is_removed pass = false
is_removed gone = true
is_removed (blocked c) = true
is_removed (no_addr_space c) = false
is_removed (ready c) = false

ready_not_removed : (v : Visit) → is_ready v ≡ true → is_removed v ≡ false
ready_not_removed pass t = refl
ready_not_removed gone t = sym t
ready_not_removed (blocked c) t = sym t
ready_not_removed (no_addr_space c) t = refl
ready_not_removed (ready c) t = refl

pub one_more : (q : List Entry) (ks : List Key) (k : Key) → without_keys q (ks ++ (k ∷ [])) ≡ queue_remove k (without_keys q ks)
one_more q [] k = refl
one_more q (j ∷ js) k = one_more (queue_remove j q) js k

pub still_subset : (q : List Entry) (ks : List Key) (e : Entry) → In e (without_keys q ks) → In e q
still_subset q [] e i = i
still_subset q (j ∷ js) e i = in_remove entry_before (keyed j) e q (still_subset (queue_remove j q) js e i)

module _ (F : ℕ → Type 0) (cs₀ : List Context) (k time : ℕ) (p : Cpu) (h : Option ℕ) (cs : List Context) (q : List Entry) (R : ℕ → List Entry)
    (n : Inv F cs₀ cs (on k q R)) where
  -- the queue without what the scan gave up so far
  abbrev pub left : Scan → List Entry
  left f = without_keys q f.contexts_to_remove

  pub in_here : (l : List Entry) (e : Entry) → In e l → In e (on k l R k)
  in_here l e i = rw (eq-eqb k k refl) i

  -- the entries of one context are one
  same_entry : (e d : Entry) → In e q → In d q → d.context_ref ≡ e.context_ref → d ≡ e
  same_entry e d i j m = (n.one d e k k (in_here q d j) (in_here q e i) m).0

  -- es: the entries to come
  pub record Scanning (f : Scan) (es : List Entry) : Type 0 where
    pub inv : Inv F cs₀ f.contexts (on k (left f) R)
    pub rest : (e : Entry) → In e es → In e (left f)
    pub stays : (e : Entry) → In e q → is_removed (verdict k time p h cs e) ≡ false → In e (left f)
    pub lost : (e : Entry) → In e q → In e (left f) ⊎ Lost (context_at f.contexts e.context_ref)
    pub frame : (y : ℕ) → ((e : Entry) → In e q → e.context_ref ≢ y) → context_at f.contexts y ≡ context_at cs y

  module _ (f : Scan) (e : Entry) (es : List Entry) (s : Scanning f (e ∷ es)) (fr : context_at f.contexts e.context_ref ≡ context_at cs e.context_ref)
      (ap-art : All (λ d. d.context_ref ≢ e.context_ref) es) where
    pub e_in : In e q
    e_in = still_subset q f.contexts_to_remove e (s.rest e (inl refl))

    pub r : e.context_ref < length f.contexts
    r = s.inv.range e k (in_here (left f) e (s.rest e (inl refl)))

    pub only : (d : Entry) (i : ℕ) → In d (on k (left f) R i) → d.context_ref ≡ e.context_ref → (d.key ≡ e.key) × (i ≡ k)
    only d i g m = let (a, b) = s.inv.one d e i k g (in_here (left f) e (s.rest e (inl refl))) m in (ap (λ (z : Entry). z.key) a, b)

    pub own : e.key.ctxt_id ≡ (context_at f.contexts e.context_ref).debug_id
    own = sym (s.inv.id e k (in_here (left f) e (s.rest e (inl refl))))

    survives : (d : Entry) → In d (left f) → d.context_ref ≢ e.context_ref → In d (queue_remove e.key (left f))
    survives d i m =
        rw (eq-eqb k k refl) at (still_in F cs₀ f.contexts k (left f) R s.inv e.context_ref e.key r own only d k (in_here (left f) d i) m)

    -- the entry leaves, and its record becomes c
    removed : (c : Context) (f' : Scan) → f'.contexts ≡ set f.contexts e.context_ref c → f'.contexts_to_remove ≡ f.contexts_to_remove ++ (e.key ∷ [])
        → fixed c ≡ fixed (context_at f.contexts e.context_ref) → (c.gone ≡ false → c.has_queue_key ≡ false) → Lost c
        → is_removed (verdict k time p h cs e) ≡ true → Scanning f' es
    removed c f' e₁ e₂ fx g l v =
        record {
          inv = rw (e₁, is_left) (inv_take F cs₀ f.contexts k (left f) R s.inv e.context_ref e.key r own only c fx g);
          rest = λ d i. rw is_left (survives d (s.rest d (inr i)) (all_at _ es ap-art d i));
          stays = λ d i u. rw is_left (survives d (s.stays d i u) (λ m. never v (rw (same_entry e d e_in i m) at u)));
          lost = λ d i. rw (e₁, is_left) (by_test (eqb d.context_ref e.context_ref) (λ t. inr (at_e d (eqb-true _ _ t))) (λ t. other d (eqb-false _ _ t) (s.lost d i)));
          frame = λ y o. rw e₁ (get_or-set_other f.contexts e.context_ref y c no_context (λ m. o e e_in (sym m)) ∙ s.frame y o);
        }
      where
        is_left : left f' ≡ queue_remove e.key (left f)
        is_left = ap (without_keys q) e₂ ∙ one_more q f.contexts_to_remove e.key

        at_e : (d : Entry) → d.context_ref ≡ e.context_ref → Lost (context_at (set f.contexts e.context_ref c) d.context_ref)
        at_e d m = rw (m, get_or-set_same f.contexts e.context_ref c no_context r) l

        other : (d : Entry) → d.context_ref ≢ e.context_ref → In d (left f) ⊎ Lost (context_at f.contexts d.context_ref)
            → In d (queue_remove e.key (left f)) ⊎ Lost (context_at (set f.contexts e.context_ref c) d.context_ref)
        other d m (inl i) = inl (survives d i m)
        other d m (inr i) = inr (rw (get_or-set_other f.contexts e.context_ref d.context_ref c no_context m) i)

    -- the entry stays, and its record becomes c
    changed : (c : Context) (f' : Scan) → f'.contexts ≡ set f.contexts e.context_ref c → f'.contexts_to_remove ≡ f.contexts_to_remove
        → run c ≡ run (context_at f.contexts e.context_ref) → fixed c ≡ fixed (context_at f.contexts e.context_ref) → Scanning f' es
    changed c f' e₁ e₂ rn fx =
        record {
          inv = rw (e₁, e₂) (inv_same F cs₀ f.contexts (on k (left f) R) e.context_ref c rn fx s.inv);
          rest = λ d i. rw e₂ (s.rest d (inr i));
          stays = λ d i u. rw e₂ (s.stays d i u);
          lost = λ d i. rw (e₁, e₂) (by_test (eqb d.context_ref e.context_ref)
              (λ t. inl (subst (λ z. In z (left f)) (sym (same_entry e d e_in i (eqb-true _ _ t))) (s.rest e (inl refl))))
              (λ t. other d (eqb-false _ _ t) (s.lost d i)));
          frame = λ y o. rw e₁ (get_or-set_other f.contexts e.context_ref y c no_context (λ m. o e e_in (sym m)) ∙ s.frame y o);
        }
      where
        other : (d : Entry) → d.context_ref ≢ e.context_ref → In d (left f) ⊎ Lost (context_at f.contexts d.context_ref)
            → In d (left f) ⊎ Lost (context_at (set f.contexts e.context_ref c) d.context_ref)
        other d m (inl i) = inl i
        other d m (inr i) = inr (rw (get_or-set_other f.contexts e.context_ref d.context_ref c no_context m) i)

    passed : Scanning f es
    passed = record { inv = s.inv; rest = λ d i. s.rest d (inr i); stays = s.stays; lost = s.lost; frame = s.frame }

    -- a visit that takes the entry out only if judging by itself does
    abbrev Visits : Visit → Type 0
    Visits v = (is_removed v ≡ true → is_removed (verdict k time p h cs e) ≡ true) → Scanning (visited k time p h f e v) es

    visits_pass : Visits pass
    unfolding visited
    visits_pass u = passed

    visits : Visits (verdict k time p h cs e)
    unfolding visited
    visits =
        judge_cases k time p (context_at cs e.context_ref) e Visits visits_pass
        (λ g u. removed (context_at f.contexts e.context_ref) (visited k time p h f e gone) (sym (set-get_or f.contexts e.context_ref no_context)) refl refl
        (λ l. never (rw fr g) l) (inl (rw fr g)) (u refl))
        (λ l b u. removed _ (visited k time p h f e (blocked (put_to_sleep (context_at cs e.context_ref)))) refl refl (rw fr refl) (λ z. refl) (inr b) (u refl))
        (λ d w u. changed d (visited k time p h f e (no_addr_space d)) refl refl (rw fr w.same_run) (rw fr w.same_fixed))
        (λ d w u. changed d (visited k time p h f e (ready d)) refl refl (rw fr w.same_run) (rw fr w.same_fixed))

  -- one entry
  pub step_scanning : (f : Scan) (e : Entry) (es : List Entry) → f.eligible_best ≡ None → Fresh k time p h cs f e → All (λ d. d.context_ref ≢ e.context_ref) es
      → Scanning f (e ∷ es) → Scanning (scan_step k time p h f e) es
  step_scanning f e es b a d s =
      rw (step_is k time p h cs f e b a)
      (pick (λ v. Scanning (visited k time p h f e v) es) (beyond k time p h f e)
      (λ t. visits_pass f e es s a.0 d (λ u. never {b = false} u refl)) (λ t. visits f e es s a.0 d (λ u. u)))

  scanning : (f : Scan) (es : List Entry) → f.eligible_best ≡ None → Distinct es → All (Fresh k time p h cs f) es → Scanning f es
      → Scanning (fold (scan_step k time p h) f es) []
  scanning f [] b d a s = s
  scanning f (e ∷ es) b d a s =
      let next : Scanning (scan_step k time p h f e) es = step_scanning f e es b a.0 d.0 s in
      by_test (is_ready_in k time p cs e && is_eligible p e)
      (λ t. let g = rw t at (step_best k time p h cs f e b a.0) in
      rw (found_stays k time p h (scan_step k time p h f e) es (rw g)) (record { inv = next.inv; rest = λ z i. absurd i; stays = next.stays; lost = next.lost; frame = next.frame }))
      (λ t. scanning (scan_step k time p h f e) es (rw t at (step_best k time p h cs f e b a.0)) d.1 (all_fresh k time p h cs f e es b a.0 d.0 a.1) next)

  -- the scan of the whole queue
  pub scan_kept : Distinct q → Scanning (scan k time p h cs q) []
  unfolding scan
  scan_kept d =
      scanning (scan_start k time p h cs) q refl d (start_fresh k time p h cs q)
      (record { inv = n; rest = λ e i. i; stays = λ e i u. i; lost = λ e i. inl i; frame = λ y o. refl })

  -- a ready entry stays in the queue
  pub ready_stays : Distinct q → (e : Entry) → In e q → is_ready_in k time p cs e ≡ true → In e (left (scan k time p h cs q))
  ready_stays d e i t = (scan_kept d).stays e i (ready_not_removed (verdict k time p h cs e) t)
