-- The scan and the clean-up: the weight that is given up is that of the entries that leave.
use Rattle.std.specs.Prelude.{if◌then◌else◌, None, Option}
use mathlib.Core.Path.{◌≡◌, refl, sym, ap, ◌∙◌}
use mathlib.Core.Bool.{true, false, ◌&&◌}
use mathlib.Core.List.{List, [], ◌∷◌, ◌++◌}
use mathlib.Core.Logic.{◌⊎◌, inl, inr, ◌≢◌}
use Prim.Native.Nat.{ℕ, ◌+◌}
use native.Mathlib.Omega.{arith}
use lib.ListN.{set}
use lib.Seq.{set-get_or}
use Rattle.columns.specs.Common.{fold}
use Rattle.context.specs.declared.Context.{Context}
use Rattle.entries.specs.declared.Entry.{Entry}
use Rattle.entries.specs.Queue.{queue_remove}
use Rattle.percpu.specs.Cpu.{Cpu}
use Rattle.machine.specs.Machine.{context_at, no_context}
use Rattle.model.specs.Scan.{Scan, gone, blocked, no_addr_space, ready, is_ready_in, is_eligible, visited, scan_step, scan_start, scan}
use Rattle.model.specs.Choice.{without_keys}
use Rattle.model.proofs.Cases.{by_test, never, pick}
use Rattle.model.proofs.Lists.{All, In}
use Rattle.model.proofs.Queues.{Inv, on, on_here, Has, gone_of, set_view}
use Rattle.model.proofs.Moves.{now_out, has_take}
use Rattle.model.proofs.Judged.{put_to_sleep, judge_cases}
use Rattle.model.proofs.Scanned.{Distinct, Fresh, beyond, verdict, step_is, step_best, all_fresh, found_stays, start_fresh}
use Rattle.model.proofs.ScanKept.{in_here, Scanning, r, only, own, one_more, step_scanning}
use Rattle.model_weights.proofs.Sums.{added, added_remove, remove_in}
use Rattle.model_weights.proofs.Weighing.{Alive, Weights, Change, change, same_marks}

module _ (F : ℕ → Type 0) (cs₀ : List Context) (k time : ℕ) (p : Cpu) (h : Option ℕ) (cs : List Context) (q : List Entry) (R : ℕ → List Entry)
    (n : Inv F cs₀ cs (on k q R)) (K H : ℕ → Type 0) (apart : (x : ℕ) → F x → K x → ⊥) where
  abbrev rest_of : Scan → List Entry
  rest_of f = without_keys q f.contexts_to_remove

  pub record Cleans (f : Scan) : Type 0 where
    pub weights : Weights cs₀ K H f.contexts (on k (rest_of f) R)
    pub given_up : added q ≡ f.weight_change + added (rest_of f)

  module _ (f : Scan) (e : Entry) (es : List Entry) (s : Scanning F cs₀ k time p h cs q R n f (e ∷ es))
      (fr : context_at f.contexts e.context_ref ≡ context_at cs e.context_ref) (ap-art : All (λ d. d.context_ref ≢ e.context_ref) es)
      (w : Cleans f) where
    abbrev x : ℕ
    x = e.context_ref

    e_in : In e (rest_of f)
    e_in = s.rest e (inl refl)

    here : In e (on k (rest_of f) R k)
    here = in_here F cs₀ k time p h cs q R n (rest_of f) e e_in

    -- the entry leaves with its weight, and its record becomes c
    removed : (c : Context) (f' : Scan) → f'.contexts ≡ set f.contexts x c → f'.contexts_to_remove ≡ f.contexts_to_remove ++ (e.key ∷ [])
        → f'.weight_change ≡ f.weight_change + e.weight → (c.is_active ≡ true → H x) → Cleans f'
    removed c f' e₁ e₂ e₃ g =
        record {
          weights = rw (e₁, is_left) (change cs₀ K H H f.contexts (on k (rest_of f) R) (on k (queue_remove e.key (rest_of f)) R) x c leaves w.weights);
          given_up =
              let a : added q ≡ f.weight_change + added (rest_of f) = w.given_up in
              let b : added (rest_of f) ≡ e.weight + added (queue_remove e.key (rest_of f)) =
              added_remove e (rest_of f) (rw (on_here k (rest_of f) R) at (s.inv.sorted k)) e_in in
              let d : added (rest_of f') ≡ added (queue_remove e.key (rest_of f)) = ap added is_left in
              omega (arith, a, b, d, e₃);
        }
      where
        is_left : rest_of f' ≡ queue_remove e.key (rest_of f)
        is_left = ap (without_keys q) e₂ ∙ one_more q f.contexts_to_remove e.key

        leaves : Change cs₀ K H H f.contexts (on k (rest_of f) R) (on k (queue_remove e.key (rest_of f)) R) x c
        leaves =
            record {
              range = r F cs₀ k time p h cs q R n f e es s fr ap-art;
              came = λ d i g o. remove_in k (rest_of f) R e.key d i g;
              stays = λ y o g.
                  has_take F cs₀ f.contexts k (rest_of f) R s.inv x e.key (r F cs₀ k time p h cs q R n f e es s fr ap-art)
                  (own F cs₀ k time p h cs q R n f e es s fr ap-art) (only F cs₀ k time p h cs q R n f e es s fr ap-art) y o g;
              its_entry = λ d i g z a. absurd
                  (now_out F cs₀ f.contexts k (rest_of f) R s.inv x e.key (r F cs₀ k time p h cs q R n f e es s fr ap-art)
                  (own F cs₀ k time p h cs q R n f e es s fr ap-art) (only F cs₀ k time p h cs q R n f e es s fr ap-art) d i g z);
              may = λ a. inr (g a);
              held = λ y o a. a;
              kept = λ a. absurd (apart x (s.inv.free e k here) a);
            }

    -- the entry stays, and its record keeps its mark
    changed : (c : Context) (f' : Scan) → f'.contexts ≡ set f.contexts x c → f'.contexts_to_remove ≡ f.contexts_to_remove
        → f'.weight_change ≡ f.weight_change → c.is_active ≡ (context_at f.contexts x).is_active → Cleans f'
    changed c f' e₁ e₂ e₃ g =
        record {
          weights = rw (e₁, e₂) (same_marks cs₀ K H f.contexts (set f.contexts x c) (on k (rest_of f) R) (set_view (λ (b : Context). b.is_active) f.contexts x c g) w.weights);
          given_up = rw (e₂, e₃) w.given_up;
        }

    -- one that is gone was never counted as active
    gone_held : (context_at cs x).gone ≡ true → (context_at f.contexts x).is_active ≡ true → H x
    gone_held g a = go (w.weights.only x (rw (← s.inv.count) (r F cs₀ k time p h cs q R n f e es s fr ap-art)) a)
      where
        go : (Alive cs₀ x × Has x (on k (rest_of f) R)) ⊎ H x → H x
        go (inl (l, o)) = never (sym (gone_of (n.same x)) ∙ g) l
        go (inr o) = o

    visits : Cleans (visited k time p h f e (verdict k time p h cs e))
    unfolding visited
    visits =
        judge_cases k time p (context_at cs x) e (λ v. Cleans (visited k time p h f e v)) (record { weights = w.weights; given_up = w.given_up })
        (λ g. removed (context_at f.contexts x) (visited k time p h f e gone) (sym (set-get_or f.contexts x no_context)) refl refl (gone_held g))
        (λ l b. removed _ (visited k time p h f e (blocked (put_to_sleep (context_at cs x)))) refl refl (counted l) (λ a. never {b = false} a refl))
        (λ d v. changed d (visited k time p h f e (no_addr_space d)) refl refl refl (rw fr v.same_active))
        (λ d v. changed d (visited k time p h f e (ready d)) refl refl refl (rw fr v.same_active))
      where
        counted : (context_at cs x).gone ≡ false
            → f.weight_change + (if (context_at f.contexts x).is_active then e.weight else 0) ≡ f.weight_change + e.weight
        counted l =
            let a : (context_at f.contexts x).is_active ≡ true = w.weights.active e k here (sym (gone_of (n.same x)) ∙ l) in rw a

    step_cleans : f.eligible_best ≡ None → Fresh k time p h cs f e → Cleans (scan_step k time p h f e)
    unfolding visited
    step_cleans b a =
        rw (step_is k time p h cs f e b a)
        (pick (λ v. Cleans (visited k time p h f e v)) (beyond k time p h f e) (λ t. record { weights = w.weights; given_up = w.given_up }) (λ t. visits))

  cleaning : (f : Scan) (es : List Entry) → f.eligible_best ≡ None → Distinct es → All (Fresh k time p h cs f) es → Scanning F cs₀ k time p h cs q R n f es → Cleans f
      → Cleans (fold (scan_step k time p h) f es)
  cleaning f [] b d a s w = w
  cleaning f (e ∷ es) b d a s w =
      let next : Cleans (scan_step k time p h f e) = step_cleans f e es s a.0.0 d.0 w b a.0 in
      by_test (is_ready_in k time p cs e && is_eligible p e)
      (λ t. let g = rw t at (step_best k time p h cs f e b a.0) in rw (found_stays k time p h (scan_step k time p h f e) es (rw g)) next)
      (λ t. cleaning (scan_step k time p h f e) es (rw t at (step_best k time p h cs f e b a.0)) d.1 (all_fresh k time p h cs f e es b a.0 d.0 a.1)
      (step_scanning F cs₀ k time p h cs q R n f e es b a.0 d.0 s) next)

  pub scan_cleans : Distinct q → Weights cs₀ K H cs (on k q R) → Cleans (scan k time p h cs q)
  unfolding scan
  scan_cleans d w =
      cleaning (scan_start k time p h cs) q refl d (start_fresh k time p h cs q)
      (record { inv = n; rest = λ e i. i; stays = λ e i u. i; lost = λ e i. inl i; frame = λ y o. refl }) (record { weights = w; given_up = omega arith })
