-- The clean-up, and the winner's key out of the queue, from what the calls ensure. Assumes nothing.
use Rattle.std.specs.Prelude.{if◌then◌else◌, Option}
use mathlib.Core.Path.{◌≡◌, refl, sym, ap, ◌∙◌, subst}
use mathlib.Core.Bool.{Bool, true, false}
use mathlib.Core.List.{List, [], ◌∷◌}
use Prim.Native.Nat.{ℕ, ◌+◌, ◌-◌, ◌<◌, ◌≤◌}
use Rattle.std.proofs.lemmas.List.{take_more}
use lib.ListN.{length, get_or, take}
use lib.Seq.{set-get_or, take_all}
use Rattle.context.specs.declared.Context.{Context}
use Rattle.entries.specs.declared.Key.{Key}
use Rattle.entries.specs.Queue.{queue_remove}
use Rattle.percpu.specs.declared.PercpuBlock.{PercpuBlock}
use Rattle.percpu.specs.Cpu.{Cpu}
use Rattle.percpu.specs.With.{cpu_block, cpu_queue, cpu_queue_len, cpu_total_weight, cpu_published_weight, cpu_v}
use Rattle.machine.specs.Machine.{Machine, context_at, cpu_at, no_cpu}
use Rattle.machine.specs.Encode.{encode}
use Rattle.machine.specs.Shape.{ContextFits, Fits, Image}
use Rattle.model.specs.State.{State, on_cpu, put_context, remove_key, state_of}
use Rattle.model.specs.Scan.{Scan}
use Rattle.model.specs.Choice.{without_keys, cleaned_up, dequeued, taken_out}
use Rattle.stages.specs.Stage.{put_state, Staged}
use Rattle.stages.specs.Read.{BlockFits}
use Rattle.stages.proofs.Reading.{stage_none}
use Rattle.stages.proofs.Compose.{stage_then, stage_as}
use Rattle.select.specs.Cleaning.{lightened, remove_keys, cleaned}
use Rattle.select_judge.proofs.Judging.{other}
use Rattle.select.proofs.Walking.{fold_append}
use Rattle.context.specs.Key.{queue_key, without_key}

-- other contexts, and the CPU as it was
pub put_contexts : (k : ℕ) (cs : List Context) (M : Machine) → record { contexts = cs; cpus = M.cpus } ≡ put_state k (record { contexts = cs; cpu = cpu_at M k; no_room = false }) M
unfolding cpu_at
put_contexts k cs M = λ j. record { contexts = cs; cpus = sym (set-get_or M.cpus k no_cpu) j }

-- the keys ks, one by one
pub remove_none : {c n k : ℕ} {m : List ℕ} → Image c n m → Staged c n k m m false (λ (s : State). remove_keys [] s)
unfolding remove_keys
remove_none i = stage_none i

remove_one : (ks : List Key) (j : ℕ) (key : Key) (s : State) → j < length ks → remove_key (get_or ks j key) (remove_keys (take j ks) s) ≡ remove_keys (take (j + 1) ks) s
unfolding remove_keys
remove_one ks j key s h =
    sym (rw (take_more ks j key h) (fold_append (λ (a : State) (k : Key). remove_key k a) s (take j ks) (get_or ks j key ∷ [])))

pub remove_next : {c n k : ℕ} {m₀ m m' : List ℕ} (ks : List Key) (j : ℕ) (key : Key) → k < c → j < length ks
    → Staged c n k m₀ m false (λ (s : State). remove_keys (take j ks) s) → Staged c n k m m' false (λ (s : State). remove_key (get_or ks j key) s)
    → Staged c n k m₀ m' false (λ (s : State). remove_keys (take (j + 1) ks) s)
remove_next {k = k} ks j key h b t u = stage_as (stage_then h t u) (λ M q o. (remove_one ks j key (state_of k M) b, λ f g. refl))

pub remove_all : {c n k : ℕ} {m₀ m : List ℕ} (ks : List Key) {j : ℕ} → length ks ≤ j → Staged c n k m₀ m false (λ (s : State). remove_keys (take j ks) s)
    → Staged c n k m₀ m false (λ (s : State). remove_keys ks s)
remove_all {c} {n} {k} {m₀} {m} ks {j} h t = subst (λ (l : List Key). Staged c n k m₀ m false (λ (s : State). remove_keys l s)) (take_all j ks h) t

-- the block and then the keys: b is what was stored
module _ {c n : ℕ} {m : List ℕ} (k change len v : ℕ) {old b : PercpuBlock} (h : k < c) (i : Image c n m) (ho : (M : Machine) → m ≡ encode M → Fits c n M → old ≡ (cpu_at M k).block)
    (hl : (M : Machine) → m ≡ encode M → Fits c n M → len ≡ length (cpu_at M k).queue) (hb : b ≡ lightened old change len v) where
  lightened_is : (M : Machine) → m ≡ encode M → Fits c n M → b ≡ lightened (cpu_at M k).block change (length (cpu_at M k).queue) v
  lightened_is M e o = hb ∙ (λ j. lightened (ho M e o j) change (hl M e o j) v)

  pub lightened_fits : BlockFits n b
  lightened_fits =
      let o = i.fits.cpu k h
      in subst (BlockFits n) (sym (lightened_is i.M i.eq i.fits)) (record { current = o.current; sched = o.sched; idle = o.idle })

  pub clean_then : {m' m'' : List ℕ} (ks : List Key) → Staged c n k m m' false (λ (s : State). on_cpu (λ (p : Cpu). cpu_block b p) s) → Staged c n k m' m'' false (λ (s : State). remove_keys ks s)
      → Staged c n k m m'' false (λ (s : State). cleaned change ks v s)
  unfolding cleaned
  clean_then ks t u =
      stage_as (stage_then h t u)
      (λ M e o. (ap (λ (y : PercpuBlock). remove_keys ks (on_cpu (λ (p : Cpu). cpu_block y p) (state_of k M))) (lightened_is M e o), λ f g. refl))

-- the code's order gives the definition's state
abbrev publish : Cpu → Cpu
publish p = cpu_queue_len (length p.queue) p

removed_is : (ks : List Key) (s : State)
    → remove_keys ks (on_cpu publish s) ≡ on_cpu (λ (p : Cpu). cpu_queue_len (length (without_keys p.queue ks)) (cpu_queue (without_keys p.queue ks) p)) s
unfolding remove_keys
removed_is [] s = refl
removed_is (k ∷ ks) s = removed_is ks (on_cpu (λ (p : Cpu). cpu_queue (queue_remove k p.queue) p) s)

pub cleaned_is : (f : Scan) (v : ℕ) (s : State)
    → cleaned f.weight_change f.contexts_to_remove v (record { contexts = f.contexts; cpu = s.cpu; no_room = s.no_room }) ≡ on_cpu (cpu_v v) (cleaned_up f s)
unfolding cleaned cleaned_up
cleaned_is f v s =
    removed_is f.contexts_to_remove
    (record {
      contexts = f.contexts;
      cpu = cpu_v v (cpu_total_weight (s.cpu.block.total_weight - f.weight_change) (cpu_published_weight (s.cpu.block.total_weight - f.weight_change) s.cpu));
      no_room = s.no_room;
    })

first_arm : (b : Bool) (s s' : State) → b ≡ true → s ≡ if b then s else s'
first_arm b s s' h = rw h

-- the winner's key
module _ {c n : ℕ} {m : List ℕ} (k x : ℕ) {q : Context} (h : k < c) (i : Image c n m) (hx : x < n) (hq : (M : Machine) → m ≡ encode M → Fits c n M → q ≡ context_at M.contexts x) where
  pub without_fits : {q' : Context} → q' ≡ without_key q → ContextFits c q'
  without_fits e =
      let o = i.fits.context x hx
      in subst (ContextFits c) (sym (e ∙ ap without_key (hq i.M i.eq i.fits))) (record { cpu_id = o.cpu_id; prio = o.prio; rem_slice = o.rem_slice })

  has : (b : Bool) → q.has_queue_key ≡ b → (M : Machine) → m ≡ encode M → Fits c n M → (context_at M.contexts x).has_queue_key ≡ b
  has b t M e o = sym (ap (λ (y : Context). y.has_queue_key) (hq M e o)) ∙ t

  pub dequeued_key : {m' m'' : List ℕ} {q' : Context} {key : Key} → q.has_queue_key ≡ true → q' ≡ without_key q → key ≡ queue_key q → Staged c n k m m' false (λ (s : State). put_context x q' s)
      → Staged c n k m' m'' false (λ (s : State). remove_key key s) → Staged c n k m m'' false (λ (s : State). dequeued x s)
  dequeued_key {q' = q'} {key = key} t e f a u =
      stage_as (stage_then h a u)
      (λ M z o.
      let w : q' ≡ without_key (context_at M.contexts x) = e ∙ ap without_key (hq M z o)
      in let y : key ≡ queue_key (context_at M.contexts x) = f ∙ ap queue_key (hq M z o)
      in ((λ j. remove_key (y j) (put_context x (w j) (state_of k M))) ∙ first_arm _ _ (state_of k M) (has true t M z o), λ r g. refl))

  pub dequeued_none : q.has_queue_key ≡ false → Staged c n k m m false (λ (s : State). dequeued x s)
  dequeued_none t = stage_as (stage_none i) (λ M z o. (other _ _ (has false t M z o), λ r g. refl))

pub taken_as : {c n k : ℕ} {m m' : List ℕ} {w w' : Option ℕ} → w ≡ w' → Staged c n k m m' false (λ (s : State). taken_out w' s) → Staged c n k m m' false (λ (s : State). taken_out w s)
taken_as {c} {n} {k} {m} {m'} e t = subst (λ (y : Option ℕ). Staged c n k m m' false (λ (s : State). taken_out y s)) (sym e) t
