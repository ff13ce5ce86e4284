-- A state of the plain engine and the kernel's: the same but for the order of entries and timers. Assumes nothing.
use Rattle.std.specs.Prelude.{if◌then◌else◌}
use mathlib.Core.Path.{◌≡◌, refl, subst}
use mathlib.Core.Bool.{Bool, true, false}
use mathlib.Core.List.{List, [], ◌∷◌}
use Prim.Native.Nat.{ℕ}
use Rattle.columns.specs.Common.{fold}
use Rattle.context.specs.declared.Context.{Context}
use Rattle.entries.specs.declared.Key.{Key}
use Rattle.entries.specs.declared.Entry.{Entry}
use Rattle.entries.specs.declared.Timer.{Timer}
use Rattle.entries.specs.Order.{entry_before, sooner}
use Rattle.entries.specs.Queue.{keyed, queue_remove}
use Rattle.entries.proofs.Ordered.{entries_ordered, timers_ordered}
use Rattle.model.specs.State.{State, put_context, push_local, insert_entry, insert_timer, remove_key}
use Rattle.plain_model.specs.Rank.{by_rank, put_in, Differ}
use Rattle.plain_model.specs.State as plain
use Rattle.plain_model.specs.State.{placed, Different, queue_without}
use Rattle.plain_model.proofs.Ranked.{length_by_rank}
use Rattle.plain_model.proofs.Placing.{by_rank_put_in, put_in_differs, by_rank_leave_out, leave_out_differs}

-- a choice goes through a function
module _ {B T : Type 0} (f : B → T) where
  pub through_if : (a : Bool) {x z : T} {u w : B} → x ≡ f u → z ≡ f w → if a then x else z ≡ f (if a then u else w)
  through_if true p q = p
  through_if false p q = q

-- S is s with every list placed, and no two keys of s are one
pub record Places (s S : State) : Type 0 where
  pub is : placed s ≡ S
  pub differ : Different s.cpu

pub places : (s : State) → Different s.cpu → Places s (placed s)
places s d = record { is = refl; differ = d }

-- what holds of every state that is placed
pub by_placed : (f F : State → State) → ((s : State) → Different s.cpu → Places (f s) (F (placed s))) → {s S : State} → Places s S → Places (f s) (F S)
by_placed f F h {s} {S} p = subst (λ (T : State). Places (f s) (F T)) p.is (h s p.differ)

pub if_places : (b : Bool) {x y X Y : State} → Places x X → Places y Y → Places (if b then x else y) (if b then X else Y)
if_places true p q = p
if_places false p q = q

pub fold_places : {A : Type 0} (f F : State → A → State) → ((a : A) (s : State) → Different s.cpu → Places (f s a) (F (placed s) a))
    → {s S : State} (l : List A) → Places s S → Places (fold f s l) (fold F S l)
fold_places f F h [] p = p
fold_places f F h (a ∷ l) p = fold_places f F h l (by_placed (λ (s : State). f s a) (λ (S : State). F S a) (h a) p)

pub queue_without_is : (k : Key) (q : List Entry) → Differ entry_before q → by_rank entry_before (queue_without k q) ≡ queue_remove k (by_rank entry_before q)
queue_without_is k q d = by_rank_leave_out entries_ordered (keyed k) q d

module _ (s : State) (d : Different s.cpu) where
  pub put_placed : (x : ℕ) (c : Context) → Places (put_context x c s) (put_context x c (placed s))
  put_placed x c = record { is = refl; differ = d }

  pub push_placed : (x : ℕ) → Places (push_local x s) (push_local x (placed s))
  push_placed x = record { is = refl; differ = record { queue = d.queue; timers = d.timers } }

  pub insert_placed : (e : Entry) → Places (plain.insert_entry e s) (insert_entry e (placed s))
  insert_placed e =
      record {
        is = rw (← by_rank_put_in entries_ordered e s.cpu.queue d.queue, length_by_rank entries_ordered (put_in entry_before e s.cpu.queue));
        differ = record { queue = put_in_differs entries_ordered e s.cpu.queue d.queue; timers = d.timers };
      }

  pub timer_placed : (t : Timer) → Places (plain.insert_timer t s) (insert_timer t (placed s))
  timer_placed t =
      record {
        is = rw (← by_rank_put_in timers_ordered t s.cpu.timers d.timers, length_by_rank timers_ordered (put_in sooner t s.cpu.timers));
        differ = record { queue = d.queue; timers = put_in_differs timers_ordered t s.cpu.timers d.timers };
      }

  pub remove_placed : (k : Key) → Places (plain.remove_key k s) (remove_key k (placed s))
  remove_placed k =
      record {
        is = rw (← by_rank_leave_out entries_ordered (keyed k) s.cpu.queue d.queue, length_by_rank entries_ordered (queue_without k s.cpu.queue));
        differ = record { queue = leave_out_differs entries_ordered (keyed k) s.cpu.queue d.queue; timers = d.timers };
      }
