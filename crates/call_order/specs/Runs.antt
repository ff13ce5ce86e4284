-- Switches of CPUs that are pairwise apart, in any order that keeps each CPU's own. Assumes nothing.
use Rattle.std.specs.Prelude.{◌≡◌, ◌≢◌, true, false, List, [], ◌∷◌, ℕ, eqb, if◌then◌else◌}
use Rattle.columns.specs.Common.{keep, All, In}
use Rattle.answer.specs.declared.Answer.{Answer}
use Rattle.machine.specs.Machine.{Machine, cpu_at}
use Rattle.machine.specs.Encode.{decode}
use Rattle.model.specs.Schedule.{switch}
use Rattle.model_local.specs.Apart.{Apart, falls_on_stealing_turn}
use Rattle.calls.specs.Call.{switch_call}
use Rattle.call_order.specs.Order.{Accepted, image_of}

-- a switch of a CPU at a time
pub record Switch : Type 0 where
  pub cpu : ℕ
  pub time : ℕ

-- a CPU's own, in their order
abbrev pub own : ℕ → List Switch → List Switch
own k cs = keep (λ (c : Switch). eqb c.cpu k) cs

-- each on the image that the one before it left
abbrev pub image_after : List ℕ → List Switch → List ℕ
image_after m [] = m
image_after m (c ∷ cs) = image_after (image_of m c.cpu c.time) cs

abbrev pub AllAcceptedIn : List ℕ → List Switch → Type 0
AllAcceptedIn m [] = Unit {0}
AllAcceptedIn m (c ∷ cs) = Accepted (switch_call m c.cpu c.time) × AllAcceptedIn (image_of m c.cpu c.time) cs

-- what CPU k was answered
abbrev pub answers_of : ℕ → List ℕ → List Switch → List Answer
answers_of k m [] = []
answers_of k m (c ∷ cs) =
    if eqb c.cpu k then (switch_call m c.cpu c.time).answer ∷ answers_of k (image_of m c.cpu c.time) cs
    else answers_of k (image_of m c.cpu c.time) cs

-- of switches one after the other on a machine, none falls on a stealing turn
abbrev pub NeverSteals : Machine → List Switch → Type 0
NeverSteals M [] = Unit {0}
NeverSteals M (c ∷ cs) = (falls_on_stealing_turn c.cpu c.time M ≡ false) × NeverSteals (switch c.cpu c.time M).machine cs

-- ks are present CPUs, and no context is named by two of them
pub record PairwiseApart (M : Machine) (ks : List ℕ) : Type 0 where
  pub present : (k : ℕ) → In k ks → (cpu_at M k).block.present ≡ true
  pub apart : (k j : ℕ) → In k ks → In j ks → k ≢ j → Apart M k j

abbrev pub AllBy : List ℕ → List Switch → Type 0
AllBy ks cs = All (λ (c : Switch). In c.cpu ks) cs

-- of two orders that keep each CPU's own. Stealing turns are judged on the first image, of each CPU's own switches by themselves
abbrev pub AnyOrder : Type 0
AnyOrder =
    (m : List ℕ) (ks : List ℕ) (cs ds : List Switch) → PairwiseApart (decode m) ks → AllBy ks cs → AllBy ks ds → ((k : ℕ) → own k ds ≡ own k cs)
    → ((k : ℕ) → In k ks → NeverSteals (decode m) (own k cs)) → AllAcceptedIn m cs → AllAcceptedIn m ds
    → (image_after m ds ≡ image_after m cs) × ((k : ℕ) → answers_of k m ds ≡ answers_of k m cs)
