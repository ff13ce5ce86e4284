-- Records and blocks written one after the other. Assumes nothing.
use mathlib.Core.Path.{◌≡◌, refl, sym, ap, ◌∙◌}
use mathlib.Core.List.{List, [], ◌∷◌, ◌++◌, map, append-nil}
use Prim.Native.Nat.{ℕ, zero, suc, ◌+◌, ◌-◌, ◌<◌, ◌≤◌}
use native.Mathlib.Omega.{arith}
use lib.ListN.{length, get_or, set, take, drop, length-drop}
use lib.Seq.{length-take-le, ext_get_or, get_or-take, take_all}
use borrow.Rule.Slice.PartMut.{put_mid}
use Rattle.columns.specs.Common.{All, tabulate}
use Rattle.columns.specs.Blocks.{splice, splice_is, splice_mid}
use Rattle.context.specs.declared.Context.{Context}
use Rattle.context.specs.Words.{context_words, record_size}
use Rattle.percpu.specs.Cpu as model
use Rattle.percpu.specs.Layout.{cpu_words}
use Rattle.percpu.specs.Places.{block_size}
use Rattle.percpu.specs.Words.{block_words, length_block_words}
use Rattle.percpu.specs.declared.PercpuBlock.{PercpuBlock}
use Rattle.plain_state.specs.States.{CpuSound}
use Rattle.machine.specs.Machine.{Machine, set_context, set_cpu, no_context, no_cpu}
use Rattle.machine.specs.Encode.{encode, context_place, cpu_place}
use Rattle.machine.proofs.Places.{context_splice, cpu_splice}
use Rattle.plain_lists.proofs.Arrays.{read_front}
use Rattle.plain_state.specs.declared.Cpu.{Cpu}
use Rattle.plain_words.specs.Stored.{ImageSized, Encoded, placed_in, with_contexts, with_cpus}
use Rattle.plain_lists.proofs.Filling.{Filled, filled_none, filled_next, filled_all}
use Rattle.plain_words.proofs.Filled.{filled_is, filled_map}

-- of an image m of c CPUs and n contexts
module _ (c n : ℕ) (m : List ℕ) (z : ImageSized c n m) where
  -- a record that the code lends, `&mut m[at..at + 26]`, is back; so is a block
  pub context_stored : (x : ℕ) {at : ℕ} → at ≡ context_place x → x < n → (q : Context) (l : List ℕ) → l ≡ context_words q
      → length (put_mid at (at + record_size - at) m l) ≡ length m → Encoded c n m (put_mid at (at + record_size - at) m l) (set_context x q)
  context_stored x {at} p h q l b s =
      record {
        sized = record { bounds = z.bounds; size = s ∙ z.size };
        encoded = λ M lc ln e. splice_is m at (at + record_size) record_size l refl ∙ rw (p, b, e) (context_splice M x q (rw ln h));
      }

  pub cpu_stored : (k : ℕ) {at : ℕ} → at ≡ cpu_place n k → k < c → (p : model.Cpu) (l : List ℕ) → l ≡ cpu_words p
      → length (put_mid at (at + block_size - at) m l) ≡ length m → Encoded c n m (put_mid at (at + block_size - at) m l) (set_cpu k p)
  cpu_stored k {at} p h q l b s =
      record {
        sized = record { bounds = z.bounds; size = s ∙ z.size };
        encoded = λ M lc ln e. splice_is m at (at + block_size) block_size l refl ∙ rw (p, b, e, ← ln) (cpu_splice M k q (rw lc h));
      }

-- the first x of n records are those of cs
module _ (c n : ℕ) (cs : List Context) where
  abbrev IsRecord : ℕ → Context → Type 0
  IsRecord j q = q ≡ get_or (take n cs) j no_context

  pub record SomeContexts (M : Machine) (m : List ℕ) (x : ℕ) : Type 0 where
    pub contexts : List Context
    pub filled : Filled no_context IsRecord n contexts x
    pub is : m ≡ encode (with_contexts contexts M)

  pub record StoringContexts (m₀ m : List ℕ) (x : ℕ) : Type 0 where
    pub sized : ImageSized c n m
    pub so_far : (M : Machine) → length M.cpus ≡ c → length M.contexts ≡ n → m₀ ≡ encode M → SomeContexts M m x

  pub contexts_none : (m : List ℕ) → ImageSized c n m → StoringContexts m m 0
  contexts_none m z =
      record { sized = z; so_far = λ M lc ln e. record { contexts = M.contexts; filled = filled_none no_context IsRecord n M.contexts ln; is = e } }

  pub contexts_next : (m₀ m m' : List ℕ) (x : ℕ) (d : Context) → length cs ≡ 64 → n ≤ 64 → StoringContexts m₀ m x → x < n → Encoded c n m m' (set_context x (get_or cs x d)) → StoringContexts m₀ m' (x + 1)
  contexts_next m₀ m m' x d l b s h o =
      let q : Context = get_or cs x d in
      record {
        sized = o.sized;
        so_far = λ M lc ln i.
            let t : SomeContexts M m x = s.so_far M lc ln i in
            record {
              contexts = set t.contexts x q;
              filled = filled_next no_context IsRecord t.contexts x q t.filled h (read_front cs n x d no_context h (omega arith));
              is = o.encoded (with_contexts t.contexts M) lc t.filled.places t.is;
            };
      }

  pub contexts_all : (m₀ m : List ℕ) (x : ℕ) → length cs ≡ 64 → n ≤ 64 → StoringContexts m₀ m x → n ≤ x → Encoded c n m₀ m (with_contexts (take n cs))
  contexts_all m₀ m x l b s h =
      record {
        sized = s.sized;
        encoded = λ M lc ln i.
            let t : SomeContexts M m x = s.so_far M lc ln i in
            let u : length (take n cs) ≡ n = length-take-le n cs (omega arith) in
            let w : length t.contexts ≡ n = t.filled.places in
            let v : t.contexts ≡ take n cs
            = ext_get_or no_context t.contexts (take n cs) (w ∙ sym u)
            (λ j g. filled_all no_context IsRecord n t.contexts x t.filled h j (rw w at g))
            in t.is ∙ ap (λ (ds : List Context). encode (with_contexts ds M)) v;
      }

-- what is read past the end
abbrev pub nobody : Cpu
nobody =
    record {
      block = no_cpu.block;
      queue = record { items = []; len = 0 };
      timers = record { items = []; len = 0 };
      local = record { items = []; len = 0 };
      ipi = record { items = []; len = 0 };
      remainder = 0;
    }

-- the first k of c blocks are those of ps, their lists placed
module _ (c n : ℕ) (ps : List Cpu) where
  abbrev IsBlock : ℕ → model.Cpu → Type 0
  IsBlock j p = p ≡ placed_in (get_or (take c ps) j nobody)

  pub record SomeCpus (M : Machine) (m : List ℕ) (k : ℕ) : Type 0 where
    pub cpus : List model.Cpu
    pub filled : Filled no_cpu IsBlock c cpus k
    pub is : m ≡ encode (with_cpus cpus M)

  pub record StoringCpus (m₀ m : List ℕ) (k : ℕ) : Type 0 where
    pub sized : ImageSized c n m
    pub so_far : (M : Machine) → length M.cpus ≡ c → length M.contexts ≡ n → m₀ ≡ encode M → SomeCpus M m k

  pub cpus_none : (m : List ℕ) → ImageSized c n m → StoringCpus m m 0
  cpus_none m z =
      record { sized = z; so_far = λ M lc ln e. record { cpus = M.cpus; filled = filled_none no_cpu IsBlock c M.cpus lc; is = e } }

  pub cpus_next : (m₀ m m' : List ℕ) (k : ℕ) (d : Cpu) → length ps ≡ 4 → c ≤ 4 → StoringCpus m₀ m k → k < c → Encoded c n m m' (set_cpu k (placed_in (get_or ps k d))) → StoringCpus m₀ m' (k + 1)
  cpus_next m₀ m m' k d l b s h o =
      let p : Cpu = get_or ps k d in
      record {
        sized = o.sized;
        so_far = λ M lc ln i.
            let t : SomeCpus M m k = s.so_far M lc ln i in
            record {
              cpus = set t.cpus k (placed_in p);
              filled = filled_next no_cpu IsBlock t.cpus k (placed_in p) t.filled h (ap placed_in (read_front ps c k d nobody h (omega arith)));
              is = o.encoded (with_cpus t.cpus M) t.filled.places ln t.is;
            };
      }

  pub cpus_all : (m₀ m : List ℕ) (k : ℕ) → length ps ≡ 4 → c ≤ 4 → StoringCpus m₀ m k → c ≤ k → Encoded c n m₀ m (with_cpus (map placed_in (take c ps)))
  cpus_all m₀ m k l b s h =
      record {
        sized = s.sized;
        encoded = λ M lc ln i.
            let t : SomeCpus M m k = s.so_far M lc ln i in
            let w : length t.cpus ≡ c = t.filled.places in
            let f : ℕ → model.Cpu = λ (j : ℕ). placed_in (get_or (take c ps) j nobody) in
            let v : map placed_in (take c ps) ≡ tabulate c f = filled_map nobody placed_in f 4 c ps l b (λ j g. ap placed_in (sym (get_or-take c ps j nobody g))) in
            let u : take c t.cpus ≡ tabulate c f = filled_is no_cpu f c c t.cpus w (omega arith) (filled_all no_cpu IsBlock c t.cpus k t.filled h)
            in t.is ∙ ap (λ (qs : List model.Cpu). encode (with_cpus qs M)) (sym (take_all c t.cpus (omega arith)) ∙ u ∙ sym v);
      }

-- the scalars of a block, then its four counts
pub front_stored : (w l k : List ℕ) → length w ≡ 25 → length l ≡ 21 → length k ≡ 4 → put_mid 21 4 (put_mid 0 21 w l) k ≡ l ++ k
front_stored w l k h g e =
    let r : List ℕ = drop 21 w in
    let d : length r ≡ 4 = rw (length-drop) (omega arith) in
    splice_is (l ++ r) 21 25 4 k refl
    ∙ ap (λ (x : List ℕ). splice (l ++ x) 21 4 k) (sym (append-nil r))
    ∙ splice_mid l r [] 21 4 g d k
    ∙ ap (λ (x : List ℕ). l ++ x) (append-nil k)

-- the same of what the code writes
pub front_is : (w l k n : List ℕ) (b : PercpuBlock) → length w ≡ 25 → l ≡ block_words b → k ≡ n → length n ≡ 4 → put_mid 21 4 (put_mid 0 21 w l) k ≡ block_words b ++ n
front_is w l k n b h e f g = front_stored w l k h (ap length e ∙ length_block_words b) (ap length f ∙ g) ∙ (λ i. e i ++ f i)

pub counts_stored : (w : List ℕ) {a b c d a' b' c' d' : ℕ} → length w ≡ 4 → a' ≡ a → b' ≡ b → c' ≡ c → d' ≡ d → set (set (set (set w 0 a') 1 b') 2 c') 3 d' ≡ a ∷ b ∷ c ∷ d ∷ []
counts_stored (x ∷ y ∷ z ∷ u ∷ []) h e f g k = rw (e, f, g, k)
counts_stored [] h e f g k = absurd (omega arith)
counts_stored (x ∷ []) h e f g k = absurd (omega arith)
counts_stored (x ∷ y ∷ []) h e f g k = absurd (omega arith)
counts_stored (x ∷ y ∷ z ∷ []) h e f g k = absurd (omega arith)
counts_stored (x ∷ y ∷ z ∷ u ∷ v ∷ r) h e f g k = absurd (omega arith)

-- one of the CPUs that the code goes through
pub sized_at : (c : ℕ) (ps : List Cpu) (k : ℕ) (d : Cpu) → All CpuSound (take c ps) → k < c → k < length ps → CpuSound (get_or ps k d)
sized_at zero ps k d a h g = absurd (omega arith)
sized_at (suc c) [] k d a h g = absurd (omega arith)
sized_at (suc c) (p ∷ ps) zero d a h g = a.0
sized_at (suc c) (p ∷ ps) (suc k) d a h g = sized_at c ps k d a.1 (omega arith) (omega arith)
