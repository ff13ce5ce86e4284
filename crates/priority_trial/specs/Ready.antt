-- What a trial asks of an image. Assumes nothing.
use Rattle.std.specs.Prelude.{◌≡◌, true, false, ℕ, ◌<◌, List}
use Rattle.machine.specs.Machine.{context_at, cpu_at}
use Rattle.machine.specs.Encode.{decode}
use Rattle.image.specs.Refusal.{size_c, size_n, image_refusal}

-- m is an image of c CPUs and n contexts that passes the check at that time; CPU k of it is present and context x is not gone
pub record Ready (m : List ℕ) (c n k time x : ℕ) : Type 0 where
  pub none : image_refusal time m ≡ 0
  pub cpus : c ≡ size_c m
  pub contexts : n ≡ size_n m
  pub cpu_below : k < c
  pub present : (cpu_at (decode m) k).block.present ≡ true
  pub below : x < n
  pub live : (context_at (decode m).contexts x).gone ≡ false
