-- One outcome: two replies that meet the promise of `ask` for the same arguments are equal, and so are the slots and the output. Assumes nothing.
use Prim.Native.Nat.{ℕ, ◌≤◌}
use Rattle.std.specs.Prelude.{Result as Res, Ok, Err}
use Rattle.nibl.specs.declared.stop.Stop.{Stop}
use mathlib.Core.Path.{◌≡◌, ap}
use mathlib.Core.List.{List}
use native.Mathlib.Omega.{arith}
use lib.ListN.{length, take}
use lib.Seq.{length-take-le}
use Rattle.nibl.proofs.Determined.{determined}
use Rattle.world.specs.declared.input.Reply.{Reply}
use Rattle.world.specs.Hearing.{said_in, count_of, heard, hearing, slots_of, reply_count}

-- the promise, for a reply, the slots and the output that are left
pub record Promised (slots input : List ℕ) (i : ℕ) (o : List ℕ) (p : ℕ) (r : Reply) (slots' o' : List ℕ) : Type 0 where
  pub answer : heard r slots' o' ≡ hearing (length slots) input i o p
  pub left : slots' ≡ slots_of slots input i o p
  pub room : reply_count r ≤ length slots'

-- a reply within the slots is determined by what it says
said-same : (l : List ℕ) (r s : Res ℕ Stop) → count_of r ≤ length l → count_of s ≤ length l → said_in r l ≡ said_in s l → r ≡ s
said-same l (Ok n) (Ok m) h k e =
    let t : take n l ≡ take m l = cc in
    ap (λ (i : ℕ). Ok i) (omega (arith, ap length t, length-take-le n l h, length-take-le m l k))
said-same l (Err n) (Err m) h k e = let q : n.0 ≡ m.0 = cc in ap (λ (i : ℕ). Err (record { 0 = i })) q
said-same l (Ok n) (Err m) h k e = let z : ◌≡◌ {A = ℕ} 0 1 = cc in absurd (omega arith)
said-same l (Err n) (Ok m) h k e = let z : ◌≡◌ {A = ℕ} 0 1 = cc in absurd (omega arith)

-- and so are the positions and the output
heard-same : (l u v : List ℕ) (r s : Reply) → reply_count r ≤ length l → reply_count s ≤ length l → heard r l u ≡ heard s l v → (r ≡ s) × (u ≡ v)
heard-same l u v r s h k e =
    let q = said-same l r.said s.said h k (λ x. (e x).answer) in
    (λ x. record { said = q x; inpos = (e x).inpos; outpos = (e x).outpos }, λ x. (e x).output)

pub ask-determined : {slots input o l m u v : List ℕ} {i p : ℕ} {r s : Reply} → Promised slots input i o p r l u → Promised slots input i o p s m v
    → (r ≡ s) × (l ≡ m) × (u ≡ v)
ask-determined {slots} {input} {o} {l} {m} {u} {v} {i} {p} {r} {s} a b =
    let k : l ≡ m = determined (slots_of slots input i o p) l m a.left b.left in
    let e : heard r l u ≡ heard s l v = determined (hearing (length slots) input i o p) (heard r l u) (heard s l v) a.answer (rw k b.answer) in
    let same = heard-same l u v r s a.room (rw k b.room) e in
    (same.0, k, same.1)
