-- Asking: what each way out says, and how it is the definition's in the world. Assumes nothing.
use Rattle.std.specs.Prelude.{if◌then◌else◌}
use Rattle.std.specs.Prelude.{Some, None}
use Prim.Native.Nat.{ℕ, ◌+◌}
use mathlib.Core.Path.{◌≡◌, refl, sym, ap, ◌∙◌}
use mathlib.Core.Bool.{Bool, true, false}
use mathlib.Core.List.{List}
use mathlib.Core.Option.{Option, none, some}
use native.Mathlib.Omega.{arith}
use lib.ListN.{length, take, drop}
use lib.Seq.{sets}
use Rattle.nibl.specs.Bytes.{bytes}
use Rattle.nibl.specs.Values.{is, no}
use Rattle.nibl.specs.Typing.{Gathered, gather}
use Rattle.nibl.specs.Meaning.{Env, World, with_output, with_inpos, Done, done, on, stop, went, put, gathered, asked}
use Rattle.value.specs.Writes.{Writes, item_fits}
use Rattle.letter.specs.Slots.{held}
use Rattle.letter.proofs.Told.{GotLong, GotLine}
use Rattle.world.specs.Hearing.{hears, heard_line, hearing, slots_of, heard_in}

-- ---- the question

-- an item that was written fits, and one that was not does not: for every caller of `write_item`
pub record Out (o : List ℕ) (p : ℕ) (item : List ℕ) (next : ℕ) (o' : List ℕ) : Type 0 where
  pub room : item_fits o p item ≡ true
  pub moved : next ≡ p + length item
  pub output : o' ≡ sets o p item

module _ {o o' item : List ℕ} {p : ℕ} where
  pub out : {next : ℕ} → Writes o p item (Some next) o' → Out o p item next o'
  out {next} w = go (item_fits o p item) refl w.answer w.output
    where
      go : (t : Bool) → item_fits o p item ≡ t → is next ≡ (if t then is (p + length item) else no 17) → o' ≡ (if t then sets o p item else o) → Out o p item next o'
      go true f a e = record { room = f; moved = cc; output = e }
      go false f a e = let z : ◌≡◌ {A = ℕ} 0 1 = cc in absurd (omega arith)

  pub not-out : Writes o p item None o' → (item_fits o p item ≡ false) × (o' ≡ o)
  not-out w = go (item_fits o p item) refl w.answer w.output
    where
      go : (t : Bool) → item_fits o p item ≡ t → no 17 ≡ (if t then is (p + length item) else no 17) → o' ≡ (if t then sets o p item else o) → (item_fits o p item ≡ false) × (o' ≡ o)
      go true f a e = let z : ◌≡◌ {A = ℕ} 0 1 = cc in absurd (omega arith)
      go false f a e = (f, e)

-- ---- the reply, by the output and the slots that are left

module _ (slots input : List ℕ) (i : ℕ) {o o' : List ℕ} {p : ℕ} where
  -- the "?" does not fit
  module _ (w : Writes o p (bytes "?") None o') where
    pub full-heard : hears (no 17) i o' p ≡ hearing (length slots) input i o p
    unfolding hearing
    full-heard = rw ((not-out w).0, (not-out w).1)

    pub full-slots : slots ≡ slots_of slots input i o p
    unfolding slots_of
    full-slots = rw (not-out w).0

  -- it is out
  module _ {next : ℕ} (w : Writes o p (bytes "?") (Some next) o') where
    hears-line : hearing (length slots) input i o p ≡ heard_line (gather (length slots) (drop i input)) i o' next
    unfolding hearing
    hears-line = rw ((out w).room, (out w).moved, (out w).output)

    pub held-slots : held (length slots) (gather (length slots) (drop i input)) ≡ slots_of slots input i o p
    unfolding slots_of
    held-slots = rw (out w).room

    pub none-heard : gather (length slots) (drop i input) ≡ none → hears (no 7) i o' next ≡ hearing (length slots) input i o p
    none-heard e = sym (hears-line ∙ rw e)

    pub long-heard : {at : ℕ} → GotLong (length slots) i input at → hears (no 6) at o' next ≡ hearing (length slots) input i o p
    long-heard g = sym (hears-line ∙ rw (g.got.gathers, g.got.mark, g.got.moved))

    pub line-heard : {at n : ℕ} → GotLine (length slots) i input at n → {slots' : List ℕ} → slots' ≡ held (length slots) (gather (length slots) (drop i input))
        → hears (is (take n slots')) at o' next ≡ hearing (length slots) input i o p
    line-heard {n = n} g {slots'} h =
        let t : take n slots' ≡ g.line.line.bytes = ap (take n) h ∙ g.text in
        rw (t, g.got.moved) (sym (hears-line ∙ rw (g.got.gathers, g.got.mark)))

-- ---- in the world

line-in : (w : World) (x : Option Gathered) (k : World → List ℕ → Done) → gathered w x k ≡ heard_in w (heard_line x w.inpos w.output w.outpos) k
unfolding gathered
line-in w none k = refl
line-in w (some g) k = go g.line.long
  where
    next : World
    next = with_inpos w (w.inpos + g.taken)

    go : (t : Bool) → elim t [ true ↦ done (stop 6) next | false ↦ k next g.line.bytes ]
        ≡ heard_in w (hears (if t then no 6 else is g.line.bytes) (w.inpos + g.taken) w.output w.outpos) k
    go true = refl
    go false = refl

-- INPUT asks as the definition says
pub heard-in : (e : Env) (w : World) (k : World → List ℕ → Done) → asked e w k ≡ heard_in w (hearing e.lim e.input w.inpos w.output w.outpos) k
unfolding asked put hearing
heard-in e w k = go (item_fits w.output w.outpos (bytes "?"))
  where
    there : List ℕ
    there = sets w.output w.outpos (bytes "?")

    go : (t : Bool) → went (if t then done on (with_output w there (w.outpos + 1)) else done (stop 17) w) (λ u. gathered u (gather e.lim (drop u.inpos e.input)) k)
        ≡ heard_in w (if t then heard_line (gather e.lim (drop w.inpos e.input)) w.inpos there (w.outpos + 1) else hears (no 17) w.inpos w.output w.outpos) k
    go true = line-in (with_output w there (w.outpos + 1)) (gather e.lim (drop w.inpos e.input)) k
    go false = refl
