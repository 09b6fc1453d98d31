-- What the answers of the helpers are in the definition's world. Assumes nothing.
use Rattle.std.specs.Prelude.{if◌then◌else◌}
use Rattle.std.specs.Prelude.{Option, Some, None, Result as Res, Ok, Err}
use Rattle.nibl.specs.declared.stop.Stop.{Stop}
use Prim.Native.Nat.{ℕ, ◌-◌}
use mathlib.Core.Path.{◌≡◌, refl, ap, ◌∙◌}
use mathlib.Core.Bool.{Bool, true, false}
use mathlib.Core.List.{List, [], ◌∷◌, ◌++◌}
use lib.ListN.{take, drop}
use Rattle.nibl.specs.Values.{Result, is, no}
use Rattle.nibl.specs.Meaning.{World, Next, done, put, keep_in, string_at, store_at}
use Rattle.nibl.specs.declared.access.Access.{Access}
use Rattle.value.specs.Writes.{Writes}
use Rattle.world.specs.Stores.{store_gave, store_leaves, after_store_in}
use Rattle.world.proofs.memory.Strings.{StringRuns}
use Rattle.world.proofs.memory.Storing.{left_in}
use Rattle.world.specs.Hearing.{hears, hearing, heard_in}
use Rattle.world.proofs.input.Answers.{out, not-out}
use Rattle.world.specs.declared.jump.Way.TheVariants as way
use Rattle.nibl.specs.declared.Parts.{Parts}
use Rattle.effect.specs.Worlds.{world_with, did, did_in, stored_way, wrote_in, KeepsVars, put_stored, keep_text, keep_reply}
use Rattle.nibl.specs.Record.{parts_at}

-- a way by a test is a world by that test
pub done-if : (t : Bool) (a b : Next) (w : World) → done (if t then a else b) w ≡ (if t then done a w else done b w)
done-if true a b w = refl
done-if false a b w = refl

module _ (p : Parts) (vars memory output : List ℕ) where
  abbrev world : World
  world = world_with vars p memory output

  -- an item that was written, or not, is the definition's output of it
  pub put_in : {item after : List ℕ} (r : Option ℕ) → Writes output p.outpos item r after → did_in (wrote_in p r) vars memory after ≡ put item world
  unfolding put
  put_in (Some n) h = let f = out h in rw (f.room, f.moved, f.output)
  put_in None h = rw ((not-out h).0, (not-out h).1)

  stored-in : (k : Res (Unit {0}) Stop) (m : List ℕ) → did_in (did (stored_way k) p) vars m output ≡ after_store_in world (store_gave k m)
  stored-in (Ok tt) m = refl
  stored-in (Err n) m = refl

  -- and so is a store
  pub store_in : (k : Res (Unit {0}) Stop) {m : List ℕ} (r : Result (List ℕ)) → store_gave k m ≡ store_leaves memory r → did_in (did (stored_way k) p) vars m output ≡ keep_in world r
  store_in k {m} r h = stored-in k m ∙ ap (after_store_in world) h ∙ left_in world r

module _ (x : Access) (p : Parts) (memory output : List ℕ) where
  -- PRINT of a string that is not there, and of one that is
  pub no-string : (a : ℕ) (n : Stop) → string_at x memory a ≡ no n.0 → KeepsVars p memory output (put_stored x a) (did (way.Stop n) p) memory output
  no-string a n e = record { done-in = λ vars. rw e }

  pub string-put : {a e : ℕ} {r : (Option ℕ)} {after : List ℕ} → StringRuns x memory a e → Writes output p.outpos (take (e - a) (drop a memory)) r after
      → KeepsVars p memory output (put_stored x a) (wrote_in p r) memory after
  string-put {r = r} s h = record { done-in = λ vars. rw s.string (put_in p vars memory output r h) }

  -- INPUT of a string: without a reply, and with one that is stored or not
  module _ (lim : ℕ) (input : List ℕ) (a : ℕ) {after : List ℕ} {i o : ℕ} where
    pub no-reply : {n : Stop} → hears (no n.0) i after o ≡ hearing lim input p.inpos output p.outpos
        → KeepsVars p memory output (keep_reply x lim input a) (did (way.Stop n) (parts_at p i o)) memory after
    no-reply h = record { done-in = λ vars. ap (λ r. heard_in (world_with vars p memory output) r (keep_text x a)) h }

    pub reply-stored : {bs : List ℕ} (k : Res (Unit {0}) Stop) {m : List ℕ} → hears (is bs) i after o ≡ hearing lim input p.inpos output p.outpos
        → store_gave k m ≡ store_leaves memory (store_at x memory a (bs ++ (13 ∷ [])))
        → KeepsVars p memory output (keep_reply x lim input a) (did (stored_way k) (parts_at p i o)) m after
    reply-stored {bs} k h l =
        record {
          done-in = λ vars.
              store_in (parts_at p i o) vars memory after k (store_at x memory a (bs ++ (13 ∷ []))) l
              ∙ ap (λ r. heard_in (world_with vars p memory output) r (keep_text x a)) h;
        }
