-- What asking does: the reply or its stop number, the output and both positions.
use Rattle.std.specs.Prelude.{ℕ, ◌+◌, List, length, take, drop, if◌then◌else◌}
use Rattle.std.specs.Prelude.{Result as Res, Ok, Err}
use Rattle.nibl.specs.declared.stop.Stop.{Stop}
use Rattle.std.proofs.Math.Option.{Option, none, some}
use Rattle.std.proofs.lemmas.List.Edits.{sets}
use Rattle.nibl.specs.Bytes.{bytes}
use Rattle.nibl.specs.Values.{Result, is, no}
use Rattle.nibl.specs.Typing.{Gathered, gather}
use Rattle.nibl.specs.Meaning.{World, with_output, with_inpos, stop, Done, done}
use Rattle.letter.specs.Slots.{held}
use Rattle.value.specs.Writes.{item_fits}
use Rattle.world.specs.declared.input.Reply.{Reply}

pub record Heard : Type 0 where
  pub answer : Result (List ℕ)
  pub inpos : ℕ
  pub output : List ℕ
  pub outpos : ℕ

abbrev pub hears : Result (List ℕ) → ℕ → List ℕ → ℕ → Heard
hears a i o p = record { answer = a; inpos = i; output = o; outpos = p }

-- what a reply is, in the slots
abbrev pub said_in : Res ℕ Stop → List ℕ → Result (List ℕ)
said_in (Ok n) slots = is (take n slots)
said_in (Err s) slots = no s.0

-- what an answer says, by the slots and the output that it leaves
abbrev pub heard : Reply → List ℕ → List ℕ → Heard
heard r slots o = hears (said_in r.said slots) r.inpos o r.outpos

abbrev pub count_of : Res ℕ Stop → ℕ
count_of (Ok n) = n
count_of (Err s) = 0

-- how many bytes of the slots are the reply
abbrev pub reply_count : Reply → ℕ
reply_count r = count_of r.said

-- a line that was gathered: 7 where no CR is left, 6 where it is over-long
abbrev pub heard_line : Option Gathered → ℕ → List ℕ → ℕ → Heard
heard_line none i o p = hears (no 7) i o p
heard_line (some g) i o p = hears (if g.line.long then no 6 else is g.line.bytes) (i + g.taken) o p

unfoldable pub hearing : ℕ → List ℕ → ℕ → List ℕ → ℕ → Heard
hearing lim input i o p =
    if item_fits o p (bytes "?") then heard_line (gather lim (drop i input)) i (sets o p (bytes "?")) (p + 1) else hears (no 17) i o p

-- the slots afterwards: the line that was gathered and zeros, or as they were where nothing was asked
unfoldable pub slots_of : List ℕ → List ℕ → ℕ → List ℕ → ℕ → List ℕ
slots_of slots input i o p = if item_fits o p (bytes "?") then held (length slots) (gather (length slots) (drop i input)) else slots

-- in the world: the reply goes on to k
abbrev pub heard_in : World → Heard → (World → List ℕ → Done) → Done
heard_in w h k =
    elim h.answer [
      | is bs ↦ k (with_inpos (with_output w h.output h.outpos) h.inpos) bs
      | no n ↦ done (stop n) (with_inpos (with_output w h.output h.outpos) h.inpos)
    ]
