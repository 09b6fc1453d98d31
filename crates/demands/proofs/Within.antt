-- "Steps at most the budget", of the calls, whatever is lent. Assumes nothing.
use Prim.Native.Nat.{ℕ, zero, suc, ◌≤◌}
use mathlib.Core.Bool.{Bool, true, false}
use mathlib.Core.List.{List, []}
use native.Mathlib.Omega.{arith}
use lib.ListN.{length}
use lib.Dec.{leb}
use Rattle.nibl.specs.Tree.{Typed, blank, new, clear, run, delete, list, store, immediate}
use Rattle.nibl.specs.Page.{Stored, records_of, program_bytes, has_line, without, with}
use Rattle.nibl.specs.Meaning.{World, Env, on, skip, go, stop, Done, done, exec}
use Rattle.nibl.specs.Lent.{Lent, Outcome, stops}
use Rattle.nibl.specs.Typing.{limit}
use Rattle.nibl.specs.Lent.{begun, lent_env}
use Rattle.nibl.specs.Calls.{edited, list_from, after_immediate, needs_program, obey, take_line, continue_from, continue_run}
use Rattle.nibl.proofs.Words.{if-split}
use Rattle.demands.proofs.Budget.{steps-within}
use Rattle.demands.proofs.Ways.{Takes, refused, no_cr, overlong, unread, reads, every-line, Continues, refused', continues, every-continue}

abbrev Within : ℕ → Outcome → Type 0
Within k o = o.answer.steps ≤ k

module _ (k : ℕ) (e : Env) where
  edit-within : (w : World) (rs : List Stored) → Within k (edited e.page w rs)
  unfolding edited
  edit-within w rs = if-split (Within k) (leb (length (program_bytes rs)) (length e.page)) (λ _. omega arith) (λ _. omega arith)

  done-within : (d : Done) → Within k (after_immediate k e d)
  done-within (done on w) = omega arith
  done-within (done skip w) = omega arith
  done-within (done (go q) w) = steps-within k e q w
  done-within (done (stop n) w) = omega arith

  obey-within : (w : World) (t : Typed) → Within k (obey k e w t)
  unfolding obey
  obey-within w blank = omega arith
  obey-within w new = edit-within w []
  obey-within w clear = omega arith
  obey-within w run = steps-within k e 0 _
  obey-within w (delete n) = by (has_line n (records_of e.page)) where
    by : (b : Bool) → Within k (elim b [ true ↦ edited e.page w (without n (records_of e.page)) | false ↦ stops 0 w e.page ])
    by true = edit-within w (without n (records_of e.page))
    by false = omega arith
  obey-within w (list n) = done-within (list_from n (records_of e.page) w)
  obey-within w (store n t ms) = edit-within w (with (record { line = n; text = t }) (records_of e.page))
  obey-within w (immediate q) = by (needs_program q) where
    by : (b : Bool) → Within k (elim b [ true ↦ stops 3 w e.page | false ↦ after_immediate k e (exec e q w) ])
    by true = omega arith
    by false = done-within (exec e q w)

take_within : {lim : ℕ} {x : Lent} {o : Outcome} → Takes lim x o → Within x.call.budget o
take_within (refused h) = omega arith
take_within (no_cr z h) = omega arith
take_within (overlong g z h l) = omega arith
take_within (unread g h r) = omega arith
take_within {lim = lim} {x = x} (reads g t h r) = obey-within x.call.budget (lent_env lim x) (begun x g.taken) t

paused-within : (lim : ℕ) (x : Lent) (p : ℕ) → Within x.call.budget (continue_from lim x p)
paused-within lim x zero = omega arith
paused-within lim x (suc q) = steps-within x.call.budget (lent_env lim x) q (begun x 0)

continue-within : {lim : ℕ} {x : Lent} {o : Outcome} → Continues lim x o → Within x.call.budget o
continue-within (refused' h) = omega arith
continue-within {lim = lim} {x = x} (continues h) = paused-within lim x x.session.paused

pub steps-at-most-the-budget : (x : Lent) → ((take_line x).answer.steps ≤ x.call.budget) × ((continue_run x).answer.steps ≤ x.call.budget)
unfolding take_line continue_run
steps-at-most-the-budget x = (take_within (every-line limit x), continue-within (every-continue limit x))
