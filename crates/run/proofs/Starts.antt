-- A run's start: what is lent to it is fair to its statements. Assumes nothing.
use Prim.Native.Nat.{ℕ, ◌≤◌}
use mathlib.Core.Bool.{true}
use mathlib.Core.List.{List}
use mathlib.Core.Path.{◌≡◌}
use native.Mathlib.Omega.{arith}
use lib.ListN.{length}
use Rattle.nibl.specs.Page.{is_good, used}
use Rattle.nibl.specs.Meaning.{World}
use Rattle.page.proofs.Laid.{laid-room, good-laid}
use Rattle.statement.specs.Lending.{Fair}
use Rattle.run.specs.Running.{MayRun}

-- a page is used within its length
used-fits : (lim : ℕ) (page : List ℕ) → lim ≤ 251 → is_good lim page ≡ true → used page ≤ length page
unfolding used
used-fits lim page short good = omega (arith, laid-room (good-laid lim page short good))

pub ready-fair : {page ops values reply replies : List ℕ} {q budget : ℕ} {w : World} → MayRun page ops values reply replies q budget w → Fair page ops values reply replies
ready-fair {page} {reply = reply} r =
    let p = r.places in
    let s = r.short in
    let u = used-fits (length reply) page s r.good in
    record { places = p; top = omega arith; stack = r.stack; reply_ops = r.reply_ops; reply_values = r.reply_values; short = omega arith }
