-- One outcome: two ends of a typed line that meet the promise of `typed_line` for the same lent things are equal, with all
-- lent bytes. Assumes nothing.
use Prim.Native.Nat.{ℕ}
use mathlib.Core.List.{List}
use mathlib.Core.Path.{◌≡◌, sym, ap, ◌∙◌}
use lib.ListN.{drop}
use Rattle.nibl.specs.Typing.{gather as gathered}
use Rattle.nibl.specs.Lent.{Lent, lent_all}
use Rattle.nibl.specs.Calls.{obey_line}
use Rattle.nibl.specs.declared.Session.{Session}
use Rattle.nibl.specs.declared.Call.{Call}
use Rattle.outcome.specs.Ends.{ended_in}
use Rattle.outcome.specs.declared.Ended.{Ended}
use Rattle.outcome.proofs.Determined.{end-determined}
use Rattle.table.specs.Index.{kept_true}

module _ (lim : ℕ) (rec : Session) (page memory input output : List ℕ) (call : Call) (table : List ℕ) (a b : Ended) (p p' m m' o o' t t' : List ℕ) where
  abbrev lent : Lent
  lent = lent_all rec page memory input output call table

  pub typed-determined : ended_in a p m o ≡ obey_line lim lent (gathered lim (drop call.inpos input)) → t ≡ kept_true p table
      → ended_in b p' m' o' ≡ obey_line lim lent (gathered lim (drop call.inpos input)) → t' ≡ kept_true p' table
      → ((a ≡ b) × ((p ≡ p') × ((m ≡ m') × (o ≡ o')))) × (t ≡ t')
  typed-determined u f v g =
      let same = end-determined (obey_line lim lent (gathered lim (drop call.inpos input))) a b p p' m m' o o' u v in
      (same, f ∙ ap (λ (q : List ℕ). kept_true q table) same.1.0 ∙ sym g)
