-- An entry's promise leaves it no choice: two outcomes that meet it for the same inputs are equal, whole and part by part.
-- It holds of every entry, since F is any definition and each contract is an equation `left_all .. ≡ F (lent_all ..)` with no `requires`.
-- Assumes nothing.
use mathlib.Core.Path.{◌≡◌, sym, ◌∙◌, ap}
use Prim.Native.Nat.{ℕ}
use mathlib.Core.List.{List}
use Rattle.nibl.specs.Lent.{Lent, Left, left_all}
use Rattle.nibl.specs.Calls.{leaves, take_line, continue_run}
use Rattle.nibl.specs.Carry.{saves, loads}
use Rattle.nibl.specs.declared.Session.{Session}
use Rattle.nibl.specs.declared.Answer.{Answer}

same_left : (F : Lent → Left) (x : Lent) (u v : Left) → u ≡ F x → v ≡ F x → u ≡ v
same_left F x u v e f = e ∙ sym f

-- the record, the answer, the page, the memory, the output and the table that are left
pub same_parts : (F : Lent → Left) (x : Lent) (s s' : Session) (a a' : Answer) (p p' m m' o o' t t' : List ℕ) → left_all a s p m o t ≡ F x → left_all a' s' p' m' o' t' ≡ F x
    → (s ≡ s') × ((a ≡ a') × ((p ≡ p') × ((m ≡ m') × ((o ≡ o') × (t ≡ t')))))
same_parts F x s s' a a' p p' m m' o o' t t' e f =
    let same = same_left F x (left_all a s p m o t) (left_all a' s' p' m' o' t') e f in (
      ap (λ u. u.outcome.session) same,
      (ap (λ u. u.outcome.answer) same, (ap (λ u. u.outcome.page) same, (ap (λ u. u.outcome.memory) same, (ap (λ u. u.outcome.output) same, ap (λ u. u.table) same)))),
    )

-- of each of the entries
module _ (x : Lent) (s s' : Session) (a a' : Answer) (p p' m m' o o' t t' : List ℕ) where
  pub take-line-determined : left_all a s p m o t ≡ leaves take_line x → left_all a' s' p' m' o' t' ≡ leaves take_line x
      → (s ≡ s') × ((a ≡ a') × ((p ≡ p') × ((m ≡ m') × ((o ≡ o') × (t ≡ t')))))
  take-line-determined = same_parts (leaves take_line) x s s' a a' p p' m m' o o' t t'

  pub continue-run-determined : left_all a s p m o t ≡ leaves continue_run x → left_all a' s' p' m' o' t' ≡ leaves continue_run x
      → (s ≡ s') × ((a ≡ a') × ((p ≡ p') × ((m ≡ m') × ((o ≡ o') × (t ≡ t')))))
  continue-run-determined = same_parts (leaves continue_run) x s s' a a' p p' m m' o o' t t'

  pub save-determined : left_all a s p m o t ≡ saves x → left_all a' s' p' m' o' t' ≡ saves x → (s ≡ s') × ((a ≡ a') × ((p ≡ p') × ((m ≡ m') × ((o ≡ o') × (t ≡ t')))))
  save-determined = same_parts saves x s s' a a' p p' m m' o o' t t'

  pub load-determined : left_all a s p m o t ≡ loads x → left_all a' s' p' m' o' t' ≡ loads x → (s ≡ s') × ((a ≡ a') × ((p ≡ p') × ((m ≡ m') × ((o ≡ o') × (t ≡ t')))))
  load-determined = same_parts loads x s s' a a' p p' m m' o o' t t'
