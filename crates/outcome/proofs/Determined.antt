-- One outcome: two ends that meet a promise of this crate for the same arguments are equal, and so are all lent bytes. What
-- `run_from`, `immediate`, and the calls above promise is one equation, `ended_in .. ≡ x`. Assumes nothing.
use Prim.Native.Nat.{ℕ}
use mathlib.Core.List.{List}
use mathlib.Core.Path.{◌≡◌, ap}
use Rattle.nibl.proofs.Determined.{determined}
use Rattle.nibl.specs.Lent.{Outcome}
use Rattle.nibl.specs.declared.Session.{Session}
use Rattle.page.specs.declared.Edited.{Edited}
use Rattle.page.specs.Listing.{Shown}
use Rattle.outcome.specs.Ends.{ended_in, stopped, refused, edit_end, list_end}
use Rattle.outcome.specs.declared.Ended.{Ended}

pub end-determined : (x : Outcome) (e e' : Ended) (p p' m m' o o' : List ℕ) → ended_in e p m o ≡ x → ended_in e' p' m' o' ≡ x
    → (e ≡ e') × ((p ≡ p') × ((m ≡ m') × (o ≡ o')))
end-determined x e e' p p' m m' o o' u v =
    let same = determined x (ended_in e p m o) (ended_in e' p' m' o') u v in
    let a = ap (λ (y : Outcome). y.answer) same in
    let s = ap (λ (y : Outcome). y.session) same in
    (λ i. record { answer = a i; session = s i }, (ap (λ (y : Outcome). y.page) same, (ap (λ (y : Outcome). y.memory) same, ap (λ (y : Outcome). y.output) same)))

pub stop-determined : (n : ℕ) (s : Session) (inpos outpos : ℕ) (a b : Ended) → a ≡ stopped n s inpos outpos → b ≡ stopped n s inpos outpos → a ≡ b
stop-determined n s inpos outpos = determined (stopped n s inpos outpos)

pub refused-determined : (c : ℕ) (s : Session) (inpos outpos : ℕ) (a b : Ended) → a ≡ refused c s inpos outpos → b ≡ refused c s inpos outpos → a ≡ b
refused-determined c s inpos outpos = determined (refused c s inpos outpos)

pub edit-determined : (d : Edited) (s : Session) (inpos outpos : ℕ) (a b : Ended) → a ≡ edit_end d s inpos outpos → b ≡ edit_end d s inpos outpos → a ≡ b
edit-determined d s inpos outpos = determined (edit_end d s inpos outpos)

pub list-determined : (s : Session) (inpos : ℕ) (l : Shown) (a b : Ended) (o o' : List ℕ)
    → a ≡ list_end s inpos l → o ≡ l.output → b ≡ list_end s inpos l → o' ≡ l.output → (a ≡ b) × (o ≡ o')
list-determined s inpos l a b o o' u v w x = (determined (list_end s inpos l) a b u w, determined l.output o o' v x)
