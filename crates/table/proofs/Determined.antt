-- One outcome: two answers that meet a public function's promise for the same arguments are equal, and so are the page and the table. Assumes nothing.
use Prim.Native.Nat.{ℕ}
use Rattle.std.specs.Prelude.{Option}
use Rattle.nibl.specs.declared.Onward.{Onward}
use mathlib.Core.Path.{◌≡◌, sym, ap, ◌∙◌}
use mathlib.Core.Bool.{Bool}
use mathlib.Core.List.{List}
use Rattle.nibl.specs.Page.{find}
use Rattle.nibl.specs.Table.{describes}
use Rattle.nibl.specs.declared.Call.{Call}
use Rattle.nibl.proofs.Determined.{determined}
use Rattle.page.specs.declared.Edited.{Edited}
use Rattle.page.specs.Walk.{found_at, reached}
use Rattle.page.specs.Edits.{Changed, changed, store_of, delete_of, new_of}
use Rattle.page.proofs.Determined.{changed-determined}
use Rattle.page.proofs.Determined as page
use Rattle.table.specs.Index.{kept_true}
use Rattle.table.specs.Lent.{lent_entries}

pub describes-determined : (page table : List ℕ) (a b : Bool) → a ≡ describes page table → b ≡ describes page table → a ≡ b
describes-determined page table = determined (describes page table)

pub find-determined : (page : List ℕ) (n : ℕ) (r s : Option Onward) → found_at r ≡ reached (find page n) → found_at s ≡ reached (find page n) → r ≡ s
find-determined = page.find-determined

pub refill-determined : (page table a b : List ℕ) → a ≡ kept_true page table → b ≡ kept_true page table → a ≡ b
refill-determined page table = determined (kept_true page table)

-- a page, a table and an answer
module _ (c : Changed) (table p q u v : List ℕ) (a b : Edited) where
  pub edit-determined : changed p a ≡ c → u ≡ kept_true p table → changed q b ≡ c → v ≡ kept_true q table → (p ≡ q) × ((u ≡ v) × (a ≡ b))
  edit-determined f g h k =
      let e = changed-determined c p q a b f h in
      (e.0, (g ∙ ap (λ (x : List ℕ). kept_true x table) e.0 ∙ sym k, e.1))

pub store-determined : (page : List ℕ) (n : ℕ) (t table p q u v : List ℕ) (a b : Edited)
    → changed p a ≡ store_of page n t → u ≡ kept_true p table → changed q b ≡ store_of page n t → v ≡ kept_true q table → (p ≡ q) × ((u ≡ v) × (a ≡ b))
store-determined page n t = edit-determined (store_of page n t)

pub delete-determined : (page : List ℕ) (n : ℕ) (table p q u v : List ℕ) (a b : Edited)
    → changed p a ≡ delete_of page n → u ≡ kept_true p table → changed q b ≡ delete_of page n → v ≡ kept_true q table → (p ≡ q) × ((u ≡ v) × (a ≡ b))
delete-determined page n = edit-determined (delete_of page n)

pub new-determined : (page table p q u v : List ℕ) (a b : Edited)
    → changed p a ≡ new_of page → u ≡ kept_true p table → changed q b ≡ new_of page → v ≡ kept_true q table → (p ≡ q) × ((u ≡ v) × (a ≡ b))
new-determined page = edit-determined (new_of page)

pub entries-determined : (c : Call) (table : List ℕ) (m n : ℕ) → m ≡ lent_entries c table → n ≡ lent_entries c table → m ≡ n
entries-determined c table = determined (lent_entries c table)
