-- One outcome: two answers that meet a public function's promise for the same arguments are equal, and so is the memory. Assumes nothing.
use Prim.Native.Nat.{ℕ, ◌%◌}
use Rattle.std.specs.Prelude.{Result, Ok, Err}
use Rattle.nibl.specs.declared.stop.Stop.{Stop}
use mathlib.Core.Path.{◌≡◌, refl, ap}
use mathlib.Core.List.{List, [], ◌∷◌, ◌++◌}
use native.Mathlib.Omega.{arith}
use Rattle.nibl.proofs.Determined.{determined}
use Rattle.nibl.specs.Meaning.{on, stop, bind, byte_of, string_at, store_at}
use Rattle.nibl.specs.declared.access.Access.{Access}
use Rattle.value.specs.Operators.{value_of}
use Rattle.value.proofs.Laws.{value_same}
use Rattle.world.specs.Stores.{AfterStore, extent_of, store_gave, store_leaves, args_of}
use Rattle.world.proofs.memory.Strings.{ending}

-- an answer is determined by what it stands for
end_same : (r s : Result ℕ Stop) → extent_of r ≡ extent_of s → r ≡ s
end_same (Ok d) (Ok e) h = let q : d ≡ e = cc in cc
end_same (Err m) (Err n) h = let q : m.0 ≡ n.0 = cc in ap (λ (k : ℕ). Err (record { 0 = k })) q
end_same (Ok d) (Err n) h = let z : ◌≡◌ {A = ℕ} 0 1 = cc in absurd (omega arith)
end_same (Err m) (Ok e) h = let z : ◌≡◌ {A = ℕ} 0 1 = cc in absurd (omega arith)

left-same : (a b : Result (Unit {0}) Stop) (p q : List ℕ) → store_gave a p ≡ store_gave b q → (p ≡ q) × (a ≡ b)
left-same (Ok u) (Ok v) p q e = (λ i. (e i).memory, refl)
left-same (Err m) (Err n) p q e = let f : stop m.0 ≡ stop n.0 = λ i. (e i).next in let k : m.0 ≡ n.0 = cc in (λ i. (e i).memory, ap (λ (j : ℕ). Err (record { 0 = j })) k)
left-same (Ok u) (Err n) p q e = let f : on ≡ stop n.0 = λ i. (e i).next in let z : ◌≡◌ {A = ℕ} 0 1 = cc in absurd (omega arith)
left-same (Err m) (Ok u) p q e = let f : stop m.0 ≡ on = λ i. (e i).next in let z : ◌≡◌ {A = ℕ} 0 1 = cc in absurd (omega arith)

module _ (x : Access) (mem : List ℕ) (at : ℕ) where
  pub byte-determined : (r s : Result ℕ Stop) → value_of r ≡ byte_of x mem at → value_of s ≡ byte_of x mem at → r ≡ s
  byte-determined r s p q = value_same r s (determined (byte_of x mem at) (value_of r) (value_of s) p q)

  pub end-determined : (r s : Result ℕ Stop) → extent_of r ≡ ending x mem at → extent_of s ≡ ending x mem at → r ≡ s
  end-determined r s p q = end_same r s (determined (ending x mem at) (extent_of r) (extent_of s) p q)

-- a memory and an answer
pub left-determined : (x : AfterStore) (p q : List ℕ) (a b : Result (Unit {0}) Stop) → store_gave a p ≡ x → store_gave b q ≡ x → (p ≡ q) × (a ≡ b)
left-determined x p q a b u v = left-same a b p q (determined x (store_gave a p) (store_gave b q) u v)

module _ (x : Access) (mem : List ℕ) (at : ℕ) where
  -- the stores, each with the memory that it leaves
  abbrev byte_left : ℕ → AfterStore
  byte_left v = store_leaves mem (store_at x mem at (v % 256 ∷ []))

  pub store-byte-determined : (v : ℕ) (p q : List ℕ) (a b : Result (Unit {0}) Stop) → store_gave a p ≡ byte_left v → store_gave b q ≡ byte_left v → (p ≡ q) × (a ≡ b)
  store-byte-determined v = left-determined (byte_left v)

  abbrev args_left : List ℕ → AfterStore
  args_left ops = store_leaves mem (store_at x mem at (args_of ops))

  pub store-args-determined : (ops p q : List ℕ) (a b : Result (Unit {0}) Stop) → store_gave a p ≡ args_left ops → store_gave b q ≡ args_left ops → (p ≡ q) × (a ≡ b)
  store-args-determined ops = left-determined (args_left ops)

  abbrev text_left : List ℕ → AfterStore
  text_left text = store_leaves mem (store_at x mem at (text ++ (13 ∷ [])))

  pub store-text-determined : (text p q : List ℕ) (a b : Result (Unit {0}) Stop) → store_gave a p ≡ text_left text → store_gave b q ≡ text_left text → (p ≡ q) × (a ≡ b)
  store-text-determined text = left-determined (text_left text)

  abbrev copy_left : ℕ → AfterStore
  copy_left from = store_leaves mem (bind (string_at x mem from) (λ bs. store_at x mem at (bs ++ (13 ∷ []))))

  pub copy-determined : (from : ℕ) (p q : List ℕ) (a b : Result (Unit {0}) Stop) → store_gave a p ≡ copy_left from → store_gave b q ≡ copy_left from → (p ≡ q) × (a ≡ b)
  copy-determined from = left-determined (copy_left from)
