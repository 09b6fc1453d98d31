-- How a line is gathered, a typed one or a reply, byte by byte in document 01's words.
use Rattle.std.specs.Prelude.{ℕ, suc, ◌-◌, ◌≤◌, ◌<◌, ◌≡◌, Bool, true, false, List, [], ◌∷◌, ◌++◌, ◌⊎◌, length, take}
use Rattle.nibl.specs.Bytes.{byte_cr}

-- a byte that is kept
pub record Keepable (b : ℕ) : Type 0 where
  pub cr : b ≡ byte_cr → ⊥
  pub nul : b ≡ 0 → ⊥
  pub lf : b ≡ 10 → ⊥
  pub erase : b ≡ 95 → ⊥
  pub discard : b ≡ 21 → ⊥

-- `Gathers lim ks l s ks' l' n`: with the bytes ks kept so far, and l whether the line is over-long so far, the input s gives the line ks', over-long or not as l'
-- says, and n of its bytes are taken
pub data Gathers (lim : ℕ) : List ℕ → Bool → List ℕ → List ℕ → Bool → ℕ → Type 0 where
  -- "A line is gathered from the input up to CR"
  at_cr : {ks s : List ℕ} {l : Bool} → Gathers lim ks l (byte_cr ∷ s) ks l 1
  -- "Bytes 0 and 10 are dropped, 95 removes the last kept byte if any, 21 throws away all kept so far"
  drops : {ks s ks' : List ℕ} {l l' : Bool} {b n : ℕ} → (b ≡ 0) ⊎ (b ≡ 10) → Gathers lim ks l s ks' l' n → Gathers lim ks l (b ∷ s) ks' l' (suc n)
  erases : {ks s ks' : List ℕ} {l l' : Bool} {n : ℕ} → Gathers lim (take (length ks - 1) ks) l s ks' l' n → Gathers lim ks l (95 ∷ s) ks' l' (suc n)
  discards : {ks s ks' : List ℕ} {l l' : Bool} {n : ℕ} → Gathers lim [] false s ks' l' n → Gathers lim ks l (21 ∷ s) ks' l' (suc n)
  keeps : {ks s ks' : List ℕ} {l l' : Bool} {b n : ℕ} → Keepable b → length ks < lim → Gathers lim (ks ++ (b ∷ [])) l s ks' l' n → Gathers lim ks l (b ∷ s) ks' l' (suc n)
  -- "If a 73rd byte would be kept, the line is over-long unless a later 21 clears it"
  overflows : {ks s ks' : List ℕ} {l l' : Bool} {b n : ℕ} → Keepable b → lim ≤ length ks → Gathers lim ks true s ks' l' n → Gathers lim ks l (b ∷ s) ks' l' (suc n)
