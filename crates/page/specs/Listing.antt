-- What LIST writes into an output, from a position on: each line whole or not at all.
use Rattle.std.specs.Prelude.{ℕ, ◌+◌, ◌≡◌, true, false, List, [], ◌∷◌, length, leb, eqb, if◌then◌else◌}
use Rattle.std.specs.Prelude.{Option, Some, Result, Ok, Err}
use Rattle.std.proofs.lemmas.List.Edits.{sets}
use Rattle.nibl.specs.Page.{Stored}
use Rattle.nibl.specs.Meaning.{World, with_output, on, stop, Done, done}
use Rattle.nibl.specs.Calls.{listed}
use Rattle.value.specs.Writes.{Writes, item_fits}

-- the output after, the stop number, and the output position after
pub record Shown : Type 0 where
  pub output : List ℕ
  pub stop : ℕ
  pub at : ℕ

-- what each answer says: all lines are out, or the stop 17, and the lines before it are kept
abbrev pub shown : List ℕ → Result ℕ ℕ → Shown
shown o (Ok p) = record { output = o; stop = 0; at = p }
shown o (Err p) = record { output = o; stop = 17; at = p }

unfoldable pub listing : ℕ → List Stored → List ℕ → ℕ → Shown
listing n [] out at = shown out (Ok at)
listing n (r ∷ rs) out at =
    elim (leb n r.line) [
      | true ↦ elim (item_fits out at (listed r)) [
        | true ↦ listing n rs (sets out at (listed r)) (at + length (listed r))
        | false ↦ shown out (Err at)
      ]
      | false ↦ listing n rs out at
    ]

-- what is done at one record
pub record Here (n : ℕ) (r : Stored) (out : List ℕ) (at : ℕ) (answer : Option ℕ) (after : List ℕ) : Type 0 where
  pub from : leb n r.line ≡ true → Writes out at (listed r) answer after
  pub below : leb n r.line ≡ false → (answer ≡ Some at) × (after ≡ out)

-- the command that ends with a listing
abbrev pub shown_in : World → Shown → Done
shown_in w s =
    let v = with_output w s.output s.at in
    if eqb s.stop 0 then done on v else done (stop s.stop) v
