-- "A line is gathered from the input up to CR", within a limit.
use Rattle.std.specs.Prelude.{ℕ, suc, ◌-◌, Bool, true, false, List, [], ◌∷◌, ◌++◌, length, take, ltb, eqb, if◌then◌else◌}
use Rattle.std.proofs.Math.Option.{Option, none, some}
use Rattle.nibl.specs.Bytes.{class_dropped, class_cr, class_erase, class_discard, class_of}

-- "If a 73rd byte would be kept, the line is over-long"; a stored line's text and digits are "at most 72"
abbrev pub limit : ℕ
limit = 72

-- the bytes kept so far, and whether one more than the limit would have been kept
pub record Kept : Type 0 where
  pub bytes : List ℕ
  pub long : Bool

abbrev pub kept : List ℕ → Bool → Kept
kept bs l = record { bytes = bs; long = l }

-- "Bytes 0 and 10 are dropped, 95 removes the last kept byte if any, 21 throws away all kept so far"
unfoldable pub keep : ℕ → Kept → ℕ → Kept
keep lim k b =
    if eqb (class_of b) class_dropped then k
    else if eqb (class_of b) class_erase then kept (take (length k.bytes - 1) k.bytes) k.long
    else if eqb (class_of b) class_discard then kept [] false
    else if ltb (length k.bytes) lim then kept (k.bytes ++ (b ∷ [])) k.long
    else kept k.bytes true

-- the line, and how many bytes of the input it took, its CR too; none where no CR is left
pub record Gathered : Type 0 where
  pub line : Kept
  pub taken : ℕ

unfoldable pub gather_from : ℕ → Kept → ℕ → List ℕ → Option Gathered
gather_from lim k n [] = none
gather_from lim k n (b ∷ s) = elim (eqb (class_of b) class_cr) [ true ↦ some (record { line = k; taken = suc n }) | false ↦ gather_from lim (keep lim k b) (suc n) s ]

unfoldable pub gather : ℕ → List ℕ → Option Gathered
gather lim s = gather_from lim (kept [] false) 0 s
