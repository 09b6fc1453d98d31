-- What a slice carries, found from its front on. It need not be believed: a slice is read so exactly where it is the form of what is
-- read (`form-exact`, crate `changes`).
use Rattle.std.specs.Prelude.{ℕ, zero, suc, ◌+◌, Bool, true, false, not, ◌&&◌, List, [], ◌∷◌, length, get_or, drop, leb, eqb, if◌then◌else◌}
use Rattle.nibl.specs.Values.{Result, is, no}
use Rattle.nibl.specs.Page.{Stored, line_at, length_at, text_at, is_record}
use Rattle.nibl.specs.Saved.{RuleSet, form_number}

-- so many values, of two bytes each
abbrev pub values_in : ℕ → List ℕ → List ℕ
values_in zero s = []
values_in (suc k) s = line_at s ∷ values_in k (drop 2 s)

-- so many records that a good page may hold there, and what stands behind them
pub data Parted : Type 0 where
  broken : Parted
  parted : List Stored → List ℕ → Parted

abbrev pub behind : Stored → Parted → Parted
behind r broken = broken
behind r (parted rs q) = parted (r ∷ rs) q

unfoldable pub records_in : ℕ → ℕ → ℕ → List ℕ → Parted
records_in lim zero low q = parted [] q
records_in lim (suc k) low q =
    elim (is_record lim low q) [
      | true ↦ behind (record { line = line_at q; text = text_at q }) (records_in lim k (suc (line_at q)) (drop (length_at q) q))
      | false ↦ broken
    ]

-- the count says how many bytes follow it
abbrev pub is_counted : List ℕ → Bool
is_counted q = leb 2 (length q) && eqb (length q) (line_at q + 2)

abbrev pub carried_by : List ℕ → Parted → Result RuleSet
carried_by vars broken = no 23
carried_by vars (parted rs q) = if is_counted q then is (record { vars = vars; records = rs; memory = drop 2 q }) else no 23

-- "22 another form number or none"
abbrev pub has_number : List ℕ → Bool
has_number s = leb 1 (length s) && eqb (get_or s 0 0) form_number

-- the byte 26, and room for the values and the line count
abbrev pub has_values : List ℕ → Bool
has_values s = leb 56 (length s) && eqb (get_or s 1 0) 26

-- "23 counts, records or length wrong"
unfoldable pub form_in : ℕ → List ℕ → Result RuleSet
form_in lim s =
    if not (has_number s) then no 22
    else if not (has_values s) then no 23
    else carried_by (values_in 26 (drop 2 s)) (records_in lim (line_at (drop 54 s)) 0 (drop 56 s))
