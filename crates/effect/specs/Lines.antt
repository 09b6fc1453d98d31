-- That a table that is lent describes its page is a fact with one proof.
use mathlib.Core.Path.{ap}
use Rattle.std.specs.Prelude.{ℕ, suc, ◌≤◌, ◌≡◌, true, refl, List, [], ◌∷◌, length}
use Rattle.std.specs.Coded.{le_prop, Coded-set, coded_bool, coded_list, coded_ℕ}
use native.Mathlib.Omega.{arith}
use Rattle.nibl.specs.Page.{Stored, records_of}
use Rattle.nibl.specs.Table.{describes}
use Rattle.page.specs.Tables.{Rising, alone, rises}
use Rattle.table.specs.Index.{Described, Indexed, unlent, lent}

rising_prop : (low : ℕ) (rs : List Stored) → IsProp (Rising low rs)
rising_prop low [] alone alone = refl
rising_prop low (r ∷ rs) (rises a b) (rises c d) = λ i. rises (le_prop a c i) (rising_prop (suc r.line) rs b d i)

described_prop : (page table : List ℕ) → IsProp (Described page table)
described_prop page table a b = λ i. record {
  long = le_prop a.long b.long i;
  short = le_prop a.short b.short i;
  is = Coded-set coded_bool (describes page table) true a.is b.is i;
  rising = rising_prop 0 (records_of page) a.rising b.rising i;
}

pub indexed_prop : (page table : List ℕ) → IsProp (Indexed page table)
indexed_prop page table (unlent a) (unlent b) = λ i. unlent (Coded-set (coded_list coded_ℕ) table [] a b i)
indexed_prop page table (unlent a) (lent d) = absurd (omega (arith, d.long, ap length a))
indexed_prop page table (lent d) (unlent a) = absurd (omega (arith, d.long, ap length a))
indexed_prop page table (lent a) (lent b) = λ i. lent (described_prop page table a b i)
