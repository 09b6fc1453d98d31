-- A record put in or taken out leaves the records of a good page; and the page with other records is good.
-- Assumes nothing.
use Rattle.std.specs.Prelude.{if◌then◌else◌}
use Prim.Native.Nat.{ℕ, suc, ◌≤◌}
use mathlib.Core.Path.{◌≡◌, refl, sym, ◌∙◌}
use mathlib.Core.Bool.{Bool, true, false, false≢true}
use mathlib.Core.List.{List, [], ◌∷◌}
use native.Mathlib.Omega.{arith}
use lib.ListN.{length, drop}
use lib.Dec.{ltb, eqb}
use borrow.Author.Tests.{ltb-true, ltb-false, eqb-true, eqb-false}
use Rattle.nibl.specs.found.Read.{step_in, word_step, ◌>>=◌, a_statement, statement_n, statement, member, members_n, reading}
use Rattle.nibl.specs.Page.{Stored, program_bytes, has_reading, is_storable, is_good, records_of, without, with, onto}
use Rattle.page.proofs.Walk.{by_cases}
use Rattle.page.proofs.Program.{both, Storable, Program, none, each, program-good, records-back, ranged}
use Rattle.page.proofs.Stored.{storable-short}

-- an empty text has no reading
no-reading : has_reading (reading []) ≡ false
unfolding step_in word_step ◌>>=◌ a_statement statement_n statement member members_n reading
no-reading = refl

-- within a limit that a record's length byte has room for
pub storable : (lim n : ℕ) (t : List ℕ) → lim ≤ 251 → n ≤ 32767 → is_storable lim n t ≡ true → Storable lim (record { line = n; text = t })
unfolding is_storable
storable lim n [] h m e = absurd (false≢true (sym no-reading ∙ (both (has_reading (reading [])) _ e).0))
storable lim n (b ∷ t) h m e =
    record { number = m; some = omega arith; short = omega (arith, storable-short lim n (b ∷ t) e); text = e }

pub lower : {lim m : ℕ} {rs : List Stored} (n : ℕ) → m ≤ n → Program lim n rs → Program lim m rs
lower n h none = none
lower {m = m} n h (each {r = r} l s p) = each {low = m} {r = r} (omega arith) s p

-- what `with` and `without` keep
pub with-program : {lim : ℕ} (q : Stored) {low : ℕ} {rs : List Stored} → Storable lim q → low ≤ q.line → Program lim low rs → Program lim low (with q rs)
with-program q s h none = each h s none
with-program {lim = lim} q {low = low} s h (each {r = r} {rs = rs} l t p) =
    go (ltb q.line r.line) refl (eqb q.line r.line) refl (λ m. with-program q s m p)
  where
    go : (a : Bool) → ltb q.line r.line ≡ a → (b : Bool) → eqb q.line r.line ≡ b
        → (suc r.line ≤ q.line → Program lim (suc r.line) (with q rs))
        → Program lim low (if a then q ∷ r ∷ rs else if b then q ∷ rs else r ∷ with q rs)
    go true e b f rec = each h s (each (ltb-true q.line r.line e) t p)
    go false e true f rec = each {rs = rs} h s (rw (eqb-true q.line r.line f) p)
    go false e false f rec = each l t (rec (omega (arith, ltb-false q.line r.line e, eqb-false q.line r.line f)))

pub without-program : {lim : ℕ} (n : ℕ) {low : ℕ} {rs : List Stored} → Program lim low rs → Program lim low (without n rs)
without-program n none = none
without-program {lim = lim} n {low = low} (each {r = r} {rs = rs} l t p) =
    by_cases (eqb r.line n) (λ e. rw (e, if◌then◌else◌) (lower (suc r.line) (omega arith) p)) (λ e. rw (e, if◌then◌else◌) (each l t (without-program n p)))

-- the page with such records is good, and they are its records
pub onto-good : {lim : ℕ} {rs : List Stored} (page : List ℕ) → Program lim 0 rs → is_good lim (onto page rs) ≡ true
onto-good {rs = rs} page p = program-good (drop (length (program_bytes rs)) page) p

pub onto-records : {lim : ℕ} {rs : List Stored} (page : List ℕ) → Program lim 0 rs → records_of (onto page rs) ≡ rs
onto-records {rs = rs} page p = records-back (drop (length (program_bytes rs)) page) (ranged p)
