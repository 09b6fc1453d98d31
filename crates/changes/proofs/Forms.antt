-- Item 5, the saved form: a slice is read as a rule set exactly where it is the form of that, and no two rule sets have one form.
-- Assumes nothing.
use Prim.Native.Nat.{ℕ, ◌≤◌}
use mathlib.Core.Path.{◌≡◌}
use mathlib.Core.List.{List}
use mathlib.Core.Logic.{◌↔◌}
use native.Mathlib.Omega.{arith}
use Rattle.nibl.specs.Values.{is}
use Rattle.nibl.specs.Page.{Stored}
use Rattle.nibl.specs.Saved.{RuleSet, saved_form}
use Rattle.nibl.specs.found.Form.{form_in}
use Rattle.page.specs.Standing.{Bytes}
use Rattle.page.proofs.Program.{Program}
use Rattle.page.proofs.Program as program
use Rattle.page.proofs.Forms.{Formed, form-complete, form-sound}
use Rattle.demands.proofs.Good.{stored-good, members-long, good-storable}
use Rattle.changes.specs.Carry.{GoodRecords, no_record, further, Carryable}

-- by the grammar and by the tests
module _ (lim : ℕ) where
  records-good : {low : ℕ} {rs : List Stored} → Program lim low rs → GoodRecords lim low rs
  records-good program.none = no_record
  records-good (program.each l s p) = further l s.number (stored-good s) (records-good p)

  records-program : {low : ℕ} {rs : List Stored} → lim ≤ 251 → GoodRecords lim low rs → Program lim low rs
  records-program h no_record = program.none
  records-program h (further {r = r} l n g more) =
      program.each {r = r} l (record { number = n; some = members-long g.reads; short = omega (arith, g.short); text = good-storable g }) (records-program h more)

  pub carryable-formed : {c : RuleSet} → lim ≤ 251 → Carryable lim c → Formed lim c
  carryable-formed h k = record { vars = k.vars; values = k.values; program = records-program h k.records; bytes = k.memory; short = k.short }

  pub formed-carryable : {c : RuleSet} → Formed lim c → Carryable lim c
  formed-carryable k = record { vars = k.vars; values = k.values; records = records-good k.program; memory = k.bytes; short = k.short }

-- "Load after save gives the same program, variables and memory, and a loaded form saves to the same bytes", of the form itself
pub form-exact : (lim : ℕ) → lim ≤ 251 → (s : List ℕ) → Bytes s → (c : RuleSet) → (form_in lim s ≡ is c) ↔ ((s ≡ saved_form c) × Carryable lim c)
form-exact lim h s b c = (so, back) where
  so : form_in lim s ≡ is c → (s ≡ saved_form c) × Carryable lim c
  so e = let f = form-sound lim s b c e in (f.same, formed-carryable lim f.sound)

  back : (s ≡ saved_form c) × Carryable lim c → form_in lim s ≡ is c
  back k = rw k.0 (form-complete lim c (carryable-formed lim h k.1))

-- no two rule sets that may be carried have one form
pub form-unique : (lim : ℕ) → lim ≤ 251 → (c d : RuleSet) → Carryable lim c → Carryable lim d → saved_form c ≡ saved_form d → c ≡ d
form-unique lim h c d k l e =
    let p : form_in lim (saved_form c) ≡ is c = form-complete lim c (carryable-formed lim h k) in
    let q : form_in lim (saved_form c) ≡ is d = rw e (form-complete lim d (carryable-formed lim h l)) in
    cc
