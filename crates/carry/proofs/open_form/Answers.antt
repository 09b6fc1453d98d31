-- `open_form` meets its contract: what each test says of the slice. Assumes nothing.
use Rattle.std.proofs.Common.{◌≡◌, ◌≤◌, ℕ, true, List, length, drop, leb, Option, Err, subst, sym, ap, ◌∙◌, arith, rules}
use borrow.Author.Tests.{leb-true}
use Rattle.nibl.specs.Page.{line_at}
use Rattle.nibl.specs.found.Form.{records_in, is_counted, has_values}
use Rattle.page.specs.Standing.{Bytes}
use Rattle.page.proofs.Program.{both}
use Rattle.places.specs.Ends.{end_in}
use Rattle.carry.specs.Forms.{OpenedAs}
use Rattle.carry.proofs.Opening.{no_number, no-values, records, no-records, no-memory, opens}
use Rattle.carry.proofs.open_form.Goals as goal

-- past the first two tests the head is whole
long : (form : List ℕ) → has_values form ≡ true → 56 ≤ length form
long form v = leb-true 56 (length form) (both (leb 56 (length form)) _ v).0

-- and behind the records stand two bytes at least
counts : (rest : List ℕ) → is_counted rest ≡ true → 2 ≤ length rest
counts rest n = leb-true 2 (length rest) (both (leb 2 (length rest)) _ n).0

-- where the records end
ends : (lim : ℕ) (form : List ℕ) {number count : ℕ} {e r : Option ℕ} → r ≡ e → number ≡ line_at (drop 54 form) → count ≡ number
    → r ≡ end_in form (records_in lim count 0 (drop 56 form)) → end_in form (records lim form) ≡ e
ends lim form i n m h = sym (h ∙ ap (λ (k : ℕ). end_in form (records_in lim k 0 (drop 56 form))) (m ∙ n)) ∙ i

pub returns-then-not-has_number : goal.returns-then-not-has_number
returns-then-not-has_number c = no_number c.args.lim c.args.form.now (sym c.has_number.ensures ∙ c.if-not-has_number.true)

pub returns-then-not-has_values : goal.returns-then-not-has_values
returns-then-not-has_values c =
    no-values c.args.lim c.args.form.now (sym c.has_number.ensures ∙ c.if-not-has_number.false) (sym c.has_values.ensures ∙ c.if-not-has_values.true)

pub returns-in_err-end : goal.returns-in_err-end
returns-in_err-end c =
    let a = c.args in
    let n = sym c.has_number.ensures ∙ c.if-not-has_number.false in
    let v = sym c.has_values.ensures ∙ c.if-not-has_values.false in
    let e : c.from_residual.result ≡ Err (record { 0 = 23 }) = search rules in
    subst (OpenedAs a.lim a.form.now) (sym e) (no-records a.lim a.form.now n v (ends a.lim a.form.now c.in_err-end.ensures.ok_part c.number_at.ensures c.from-count.ensures c.records_end.ensures))

pub returns-then-not-is_counted : goal.returns-then-not-is_counted
returns-then-not-is_counted c =
    let a = c.args in
    let b : Bytes a.form.now = λ i. omega (arith, c.type_inv.form i) in
    let n = sym c.has_number.ensures ∙ c.if-not-has_number.false in
    let v = sym c.has_values.ensures ∙ c.if-not-has_values.false in
    no-memory a.lim a.form.now b (long a.form.now v) n v (ends a.lim a.form.now c.in_ok-end.ensures.ok_part c.number_at.ensures c.from-count.ensures c.records_end.ensures)
    (sym c.is_counted.ensures ∙ c.if-not-is_counted.true)

pub returns : goal.returns
returns c =
    let a = c.args in
    let b : Bytes a.form.now = λ i. omega (arith, c.type_inv.form i) in
    let n = sym c.has_number.ensures ∙ c.if-not-has_number.false in
    let v = sym c.has_values.ensures ∙ c.if-not-has_values.false in
    let m : is_counted (drop c.in_ok-end.end a.form.now) ≡ true = sym c.is_counted.ensures ∙ c.if-not-is_counted.false in
    opens a.lim a.form.now b (long a.form.now v) n v (ends a.lim a.form.now c.in_ok-end.ensures.ok_part c.number_at.ensures c.from-count.ensures c.records_end.ensures) m
    (counts (drop c.in_ok-end.end a.form.now) m)
