-- `list_line` meets its contract: digits, text, CR and LF, written one after another where all of them fit. Assumes nothing.
use Prim.Native.Nat.{◌≤◌, ◌<◌, ◌+◌, ◌-◌, ℕ}
use mathlib.Core.List.{List}
use mathlib.Core.Path.{◌≡◌, ap, sym, ◌∙◌}
use native.Mathlib.Omega.{arith}
use lib.ListN.{length-set, length, drop}
use borrow.Author.Tests.{leb-true, leb-false}
use Rattle.nibl.specs.Calls.{listed}
use Rattle.nibl.specs.Values.{digits}
use Rattle.value.proofs.Writing.{writes-none}
use Rattle.value.proofs.Digits.{digits-few}
use Rattle.page.specs.Walk.{record_at, size_at}
use Rattle.page.proofs.Listings.{listed-length, line-written, text-part}
use Rattle.page.proofs.Walk.{met, Met}
use Rattle.page.proofs.list_line.Goals as goal

-- what is known of the record, and of its number's digits
known : (page : List ℕ) (at size line : ℕ) {count : ℕ} → size ≡ size_at (drop at page) → 0 < size → count ≡ length (digits line)
    → Met page at size × ((count ≡ length (digits line)) × (length (digits line) ≤ 5))
known page at size line e h n = (met page at size e h, (n, digits-few line))

pub overflow_add-n : goal.overflow_add-n
overflow_add-n c =
    let k = known c.args.page.now c.args.at c.args.size c.line_at-line.result c.requires.1 c.requires.0 c.digit_count-count.ensures in
    omega arith

pub overflow_sub-n : goal.overflow_sub-n
overflow_sub-n c =
    let k = known c.args.page.now c.args.at c.args.size c.line_at-line.result c.requires.1 c.requires.0 c.digit_count-count.ensures in
    omega (arith, k.0.long)

pub returns-then-not-has_room : goal.returns-then-not-has_room
returns-then-not-has_room c =
    let a = c.args in
    let k = known c.args.page.now c.args.at c.args.size c.line_at-line.result c.requires.1 c.requires.0 c.digit_count-count.ensures in
    let r = record_at (drop a.at a.page.now) in
    let line : length (digits c.line_at-line.result) ≡ length (digits r.line) = ap (λ (n : ℕ). length (digits n)) c.line_at-line.ensures in
    let full = leb-false (a.pos + (c.digit_count-count.result + a.size - 2)) (length a.output.now) (sym c.has_room.ensures ∙ c.if-not-has_room.true) in
    writes-none a.output.now (listed r) a.pos (omega (arith, listed-length r, k.0.long, full))

pub overflow_add-at : goal.overflow_add-at
overflow_add-at c =
    let k = known c.args.page.now c.args.at c.args.size c.line_at-line.result c.requires.1 c.requires.0 c.digit_count-count.ensures in
    let q = leb-true (c.args.pos + (c.digit_count-count.result + c.args.size - 2)) (length c.args.output.now) (sym c.has_room.ensures ∙ c.if-not-has_room.false) in
    omega (arith, q)

pub overflow_add-at-2 : goal.overflow_add-at-2
overflow_add-at-2 c =
    let k = known c.args.page.now c.args.at c.args.size c.line_at-line.result c.requires.1 c.requires.0 c.digit_count-count.ensures in
    let q = leb-true (c.args.pos + (c.digit_count-count.result + c.args.size - 2)) (length c.args.output.now) (sym c.has_room.ensures ∙ c.if-not-has_room.false) in
    omega (arith, q)

pub slice_bounds-write_item-count : goal.slice_bounds-write_item-count
slice_bounds-write_item-count c =
    let k = known c.args.page.now c.args.at c.args.size c.line_at-line.result c.requires.1 c.requires.0 c.digit_count-count.ensures in
    omega (arith, k.0.long)

pub slice_bounds-write_item-start : goal.slice_bounds-write_item-start
slice_bounds-write_item-start c =
    let k = known c.args.page.now c.args.at c.args.size c.line_at-line.result c.requires.1 c.requires.0 c.digit_count-count.ensures in
    omega (arith, k.0.long)

pub slice_bounds-write_item-end : goal.slice_bounds-write_item-end
slice_bounds-write_item-end c =
    let k = known c.args.page.now c.args.at c.args.size c.line_at-line.result c.requires.1 c.requires.0 c.digit_count-count.ensures in
    omega (arith, k.0.long)

pub overflow_sub-e : goal.overflow_sub-e
overflow_sub-e c =
    let k = known c.args.page.now c.args.at c.args.size c.line_at-line.result c.requires.1 c.requires.0 c.digit_count-count.ensures in
    omega (arith, k.0.long)

pub bounds-output-e : goal.bounds-output-e
bounds-output-e c =
    let k = known c.args.page.now c.args.at c.args.size c.line_at-line.result c.requires.1 c.requires.0 c.digit_count-count.ensures in
    let q = leb-true (c.args.pos + (c.digit_count-count.result + c.args.size - 2)) (length c.args.output.now) (sym c.has_room.ensures ∙ c.if-not-has_room.false) in
    omega (arith, q, k.0.long)

pub bounds-output-e-2 : goal.bounds-output-e-2
bounds-output-e-2 c =
    let k = known c.args.page.now c.args.at c.args.size c.line_at-line.result c.requires.1 c.requires.0 c.digit_count-count.ensures in
    let q = leb-true (c.args.pos + (c.digit_count-count.result + c.args.size - 2)) (length c.args.output.now) (sym c.has_room.ensures ∙ c.if-not-has_room.false) in
    simp length-set (omega (arith, q, k.0.long))

pub returns : goal.returns
returns c =
    let a = c.args in
    let k = known c.args.page.now c.args.at c.args.size c.line_at-line.result c.requires.1 c.requires.0 c.digit_count-count.ensures in
    let q = leb-true (c.args.pos + (c.digit_count-count.result + c.args.size - 2)) (length c.args.output.now) (sym c.has_room.ensures ∙ c.if-not-has_room.false) in
    let r = record_at (drop a.at a.page.now) in
    let x = c.line_at-line.ensures in
    let n = k.1.0 ∙ ap (λ (i : ℕ). length (digits i)) x in
    let u = rw x at c.write_digits.ensures in
    let v = rw (n, text-part a.page.now a.at a.size k.0) at c.write_item.ensures in
    line-written r (a.pos + c.digit_count-count.result + a.size - 4) u v (omega (arith, q, k.0.long)) (omega (arith, q, k.0.long))
