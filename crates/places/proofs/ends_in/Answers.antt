-- `ends_in` meets its contract: the ends of the text, counted from the record's first byte. Assumes nothing.
use Prim.Native.Nat.{ℕ, ◌+◌, ◌-◌, ◌<◌}
use mathlib.Core.List.{List}
use mathlib.Core.Path.{◌≡◌, sym, ap, ◌∙◌}
use native.Mathlib.Omega.{arith}
use lib.ListN.{length, drop}
use Rattle.nibl.specs.found.Read.{reading}
use Rattle.nibl.specs.Page.{text_at, ends_of, is_among}
use Rattle.page.specs.Walk.{size_at}
use Rattle.page.proofs.Walk.{Met, met}
use Rattle.page.proofs.Listings.{text-part}
use Rattle.page.proofs.Laid.{text-room}
use Rattle.places.proofs.Checks.{byte-length}
use Rattle.places.proofs.Places.{ends-below, ends-shift}
use Rattle.places.proofs.ends_in.Goals as goal

here : (p : List ℕ) (at n : ℕ) → (0 < n) × (n ≡ size_at (drop at p)) → Met p at n
here p at n r = met p at n r.1 r.0

pub returns-then-i-lt-HEAD : goal.returns-then-i-lt-HEAD
returns-then-i-lt-HEAD c =
    let a = c.args in let t = text_at (drop a.at a.page.now) in sym (ends-below 3 (length t) (reading t) a.i c.if-i-lt-HEAD.true)

pub overflow_add-at : goal.overflow_add-at
overflow_add-at c =
    let m = here c.args.page.now c.args.at c.args.size c.requires in omega (arith, m.long)

pub overflow_add-at-2 : goal.overflow_add-at-2
overflow_add-at-2 c =
    let m = here c.args.page.now c.args.at c.args.size c.requires in omega (arith, m.long)

pub slice_bounds-ends_at-count : goal.slice_bounds-ends_at-count
slice_bounds-ends_at-count c =
    let m = here c.args.page.now c.args.at c.args.size c.requires in omega (arith, m.long)

pub slice_bounds-ends_at-start : goal.slice_bounds-ends_at-start
slice_bounds-ends_at-start c =
    let m = here c.args.page.now c.args.at c.args.size c.requires in omega (arith, m.long)

pub slice_bounds-ends_at-end : goal.slice_bounds-ends_at-end
slice_bounds-ends_at-end c =
    let m = here c.args.page.now c.args.at c.args.size c.requires in omega (arith, m.long)

pub ends_at-requires : goal.ends_at-requires
ends_at-requires c =
    let a = c.args in
    let m = here c.args.page.now c.args.at c.args.size c.requires in
    let l = m.long in
    let byte = c.type_inv.page (a.at + 2) in
    let short = text-room (drop a.at a.page.now) (omega (arith, byte-length a.page.now a.at)) in
    let e = ap length (text-part a.page.now a.at a.size m) in
    record { room = omega arith; short = omega arith }

pub returns : goal.returns
returns c =
    let a = c.args in
    let t = text_at (drop a.at a.page.now) in
    let e : 3 + (a.i - 3) ≡ a.i = omega (arith, c.if-i-lt-HEAD.false) in
    c.ends_at.ensures
    ∙ ap (λ (x : List ℕ). is_among (ends_of 0 (length x) (reading x)) (a.i - 3)) (text-part a.page.now a.at a.size (here c.args.page.now c.args.at c.args.size c.requires))
    ∙ sym (ends-shift 3 0 (length t) (reading t) (a.i - 3))
    ∙ ap (is_among (ends_of 3 (length t) (reading t))) e
