-- `record_size` meets its contract: a whole record, whose text is the part that is read. Assumes nothing.
use Rattle.std.proofs.Common.{◌≡◌, ℕ, ◌+◌, ◌-◌, ◌≤◌, Bool, true, false, if◌then◌else◌, ◌&&◌, refl, List, length, take, drop, get_or, leb, Some, None, Fits, w8, sym, ◌∙◌, arith, length-drop}
use Rattle.std.proofs.Math.Seq.{length-take-le}
use Rattle.std.proofs.lemmas.Bool.Decides.{nat_tests}
use Rattle.std.proofs.lemmas.Grind.{common_steps}
use Rattle.std.specs.Bool.{then_some}
use Rattle.nibl.specs.Page.{line_at, text_at, is_storable}
use Rattle.places.specs.Whole.{record_size, whole_size}
use Rattle.places.proofs.Checks.{byte-length, WholeRecord, whole-found, text-is, record-tests}
use Rattle.places.proofs.record_size.Goals as goal

-- a whole record stands here, of so many bytes
record There (p : List ℕ) (at size : ℕ) : Type 0 where
  found : WholeRecord (drop at p) size
  most : size ≤ 255
  inside : at + size ≤ length p

there : (p : List ℕ) (at size : ℕ) → at ≤ length p → whole_size (drop at p) ≡ Some size → Fits w8 (get_or p (at + 2) 0) → There p at size
there p at size i e b =
    let f = whole-found (drop at p) size e in
    let l = byte-length p at in
    let d = length-drop at p in
    record { found = f; most = omega arith; inside = omega arith }

then_some_is : (b : Bool) (n : ℕ) → then_some b n ≡ (if b then Some n else None)
then_some_is true n = refl
then_some_is false n = refl

-- what the answer about its text says of it
said : (p : List ℕ) (at lim low size line : ℕ) (b : Bool) → There p at size → line ≡ line_at (drop at p)
    → b ≡ (leb low line && (leb line 32767 && is_storable lim line (take (at + size - 1 - (at + 3)) (drop (at + 3) p))))
    → then_some b size ≡ record_size lim low (drop at p)
said p at lim low size line b k e s =
    let q : List ℕ = drop at p in
    let z : b ≡ (leb low (line_at q) && (leb (line_at q) 32767 && is_storable lim (line_at q) (text_at q))) = s ∙ (λ i. leb low (e i) && (leb (e i) 32767 && is_storable lim (e i) (text-is p at size k.found.long i))) in
    then_some_is b size ∙ rw (z, record-tests lim low q, k.found.whole, k.found.long)

pub returns-in_err-size : goal.returns-in_err-size
returns-in_err-size c = grind (arith, common_steps, record-tests)

pub slice_bounds-text-end : goal.slice_bounds-text-end
slice_bounds-text-end c =
    let k = there c.args.page.now c.args.at c.in_ok-size.size c.requires.0 (sym c.in_ok-size.ensures) (c.type_inv.page (c.args.at + 2)) in omega (arith, k.inside, k.found.least)

pub is_storable-may_stand-requires : goal.is_storable-may_stand-requires
is_storable-may_stand-requires c =
    let k = there c.args.page.now c.args.at c.in_ok-size.size c.requires.0 (sym c.in_ok-size.ensures) (c.type_inv.page (c.args.at + 2)) in
    let text : List ℕ = take (c.args.at + c.in_ok-size.size - 1 - (c.args.at + 3)) (drop (c.args.at + 3) c.args.page.now) in
    let l = length-take-le (c.args.at + c.in_ok-size.size - 1 - (c.args.at + 3)) (drop (c.args.at + 3) c.args.page.now) (omega (arith, k.inside, k.found.least, length-drop (c.args.at + 3) c.args.page.now)) in
    record { room = omega (arith, k.most, length-take-le (length text) c.args.ops.now (omega (arith, k.most))); short = omega (arith, k.most) }

pub returns : goal.returns
returns c =
    let k = there c.args.page.now c.args.at c.in_ok-size.size c.requires.0 (sym c.in_ok-size.ensures) (c.type_inv.page (c.args.at + 2)) in
    c.then_some.ensures ∙ said _ _ _ _ _ _ _ k c.line_at-line.ensures (grind (arith, nat_tests, common_steps))
