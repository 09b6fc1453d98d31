-- `put_form` meets its contract: head, records and memory one behind the other. Assumes nothing.
use Prim.Native.Nat.{ℕ, ◌+◌, ◌-◌, ◌≤◌}
use mathlib.Core.Path.{◌≡◌, sym, ap, ◌∙◌}
use mathlib.Core.Bool.{true}
use mathlib.Core.List.{List, ◌∷◌, ◌++◌}
use native.Mathlib.Omega.{arith}
use lib.ListN.{length, take, drop, length-drop}
use lib.Seq.{sets, length-sets, length-take-le}
use borrow.Rule.Slice.PartMut.{put_mid}
use mir.Syntax.{w16}
use borrow.Kind.Array.{e_int, good_length}
use Rattle.nibl.specs.Typing.{limit}
use Rattle.nibl.specs.Page.{is_good, records_of, used}
use Rattle.nibl.specs.Saved.{RuleSet, two_bytes, values_bytes, records_bytes, counted, form_number}
use Rattle.page.specs.Standing.{Bytes}
use Rattle.page.proofs.Laid.{good-fits}
use Rattle.page.proofs.Tables.{lines-most}
use Rattle.carry.proofs.Forms.{part-put, used-least, good-records, head_of, form-pieces}
use Rattle.carry.proofs.put_form.Goals as goal

-- the page: its bytes, and how many of them are its records'
module _ (page : List ℕ) {u : ℕ} (e : u ≡ used page) where
  least : 2 ≤ u
  least = omega (arith, used-least page)

  module _ (b : Bytes page) (g : is_good limit page ≡ true) where
    part : take (u - 2) page ≡ records_bytes (records_of page)
    part = ap (λ (n : ℕ). take (n - 2) page) e ∙ good-records limit page b g

    part-long : length (take (u - 2) page) ≡ u - 2
    part-long = length-take-le (u - 2) page (omega (arith, good-fits limit page b g))

-- the output keeps its length, and has the records behind its head
sets-long : (output item : List ℕ) (at : ℕ) {after : List ℕ} → after ≡ sets output at item → length after ≡ length output
sets-long output item at h = ap length h ∙ length-sets output at item

recorded : (page output head : List ℕ) (at m k : ℕ) {u : ℕ} {before part : List ℕ} → u ≡ used page → Bytes page → is_good limit page ≡ true
    → at + 56 + used page + m ≤ length output → before ≡ sets output at head → k ≡ u - 2 → part ≡ take (u - 2) page → put_mid (at + 56) k before part ≡ sets before (at + 56) (take (u - 2) page)
recorded page output head at m k {u = u} {before = before} e b g room h f p =
    ap (put_mid (at + 56) k before) p
    ∙ part-put before (take (u - 2) page) (at + 56) (f ∙ sym (part-long page e b g)) (omega (arith, part-long page e b g, least page e, sets-long output head at h))

pub overflow_sub-end : goal.overflow_sub-end
overflow_sub-end c = least c.args.page.now c.used_bytes-end.ensures

pub overflow_cast-line_count : goal.overflow_cast-line_count
overflow_cast-line_count c = omega (arith, c.line_count.ensures, lines-most c.args.page.now, c.requires.paged)

pub slice_bounds-put_bytes-end-2 : goal.slice_bounds-put_bytes-end-2
slice_bounds-put_bytes-end-2 c = sym (part-long c.args.page.now c.used_bytes-end.ensures (λ i. omega (arith, c.type_inv.page i)) c.requires.good)

pub put_bytes-requires : goal.put_bytes-requires
put_bytes-requires c =
    let a = c.args in
    let u = c.used_bytes-end in
    let o = c.put_head.new.output in
    let k = a.at + 56 + (u.result - 2) - (a.at + 56) in
    let p = part-long a.page.now u.ensures (λ i. omega (arith, c.type_inv.page i)) c.requires.good in
    let kept = sets-long a.output.now (form_number ∷ 26 ∷ (values_bytes a.vars ++ two_bytes c.line_count.result)) a.at c.put_head.ensures in
    omega (arith, p, length-take-le k (drop (a.at + 56) o) (omega (arith, length-drop (a.at + 56) o, kept, c.requires.room, u.ensures, least a.page.now u.ensures)))

pub put_counted-requires : goal.put_counted-requires
put_counted-requires c =
    let a = c.args in
    let d = c.requires in
    let u = c.used_bytes-end in
    let b : Bytes a.page.now = λ i. omega (arith, c.type_inv.page i) in
    let head : List ℕ = form_number ∷ 26 ∷ (values_bytes a.vars ++ two_bytes c.line_count.result) in
    let e = recorded a.page.now a.output.now head a.at (length a.memory.now) (a.at + 56 + (u.result - 2) - (a.at + 56)) u.ensures b d.good d.room c.put_head.ensures (omega arith) c.put_bytes.ensures in
    let kept = sets-long c.put_head.new.output (take (u.result - 2) a.page.now) (a.at + 56) e in
    (omega (arith, d.small), omega (arith, d.room, u.ensures, least a.page.now u.ensures, kept, sets-long a.output.now head a.at c.put_head.ensures))

pub returns : goal.returns
returns c =
    let a = c.args in
    let d = c.requires in
    let u = c.used_bytes-end in
    let end : ℕ = u.result - 2 in
    let b : Bytes a.page.now = λ i. omega (arith, c.type_inv.page i) in
    let p = part a.page.now u.ensures b d.good in
    let carried : RuleSet = record { vars = a.vars; records = records_of a.page.now; memory = a.memory.now } in
    let count : length a.vars ≡ 26 = good_length (e_int w16) 26 a.vars _ c.well_formed.1.1.0 in
    let head : List ℕ = form_number ∷ 26 ∷ (values_bytes a.vars ++ two_bytes c.line_count.result) in
    let h : c.put_head.new.output ≡ sets a.output.now a.at (head_of carried count) =
    c.put_head.ensures ∙ ap (λ (n : ℕ). sets a.output.now a.at (form_number ∷ 26 ∷ (values_bytes a.vars ++ two_bytes n))) c.line_count.ensures in
    let e = recorded a.page.now a.output.now head a.at (length a.memory.now) (a.at + 56 + (u.result - 2) - (a.at + 56)) u.ensures b d.good d.room c.put_head.ensures (omega arith) c.put_bytes.ensures in
    c.put_counted.ensures
    ∙ ap (λ (o : List ℕ). sets o (a.at + 56 + end) (counted a.memory.now)) (e ∙ (λ i. sets (h i) (a.at + 56) (p i)))
    ∙ form-pieces carried count a.output.now a.at end (sym (part-long a.page.now u.ensures b d.good) ∙ ap length p)
