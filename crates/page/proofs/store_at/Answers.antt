-- `store_at` meets its contract: the three refusals leave the page; else the part from the seat on is edited, which is an edit of the page. Assumes nothing.
use Prim.Native.Nat.{◌≤◌, ℕ, ◌-◌, ◌+◌}
use mathlib.Core.List.{List, ◌++◌}
use mathlib.Core.Path.{◌≡◌, ap, ◌∙◌}
use native.Mathlib.Omega.{arith}
use lib.ListN.{length, take, drop}
use Rattle.nibl.specs.Page.{Stored, record_bytes, used}
use Rattle.page.specs.Edits.{spliced, changed}
use Rattle.page.specs.declared.Edited.TheVariants as edited
use Rattle.page.proofs.Edits.{store-endless, store_long, store-full, store-done}
use Rattle.page.proofs.Moves.{part-spliced}
use Rattle.page.proofs.store_at.Goals as goal
use Rattle.page.proofs.store_at.Goals.{then-page-top-via-then-page-top, then-page-top-via-else-page-top+then-size-gt-MOST, then-page-top-via-else-page-top+else-size-gt-MOST+then-page-top-2}

-- an edit of the part from the seat on, by the number of bytes that stay behind it, is one of the page
part-kept : (p r last : List ℕ) (at gone top : ℕ) → at ≤ length p → at + gone ≤ top
    → last ≡ spliced (take (length p - at) (drop at p)) 0 gone (gone + (top - gone - at)) r → take at p ++ (last ++ drop (length p - at) (drop at p)) ≡ spliced p at gone top r
part-kept p r last at gone top h k e =
    let f : gone + (top - gone - at) ≡ top - at = omega arith in
    part-spliced p r last at gone top h (e ∙ ap (λ (n : ℕ). spliced (take (length p - at) (drop at p)) 0 gone n r) f)

pub returns-then-page-top : goal.returns-then-page-top
returns-then-page-top c =
    let a = c.args in
    let k : c.used_from-top.result ≡ used a.page.now = c.used_from-top.ensures ∙ c.requires.rest in
    elim c.then-page-top.branch [
      | then-page-top-via-then-page-top w ↦ store-endless a.page.now a.seat a.number.0 a.text.now (omega arith)
      | then-page-top-via-else-page-top+then-size-gt-MOST w ↦ store_long a.page.now a.seat a.number.0 a.text.now (omega arith) (omega arith)
      | then-page-top-via-else-page-top+else-size-gt-MOST+then-page-top-2 w ↦ store-full a.page.now a.seat a.number.0 a.text.now (omega arith) (omega arith) (omega arith)
    ]

pub returns : goal.returns
returns c =
    let a = c.args in
    let h = c.requires in
    let k : c.used_from-top.result ≡ used a.page.now = c.used_from-top.ensures ∙ c.requires.rest in
    let s = a.seat in
    let r : Stored = record { line = a.number.0; text = a.text.now } in
    let x = c.used_from-top.result in
    ap (λ (q : List ℕ). changed q edited.Done)
    (part-kept a.page.now (record_bytes r) c.put_in.new.s s.at s.gone x (omega arith) (omega arith) c.put_in.ensures
    ∙ ap (λ (n : ℕ). spliced a.page.now s.at s.gone n (record_bytes r)) k)
    ∙ store-done a.page.now s a.number.0 a.text.now (omega arith) (omega arith) (omega arith)
