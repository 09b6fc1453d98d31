-- What a caller learns of a reader's answer: the reading and what was written, or that there is none; and there is one answer only. Assumes nothing.
use Prim.Native.Nat.{ℕ, ◌≤◌}
use Rattle.std.specs.Prelude.{Some, None}
use mathlib.Core.Path.{◌≡◌, refl, sym, ap, ◌∙◌}
use mathlib.Core.List.{List}
use native.Mathlib.Omega.{arith}
use lib.ListN.{length, drop, length-drop}
use Rattle.nibl.specs.found.Read.{nothing, found, Reader}
use Rattle.word.specs.declared.Cursor.{Cursor}
use Rattle.relation.specs.Makes.{WroteOps, Gives, refused, given, Makes, only, bare}
use Rattle.relation.specs.Made.{Made}

-- R reads from one position of the text to another, and its operations are written
pub record Got {A : Type 0} (R : Reader A) (code : A → List ℕ) (text : List ℕ) (at : ℕ) (ops : List ℕ) (o : ℕ) (ops' : List ℕ) (q n : ℕ) : Type 0 where
  pub tree : A
  pub reads : R (drop at text) ≡ found tree (drop q text)
  pub high : at ≤ length text → q ≤ length text
  pub wrote : WroteOps ops o (code tree) ops' n

module _ {A : Type 0} {R : Reader A} {code : A → List ℕ} {text ops ops' : List ℕ} where
  got-here : {c d : Cursor} {o n : ℕ} → Gives (only R) bare code text ops ops' (Some (c, o)) (Some (d, n)) → Got R code text c.at ops o ops' d.at n
  got-here (given grow tail e f h w) = record { tree = grow tt; reads = e tt; high = h; wrote = rw (f tt) w }

  none_here : {c : Cursor} {o : ℕ} → Gives (only R) bare code text ops ops' (Some (c, o)) None → R (drop c.at text) ≡ nothing
  none_here (refused e) = e tt

  pub got : {c d : Cursor} {o n : ℕ} → Makes R code text ops (Some (c, o)) ops' (Some (d, n)) → Got R code text c.at ops o ops' d.at n
  got y = got-here y.gives

  pub none : {c : Cursor} {o : ℕ} → Makes R code text ops (Some (c, o)) ops' None → R (drop c.at text) ≡ nothing
  none y = none_here y.gives

-- the same bytes from two positions on, within a text, are the same position
same-cursor : (text : List ℕ) (c d : Cursor) → c.at ≤ length text → d.at ≤ length text → drop c.at text ≡ drop d.at text → c ≡ d
same-cursor text c d h i e =
    let f : c.at ≡ d.at = omega (arith, simp length-drop at (ap length e)) in ap (λ (n : ℕ). record { at = n }) f

-- from a position within the text there is one answer, and one list where something is read
module _ {A : Type 0} {R : Reader A} {code : A → List ℕ} {text ops ops1 ops2 : List ℕ} {c : Cursor} {o : ℕ} (h : c.at ≤ length text) where
  pub one_answer : (s t : Made) → Makes R code text ops (Some (c, o)) ops1 s → Makes R code text ops (Some (c, o)) ops2 t → s ≡ t
  one_answer None None y z = refl
  one_answer None (Some (d, n)) y z = let g = got z in let e = none y in let i : ◌≡◌ {A = ℕ} 0 1 = cc in absurd (omega arith)
  one_answer (Some (d, n)) None y z = let g = got y in let e = none z in let i : ◌≡◌ {A = ℕ} 0 1 = cc in absurd (omega arith)
  one_answer (Some (d, n)) (Some (d', n')) y z =
      let g = got y in
      let k = got z in
      let e : drop d.at text ≡ drop d'.at text = cc in
      let f : g.tree ≡ k.tree = cc in
      let i : n ≡ n' = omega (arith, ap (λ a. length (code a)) f) in
      rw (same-cursor text d d' (g.high h) (k.high h) e, i)

  pub one_list : {d d' : Cursor} {n n' : ℕ} → Makes R code text ops (Some (c, o)) ops1 (Some (d, n)) → Makes R code text ops (Some (c, o)) ops2 (Some (d', n')) → ops1 ≡ ops2
  one_list y z = let g = got y in let k = got z in let f : g.tree ≡ k.tree = cc in g.wrote.buf ∙ rw f (sym k.wrote.buf)
