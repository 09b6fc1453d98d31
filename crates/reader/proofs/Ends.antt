-- How a member ends. Assumes nothing.
use Prim.Native.Nat.{ℕ, suc, ◌+◌, ◌-◌}
use Rattle.std.specs.Prelude.{Some, None}
use mathlib.Core.Path.{◌≡◌, refl, sym, ap, ◌∙◌}
use mathlib.Core.Bool.{Bool, true, false}
use mathlib.Core.List.{List, [], ◌∷◌}
use native.Mathlib.Omega.{arith}
use borrow.Author.Tests.{ne_eqb}
use denote.Enum.Declared.{tag_of}
use types.Run.{OneOf, miss}
use lib.ListN.{length, drop, length-drop}
use Rattle.nibl.specs.Bytes.{is_space, all}
use Rattle.nibl.specs.Words.{keywords}
use Rattle.nibl.specs.Tree.{Stmt}
use Rattle.nibl.specs.found.Read.{FrontWord, at_end, step_in, nothing, found, on_step, sign_of, a_sign, fail, key, ends_member}
use Rattle.nibl.proofs.Words.{ended-sound, ended-complete, true-all, all_true}
use Rattle.word.specs.declared.Cursor.{Cursor}
use Rattle.word.specs.declared.Word.{Word}
use Rattle.word.specs.declared.Word.TheVariants.{Variable, Decimal, Hex, Text, Sign, End, Wrong}
use Rattle.word.specs.contracts.Word.{the_type}
use Rattle.word.specs.Found.{found_step, WordIs}
use Rattle.relation.specs.Makes.{nowhere, another}
use Rattle.relation.specs.Made.{Made}
use Rattle.relation.proofs.Readers.{if-there, if-other}
use Rattle.reader.specs.Forms.{halted, EndsIs, refused, ends}

-- where a word stands, or none can, there are not only spaces
unspaced : (s : List ℕ) → (step_in keywords s ≡ at_end → ⊥) → all is_space s ≡ false
unspaced s h = go (all is_space s) refl
  where
    go : (b : Bool) → all is_space s ≡ b → b ≡ false
    go true e = absurd (h (ended-complete keywords (true-all is_space s e)))
    go false e = refl

at-colon : (q : Stmt) (s : List ℕ) → all is_space s ≡ false → ends_member q s ≡ key ":" (λ t. found (record { statement = q; left = suc (length t) }) t) s
at-colon q s e = rw e

pub end_none : {text : List ℕ} {r : Made} → r ≡ None → EndsIs text r None
end_none e = rw e halted

no_sign : (text : List ℕ) (w : Word) → OneOf (0 ∷ 1 ∷ 2 ∷ 3 ∷ 6 ∷ []) (tag_of the_type w) → (on_step (found_step text w) sign_of ≡ nothing) × (found_step text w ≡ at_end → ⊥)
no_sign text (Variable v p) k = (refl, λ i. let z : ◌≡◌ {A = ℕ} 0 1 = cc in omega arith)
no_sign text (Decimal v p) k = (refl, λ i. let z : ◌≡◌ {A = ℕ} 0 1 = cc in omega arith)
no_sign text (Hex v p) k = (refl, λ i. let z : ◌≡◌ {A = ℕ} 0 1 = cc in omega arith)
no_sign text (Text a b p) k = (refl, λ i. let z : ◌≡◌ {A = ℕ} 0 1 = cc in omega arith)
no_sign text (Sign v p) k = absurd (miss (0 ∷ 1 ∷ 2 ∷ 3 ∷ 6 ∷ []) 4 tt k)
no_sign text End k = absurd (miss (0 ∷ 1 ∷ 2 ∷ 3 ∷ 6 ∷ []) 5 tt k)
no_sign text (Wrong p) k = (refl, λ i. let z : ◌≡◌ {A = ℕ} 0 1 = cc in omega arith)

module _ {text : List ℕ} {r : Made} {c : Cursor} {n : ℕ} (e : r ≡ Some (c, n)) where
  pub end-last : WordIs keywords text c.at End → EndsIs text r (Some (n, 0))
  end-last h = rw e (ends {c = c} 0 [] (λ q. rw (all_true (ended-sound keywords (drop c.at text) (sym h.same)))))

  sign-of : (w : Word) → WordIs keywords text c.at w → a_sign (drop c.at text) ≡ on_step (found_step text w) sign_of
  unfolding a_sign
  sign-of w h = ap (λ (s : FrontWord). on_step s sign_of) (sym h.same)

  pub end-colon : {k l : ℕ} {p : Cursor} → k ≡ 58 → l ≡ length text - p.at + 1 → WordIs keywords text c.at (Sign k p) → EndsIs text r (Some (n, l))
  end-colon {k} {l} {p} f g h =
      let s = drop c.at text in
      let size : suc (length (drop p.at text)) ≡ l = omega (arith, length-drop p.at text) in
      let u = unspaced s (λ i. let w = h.same in let z : ◌≡◌ {A = ℕ} 0 1 = cc in omega arith) in
      rw e (ends {c = c} l (drop p.at text) (λ q. at-colon q s u ∙ if-there ":" _ fail s (sign-of (Sign k p) h ∙ ap (λ j. found j (drop p.at text)) f)
      ∙ ap (λ j. found (record { statement = q; left = j }) (drop p.at text)) size))

  pub end-other : {k : ℕ} {p : Cursor} → (k ≡ 58 → ⊥) → WordIs keywords text c.at (Sign k p) → EndsIs text r None
  end-other {k} {p} f h =
      let s = drop c.at text in
      let u = unspaced s (λ i. let w = h.same in let z : ◌≡◌ {A = ℕ} 0 1 = cc in omega arith) in
      rw e (refused {c = c} (λ q. at-colon q s u ∙ if-other ":" _ fail s (rw (sign-of (Sign k p) h) (another (ne_eqb k 58 f)))))

  pub end-wrong : (w : Word) → WordIs keywords text c.at w → OneOf (0 ∷ 1 ∷ 2 ∷ 3 ∷ 6 ∷ []) (tag_of the_type w) → EndsIs text r None
  end-wrong w h k =
      let s = drop c.at text in
      let d = no_sign text w k in
      let u = unspaced s (λ i. d.1 (h.same ∙ i)) in
      rw e (refused {c = c} (λ q. at-colon q s u ∙ if-other ":" _ fail s (rw (sign-of w h ∙ d.0) nowhere)))
