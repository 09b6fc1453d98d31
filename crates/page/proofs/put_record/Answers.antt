-- `put_record` meets its contract: the parts, stored one after the other, are the record's bytes. Assumes nothing.
use Prim.Native.Nat.{ℕ, ◌+◌, ◌-◌, ◌/◌, ◌%◌}
use mathlib.Core.Path.{◌≡◌, refl, ap, ◌∙◌}
use mathlib.Core.List.{List, [], ◌∷◌, ◌++◌}
use native.Mathlib.Omega.{arith}
use lib.ListN.{length, set, drop}
use lib.Seq.{paste}
use Rattle.std.proofs.lemmas.Slice.{put_mid-paste}
use Rattle.page.proofs.Moves.{record_is}
use Rattle.page.proofs.put_record.Goals as goal

pub returns : goal.returns
returns c =
    let a = c.args in
    let x : ℕ = a.number.0 in
    let t = a.text.now in
    let n : ℕ = length t in
    let h : x / 256 % 256 ≡ x / 256 = omega arith in
    let f = c.copy_from_slice.ensures.after ∙ c.to_be_bytes.ensures ∙ ap (λ (b : ℕ). b ∷ (x % 256) ∷ []) h in
    ap (λ (l : List ℕ). set l (3 + n) 13)
    (put_mid-paste 3 (3 + n - 3) _ _ t n c.put_bytes.ensures (omega arith) refl
    ∙ ap (λ (l : List ℕ). paste (set (l ++ drop 2 a.s.now) 2 (n + 4)) 3 t n) f)
    ∙ record_is a.s.now t (x / 256) (x % 256) (n + 4) (omega arith)
