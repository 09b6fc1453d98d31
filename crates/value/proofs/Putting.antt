-- A number's digits on their way to the output, for this crate's proofs. Assumes nothing.
use Rattle.std.proofs.Common.{◌≡◌, ℕ, suc, ◌+◌, ◌-◌, ◌*◌, ◌/◌, ◌%◌, ◌^◌, ◌<◌, ◌≤◌, List, [], ◌∷◌, length, set, sym, refl, ap, ◌∙◌, subst, mod-lt, mul_comm, div-lt_iff_lt-mul, pow-suc, add-one, arith, length-set}
use lib.Seq.{sets}
use Rattle.nibl.specs.Values.{digits, printed, magnitude}
use Rattle.value.specs.Digits.{by_powers, Putting}
use Rattle.value.specs.Writes.{sign_byte}
use Rattle.value.proofs.Digits.{digits-from-front, power-some, printed-length}
use Rattle.value.proofs.Writing.{sets-append, set-before-sets}

pub putting-none : (before : List ℕ) (count n : ℕ) → count ≡ length (digits n) → n < 65536 → count ≤ length before → Putting before count n before n 0
putting-none before count n e h room =
    let f = digits-from-front n (omega arith) in
    let z : count - 0 ≡ length (digits n) = omega arith in
    record {
      within = omega arith;
      room = room;
      long = refl;
      below = rw z f.below;
      done = rw z (ap (sets before 0) (sym f.same));
    }

-- a digit more, by the power of ten that it counts
module _ {before rest : List ℕ} {count n left next power : ℕ} (p : Putting before count n rest left next) (h : next < count) (q : power ≡ 10 ^ (count - next - 1)) where
  more : count - next ≡ suc (count - (next + 1))
  more = omega arith

  by : power ≡ 10 ^ (count - (next + 1))
  by = q ∙ ap (λ k. 10 ^ k) (omega arith)

  pub power-not-zero : 0 < power
  power-not-zero = omega (arith, by, power-some (count - (next + 1)))

  pub digit-below : left / power < 10
  digit-below =
      let e : 10 ^ (count - next) ≡ power * 10 = ap (λ k. 10 ^ k) more ∙ pow-suc 10 (count - (next + 1)) ∙ ap (λ k. k * 10) (sym by) in
      (div-lt_iff_lt-mul power-not-zero).1 (rw (mul_comm 10 power, ← e) p.below)

  pub putting-turn : Putting before count n (set rest next (48 + left / power)) (left % power) (next + 1)
  putting-turn =
      record {
        within = omega arith;
        room = simp length-set p.room;
        long = simp length-set p.long;
        below = subst (λ m. left % power < m) by (mod-lt left power-not-zero);
        done =
            (λ i. sets (set rest next (48 + left / by i)) (add-one next i) (by_powers (count - (next + 1)) (left % by i)))
            ∙ ap (λ k. sets rest next (by_powers k left)) (sym more)
            ∙ p.done;
      }

pub putting-end : {before rest : List ℕ} {count n left next : ℕ} → Putting before count n rest left next → count ≤ next → rest ≡ sets before 0 (digits n)
putting-end {rest = rest} {count} {left = left} {next} p h =
    let e : count - next ≡ 0 = omega arith in
    ap (λ k. sets rest next (by_powers k left)) (sym e) ∙ p.done

-- a sign, a space behind the digits' room, and the digits between them are what PRINT writes
pub printed-put : (output : List ℕ) (at v : ℕ)
    → sets (set (set output at (sign_byte v)) (at + length (printed v) - 1) 32) (at + 1) (digits (magnitude v)) ≡ sets output at (printed v)
unfolding printed
printed-put output at v =
    let ds : List ℕ = digits (magnitude v) in
    let e : at + length (printed v) - 1 ≡ suc at + length ds = omega (arith, printed-length v) in
    rw (e, add-one)
    (set-before-sets ds (set output at (sign_byte v)) (suc at) (suc at + length ds) 32 (omega arith)
    ∙ sym (sets-append ds (32 ∷ []) (set output at (sign_byte v)) (suc at)))
